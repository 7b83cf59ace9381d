-- A law of the bit operations holds when it holds digit by digit, and one digit has two values: so a law, with or without
-- equations for premises, is a test that antt computes over the truth values of its variables (`by_bits`).
use mathlib.Core.Path.{◌≡◌, refl, sym, ap, ap₂, ◌∙◌, subst}
use mathlib.Core.Bool.{Bool, true, false, not, ◌&&◌, ◌||◌, beq}
use mathlib.Core.List.{List, [], ◌∷◌}
use Prim.Native.Nat.{ℕ, zero, suc, ◌+◌, ◌*◌, ◌/◌, ◌%◌, ◌<◌, min, max}
use native.Mathlib.Nat.{mod-lt, zero-lt-suc, div-add-mod', le_of_suc-le-suc, not-suc-le-zero, zero-min, min-zero, suc-min-suc, zero-max, max-zero, suc-max-suc}
use native.Mathlib.Omega.{arith}
use lib.Dec.{T}
use lib.ListN.{length, get_or}
use lib.Arith.{bin_ind, digits_div, digits_mod}
use lib.Bits.{bit_and, bit_or, bit_xor, differ, and_step, or_step, xor_step}
use Rattle.pattern.proofs.Tests.{both, beq_says}

-- ---- the digit at place k

abbrev pub pos : ℕ → Bool
pos zero = false
pos (suc n) = true

unfoldable pub bit : ℕ → ℕ → Bool
bit zero a = pos (a % 2)
bit (suc k) a = bit k (a / 2)

false≢true : false ≡ true → ⊥
false≢true e = subst (λ (b : Bool). T (not b)) e tt

pos_inj : (x y : ℕ) → x < 2 → y < 2 → pos x ≡ pos y → x ≡ y
pos_inj zero zero hx hy e = refl
pos_inj zero (suc y) hx hy e = absurd (false≢true e)
pos_inj (suc x) zero hx hy e = absurd (false≢true (sym e))
pos_inj (suc x) (suc y) hx hy e = omega arith

odd_inj : (a b : ℕ) → pos (a % 2) ≡ pos (b % 2) → a % 2 ≡ b % 2
odd_inj a b = pos_inj (a % 2) (b % 2) (mod-lt a (zero-lt-suc 1)) (mod-lt b (zero-lt-suc 1))

zero_ext : (b : ℕ) → ((k : ℕ) → bit k zero ≡ bit k b) → zero ≡ b
unfolding bit
zero_ext = bin_ind (λ (b : ℕ). ((k : ℕ) → bit k zero ≡ bit k b) → zero ≡ b) (λ f. refl)
    (λ b ih f. ap₂ (λ (x y : ℕ). x * 2 + y) (ih (λ k. f (suc k))) (odd_inj zero b (f zero)) ∙ div-add-mod' b 2)

-- two numbers are equal when their digits are
pub bit_ext : (a b : ℕ) → ((k : ℕ) → bit k a ≡ bit k b) → a ≡ b
unfolding bit
bit_ext = bin_ind (λ (a : ℕ). (b : ℕ) → ((k : ℕ) → bit k a ≡ bit k b) → a ≡ b) zero_ext
    (λ a ih b f. sym (div-add-mod' a 2) ∙ ap₂ (λ (x y : ℕ). x * 2 + y) (ih (b / 2) (λ k. f (suc k))) (odd_inj a b (f zero)) ∙ div-add-mod' b 2)

pub bit_zero : (k : ℕ) → bit k zero ≡ false
unfolding bit
bit_zero zero = refl
bit_zero (suc k) = bit_zero k

-- ---- an operation that goes digit by digit

module _ (op f : ℕ → ℕ → ℕ) (g : Bool → Bool → Bool)
    (step : (a b : ℕ) → op a b ≡ op (a / 2) (b / 2) * 2 + f (a % 2) (b % 2))
    (bound : (x y : ℕ) → x < 2 → y < 2 → f x y < 2)
    (tells : (x y : ℕ) → x < 2 → y < 2 → pos (f x y) ≡ g (pos x) (pos y)) where
  low_lt : (a b : ℕ) → f (a % 2) (b % 2) < 2
  low_lt a b = bound (a % 2) (b % 2) (mod-lt a (zero-lt-suc 1)) (mod-lt b (zero-lt-suc 1))

  bit_op : (k a b : ℕ) → bit k (op a b) ≡ g (bit k a) (bit k b)
  unfolding bit
  bit_op zero a b =
      ap (λ (x : ℕ). pos (x % 2)) (step a b) ∙ ap pos (digits_mod (op (a / 2) (b / 2)) (low_lt a b))
      ∙ tells (a % 2) (b % 2) (mod-lt a (zero-lt-suc 1)) (mod-lt b (zero-lt-suc 1))
  bit_op (suc k) a b =
      ap (λ (x : ℕ). bit k (x / 2)) (step a b) ∙ ap (bit k) (digits_div (op (a / 2) (b / 2)) (low_lt a b)) ∙ bit_op k (a / 2) (b / 2)

abbrev pub odd : Bool → Bool → Bool
odd true b = not b
odd false b = b

min_tells : (x y : ℕ) → x < 2 → y < 2 → pos (min x y) ≡ pos x && pos y
min_tells zero y hx hy = ap pos (zero-min y)
min_tells (suc x) zero hx hy = ap pos (min-zero (suc x))
min_tells (suc x) (suc y) hx hy = ap pos (suc-min-suc x y)

max_tells : (x y : ℕ) → x < 2 → y < 2 → pos (max x y) ≡ pos x || pos y
max_tells zero y hx hy = ap pos (zero-max y)
max_tells (suc x) zero hx hy = ap pos (max-zero (suc x))
max_tells (suc x) (suc y) hx hy = ap pos (suc-max-suc x y)

differ_tells : (x y : ℕ) → x < 2 → y < 2 → pos (differ x y) ≡ odd (pos x) (pos y)
differ_tells zero y hx hy = refl
differ_tells (suc x) zero hx hy = refl
differ_tells (suc zero) (suc zero) hx hy = refl
differ_tells (suc zero) (suc (suc y)) hx hy = absurd (not-suc-le-zero (le_of_suc-le-suc (le_of_suc-le-suc hy)))
differ_tells (suc (suc x)) (suc y) hx hy = absurd (not-suc-le-zero (le_of_suc-le-suc (le_of_suc-le-suc hx)))

differ_lt : (x y : ℕ) → x < 2 → y < 2 → differ x y < 2
differ_lt zero y hx hy = hy
differ_lt (suc x) zero hx hy = hx
differ_lt (suc zero) (suc zero) hx hy = zero-lt-suc 1
differ_lt (suc zero) (suc (suc y)) hx hy = absurd (not-suc-le-zero (le_of_suc-le-suc (le_of_suc-le-suc hy)))
differ_lt (suc (suc x)) (suc y) hx hy = absurd (not-suc-le-zero (le_of_suc-le-suc (le_of_suc-le-suc hx)))

pub bit_and_lem : (k a b : ℕ) → bit k (bit_and a b) ≡ bit k a && bit k b
bit_and_lem = bit_op bit_and min ◌&&◌ and_step (λ x y hx hy. omega arith) min_tells

pub bit_or_lem : (k a b : ℕ) → bit k (bit_or a b) ≡ bit k a || bit k b
bit_or_lem = bit_op bit_or max ◌||◌ or_step (λ x y hx hy. omega arith) max_tells

pub bit_xor_lem : (k a b : ℕ) → bit k (bit_xor a b) ≡ odd (bit k a) (bit k b)
bit_xor_lem = bit_op bit_xor differ odd xor_step differ_lt differ_tells

-- ---- terms of the bit operations, and equations between them

infixl 60 ◌∩◌
infixl 55 ◌∪◌
infixl 55 ◌⊻◌
infix 40 ◌≐◌
pub data Ex : Type 0 where
  var : ℕ → Ex
  none : Ex
  ◌∩◌ : Ex → Ex → Ex
  ◌∪◌ : Ex → Ex → Ex
  ◌⊻◌ : Ex → Ex → Ex

pub data Eqn : Type 0 where
  ◌≐◌ : Ex → Ex → Eqn

abbrev pub value : List ℕ → Ex → ℕ
value env (var i) = get_or env i zero
value env none = zero
value env (a ∩ b) = bit_and (value env a) (value env b)
value env (a ∪ b) = bit_or (value env a) (value env b)
value env (a ⊻ b) = bit_xor (value env a) (value env b)

abbrev pub truth : List Bool → Ex → Bool
truth env (var i) = get_or env i false
truth env none = false
truth env (a ∩ b) = truth env a && truth env b
truth env (a ∪ b) = truth env a || truth env b
truth env (a ⊻ b) = odd (truth env a) (truth env b)

-- the equation of numbers
abbrev pub Holds : List ℕ → Eqn → Type 0
Holds env (a ≐ b) = value env a ≡ value env b

abbrev pub Follows : List ℕ → List Eqn → Eqn → Type 0
Follows env [] g = Holds env g
Follows env (h ∷ hs) g = Holds env h → Follows env hs g

-- the test of one digit
abbrev pub holds : List Bool → Eqn → Bool
holds env (a ≐ b) = beq (truth env a) (truth env b)

abbrev pub follows : List Eqn → Eqn → List Bool → Bool
follows [] g env = holds env g
follows (h ∷ hs) g env = not (holds env h) || follows hs g env

-- the test at every choice of n truth values
abbrev pub always : ℕ → (List Bool → Bool) → Bool
always zero f = f []
always (suc n) f = always n (λ l. f (true ∷ l)) && always n (λ l. f (false ∷ l))

at_choice : (f : List Bool → Bool) (l : List Bool) → T (always (length l) f) → T (f l)
at_choice f [] t = t
at_choice f (true ∷ l) t = at_choice (λ r. f (true ∷ r)) l ((both (always (length l) (λ r. f (true ∷ r))) (always (length l) (λ r. f (false ∷ r)))).0 t).0
at_choice f (false ∷ l) t = at_choice (λ r. f (false ∷ r)) l ((both (always (length l) (λ r. f (true ∷ r))) (always (length l) (λ r. f (false ∷ r)))).0 t).1

digits : ℕ → List ℕ → List Bool
digits k [] = []
digits k (a ∷ l) = bit k a ∷ digits k l

length_digits : (k : ℕ) (l : List ℕ) → length (digits k l) ≡ length l
unfolding digits
length_digits k [] = refl
length_digits k (a ∷ l) = ap suc (length_digits k l)

get_or-digits : (k : ℕ) (l : List ℕ) (i : ℕ) → bit k (get_or l i zero) ≡ get_or (digits k l) i false
unfolding digits
get_or-digits k [] i = bit_zero k
get_or-digits k (a ∷ l) zero = refl
get_or-digits k (a ∷ l) (suc i) = get_or-digits k l i

bit-value : (k : ℕ) (env : List ℕ) (e : Ex) → bit k (value env e) ≡ truth (digits k env) e
bit-value k env (var i) = get_or-digits k env i
bit-value k env none = bit_zero k
bit-value k env (a ∩ b) = bit_and_lem k (value env a) (value env b) ∙ ap₂ ◌&&◌ (bit-value k env a) (bit-value k env b)
bit-value k env (a ∪ b) = bit_or_lem k (value env a) (value env b) ∙ ap₂ ◌||◌ (bit-value k env a) (bit-value k env b)
bit-value k env (a ⊻ b) = bit_xor_lem k (value env a) (value env b) ∙ ap₂ odd (bit-value k env a) (bit-value k env b)

-- a premise holds at each digit
premise : (k : ℕ) (env : List ℕ) (h : Eqn) → Holds env h → T (holds (digits k env) h)
premise k env (a ≐ b) e =
    (beq_says (truth (digits k env) a) (truth (digits k env) b)).1 (sym (bit-value k env a) ∙ ap (bit k) e ∙ bit-value k env b)

drop_premise : (a b : Bool) → T a → T (not a || b) → T b
drop_premise true b p t = t
drop_premise false b p t = absurd p

conclude : (env : List ℕ) (hs : List Eqn) (g : Eqn) → ((k : ℕ) → T (follows hs g (digits k env))) → Follows env hs g
conclude env [] (a ≐ b) t =
    bit_ext (value env a) (value env b) (λ k. bit-value k env a ∙ (beq_says (truth (digits k env) a) (truth (digits k env) b)).0 (t k) ∙ sym (bit-value k env b))
conclude env (h ∷ hs) g t =
    λ e. conclude env hs g (λ k. drop_premise (holds (digits k env) h) (follows hs g (digits k env)) (premise k env h e) (t k))

-- `by_bits env premises goal tt`: the goal, for the numbers of env, from the premises
pub by_bits : (env : List ℕ) (hs : List Eqn) (g : Eqn) → T (always (length env) (follows hs g)) → Follows env hs g
by_bits env hs g t =
    conclude env hs g (λ k. at_choice (follows hs g) (digits k env) (subst (λ (n : ℕ). T (always n (follows hs g))) (sym (length_digits k env)) t))
