-- Going round within n hops is going round.
use mathlib.Core.Path.{◌≡◌, refl, sym, ◌∙◌, ap}
use mathlib.Core.List.{List}
use mathlib.Core.Bool.{Bool, true, false, ◌||◌, or-true, true≢false}
use Prim.Native.Nat.{ℕ, zero, suc, ◌+◌, ◌-◌, ◌*◌, ◌≤◌, ◌<◌}
use native.Mathlib.Nat.{suc-add, zero-add, zero-mul, suc-mul, add_comm, le-mul_of_pos_right, sub-zero}
use native.Mathlib.Decide.{dec_lt}
use native.Mathlib.Omega.{arith}
use lib.Dec.{eqb}
use borrow.Author.Tests.{eq-eqb, ne_eqb, eqb-true, lt-ltb, le-ltb}
use Rattle.rounds.specs.Rounds.{hops, OnCycle, back_in, returns_to}
use Rattle.std.specs.Prelude.{Option, Some, None, get_or}
use Rattle.std.specs.Option.{unwrap_or, IsSome}
use Rattle.rounds.specs.Rows.{next_of}
use Rattle.rounds.proofs.Pigeon.{pigeon, Repeat}

-- what a loop from 0 to n has left at i
pub fuel : (n i : ℕ) → i < n → n - i ≡ suc (n - (i + 1))
fuel n i h = omega arith

module _ (f : ℕ → ℕ) where
  pub hops_f : (k v : ℕ) → hops f k (f v) ≡ f (hops f k v)
  unfolding hops
  hops_f zero v = refl
  hops_f (suc k) v = ap f (hops_f k v)

  pub hops_add : (a b v : ℕ) → hops f (a + b) v ≡ hops f a (hops f b v)
  unfolding hops
  hops_add zero b v = rw zero-add
  hops_add (suc a) b v = rw suc-add (ap f (hops_add a b v))

  pub hops_mul : (m k v : ℕ) → hops f k v ≡ v → hops f (m * k) v ≡ v
  unfolding hops
  hops_mul zero k v e = rw zero-mul
  hops_mul (suc m) k v e = rw suc-mul (hops_add (m * k) k v ∙ ap (hops f (m * k)) e ∙ hops_mul m k v e)

  -- one of the next k hops from c enters v, and the test says so
  abbrev pub Back : ℕ → ℕ → ℕ → Type 0
  Back v c k = (j : ℕ) × (1 ≤ j) × (j ≤ k) × (hops f j c ≡ v)

  pub back_true : (v c k : ℕ) → back_in f v c k ≡ true → Back v c k
  unfolding back_in hops
  back_true v c zero e = absurd (true≢false (sym e))
  back_true v c (suc k) e = go (eqb (f c) v) refl (back_true v (f c) k)
    where
      go : (b : Bool) → eqb (f c) v ≡ b → (back_in f v (f c) k ≡ true → Back v (f c) k) → Back v c (suc k)
      go true t rec = (1, omega arith, omega arith, eqb-true (f c) v t)
      go false t rec =
          let r = rec (sym (ap (λ b. b || back_in f v (f c) k) t) ∙ e) in
          (suc r.0, omega arith, omega arith, sym (hops_f r.0 c) ∙ r.3)

  pub back_of : (v c k : ℕ) → Back v c k → back_in f v c k ≡ true
  unfolding back_in hops
  back_of v c zero r = absurd (omega arith)
  back_of v c (suc k) r = go r.0 r.1 r.2 r.3 (back_of v (f c) k)
    where
      go : (j : ℕ) → 1 ≤ j → j ≤ suc k → hops f j c ≡ v → (Back v (f c) k → back_in f v (f c) k ≡ true) → eqb (f c) v || back_in f v (f c) k ≡ true
      go zero p q e rec = absurd (omega arith)
      go (suc zero) p q e rec = ap (λ b. b || back_in f v (f c) k) (eq-eqb (f c) v e)
      go (suc (suc j)) p q e rec =
          ap (λ b. eqb (f c) v || b) (rec (suc j, omega arith, omega arith, hops_f (suc j) c ∙ e)) ∙ or-true (eqb (f c) v)

  -- the test, a turn at a time

  pub back_first : (n v : ℕ) → returns_to f n v ≡ back_in f v v (n - 0)
  unfolding returns_to
  back_first n v = rw (sub-zero n)

  pub back_hit : (n i v c : ℕ) → i < n → f c ≡ v → back_in f v c (n - i) ≡ true
  unfolding back_in
  back_hit n i v c h e = rw (fuel n i h, eq-eqb (f c) v e)

  pub back_miss : (n i v c : ℕ) → i < n → (f c ≡ v → ⊥) → back_in f v c (n - i) ≡ back_in f v (f c) (n - (i + 1))
  unfolding back_in
  back_miss n i v c h e = rw (fuel n i h, ne_eqb (f c) v e)

  pub back_none : (n i v c : ℕ) → n ≤ i → back_in f v c (n - i) ≡ false
  unfolding back_in
  back_none n i v c h = let z : n - i ≡ 0 = omega arith in rw z

  module _ (n : ℕ) (ends : (v : ℕ) → n ≤ v → n ≤ f v) where
    pub ended : (k v : ℕ) → n ≤ v → n ≤ hops f k v
    unfolding hops
    ended zero v h = h
    ended (suc k) v h = ends (hops f k v) (ended k v h)

    pub back_ended : (v c k : ℕ) → v < n → n ≤ c → back_in f v c k ≡ false
    unfolding back_in
    back_ended v c zero lt le = refl
    back_ended v c (suc k) lt le =
        let more : n ≤ f c = ends c le in rw (ne_eqb (f c) v (omega arith)) (back_ended v (f c) k lt more)

    -- what comes back has not ended
    pub back_live : (v c k : ℕ) → v < n → back_in f v c k ≡ true → c < n
    back_live v c k lt e = go (dec_lt c n)
      where
        go : Dec (c < n) → c < n
        go (yes h) = h
        go (no h) = absurd (true≢false (sym e ∙ back_ended v c k lt (omega arith)))

    -- a cycle never ends
    pub live : (v : ℕ) → v < n → OnCycle f v → (j : ℕ) → hops f j v < n
    live v lt (k, p, e) j = go (dec_lt (hops f j v) n)
      where
        more : j ≤ j * k
        more = le-mul_of_pos_right j p

        at : hops f (j * k - j + j) v ≡ v
        at = ap (λ x. hops f x v) (omega (arith, more)) ∙ hops_mul j k v e

        go : Dec (hops f j v < n) → hops f j v < n
        go (yes h) = h
        go (no h) = absurd (omega (arith, ended (j * k - j) (hops f j v) (omega arith), hops_add (j * k - j) j v, at))

    -- a node on a cycle is met again within n hops
    pub shorten : (v : ℕ) → v < n → OnCycle f v → Back v v n
    shorten v lt on = go on (pigeon n (λ i. hops f i v) (λ i le. live v lt on i))
      where
        go : OnCycle f v → Repeat (λ i. hops f i v) n → Back v v n
        go (k, p, e) (i, j, less, le, same) =
            let d : ℕ = j - i in
            let x : ℕ = i * k - i in
            let round : hops f d (hops f i v) ≡ hops f i v = sym (hops_add d i v) ∙ ap (λ y. hops f y v) (omega arith) ∙ sym same in
            let more : i ≤ i * k = le-mul_of_pos_right i p in
            let home : hops f x (hops f i v) ≡ v = sym (hops_add x i v) ∙ ap (λ y. hops f y v) (omega arith) ∙ hops_mul i k v e in
            let swap : hops f d (hops f x (hops f i v)) ≡ hops f x (hops f d (hops f i v)) =
            sym (hops_add d x (hops f i v)) ∙ ap (λ y. hops f y (hops f i v)) (add_comm d x) ∙ hops_add x d (hops f i v) in
            (d, omega arith, omega arith, ap (hops f d) (sym home) ∙ swap ∙ ap (hops f x) round ∙ home)

    -- the test of n hops is the unlimited meaning
    pub returns_on : (v : ℕ) → returns_to f n v ≡ true → OnCycle f v
    unfolding returns_to
    returns_on v e = let r = back_true v v n e in (r.0, r.1, r.3)

    pub on_returns : (v : ℕ) → v < n → OnCycle f v → returns_to f n v ≡ true
    unfolding returns_to
    on_returns v lt on = back_of v v n (shorten v lt on)

-- a row's own next: an end stays an end
pub row_ends : (row : _) (n v : ℕ) → n ≤ v → n ≤ next_of row n v
unfolding next_of
row_ends row n v h = rw (le-ltb v n h) h

-- The next node is what is read of the row, and n where none is.
pub next_read : (row : List (Option ℕ)) (n v next : ℕ) → v < n → get_or row v None ≡ Some next → next_of row n v ≡ next
unfolding next_of
next_read row n v next h e = rw (lt-ltb v n h) (ap (λ o. unwrap_or o n) e)

pub end_read : (row : List (Option ℕ)) (n v : ℕ) → v < n → get_or row v None ≡ None → next_of row n v ≡ n
unfolding next_of
end_read row n v h e = rw (lt-ltb v n h) (ap (λ o. unwrap_or o n) e)

-- what comes back has a next node
pub has_next : (row : List (Option ℕ)) (n v cur i : ℕ) → v < n → cur < n → i < n → back_in (next_of row n) v cur (n - i) ≡ true → IsSome (get_or row cur None)
has_next row n v cur i lt inside less on = go (get_or row cur None) refl
  where
    f : ℕ → ℕ
    f = next_of row n

    go : (o : Option ℕ) → get_or row cur None ≡ o → IsSome o
    go (Some next) e = refl
    go None e =
        let to : f cur ≡ n = end_read row n cur inside e in
        let later : back_in f v n (n - (i + 1)) ≡ true =
        ap (λ x. back_in f v x (n - (i + 1))) (sym to) ∙ sym (back_miss f n i v cur less (λ m. omega (arith, lt, sym to ∙ m))) ∙ on in
        absurd (omega (arith, back_live f n (row_ends row n) v n (n - (i + 1)) lt later))
