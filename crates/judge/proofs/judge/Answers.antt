-- 13 before the file where a list is too short, and else what the file gives for the front of the lists.
use Rattle.std.proofs.Common.{rules}
use mathlib.Core.Path.{◌≡◌, sym, ap, ◌∙◌}
use mathlib.Core.List.{List, ◌++◌}
use Prim.Native.Nat.{ℕ}
use lib.ListN.{drop}
use Rattle.std.specs.Prelude.{Err}
use Rattle.judge.specs.Judging.{Judgement, lent_of}
use Rattle.judge.proofs.JudgeLaws.{short_cares, short_values, short_sizes, short_cycle, judged_front, joined, some_front, no_front, no_front_err}
use Rattle.judge.proofs.judge.Goals as goal

pub returns-in_err-cares : goal.returns-in_err-cares
returns-in_err-cares c =
    let said : c.from_residual.result ≡ Err c.in_err-cares.field-0.0 = search rules in
    let j = short_cares c.args.file.now c.args.cares.now c.args.values.now c.args.sizes.now c.args.cycle.now (no_front _ _ _ c.first_chunk_mut.ensures.cases c.in_err-cares.ensures.variant) in
    record {
      answer = said ∙ ap Err (no_front_err _ _ _ c.in_err-cares.ensures.value c.in_err-cares.ensures.variant ∙ c.at-short.ensures) ∙ sym (ap (λ (j : Judgement). j.answer) j);
      cares = sym (ap (λ (j : Judgement). j.lent.cares) j);
      values = sym (ap (λ (j : Judgement). j.lent.values) j);
      sizes = sym (ap (λ (j : Judgement). j.lent.sizes) j);
      cycle = sym (ap (λ (j : Judgement). j.lent.cycle) j);
    }

pub returns-in_err-values : goal.returns-in_err-values
returns-in_err-values c =
    let said : c.from_residual-in_err-values.result ≡ Err c.in_err-values.field-0.0 = search rules in
    let j = short_values c.args.file.now c.args.cares.now c.args.values.now c.args.sizes.now c.args.cycle.now (no_front _ _ _ c.first_chunk_mut-2.ensures.cases c.in_err-values.ensures.variant) in
    record {
      answer = said ∙ ap Err (no_front_err _ _ _ c.in_err-values.ensures.value c.in_err-values.ensures.variant ∙ c.at-short.ensures) ∙ sym (ap (λ (j : Judgement). j.answer) j);
      cares = joined 1024 _ _ (some_front _ _ _ c.first_chunk_mut.ensures.cases _ c.in_ok-cares.ensures.ok_part).same ∙ sym (ap (λ (j : Judgement). j.lent.cares) j);
      values = sym (ap (λ (j : Judgement). j.lent.values) j);
      sizes = sym (ap (λ (j : Judgement). j.lent.sizes) j);
      cycle = sym (ap (λ (j : Judgement). j.lent.cycle) j);
    }

pub returns-in_err-sizes : goal.returns-in_err-sizes
returns-in_err-sizes c =
    let said : c.from_residual-in_err-sizes.result ≡ Err c.in_err-sizes.field-0.0 = search rules in
    let j = short_sizes c.args.file.now c.args.cares.now c.args.values.now c.args.sizes.now c.args.cycle.now (no_front _ _ _ c.first_chunk_mut-3.ensures.cases c.in_err-sizes.ensures.variant) in
    record {
      answer = said ∙ ap Err (no_front_err _ _ _ c.in_err-sizes.ensures.value c.in_err-sizes.ensures.variant ∙ c.at-short.ensures) ∙ sym (ap (λ (j : Judgement). j.answer) j);
      cares = joined 1024 _ _ (some_front _ _ _ c.first_chunk_mut.ensures.cases _ c.in_ok-cares.ensures.ok_part).same ∙ sym (ap (λ (j : Judgement). j.lent.cares) j);
      values = joined 1024 _ _ (some_front _ _ _ c.first_chunk_mut-2.ensures.cases _ c.in_ok-values.ensures.ok_part).same ∙ sym (ap (λ (j : Judgement). j.lent.values) j);
      sizes = sym (ap (λ (j : Judgement). j.lent.sizes) j);
      cycle = sym (ap (λ (j : Judgement). j.lent.cycle) j);
    }

pub returns-in_err-cycle : goal.returns-in_err-cycle
returns-in_err-cycle c =
    let said : c.from_residual-in_err-cycle.result ≡ Err c.in_err-cycle.field-0.0 = search rules in
    let j = short_cycle c.args.file.now c.args.cares.now c.args.values.now c.args.sizes.now c.args.cycle.now (no_front _ _ _ c.first_chunk_mut-4.ensures.cases c.in_err-cycle.ensures.variant) in
    record {
      answer = said ∙ ap Err (no_front_err _ _ _ c.in_err-cycle.ensures.value c.in_err-cycle.ensures.variant ∙ c.at-short.ensures) ∙ sym (ap (λ (j : Judgement). j.answer) j);
      cares = joined 1024 _ _ (some_front _ _ _ c.first_chunk_mut.ensures.cases _ c.in_ok-cares.ensures.ok_part).same ∙ sym (ap (λ (j : Judgement). j.lent.cares) j);
      values = joined 1024 _ _ (some_front _ _ _ c.first_chunk_mut-2.ensures.cases _ c.in_ok-values.ensures.ok_part).same ∙ sym (ap (λ (j : Judgement). j.lent.values) j);
      sizes = joined 1024 _ _ (some_front _ _ _ c.first_chunk_mut-3.ensures.cases _ c.in_ok-sizes.ensures.ok_part).same ∙ sym (ap (λ (j : Judgement). j.lent.sizes) j);
      cycle = sym (ap (λ (j : Judgement). j.lent.cycle) j);
    }

pub returns : goal.returns
returns c =
    let f = judged_front c.args.file.now (lent_of c.args.cares.now c.args.values.now c.args.sizes.now c.args.cycle.now)
    (lent_of c.in_ok-cares.cares.now c.in_ok-values.values.now c.in_ok-sizes.sizes.now c.in_ok-cycle.cycle.now)
    (some_front _ _ _ c.first_chunk_mut.ensures.cases _ c.in_ok-cares.ensures.ok_part) (some_front _ _ _ c.first_chunk_mut-2.ensures.cases _ c.in_ok-values.ensures.ok_part)
    (some_front _ _ _ c.first_chunk_mut-3.ensures.cases _ c.in_ok-sizes.ensures.ok_part) (some_front _ _ _ c.first_chunk_mut-4.ensures.cases _ c.in_ok-cycle.ensures.ok_part) in
    record {
      answer = c.judge_lent.ensures.answer ∙ f.answer;
      cares = ap (λ (l : List ℕ). l ++ drop 1024 c.args.cares.now) c.judge_lent.ensures.cares ∙ f.cares;
      values = ap (λ (l : List ℕ). l ++ drop 1024 c.args.values.now) c.judge_lent.ensures.values ∙ f.values;
      sizes = ap (λ (l : List ℕ). l ++ drop 1024 c.args.sizes.now) c.judge_lent.ensures.sizes ∙ f.sizes;
      cycle = ap (λ (l : List ℕ). l ++ drop 64 c.args.cycle.now) c.judge_lent.ensures.cycle ∙ f.cycle;
    }
