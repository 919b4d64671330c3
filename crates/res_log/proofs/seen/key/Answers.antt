use Rattle.std.proofs.Common.{sym, subst, List, ℕ}
use Rattle.std.specs.List.{Contains}
use Rattle.std.proofs.lemmas.List.Filters.{dedup_is}
use Rattle.std.proofs.lemmas.List.Kept.{Contains-dedup_nat, Contains-from_dedup}
use Rattle.std.proofs.lemmas.List.Sorted.{Contains-permutation, IsPermutation-sym}
use Rattle.std.proofs.lemmas.Map.Keys.{IsStrictlyIncreasing-dedup}
use Rattle.res_log.specs.Keys.{code_of}
use Rattle.res_log.proofs.Keying.{from-codes, to-codes}
use Rattle.res_log.proofs.seen.key.Goals as goal

pub returns : goal.returns
returns c =
    let is = dedup_is _ _ _ c.dedup.ensures.filtered in
    let moved = c.sort_unstable.ensures.permutation in
    record {
      rises = rw is (IsStrictlyIncreasing-dedup _ c.sort_unstable.ensures.sorted);
      of = λ x h.
          let w = subst (λ (xs : List ℕ). Contains xs x) c.in_ok-numbers.ensures (Contains-permutation _ _ x (IsPermutation-sym _ _ moved) (Contains-from_dedup _ _ x (rw is at h))) in
          from-codes c.args.clause.now x w.0 w.1 w.2;
      all = λ l h. rw is (Contains-dedup_nat _ (code_of l) (Contains-permutation _ _ (code_of l) moved (subst (λ (xs : List ℕ). Contains xs (code_of l)) (sym c.in_ok-numbers.ensures) (to-codes c.args.clause.now l h))));
    }
