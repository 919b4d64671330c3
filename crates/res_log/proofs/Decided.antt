-- What the test of a whole step decides.
use Rattle.std.proofs.Common.{inl, inr, ◌≡◌, ℕ, suc, zero, ◌+◌, ◌<◌, ◌≤◌, true, false, not, List, [], ◌∷◌, ◌++◌, length, take, get_or, Option, sym, ap, ◌∙◌, subst, arith, add-one}
use Rattle.std.specs.List.{list_any, IsDistinct}
use Rattle.std.specs.Option.{option_to_list}
use Rattle.std.proofs.lemmas.Bool.{and_parts, and_from, both_ways, not-false, cases_eq}
use Rattle.std.proofs.lemmas.List.{take_more}
use Rattle.std.proofs.Math.Seq.{take-length}
use Rattle.std.proofs.lemmas.Map.Keys.{IsDistinct-push}
use Rattle.clause_arena.specs.declared.ClauseId.{ClauseId}
use Rattle.clause_arena.specs.Clause.{Clause, Clauses, is_same, AreDifferent}
use Rattle.res_log.specs.Step.{Step}
use Rattle.res_log.specs.Log.{result_of, input, book_before, results_from, IsRightStep, IsValid, AreLive, IsFirstBadStep}
use Rattle.res_log.specs.Segments.{AreSoundBelow}
use Rattle.res_log.specs.Shelf.{step_test}
use Rattle.res_log.proofs.Same.{is_same-equiv}
use Rattle.res_log.proofs.Right.{AreRight, live-right, held, live-from-test, test-from-live, matches, new-iff, results-push, some-and, some-parts}
use Rattle.res_log.proofs.Steps.{bare}
use Rattle.res_log.proofs.Refutes.{Some-same}

sound-below : (arena : Clauses) (log : List Step) (k : ℕ) → AreRight arena log k → AreSoundBelow arena log k
sound-below arena log k f j d l = (f j d l).1

pub right-from-test : (arena : Clauses) (log : List Step) (k : ℕ) (s : Step) → k ≤ length log → AreRight arena log k → step_test arena log k s ≡ true → IsRightStep arena log k s
right-from-test arena log k s l f t =
    let a = and_parts _ _ t in
    let p = live-from-test arena log k s l (sound-below arena log k f) a.0 in
    let w = held arena log k s p in
    let n = new-iff arena s.derived.0 w.0 w.2 (results_from (input arena log) (take k log)) (take k log) (matches arena log k l f) in
    (p.0, p.1, some-and (result_of (book_before arena log k) s) (λ r. list_any (is_same r) (results_from (input arena log) (take k log)) ≡ false) w.0 w.1 (n ∙ ap not a.1))

pub test-from-right : (arena : Clauses) (log : List Step) (k : ℕ) (s : Step) → k ≤ length log → AreRight arena log k → IsRightStep arena log k s → step_test arena log k s ≡ true
test-from-right arena log k s l f r =
    let p = live-right arena log k s r in
    let w = held arena log k s p in
    let v = some-parts (result_of (book_before arena log k) s) (λ r. list_any (is_same r) (results_from (input arena log) (take k log)) ≡ false) r.2 in
    let u : v.0 ≡ w.0 = Some-same _ _ (sym v.1 ∙ w.1) in
    let n = new-iff arena s.derived.0 w.0 w.2 (results_from (input arena log) (take k log)) (take k log) (matches arena log k l f) in
    let g : list_any (is_same w.0) (results_from (input arena log) (take k log)) ≡ false =
    subst (λ (x : Clause). list_any (is_same x) (results_from (input arena log) (take k log)) ≡ false) u v.2 in
    and_from _ _ (test-from-live arena log k s l (sound-below arena log k f) p) (not-false _ (sym n ∙ g))

different : (arena : Clauses) (log : List Step) (k : ℕ) → k ≤ length log → AreRight arena log k → AreDifferent (results_from (input arena log) (take k log))
unfolding IsDistinct
different arena log zero l f = tt
different arena log (suc k) l f =
    let z : ClauseId = record { 0 = 0 } in
    let s : Step = get_or log k (bare z) in
    let r = f k (bare z) (omega arith) in
    let v = some-parts (result_of (book_before arena log k) s) (λ r. list_any (is_same r) (results_from (input arena log) (take k log)) ≡ false) r.2 in
    let t : take (suc k) log ≡ take k log ++ s ∷ [] = ap (λ (n : ℕ). take n log) (sym (add-one k)) ∙ take_more log k (bare z) (omega arith) in
    let e : results_from (input arena log) (take k log) ++ v.0 ∷ [] ≡ results_from (input arena log) (take (suc k) log) =
    sym (ap (results_from (input arena log)) t ∙ results-push (take k log) (input arena log) s ∙ ap (λ (o : Option Clause). results_from (input arena log) (take k log) ++ option_to_list o) v.1)
    in subst AreDifferent e (IsDistinct-push is_same-equiv _ v.0 (different arena log k (omega arith) (λ j d m. f j d (omega arith))) v.2)

pub valid-from-right : (arena : Clauses) (log : List Step) → AreRight arena log (length log) → IsValid arena log × AreLive arena log
valid-from-right arena log f = (
  (
    sound-below arena log (length log) f,
    subst (λ (xs : List Step). AreDifferent (results_from (input arena log) xs)) (take-length log) (different arena log (length log) (omega arith) f),
  ),
  λ k d l. (f k d l).0,
)

pub right-more : (arena : Clauses) (log : List Step) (k : ℕ) → k < length log → AreRight arena log k → ((d : Step) → step_test arena log k (get_or log k d) ≡ true) → AreRight arena log (k + 1)
right-more arena log k l f t j d m =
    elim (cases_eq j k) [
      | inl e ↦ subst (λ (i : ℕ). IsRightStep arena log i (get_or log i d)) (sym e) (right-from-test arena log k (get_or log k d) (omega arith) f (t d))
      | inr n ↦ f j d (omega arith)
    ]

pub first-bad : (arena : Clauses) (log : List Step) (k : ℕ) → k < length log → AreRight arena log k → ((d : Step) → step_test arena log k (get_or log k d) ≡ false) → IsFirstBadStep arena log k
first-bad arena log k l f b = (l, f, λ d r. both_ways _ (b d) (test-from-right arena log k (get_or log k d) (omega arith) f r))
