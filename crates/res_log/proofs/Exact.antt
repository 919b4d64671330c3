-- A valid log breaks no rule at any step.
use Rattle.std.proofs.Common.{◌≡◌, ℕ, suc, zero, ◌<◌, true, false, List, [], ◌∷◌, ◌++◌, length, take, drop, get_or, Option, refl, sym, ap, ◌∙◌, subst, arith, append_assoc}
use Rattle.std.specs.List.{list_any, IsDistinct, AllByRecursion}
use Rattle.std.specs.Option.{option_to_list, ForSome}
use Rattle.std.proofs.lemmas.Bool.{or_from, false_from_ne_true, both_ways}
use Rattle.clause_arena.specs.Clause.{Clause, clause_at, is_same, AreDifferent}
use Rattle.res_log.specs.Step.{Step}
use Rattle.res_log.specs.Log.{Book, result_of, input, enter, enter_all, book_before, results_from, ExactLaw}
use Rattle.res_log.proofs.Same.{is_same-sym}
use Rattle.res_log.proofs.Right.{some-parts, some-and}

at-middle : (xs ys : List Clause) (x r : Clause) → AllByRecursion (λ y. is_same x y ≡ false) (xs ++ r ∷ ys) → is_same x r ≡ false
at-middle [] ys x r h = h.0
at-middle (z ∷ zs) ys x r h = at-middle zs ys x r h.1

distinct-middle : (xs ys : List Clause) (r : Clause) → IsDistinct is_same (xs ++ r ∷ ys) → list_any (is_same r) xs ≡ false
unfolding IsDistinct
distinct-middle [] ys r h = refl
distinct-middle (x ∷ xs) ys r h =
    or_from _ _ (false_from_ne_true _ (λ t. both_ways _ (at-middle xs ys x r h.0) (is_same-sym r x t))) (distinct-middle xs ys r h.1)

results-append : (xs ys : List Step) (b : Book) → results_from b (xs ++ ys) ≡ results_from b xs ++ results_from (enter_all b xs) ys
results-append [] ys b = refl
results-append (x ∷ xs) ys b =
    ap (λ (cs : List Clause). option_to_list (result_of b x) ++ cs) (results-append xs ys (enter b x))
    ∙ sym (append_assoc (option_to_list (result_of b x)) (results_from (enter b x) xs) _)

split-at : (log : List Step) (k : ℕ) (d : Step) → k < length log → take k log ++ get_or log k d ∷ drop (suc k) log ≡ log
split-at [] k d l = absurd (omega arith)
split-at (x ∷ xs) zero d l = refl
split-at (x ∷ xs) (suc k) d l = ap (λ (ys : List Step). x ∷ ys) (split-at xs k d (omega arith))

pub exact_law : ExactLaw
exact_law arena log v f k d l =
    let s : Step = get_or log k d in
    let b = book_before arena log k in
    let w = some-parts (result_of (book_before arena log k) s) (λ r. ForSome (clause_at arena s.derived.0) (λ c. is_same r c ≡ true)) (v.0 k d l).2 in
    let e : results_from (input arena log) (take k log ++ s ∷ drop (suc k) log) ≡ results_from (input arena log) (take k log) ++ w.0 ∷ results_from (enter (book_before arena log k) s) (drop (suc k) log) =
    results-append (take k log) (s ∷ drop (suc k) log) (input arena log)
    ∙ ap (λ (o : Option Clause). results_from (input arena log) (take k log) ++ (option_to_list o ++ results_from (enter (book_before arena log k) s) (drop (suc k) log))) w.1
    in
    let h : AreDifferent (results_from (input arena log) (take k log) ++ w.0 ∷ results_from (enter (book_before arena log k) s) (drop (suc k) log)) =
    subst AreDifferent (ap (results_from (input arena log)) (sym (split-at log k d l)) ∙ e) v.1
    in (
      f k d l,
      v.0 k d l,
      some-and (result_of (book_before arena log k) s) (λ r. list_any (is_same r) (results_from (input arena log) (take k log)) ≡ false) w.0 w.1
          (distinct-middle (results_from (input arena log) (take k log)) (results_from (enter (book_before arena log k) s) (drop (suc k) log)) w.0 h),
    )
