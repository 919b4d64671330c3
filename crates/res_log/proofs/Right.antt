-- The steps that pass the test on the arena alone are those that break no rule.
use Rattle.std.proofs.Common.{◌≡◌, ℕ, suc, zero, ◌+◌, ◌<◌, ◌≤◌, eqb, Bool, true, false, not, ◌&&◌, ◌||◌, List, [], ◌∷◌, ◌++◌, length, take, get_or, Option, Some, None, cond, refl, sym, ap, ◌∙◌, subst, arith, inl, inr, add-one, append_assoc, append-nil}
use Rattle.std.specs.List.{list_any, AllZip}
use Rattle.std.specs.Option.{is_some, unwrap_or, option_map_or, option_to_list, ForSome, IsSomeAnd}
use Rattle.std.proofs.lemmas.Bool.{cases_Bool, and_parts, and_from, cases_lt, cases_eq, both_ways, not_from_false, not-true, or_left, or_right, cond-true, cond-false, eqb-true, false≢true}
use Rattle.std.proofs.lemmas.List.{take_more, get_or_past}
use Rattle.std.proofs.lemmas.List.Folds.{list_any_more}
use Rattle.clause_arena.specs.Clause.{Clause, Clauses, clause_at, is_same}
use Rattle.res_log.specs.Step.{Step}
use Rattle.res_log.specs.Log.{Book, derives, result_of, input, enter, enter_all, book_before, results_from, IsSoundStep, IsRightStep}
use Rattle.res_log.specs.Segments.{AreSoundBelow, IsLiveStep, AreLiveSteps, IsNextBadStep}
use Rattle.clause_arena.specs.declared.ClauseId.{ClauseId}
use Rattle.res_log.specs.Shelf.{is_known, shelf, lits_at, is_new, live_test}
use Rattle.res_log.proofs.Same.{is_same-sym, is_same-trans, SameOption, SameLive, same-option-refl, result-live, is_same-equiv}
use Rattle.res_log.proofs.Steps.{bare, lits-at, live-derived}

enter_all-push : (xs : List Step) (book : Book) (s : Step) (id : ℕ) → enter_all book (xs ++ s ∷ []) id ≡ enter (enter_all book xs) s id
enter_all-push [] book s id = refl
enter_all-push (x ∷ xs) book s id = enter_all-push xs (enter book x) s id

pub enter_all-more : (log : List Step) (book : Book) (k : ℕ) (d : Step) (id : ℕ) → k < length log → enter_all book (take (k + 1) log) id ≡ enter (enter_all book (take k log)) (get_or log k d) id
enter_all-more log book k d id l =
    ap (λ (xs : List Step). enter_all book xs id) (take_more log k d l) ∙ enter_all-push (take k log) book (get_or log k d) id

pub some-and : (o : Option Clause) (P : Clause → Type 0) (q : Clause) → o ≡ Some q → P q → IsSomeAnd o P
some-and o P q e h = subst (λ (x : Option Clause). IsSomeAnd x P) (sym e) h

pub some-parts : (o : Option Clause) (P : Clause → Type 0) → IsSomeAnd o P → (q : Clause) × (o ≡ Some q) × P q
some-parts None P h = absurd h
some-parts (Some q) P h = (q, refl, h)

or_false : (b : Bool) → (b || false) ≡ b
or_false true = refl
or_false false = refl

known-more : (log : List Step) (k : ℕ) (d : Step) (id : ℕ) → k < length log → is_known log (k + 1) id ≡ ((derives (take k log) id || eqb (get_or log k d).derived.0 id) || not (derives log id))
known-more log k d id l = ap (λ (b : Bool). b || not (derives log id)) (list_any_more (λ s. eqb s.derived.0 id) log k d l)

some-unwrap : (o : Option Clause) → is_some o ≡ true → o ≡ Some (unwrap_or o [])
some-unwrap None h = absurd (false≢true h)
some-unwrap (Some c) h = refl

pub live-some : (arena : Clauses) (id : ℕ) → is_some (clause_at arena id) ≡ true → clause_at arena id ≡ Some (lits_at arena id)
live-some arena id h = some-unwrap (clause_at arena id) h

start-same : (b : Bool) (o : Option Clause) → SameOption (cond (not b) o None) (cond b None o)
start-same true o = tt
start-same false o = same-option-refl o

same-along : (o p q r : Option Clause) → o ≡ p → q ≡ r → SameOption p r → SameOption o q
same-along o p q r e f h = subst (λ (x : Option Clause). SameOption x q) (sym e) (subst (λ (x : Option Clause). SameOption p x) (sym f) h)

shelf-more : (arena : Clauses) (log : List Step) (k : ℕ) (d : Step) → k < length log → IsSoundStep arena log k (get_or log k d) → SameLive arena (shelf arena log k) (book_before arena log k) → SameLive arena (shelf arena log (k + 1)) (book_before arena log (k + 1))
shelf-more arena log k d l p h id live =
    let s : Step = get_or log k d in
    let e = enter_all-more log (input arena log) k d id l in
    let w = known-more log k d id l in
    elim (cases_Bool (eqb s.derived.0 id)) [
      | inl t ↦
          let i : s.derived.0 ≡ id = eqb-true _ _ t in
          let r = some-parts (result_of (book_before arena log k) s) (λ r. ForSome (clause_at arena s.derived.0) (λ c. is_same r c ≡ true)) p.2 in
          let q : is_same r.0 (lits_at arena id) ≡ true = r.2 (lits_at arena id) (ap (clause_at arena) i ∙ live-some arena id live) in
          same-along _ (Some (lits_at arena id)) _ (Some r.0)
          (cond-true _ _ _ (w ∙ or_left _ _ (or_right _ _ t)) ∙ live-some arena id live)
          (e ∙ cond-true _ _ _ t ∙ r.1)
          (is_same-sym r.0 (lits_at arena id) q)
      | inr f ↦
          same-along _ (shelf arena log k id) _ (book_before arena log k id)
          (ap (λ (b : Bool). cond b (clause_at arena id) None) (w ∙ ap (λ (b : Bool). (derives (take k log) id || b) || not (derives log id)) f ∙ ap (λ (b : Bool). b || not (derives log id)) (or_false (derives (take k log) id))))
          (e ∙ cond-false _ _ _ f) (h id live)
    ]

-- at the live ids the shelf before step k is the book, where the steps before it are sound
pub shelf-live : (arena : Clauses) (log : List Step) (k : ℕ) → k ≤ length log → AreSoundBelow arena log k → SameLive arena (shelf arena log k) (book_before arena log k)
shelf-live arena log zero l f = λ id live. start-same (derives log id) (clause_at arena id)
shelf-live arena log (suc k) l f =
    let z : ClauseId = record { 0 = 0 } in
    let h = shelf-live arena log k (omega arith) (λ j d m. f j d (omega arith)) in
    subst (λ (n : ℕ). SameLive arena (shelf arena log n) (book_before arena log n)) (add-one k) (shelf-more arena log k (bare z) (omega arith) (f k (bare z) (omega arith)) h)

held-by : (o p : Option Clause) (c : Clause) → option_map_or (λ r. is_same r c) o false ≡ true → SameOption o p → (q : Clause) × (p ≡ Some q) × (is_same q c ≡ true)
held-by None p c h s = absurd (false≢true h)
held-by (Some r) None c h s = absurd s
held-by (Some r) (Some q) c h s = (q, refl, is_same-trans q r c (is_same-sym r q s) h)

holds-back : (o p : Option Clause) (q c : Clause) → p ≡ Some q → is_same q c ≡ true → SameOption o p → option_map_or (λ r. is_same r c) o false ≡ true
holds-back None None q c e h s = cc
holds-back None (Some p) q c e h s = absurd s
holds-back (Some r) None q c e h s = absurd s
holds-back (Some r) (Some p) q c e h s =
    let u : p ≡ q = cc in is_same-trans r p c s (subst (λ (x : Clause). is_same x c ≡ true) (sym u) h)

pub live-lt : (arena : Clauses) (id : ℕ) → is_some (clause_at arena id) ≡ true → id < length arena
live-lt arena id h =
    elim (cases_lt id (length arena)) [
      | inl l ↦ l
      | inr l ↦ absurd (false≢true (ap is_some (sym (get_or_past arena id None l)) ∙ h))
    ]

-- the result of a sound step whose id is live is what the arena has there
pub held : (arena : Clauses) (log : List Step) (k : ℕ) (s : Step) → IsLiveStep arena log k s → (q : Clause) × (result_of (book_before arena log k) s ≡ Some q) × (is_same q (lits_at arena s.derived.0) ≡ true)
held arena log k s p =
    let w = some-parts (result_of (book_before arena log k) s) (λ r. ForSome (clause_at arena s.derived.0) (λ c. is_same r c ≡ true)) p.1.2 in
    (w.0, w.1, w.2 (lits_at arena s.derived.0) (live-some arena s.derived.0 (live-derived arena s p.0)))

pub live-from-test : (arena : Clauses) (log : List Step) (k : ℕ) (s : Step) → k ≤ length log → AreSoundBelow arena log k → live_test arena log k s ≡ true → IsLiveStep arena log k s
live-from-test arena log k s l f t =
    let a = and_parts _ _ t in
    let b = and_parts _ _ a.0 in
    let w = held-by (result_of (shelf arena log k) s) (result_of (book_before arena log k) s) (lits_at arena s.derived.0) a.1
    (result-live arena (shelf arena log k) (book_before arena log k) (shelf-live arena log k l f) s b.0) in (
      b.0,
      (
        not-true _ b.1,
        live-lt arena s.derived.0 (live-derived arena s b.0),
        some-and (result_of (book_before arena log k) s) (λ r. ForSome (clause_at arena s.derived.0) (λ c. is_same r c ≡ true)) w.0 w.1
            (λ c e. subst (λ (x : Clause). is_same w.0 x ≡ true) (sym (lits-at arena s.derived.0 c e)) w.2),
      ),
    )

pub test-from-live : (arena : Clauses) (log : List Step) (k : ℕ) (s : Step) → k ≤ length log → AreSoundBelow arena log k → IsLiveStep arena log k s → live_test arena log k s ≡ true
test-from-live arena log k s l f p =
    let w = held arena log k s p in
    and_from _ _ (and_from _ _ p.0 (not_from_false _ p.1.0))
    (holds-back (result_of (shelf arena log k) s) (result_of (book_before arena log k) s) w.0 (lits_at arena s.derived.0) w.1 w.2
    (result-live arena (shelf arena log k) (book_before arena log k) (shelf-live arena log k l f) s p.0))

pub live-more : (arena : Clauses) (log : List Step) (n k : ℕ) → k ≤ length log → AreSoundBelow arena log k → AreLiveSteps arena log n k → ((d : Step) → live_test arena log k (get_or log k d) ≡ true) → AreLiveSteps arena log n (k + 1)
live-more arena log n k l f g t j d m q =
    elim (cases_eq j k) [
      | inl e ↦ subst (λ (i : ℕ). IsLiveStep arena log i (get_or log i d)) (sym e) (live-from-test arena log k (get_or log k d) l f (t d))
      | inr u ↦ g j d m (omega arith)
    ]

pub sound-more : (arena : Clauses) (log : List Step) (k : ℕ) → k ≤ length log → AreSoundBelow arena log k → ((d : Step) → live_test arena log k (get_or log k d) ≡ true) → AreSoundBelow arena log (k + 1)
sound-more arena log k l f t j d m =
    elim (cases_eq j k) [
      | inl e ↦ subst (λ (i : ℕ). IsSoundStep arena log i (get_or log i d)) (sym e) (live-from-test arena log k (get_or log k d) l f (t d)).1
      | inr u ↦ f j d (omega arith)
    ]

pub next-bad : (arena : Clauses) (log : List Step) (n k : ℕ) → n ≤ k → k < length log → AreSoundBelow arena log k → AreLiveSteps arena log n k → ((d : Step) → live_test arena log k (get_or log k d) ≡ false) → IsNextBadStep arena log n k
next-bad arena log n k m l f g b = (m, l, g, λ d p. both_ways _ (b d) (test-from-live arena log k (get_or log k d) (omega arith) f p))

-- step j, where it is right
abbrev pub AreRight : Clauses → List Step → ℕ → Type 0
AreRight arena log k = (j : ℕ) (d : Step) → j < k → IsRightStep arena log j (get_or log j d)

pub live-right : (arena : Clauses) (log : List Step) (k : ℕ) (s : Step) → IsRightStep arena log k s → IsLiveStep arena log k s
live-right arena log k s r = (r.0, r.1)

pub results-push : (xs : List Step) (book : Book) (s : Step) → results_from book (xs ++ s ∷ []) ≡ results_from book xs ++ option_to_list (result_of (enter_all book xs) s)
results-push [] book s = append-nil (option_to_list (result_of book s))
results-push (x ∷ xs) book s =
    ap (λ (cs : List Clause). option_to_list (result_of book x) ++ cs) (results-push xs (enter book x) s)
    ∙ sym (append_assoc (option_to_list (result_of book x)) (results_from (enter book x) xs) _)

-- the arena's list at each id that the steps derive is the step's result
abbrev pub Matches : Clauses → List Clause → List Step → Type 0
Matches arena rs ts = AllZip (λ (r : Clause) (t : Step). is_same r (lits_at arena t.derived.0) ≡ true) rs ts

matches-push : (arena : Clauses) (rs : List Clause) (ts : List Step) (r : Clause) (t : Step) → Matches arena rs ts → is_same r (lits_at arena t.derived.0) ≡ true → Matches arena (rs ++ r ∷ []) (ts ++ t ∷ [])
matches-push arena [] [] r t m h = (h, tt)
matches-push arena [] (y ∷ ys) r t m h = absurd m
matches-push arena (x ∷ xs) [] r t m h = absurd m
matches-push arena (x ∷ xs) (y ∷ ys) r t m h = (m.0, matches-push arena xs ys r t m.1 h)

pub matches : (arena : Clauses) (log : List Step) (k : ℕ) → k ≤ length log → AreRight arena log k → Matches arena (results_from (input arena log) (take k log)) (take k log)
matches arena log zero l f = tt
matches arena log (suc k) l f =
    let z : ClauseId = record { 0 = 0 } in
    let s : Step = get_or log k (bare z) in
    let m = matches arena log k (omega arith) (λ j d i. f j d (omega arith)) in
    let w = held arena log k s (live-right arena log k s (f k (bare z) (omega arith))) in
    let e : results_from (input arena log) (take k log ++ s ∷ []) ≡ results_from (input arena log) (take k log) ++ w.0 ∷ [] =
    results-push (take k log) (input arena log) s ∙ ap (λ (o : Option Clause). results_from (input arena log) (take k log) ++ option_to_list o) w.1
    in
    let t : take k log ++ s ∷ [] ≡ take (suc k) log = sym (ap (λ (n : ℕ). take n log) (sym (add-one k)) ∙ take_more log k (bare z) (omega arith)) in
    subst (λ (xs : List Step). Matches arena (results_from (input arena log) xs) xs) t
    (subst (λ (cs : List Clause). Matches arena cs (take k log ++ s ∷ [])) (sym e)
    (matches-push arena (results_from (input arena log) (take k log)) (take k log) w.0 s m w.2))

same-across : (r l q m : Clause) → is_same r l ≡ true → is_same q m ≡ true → is_same r q ≡ is_same l m
same-across r l q m h g =
    is_same-equiv.congr r l q h ∙ is_same-equiv.symm l q ∙ is_same-equiv.congr q m l g ∙ is_same-equiv.symm m l

not-and : (a b : Bool) → (a || not b) ≡ not (not a && b)
not-and true b = refl
not-and false b = refl

-- a result that the arena holds is among the earlier ones exactly if the arena has its set at an earlier id
pub new-iff : (arena : Clauses) (id : ℕ) (r : Clause) → is_same r (lits_at arena id) ≡ true → (rs : List Clause) (ts : List Step) → Matches arena rs ts → list_any (is_same r) rs ≡ not (is_new arena ts id)
new-iff arena id r h [] [] m = refl
new-iff arena id r h [] (t ∷ ts) m = absurd m
new-iff arena id r h (q ∷ qs) [] m = absurd m
new-iff arena id r h (q ∷ qs) (t ∷ ts) m =
    let e = same-across r (lits_at arena id) q (lits_at arena t.derived.0) h m.0 in
    let i = new-iff arena id r h qs ts m.1 in
    rw (e, i) (not-and (is_same (lits_at arena id) (lits_at arena t.derived.0)) (is_new arena ts id))
