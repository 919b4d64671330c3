-- The book of a sound log, step by step.
use Rattle.std.proofs.Common.{inl, inr, ◌≡◌, ◌↔◌, ℕ, ◌+◌, ◌-◌, ◌<◌, Bool, true, false, not, List, [], ◌∷◌, ◌++◌, length, set, get_or, Option, Some, None, eqb, cond, refl, sym, ◌∙◌, ap, subst, arith, IsTrue, length-append}
use Rattle.std.specs.Option.{option_and_then, IsSomeAnd}
use Rattle.std.proofs.lemmas.Bool.{cases_Bool, cases_lt, cases_eq, cond-true, cond-false, eqb-true, eqb-false, eq-eqb}
use Rattle.std.proofs.lemmas.List.{get_or-set_same, get_or-set_other, get_or_past, get_or_append_left, get_or_push}
use Rattle.clause_arena.specs.declared.ClauseId.{ClauseId}
use Rattle.clause_arena.specs.Clause.{Clause, Clauses, clause_at}
use Rattle.res_log.specs.declared.origins.Origin.{Origin}
use Rattle.res_log.specs.Step.{Step}
use Rattle.res_log.specs.Log.{Book, derives, chain, result_of, input, enter, book_before, IsSound, EndsEmpty}
use Rattle.res_log.specs.Origins.{IsTable, book_of}
use Rattle.res_log.proofs.Tables.{book-shelf, chain-along}
use Rattle.res_log.proofs.Right.{enter_all-more}
use Rattle.res_log.proofs.Refutes.{Some-same}
use Rattle.res_log.proofs.Steps.{bare}

start : (b : Bool) (o : Option Clause) → cond (not b) o None ≡ cond b None o
start true o = refl
start false o = refl

-- the clauses that are there by the first table are the inputs
book-input : (arena : Clauses) (log : List Step) (table : List Origin) → IsTable log 0 table → length table ≡ length arena → (id : ℕ) → book_of arena table id ≡ input arena log id
book-input arena log table t z id = book-shelf arena log table 0 t z id ∙ start (derives log id) (clause_at arena id)

none-input : (b : Bool) (o : Option Clause) → o ≡ None → None ≡ cond b None o
none-input true o e = refl
none-input false o e = sym e

pub inputs-more : (arena : Clauses) (table : List Origin) (now more : Clauses) (o : Option Clause) (i : ℕ) → length now ≡ i → more ≡ now ++ o ∷ [] → o ≡ book_of arena table i → ((j : ℕ) → j < i → clause_at now j ≡ book_of arena table j)
    → (length more ≡ i + 1) × ((j : ℕ) → j < i + 1 → clause_at more j ≡ book_of arena table j)
inputs-more arena table now more o i n e q f = (
  omega (arith, ap length e, length-append now (o ∷ [])),
  λ j l. ap (λ (xs : Clauses). clause_at xs j) e ∙
      elim (cases_eq j i) [
        | inl u ↦ get_or_push now o None j (omega arith) ∙ q ∙ ap (book_of arena table) (sym u)
        | inr u ↦ get_or_append_left now (o ∷ []) None j (omega arith) ∙ f j (omega arith)
      ],
)

pub inputs-all : (arena : Clauses) (log : List Step) (table : List Origin) (book : Clauses) → IsTable log 0 table → length table ≡ length arena → length book ≡ length arena → ((j : ℕ) → j < length arena → clause_at book j ≡ book_of arena table j) → (id : ℕ) → clause_at book id ≡ input arena log id
inputs-all arena log table book t z n f id =
    elim (cases_lt id (length arena)) [
      | inl l ↦ f id l ∙ book-input arena log table t z id
      | inr l ↦ get_or_past book id None (omega arith) ∙ none-input (derives log id) (clause_at arena id) (get_or_past arena id None l)
    ]

-- books that agree give a step the same result
pub result-along : (a b : Book) → ((id : ℕ) → a id ≡ b id) → (s : Step) → result_of a s ≡ result_of b s
result-along a b f s =
    ap (λ (o : Option Clause). option_and_then (chain a s.rest) (cond (eqb (length s.rest) 0) None o)) (f s.first.0)
    ∙ then-same (chain a s.rest) (chain b s.rest) (chain-along a b f s.rest) (cond (eqb (length s.rest) 0) None (b s.first.0))
  where
    then-same : (f g : Clause → Option Clause) → ((c : Clause) → f c ≡ g c) → (o : Option Clause) → option_and_then f o ≡ option_and_then g o
    then-same f g e None = refl
    then-same f g e (Some c) = e c

-- the book once a step's result is entered
pub enter-more : (arena : Clauses) (log : List Step) (book : Clauses) (k : ℕ) (x : ClauseId) (o : Option Clause) → k < length log → x.0 < length book → ((d : Step) → x ≡ (get_or log k d).derived) → ((d : Step) → o ≡ result_of (clause_at book) (get_or log k d))
    → ((id : ℕ) → clause_at book id ≡ book_before arena log k id) → (id : ℕ) → clause_at (set book x.0 o) id ≡ book_before arena log (k + 1) id
enter-more arena log book k x o l m e q f id =
    let d = bare x in
    let s : Step = get_or log k d in
    let t : book_before arena log (k + 1) id ≡ enter (book_before arena log k) s id = enter_all-more log (input arena log) k d id l in
    elim (cases_Bool (eqb s.derived.0 id)) [
      | inl u ↦
          let w : x.0 ≡ id = ap (λ (y : ClauseId). y.0) (e d) ∙ eqb-true _ _ u in
          subst (λ (i : ℕ). get_or (set book x.0 o) i None ≡ o) w (get_or-set_same book x.0 o None m)
          ∙ q d ∙ result-along (clause_at book) (book_before arena log k) f s
          ∙ sym (t ∙ cond-true _ _ _ u)
      | inr u ↦
          get_or-set_other book x.0 id o None (λ w. eqb-false _ _ u (ap (λ (y : ClauseId). y.0) (sym (e d)) ∙ sym w))
          ∙ f id ∙ sym (t ∙ cond-false _ _ _ u)
    ]

pub derived-in : (arena : Clauses) (log : List Step) (book : Clauses) (k : ℕ) (x : ClauseId) → IsSound arena log → length book ≡ length arena → k < length log → ((d : Step) → x ≡ (get_or log k d).derived) → x.0 < length book
derived-in arena log book k x f n l e =
    let d = bare x in
    let m : (get_or log k d).derived.0 < length arena = (f k d l).1 in
    let q : x.0 ≡ (get_or log k d).derived.0 = ap (λ (y : ClauseId). y.0) (e d) in omega arith

eq-some : (o : Option Clause) (r : Clause) → o ≡ Some r → o ≡ Some [] → r ≡ []
eq-some o r e h = Some-same _ _ (sym e ∙ h)

nil-length : {X : Type 0} (xs : List X) → eqb (length xs) 0 ≡ true → xs ≡ []
nil-length [] h = refl
nil-length (x ∷ xs) h = absurd (let e : length (x ∷ xs) ≡ 0 = eqb-true _ _ h in omega arith)

-- whether the last result is empty, from that result
pub last-empty : (arena : Clauses) (log : List Step) (k : ℕ) (r : Clause) (b : Bool) → 0 < length log → k ≡ length log - 1 → ((d : Step) → Some r ≡ result_of (book_before arena log k) (get_or log k d)) → b ≡ eqb (length r) 0 → IsTrue b ↔ EndsEmpty arena log
last-empty arena [] k r b l e f h = absurd (omega arith)
last-empty arena (s ∷ ss) k r b l e f h =
    let n : k ≡ length ss = omega arith in
    let g : (d : Step) → Some r ≡ result_of (book_before arena (s ∷ ss) (length ss)) (get_or (s ∷ ss) (length ss) d) = λ (d : Step).
    subst (λ (i : ℕ). Some r ≡ result_of (book_before arena (s ∷ ss) i) (get_or (s ∷ ss) i d)) n (f d) in (
      λ t d. sym (g d) ∙ ap (λ (c : Clause). Some c) (nil-length r (sym h ∙ t)),
      λ u. h ∙ eq-eqb _ _ (ap length (Some-same r [] (g s ∙ u s))),
    )

-- the last step of a sound log has a result
pub last-some : (arena : Clauses) (log : List Step) (k : ℕ) (d : Step) → IsSound arena log → k < length log → result_of (book_before arena log k) (get_or log k d) ≡ None → ⊥
last-some arena log k d f l e = at (result_of (book_before arena log k) (get_or log k d)) _ (f k d l).2 e
  where
    at : (o : Option Clause) (P : Clause → Type 0) → IsSomeAnd o P → o ≡ None → ⊥
    at None P h e = h
    at (Some c) P h e = cc
