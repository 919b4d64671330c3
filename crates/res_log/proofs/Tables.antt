-- The table of origins, step by step.
use Rattle.std.proofs.Common.{inl, inr, ◌≡◌, ℕ, ◌+◌, ◌<◌, Bool, true, false, not, ◌||◌, List, [], ◌∷◌, length, take, set, get_or, Option, Some, None, eqb, cond, refl, sym, ◌∙◌, ap, subst, arith}
use Rattle.std.specs.Option.{option_and_then}
use Rattle.std.proofs.lemmas.Bool.{cases_Bool, cases_lt, cond-true, or_right, eqb-true, eqb-false}
use Rattle.std.proofs.lemmas.List.{get_or-set_same, get_or-set_other, get_or_past, length-set}
use Rattle.std.proofs.lemmas.List.Folds.{list_any_more}
use Rattle.clause_arena.specs.declared.ClauseId.{ClauseId}
use Rattle.clause_arena.specs.Clause.{Clause, Clauses, clause_at, resolve}
use Rattle.res_log.specs.declared.ChainStep.{ChainStep}
use Rattle.res_log.specs.declared.origins.Origin.{Origin}
use Rattle.res_log.specs.declared.origins.Origin.TheVariants.{Input, Later, Derived}
use Rattle.res_log.specs.Step.{Step}
use Rattle.res_log.specs.Log.{Book, derives, chain}
use Rattle.res_log.specs.Shelf.{is_known, shelf}
use Rattle.res_log.specs.Origins.{IsTable, is_reached, is_derived, book_of}
use Rattle.res_log.proofs.Steps.{bare}

derives-next : (log : List Step) (j : ℕ) (x : ClauseId) → j < length log → ((s : Step) → x ≡ (get_or log j s).derived) → (id : ℕ) → derives (take (j + 1) log) id ≡ (derives (take j log) id || eqb x.0 id)
derives-next log j x l e id =
    list_any_more (λ s. eqb s.derived.0 id) log j (bare x) l ∙ ap (λ (y : ClauseId). derives (take j log) id || eqb y.0 id) (sym (e (bare x)))

or_false : (b : Bool) → (b || false) ≡ b
or_false true = refl
or_false false = refl

-- the origins once one more id has its origin
pub set-more : (log : List Step) (old now : List Origin) (j : ℕ) (o : Origin) (x : ClauseId) → j < length log → ((s : Step) → x ≡ (get_or log j s).derived) → length now ≡ length old
    → ((id : ℕ) → id < length old → get_or now id Input ≡ cond (derives (take j log) id) o (get_or old id Input))
    → (id : ℕ) → id < length old → get_or (set now x.0 o) id Input ≡ cond (derives (take (j + 1) log) id) o (get_or old id Input)
set-more log old now j o x l e n f id m =
    let t = derives-next log j x l e id in
    elim (cases_Bool (eqb x.0 id)) [
      | inl u ↦
          let q : x.0 ≡ id = eqb-true _ _ u in
          let w : x.0 < length now = omega arith in
          subst (λ (i : ℕ). get_or (set now x.0 o) i Input ≡ o) q (get_or-set_same now x.0 o Input w)
          ∙ sym (cond-true _ _ _ (t ∙ or_right _ _ u))
      | inr u ↦
          get_or-set_other now x.0 id o Input (λ q. eqb-false _ _ u (sym q))
          ∙ f id m ∙ ap (λ (b : Bool). cond b o (get_or old id Input)) (sym (t ∙ ap (λ (b : Bool). derives (take j log) id || b) u ∙ or_false (derives (take j log) id)))
    ]

pub table-more : (log : List Step) (now : List Origin) (k : ℕ) (x : ClauseId) → k < length log → ((s : Step) → x ≡ (get_or log k s).derived) → IsTable log k now → IsTable log (k + 1) (set now x.0 Derived)
table-more log now k x l e f id m =
    let n : id < length now = subst (λ (i : ℕ). id < i) (length-set now x.0 Derived) m in
    let t = derives-next log k x l e id in
    elim (cases_Bool (eqb x.0 id)) [
      | inl u ↦
          let q : x.0 ≡ id = eqb-true _ _ u in
          let w : x.0 < length now = omega arith in
          subst (λ (i : ℕ). get_or (set now x.0 Derived) i Input ≡ Derived) q (get_or-set_same now x.0 Derived Input w)
          ∙ sym (cond-true _ _ _ (t ∙ or_right _ _ u))
      | inr u ↦
          get_or-set_other now x.0 id Derived Input (λ q. eqb-false _ _ u (sym q))
          ∙ f id n ∙ ap (λ (b : Bool). cond b Derived (cond (derives log id) Later Input)) (sym (t ∙ ap (λ (b : Bool). derives (take k log) id || b) u ∙ or_false (derives (take k log) id)))
    ]

reached-at : (a b : Bool) → is_reached (cond a Derived (cond b Later Input)) ≡ (a || not b)
reached-at true b = refl
reached-at false true = refl
reached-at false false = refl

derived-at : (a b : Bool) → is_derived (cond a Derived (cond b Later Input)) ≡ a
derived-at true b = refl
derived-at false true = refl
derived-at false false = refl

pub derived-before : (log : List Step) (table : List Origin) (k id : ℕ) → IsTable log k table → id < length table → is_derived (get_or table id Input) ≡ derives (take k log) id
derived-before log table k id f l = ap is_derived (f id l) ∙ derived-at (derives (take k log) id) (derives log id)

both : (b : Bool) (o : Option Clause) → cond b o o ≡ o
both true o = refl
both false o = refl

-- the book by the table is the shelf
pub book-shelf : (arena : Clauses) (log : List Step) (table : List Origin) (k : ℕ) → IsTable log k table → length table ≡ length arena → (id : ℕ) → book_of arena table id ≡ shelf arena log k id
book-shelf arena log table k f n id =
    elim (cases_lt id (length table)) [
      | inl l ↦ ap (λ (o : Origin). cond (is_reached o) (clause_at arena id) None) (f id l) ∙ ap (λ (b : Bool). cond b (clause_at arena id) None) (reached-at (derives (take k log) id) (derives log id))
      | inr l ↦
          let e : clause_at arena id ≡ None = get_or_past arena id None (omega arith) in
          ap (λ (o : Option Clause). cond (is_reached (get_or table id Input)) o None) e ∙ both (is_reached (get_or table id Input)) None
          ∙ sym (ap (λ (o : Option Clause). cond (is_known log k id) o None) e ∙ both (is_known log k id) None)
    ]

then-along : (f g : Clause → Option Clause) → ((d : Clause) → f d ≡ g d) → (o : Option Clause) → option_and_then f o ≡ option_and_then g o
then-along f g e None = refl
then-along f g e (Some d) = e d

-- books that agree give the same results
pub chain-along : (a b : Book) → ((id : ℕ) → a id ≡ b id) → (xs : List ChainStep) (c : Clause) → chain a xs c ≡ chain b xs c
chain-along a b f [] c = refl
chain-along a b f (x ∷ xs) c =
    ap (λ (o : Option Clause). option_and_then (λ d. option_and_then (chain a xs) (resolve c d x.pivot)) o) (f x.clause.0)
    ∙ then-along (λ d. option_and_then (chain a xs) (resolve c d x.pivot)) (λ d. option_and_then (chain b xs) (resolve c d x.pivot)) (λ d. then-along (chain a xs) (chain b xs) (chain-along a b f xs) (resolve c d x.pivot)) (b x.clause.0)
