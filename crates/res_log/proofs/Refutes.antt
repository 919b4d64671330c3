-- Values that satisfy the inputs satisfy each result.
use Rattle.std.proofs.Common.{◌≡◌, ℕ, Bool, true, false, not, ◌&&◌, inl, inr, List, [], ◌∷◌, ◌++◌, length, take, Option, Some, None, cond, refl, sym, ◌∙◌, subst, eqb, get_or}
use Rattle.std.specs.Option.{option_and_then, ForSome}
use Rattle.std.proofs.lemmas.Bool.{and_parts, cases_Bool, cond-true, cond-false}
use Rattle.clause_arena.specs.Clause.{Clause, resolve, satisfies, clash, is_tautology, without}
use Rattle.clause_arena.proofs.Sets.{satisfies-resolvent}
use Rattle.res_log.specs.declared.ChainStep.{ChainStep}
use Rattle.res_log.specs.Step.{Step}
use Rattle.res_log.specs.Log.{Book, chain, result_of, input, enter, enter_all, RefutationLaw}

-- the values satisfy each clause of the book
abbrev Satisfies : (ℕ → Bool) → Book → Type 0
Satisfies a book = (id : ℕ) → ForSome (book id) (λ c. satisfies a c ≡ true)

pub and_then-Some : {T U : Type 0} (f : T → Option U) (o : Option T) (r : U) → option_and_then f o ≡ Some r → (x : T) × (o ≡ Some x) × (f x ≡ Some r)
and_then-Some f None r h = cc
and_then-Some f (Some x) r h = (x, refl, h)

pub when_Some : {T : Type 0} (b : Bool) (o : Option T) (r : T) → cond b o None ≡ Some r → (b ≡ true) × (o ≡ Some r)
when_Some true o r h = (refl, h)
when_Some false o r h = cc

pub unless_Some : {T : Type 0} (b : Bool) (o : Option T) (r : T) → cond b None o ≡ Some r → (b ≡ false) × (o ≡ Some r)
unless_Some true o r h = cc
unless_Some false o r h = (refl, h)

pub Some-same : {T : Type 0} (x y : T) → Some x ≡ Some y → x ≡ y
Some-same x y h = cc

satisfies-resolve : (a : ℕ → Bool) (c d : Clause) (v : ℕ) (r : Clause) → resolve c d v ≡ Some r → satisfies a c ≡ true → satisfies a d ≡ true → satisfies a r ≡ true
satisfies-resolve a c d v r e h g =
    let p = when_Some (clash c d v && not (is_tautology (without v c ++ without v d))) (Some (without v c ++ without v d)) r e in
    let q = and_parts _ _ p.0 in
    subst (λ (x : Clause). satisfies a x ≡ true) (Some-same _ _ p.1) (satisfies-resolvent a c d v q.0 h g)

satisfies-chain : (a : ℕ → Bool) (book : Book) → Satisfies a book → (xs : List ChainStep) (c r : Clause) → satisfies a c ≡ true → chain book xs c ≡ Some r → satisfies a r ≡ true
satisfies-chain a book f [] c r h e = subst (λ (x : Clause). satisfies a x ≡ true) (Some-same _ _ e) h
satisfies-chain a book f (x ∷ xs) c r h e =
    let p = and_then-Some (λ d. option_and_then (chain book xs) (resolve c d x.pivot)) (book x.clause.0) r e in
    let q = and_then-Some (chain book xs) (resolve c p.0 x.pivot) r p.2 in
    satisfies-chain a book f xs q.0 r (satisfies-resolve a c p.0 x.pivot q.0 q.1 h (f x.clause.0 p.0 p.1)) q.2

satisfies-result : (a : ℕ → Bool) (book : Book) → Satisfies a book → (s : Step) (r : Clause) → result_of book s ≡ Some r → satisfies a r ≡ true
satisfies-result a book f s r e =
    let p = and_then-Some (chain book s.rest) (cond (eqb (length s.rest) 0) None (book s.first.0)) r e in
    let q = unless_Some (eqb (length s.rest) 0) (book s.first.0) p.0 p.1 in
    satisfies-chain a book f s.rest p.0 r (f s.first.0 p.0 q.1) p.2

satisfies-enter : (a : ℕ → Bool) (book : Book) → Satisfies a book → (s : Step) → Satisfies a (enter book s)
satisfies-enter a book f s id c e =
    elim (cases_Bool (eqb s.derived.0 id)) [
      | inl t ↦ satisfies-result a book f s c (sym (cond-true _ _ _ t) ∙ e)
      | inr t ↦ f id c (sym (cond-false _ _ _ t) ∙ e)
    ]

satisfies-all : (a : ℕ → Bool) (ss : List Step) (book : Book) → Satisfies a book → Satisfies a (enter_all book ss)
satisfies-all a [] book f = f
satisfies-all a (s ∷ ss) book f = satisfies-all a ss (enter book s) (satisfies-enter a book f s)

pub refutation_law : RefutationLaw
refutation_law arena [] sound e a f = f e.0 [] e.1
refutation_law arena (s ∷ ss) sound e a f =
    satisfies-result a _ (satisfies-all a (take (length ss) (s ∷ ss)) (input arena (s ∷ ss)) f) (get_or (s ∷ ss) (length ss) s) [] (e s)
