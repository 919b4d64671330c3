-- Facts on each live clause, along lists of clauses.
use Rattle.std.proofs.Common.{◌≡◌, suc, zero, false, ◌==◌, [], ◌∷◌, ◌++◌, Option, Some, None}
use Rattle.std.specs.List.{IsDistinct, AllByRecursion}
use Rattle.std.specs.Option.{ForSome}
use Rattle.std.proofs.lemmas.Bool.{and_left}
use Rattle.clause_arena.specs.declared.Lit.{Lit}
use Rattle.clause_arena.specs.Clause.{Clause, Clauses, EachClause, IsEachOnce, IsEachVariableOnce, lit_eq}

None-Some : (c : Clause) → None ≡ Some c → ⊥
None-Some c e = cc

pub EachClause-none : (P : Clause → Type 0) → EachClause P []
EachClause-none P id c e = absurd (None-Some c e)

pub EachClause-cons : (P : Clause → Type 0) (o : Option Clause) (cs : Clauses) → ForSome o P → EachClause P cs → EachClause P (o ∷ cs)
EachClause-cons P o cs h hs zero c e = h c e
EachClause-cons P o cs h hs (suc id) c e = hs id c e

pub EachClause-append : (P : Clause → Type 0) (cs ds : Clauses) → EachClause P cs → EachClause P ds → EachClause P (cs ++ ds)
EachClause-append P [] ds hs gs = gs
EachClause-append P (o ∷ cs) ds hs gs = EachClause-cons P o (cs ++ ds) (hs zero) (EachClause-append P cs ds (λ id. hs (suc id)) gs)

pub EachClause-left : (P : Clause → Type 0) (cs ds : Clauses) → EachClause P (cs ++ ds) → EachClause P cs
EachClause-left P [] ds h = EachClause-none P
EachClause-left P (o ∷ cs) ds h = EachClause-cons P o cs (h zero) (EachClause-left P cs ds (λ id. h (suc id)))

pub EachClause-right : (P : Clause → Type 0) (cs ds : Clauses) → EachClause P (cs ++ ds) → EachClause P ds
EachClause-right P [] ds h = h
EachClause-right P (o ∷ cs) ds h = EachClause-right P cs ds (λ id. h (suc id))

apart : (x : Lit) (c : Clause) → AllByRecursion (λ y. (x.var == y.var) ≡ false) c → AllByRecursion (λ y. lit_eq x y ≡ false) c
apart x [] h = tt
apart x (y ∷ ys) h = (and_left _ _ h.0, apart x ys h.1)

-- where no variable stands twice, no literal does
pub IsEachOnce-from_variables : (c : Clause) → IsEachVariableOnce c → IsEachOnce c
unfolding IsDistinct
IsEachOnce-from_variables [] h = tt
IsEachOnce-from_variables (x ∷ xs) h = (apart x xs h.0, IsEachOnce-from_variables xs h.1)
