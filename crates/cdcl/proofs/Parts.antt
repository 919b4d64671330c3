-- What stands in an option.
use Rattle.std.proofs.Common.{◌≡◌, ◌<◌, true, [], ◌∷◌, length, arith, Option, Some, None, refl, sym, subst}
use Rattle.std.specs.Option.{IsSomeAnd, is_some}
use Rattle.std.proofs.lemmas.Bool.{false≢true}
use Rattle.clause_arena.specs.Clause.{Clause, is_same}
use Rattle.res_log.specs.Partial.{is_open}
use Rattle.res_log.proofs.Same.{SameOption}

pub some-parts : (o : Option Clause) (P : Clause → Type 0) → IsSomeAnd o P → (q : Clause) × (o ≡ Some q) × P q
some-parts None P h = absurd h
some-parts (Some q) P h = (q, refl, h)

pub some-and : (o : Option Clause) (P : Clause → Type 0) (q : Clause) → o ≡ Some q → P q → IsSomeAnd o P
some-and o P q e h = subst (λ (x : Option Clause). IsSomeAnd x P) (sym e) h

pub Some-is : {T : Type 0} (x y : T) → Some x ≡ Some y → x ≡ y
Some-is x y h = cc

pub Some-None : {T : Type 0} (x : T) → Some x ≡ None → ⊥
Some-None x h = cc

pub same-some : (o q : Option Clause) (c : Clause) → SameOption o q → o ≡ Some c → (r : Clause) × (q ≡ Some r) × (is_same c r ≡ true)
same-some None None c s e = absurd (Some-None c (sym e))
same-some None (Some y) c s e = absurd s
same-some (Some x) None c s e = absurd s
same-some (Some x) (Some y) c s e = (y, refl, subst (λ (z : Clause). is_same z y ≡ true) (Some-is x c e) s)

-- the clause of which a fact holds
pub holds-of : (o : Option Clause) (P : Clause → Type 0) (c : Clause) → IsSomeAnd o P → o ≡ Some c → P c
holds-of None P c h e = absurd h
holds-of (Some d) P c h e = subst P (Some-is d c e) h

pub is-live : (o : Option Clause) (P : Clause → Type 0) → IsSomeAnd o P → is_some o ≡ true
is-live None P h = absurd h
is-live (Some c) P h = refl

pub open-some : (c : Clause) → is_open c ≡ true → 0 < length c
open-some [] h = absurd (false≢true h)
open-some (x ∷ xs) h = omega arith
