-- Steps of a typer, one after another.
use Rattle.std.proofs.Common.{List, [], ◌++◌, subst, append-nil}
use Rattle.offence_order.specs.declared.Offence.{Offence}
use Rattle.c_statements.specs.declared.walk.Typer.{Typer}
use Rattle.c_statements.specs.Known.{Known}
use Rattle.c_statements.specs.Moves.{known_of, Goes}
use Rattle.c_statements.proofs.Walking.{goes_then}

-- a step whose offences and knowledge are those of what is known before it
pub goes_next : (a b c : Typer) (o : List Offence) (k : Known) (f : Known → List Offence) (g : Known → Known) → Goes a b o k → Goes b c (f (known_of b)) (g (known_of b)) → Goes a c (o ++ f k) (g k)
goes_next a b c o k f g h i = goes_then a b c o (f k) k (g k) h (subst (λ q. Goes b c (f q) (g q)) h.known i)

-- a step without offences
pub goes_on : (a b c : Typer) (o : List Offence) (k : Known) (g : Known → Known) → Goes a b o k → Goes b c [] (g (known_of b)) → Goes a c o (g k)
goes_on a b c o k g h i = subst (λ z. Goes a c z (g k)) (append-nil o) (goes_next a b c o k (λ q. []) g h i)

-- a step that notes something and changes nothing that is known
pub goes_note : (a b c : Typer) (o o' : List Offence) (k : Known) → Goes a b o k → Goes b c o' (known_of b) → Goes a c (o ++ o') k
goes_note a b c o o' k h i = goes_next a b c o k (λ q. o') (λ q. q) h i
