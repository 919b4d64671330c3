-- What a step of the typer does.
use Rattle.std.specs.Prelude.{◌≡◌, ℕ, List, [], length}
use Rattle.src_text.specs.declared.refusal.Place.{Place}
use Rattle.c_tree.specs.declared.expressions.Expression.{Expression}
use Rattle.c_tree.specs.declared.expressions.Path.{Path}
use Rattle.joint_ir.specs.declared.expr.TExpr.{TExpr}
use Rattle.c_words.specs.declared.notes.Notes.{Notes}
use Rattle.c_words.specs.Notes.{noted}
use Rattle.c_words.specs.Literals.{literal_of}
use Rattle.c_names.specs.Scope.{Scope}
use Rattle.c_expressions.specs.Expressions.{typed_of, offences_in, sites_in, path_typed, path_offences, path_sites, constant_typed, type_or_int, literal_offences}

-- an expression is typed, and what is in it is noted
pub record IsTyped (env : List Scope) (old new : Notes) (e : Expression) (t : TExpr) : Type 0 where
  pub typed : t ≡ typed_of env (length old.sites) e
  pub notes : new ≡ noted old (offences_in env e) (sites_in env e)

-- the typed tree of a name or an element, and the offences and properties that come with it
pub record IsPathTyped (env : List Scope) (old new : Notes) (x : Path) (t : TExpr) : Type 0 where
  pub typed : t ≡ path_typed env (length old.sites) x
  pub notes : new ≡ noted old (path_offences env x) (path_sites env x)

-- the typed tree of an integer constant, and its offence if no type holds it
pub record IsInteger (old new : Notes) (p : Place) (spelled : List ℕ) (t : TExpr) : Type 0 where
  pub typed : t ≡ constant_typed p (type_or_int (literal_of spelled).ty) (literal_of spelled).value
  pub notes : new ≡ noted old (literal_offences p (literal_of spelled).ty) []
