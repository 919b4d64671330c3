-- Partway through lists.
use Rattle.std.specs.Prelude.{◌≡◌, ℕ, List, ◌++◌, length, drop}
use Rattle.c_tree.specs.declared.expressions.Expression.{Expression}
use Rattle.joint_ir.specs.declared.ctype.IntType.{IntType}
use Rattle.joint_ir.specs.declared.expr.TExpr.{TExpr}
use Rattle.c_tree.specs.declared.statements.Label.{Label}
use Rattle.joint_ir.specs.declared.stmt.Label.{Label as TLabel}
use Rattle.c_constants.specs.Constants.{told}
use Rattle.c_statements.specs.Switches.{labels_typed, labels_offences}
use Rattle.c_words.specs.declared.notes.Notes.{Notes}
use Rattle.c_words.specs.Notes.{noted}
use Rattle.c_names.specs.Scope.{Scope}
use Rattle.c_statements.specs.Calls.{args_typed, args_offences, args_sites}
use Rattle.c_statements.specs.Arrays.{elements_typed}

-- after some arguments: what is left to do, from what is done
pub record ArgsSoFar (env : List Scope) (old now : Notes) (params : List IntType) (args : List Expression) (i : ℕ) (done : List TExpr) : Type 0 where
  pub typed_so : args_typed env (length old.sites) params 0 args ≡ done ++ args_typed env (length now.sites) params i (drop i args)
  pub notes_so : noted old (args_offences env args) (args_sites env args) ≡ noted now (args_offences env (drop i args)) (args_sites env (drop i args))

-- after some elements of an array
pub record ElementsSoFar (env : List Scope) (old now : Notes) (t : IntType) (es : List Expression) (i : ℕ) (done : List TExpr) : Type 0 where
  pub typed_so : elements_typed env (length old.sites) t es ≡ done ++ elements_typed env (length now.sites) t (drop i es)
  pub notes_so : noted old (args_offences env es) (args_sites env es) ≡ noted now (args_offences env (drop i es)) (args_sites env (drop i es))

-- after some labels of a switch
pub record LabelsSoFar (env : List Scope) (old now : Notes) (t : IntType) (ls : List Label) (i : ℕ) (before seen done : List TLabel) : Type 0 where
  pub typed_so : labels_typed t ls ≡ done ++ labels_typed t (drop i ls)
  pub seen_so : seen ≡ before ++ done
  pub notes_so : told old (labels_offences env t before ls) ≡ told now (labels_offences env t seen (drop i ls))
