-- What a step of the typer does.
use Rattle.std.specs.Prelude.{◌≡◌, List, [], ◌++◌, length, Option}
use Rattle.src_text.specs.declared.refusal.Place.{Place}
use Rattle.c_tree.specs.declared.declarations.Initializer.{Initializer}
use Rattle.c_tree.specs.declared.expressions.AssignmentMark.{AssignmentMark}
use Rattle.c_tree.specs.declared.expressions.Call.{Call}
use Rattle.c_tree.specs.declared.expressions.StepMark.{StepMark}
use Rattle.c_tree.specs.declared.expressions.Expression.{Expression}
use Rattle.c_tree.specs.declared.statements.Simple.{Simple}
use Rattle.joint_ir.specs.declared.ctype.IntType.{IntType}
use Rattle.joint_ir.specs.declared.expr.BinaryOp.{BinaryOp}
use Rattle.joint_ir.specs.declared.expr.TExpr.{TExpr}
use Rattle.joint_ir.specs.declared.stmt.TUpdate.{TUpdate}
use Rattle.joint_ir.specs.declared.stmt.SNode.{SNode}
use Rattle.joint_ir.specs.declared.stmt.TInit.{TInit}
use Rattle.c_tree.specs.declared.expressions.Path.{Path}
use Rattle.c_tree.specs.declared.statements.Label.{Label}
use Rattle.joint_ir.specs.declared.stmt.Label.{Label as TLabel}
use Rattle.c_words.specs.declared.notes.Notes.{Notes}
use Rattle.c_words.specs.Notes.{noted}
use Rattle.c_names.specs.Scope.{Scope}
use Rattle.c_statements.specs.declared.calls.Signature.{Signature}
use Rattle.c_expressions.specs.Expressions.{path_type, path_sites, offences_in, operator_sites}
use Rattle.c_statements.specs.declared.simple.Aim.{Aim}
use Rattle.c_statements.specs.Simple.{target_typed, target_offences, updated, update_typed, update_sites, stepped_typed, stepped_sites, simple_typed, simple_offences, simple_sites}
use Rattle.c_constants.specs.declared.Constant.{Constant}
use Rattle.c_constants.specs.Constants.{constant_of, told}
use Rattle.c_statements.specs.Arrays.{elements_typed, array_offences}
use Rattle.c_statements.specs.Switches.{label_typed, label_offences, labels_typed, labels_offences, listed}
use Rattle.c_statements.specs.Calls.{args_typed, args_offences, args_sites, call_args, call_offences, init_typed, init_offences, init_sites}

-- the typed arguments, and the offences and properties that come with them
pub record AreArgs (env : List Scope) (old new : Notes) (params : List IntType) (args : List Expression) (ts : List TExpr) : Type 0 where
  pub typed : ts ≡ args_typed env (length old.sites) params 0 args
  pub notes : new ≡ noted old (args_offences env args) (args_sites env args)

-- the typed arguments of a call, and the offences and properties that come with it
pub record IsCall (fns : List Signature) (env : List Scope) (old new : Notes) (call : Call) (ts : List TExpr) : Type 0 where
  pub typed : ts ≡ call_args fns env (length old.sites) call
  pub notes : new ≡ noted old (call_offences fns env call) (args_sites env call.arguments)

-- the typed value, and the offences and properties that come with it
pub record IsInit (fns : List Signature) (env : List Scope) (old new : Notes) (t : IntType) (i : Initializer) (x : TInit) : Type 0 where
  pub typed : x ≡ init_typed fns env (length old.sites) t i
  pub notes : new ≡ noted old (init_offences fns env i) (init_sites env i)

-- the typed left side of an assignment and its type, and the offences and properties that come with it
pub record IsAim (env : List Scope) (old new : Notes) (x : Path) (a : Aim) : Type 0 where
  pub target : a.target ≡ target_typed env (length old.sites) x
  pub ty : a.ty ≡ path_type env x
  pub notes : new ≡ noted old (target_offences env x) (path_sites env x)

-- the typed assignment, step or call, and the offences and properties that come with it
pub record IsSimple (fns : List Signature) (env : List Scope) (old new : Notes) (s : Simple) (n : SNode) : Type 0 where
  pub typed : n ≡ simple_typed fns env (length old.sites) s
  pub notes : new ≡ noted old (simple_offences fns env s) (simple_sites env s)

-- the operator of an update, and its properties
pub record IsUpdated (old new : Notes) (op : BinaryOp) (t : IntType) (right : Option TExpr) (p : Place) (u : TUpdate) : Type 0 where
  pub typed : u ≡ updated (length old.sites) op t right p
  pub notes : new ≡ noted old [] (operator_sites op t.signed p)

-- the typed `op=`, and the offences and properties that come with it
pub record IsUpdate (env : List Scope) (old new : Notes) (x : Path) (mark : AssignmentMark) (e : Expression) (n : SNode) : Type 0 where
  pub typed : n ≡ update_typed env (length old.sites) x mark e
  pub notes : new ≡ noted old (target_offences env x ++ offences_in env e) (update_sites env x mark e)

-- the typed `++` or `--`, and the offences and properties that come with it
pub record IsStep (env : List Scope) (old new : Notes) (x : Path) (mark : StepMark) (n : SNode) : Type 0 where
  pub typed : n ≡ stepped_typed env (length old.sites) x mark
  pub notes : new ≡ noted old (target_offences env x) (stepped_sites env x mark)

-- the typed values of an array's elements, and the offences and properties that come with them
pub record AreElements (env : List Scope) (old new : Notes) (t : IntType) (es : List Expression) (ts : List TExpr) : Type 0 where
  pub typed : ts ≡ elements_typed env (length old.sites) t es
  pub notes : new ≡ noted old (args_offences env es) (args_sites env es)

-- the length of an array, by an expression
pub record IsLength (env : List Scope) (old new : Notes) (e : Expression) (c : Constant) : Type 0 where
  pub value : c ≡ constant_of e
  pub notes : new ≡ told old (array_offences env e)

-- a label of a switch, and what stood before it
pub record IsLabel (env : List Scope) (old new : Notes) (t : IntType) (l : Label) (before : List TLabel) (found : Option TLabel) : Type 0 where
  pub value : listed found ≡ label_typed t l
  pub notes : new ≡ told old (label_offences env t before l)

-- the typed labels, those seen behind them, and the offences that come with them
pub record AreLabels (env : List Scope) (old new : Notes) (t : IntType) (ls : List Label) (before after typed : List TLabel) : Type 0 where
  pub values : typed ≡ labels_typed t ls
  pub seen : after ≡ before ++ labels_typed t ls
  pub notes : new ≡ told old (labels_offences env t before ls)
