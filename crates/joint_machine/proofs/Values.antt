-- What an expression needs of a machine.
use Rattle.std.proofs.Common.{◌≡◌, ℕ, ◌<◌, ◌^◌, sym, ap, subst, ◌∙◌, rules}
use Rattle.joint_ir.specs.declared.ctype.IntType.{IntType}
use Rattle.joint_ir.specs.declared.stmt.TUpdate.{TUpdate}
use Rattle.joint_ir.specs.declared.expr.TExpr.{TExpr}
use Rattle.joint_ir.specs.declared.pair.Pair.{Pair}
use Rattle.std.specs.Prelude.{Result, Ok, Err, IfOk, ℤ, Option, Some, None}
use Rattle.joint_ir.specs.declared.program.PropId.{PropId}
use Rattle.joint_ir.specs.Types.{InRange, IsType}
use Rattle.joint_ir.specs.Values.{value_of, Rows}
use Rattle.joint_value.specs.Answers.{answer_of, IsSmall}
use Rattle.joint_value.proofs.Ranges.{value_in_range, binary_type, expr_type}
use Rattle.joint_value.proofs.Numbers.{small_of}
use Rattle.joint_view.specs.declared.halt.Halt.{Halt}
use Rattle.joint_ir.specs.States.{rows_of}
use Rattle.joint_ir.specs.WellFormed.{Scope, FitsExpr, FitsOption, FitsUpdate, IsWellFormed, right_type}
use Rattle.joint_value.specs.Evaluable.{HoldsTypes, IsEvaluable}
use Rattle.joint_value.proofs.Stores.{holds_from_kept}
use Rattle.joint_machine.specs.declared.machine.Machine.{Machine}
use Rattle.joint_machine.specs.Moments.{IsReady, Stands}

pub holds_at : (p : Pair) (frames : ℕ) (m : Machine) (here : ℕ) (fits : Scope → Type 0) (s : Stands p here fits) → IsWellFormed p → frames < 2 ^ 32 → IsReady p m →
    HoldsTypes s.scope.program (rows_of frames m.store)
holds_at p frames m here fits s w f r =
    subst (λ q. HoldsTypes q (rows_of frames m.store)) (sym s.program) (holds_from_kept p.program frames m.store w.program f r.held)

pub evaluable : (p : Pair) (frames : ℕ) (m : Machine) (here : ℕ) (e : TExpr) → Stands p here (λ c. FitsExpr c e) → IsWellFormed p → frames < 2 ^ 32 → IsReady p m →
    IsEvaluable (rows_of frames m.store) e
evaluable p frames m here e s w f r = record { scope = s.scope; fits = s.holds; held = holds_at p frames m here (λ c. FitsExpr c e) s w f r }

-- the value of an expression that was found is of its type
pub found_in : (p : Pair) (frames : ℕ) (m : Machine) (here : ℕ) (e : TExpr) (a : Result ℤ PropId) (h : Result ℤ Halt) →
    Stands p here (λ c. FitsExpr c e) → IsWellFormed p → frames < 2 ^ 32 → IsReady p m →
    answer_of a ≡ value_of (rows_of frames m.store) e → IfOk h (λ n. a ≡ Ok n) → IfOk h (InRange e.ty)
found_in p frames m here e a (Err x) s w f r is ok = ok
found_in p frames m here e a (Ok n) s w f r is ok =
    value_in_range (rows_of frames m.store) e n (evaluable p frames m here e s w f r) (sym (ap answer_of ok) ∙ is)

-- the types of an update
pub update_typed : (c : Scope) (u : TUpdate) → FitsUpdate c u → IsType u.ty
update_typed c u f = binary_type c.program u.op u.ty u.ty (right_type u.ty u.right) u.division u.other f.operator

pub right_typed : (c : Scope) (rows : Rows) (held : HoldsTypes c.program rows) (t : IntType) (o : Option TExpr) → IsType t → FitsOption c o → IsType (right_type t o)
right_typed c rows held t None i f = i
right_typed c rows held t (Some e) i f = expr_type c rows held e f

pub right_small : (p : Pair) (m : Machine) (here : ℕ) (u : TUpdate) (y : ℤ) → (s : Stands p here (λ c. FitsUpdate c u)) → IsWellFormed p → IsReady p m →
    InRange (right_type u.ty u.right) y → IsSmall y
right_small p m here u y s w r range =
    small_of (right_type u.ty u.right) y
    (right_typed s.scope (rows_of 0 m.store) (holds_at p 0 m here (λ c. FitsUpdate c u) s w (search rules) r) u.ty u.right (update_typed s.scope u s.holds) s.holds.right)
    range
