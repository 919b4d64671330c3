-- Assignments, updates and calls that stand alone (C99 6.5.16, 6.5.2.4, 6.5.3.1).
use Rattle.std.specs.Prelude.{ℕ, ◌+◌, List, [], ◌∷◌, ◌++◌, length, Option, Some, None, true, false, if◌then◌else◌}
use Rattle.src_text.specs.declared.refusal.Place.{Place}
use Rattle.src_text.specs.declared.kind.Kind.TheVariants.{CUnknownName, CNotAssignable}
use Rattle.c_tree.specs.declared.expressions.AssignmentMark.{AssignmentMark}
use Rattle.c_tree.specs.declared.expressions.Expression.{Expression}
use Rattle.c_tree.specs.declared.expressions.StepMark.{StepMark}
use Rattle.c_tree.specs.declared.expressions.StepOperator.{StepOperator}
use Rattle.c_tree.specs.declared.expressions.StepOperator.TheVariants as steps
use Rattle.c_tree.specs.declared.expressions.Path.{Path}
use Rattle.c_tree.specs.declared.expressions.Path as path
use Rattle.c_tree.specs.declared.statements.Simple.{Simple}
use Rattle.c_tree.specs.declared.statements.Simple.TheVariants as simple
use Rattle.joint_ir.specs.declared.ctype.IntType.{IntType}
use Rattle.joint_ir.specs.declared.expr.BinaryOp.{BinaryOp}
use Rattle.joint_ir.specs.declared.expr.BinaryOp.TheVariants as tb
use Rattle.joint_ir.specs.declared.expr.Slot.{Slot}
use Rattle.joint_ir.specs.declared.expr.Slot.TheVariants.{BoundValue}
use Rattle.joint_ir.specs.declared.expr.TExpr.{TExpr}
use Rattle.joint_ir.specs.declared.program.PropKind.TheVariants as kind
use Rattle.joint_ir.specs.declared.stmt.SNode.{SNode, Block, Store, Update, Call as ACall, SetInputs, NextFrame}
use Rattle.joint_ir.specs.declared.stmt.TTarget.{TTarget}
use Rattle.joint_ir.specs.declared.stmt.TUpdate.{TUpdate}
use Rattle.joint_ir.specs.Types.{int}
use Rattle.c_words.specs.declared.marks.Meaning.{Meaning}
use Rattle.c_words.specs.declared.marks.Meaning.TheVariants as meaning
use Rattle.c_words.specs.Types.{common}
use Rattle.offence_order.specs.declared.Offence.{Offence}
use Rattle.c_words.specs.declared.notes.Site.{Site}
use Rattle.offence_order.specs.Order.{at}
use Rattle.c_words.specs.Marks.{number_of, update_op, division_kind, other_kind, sites_of, prop_at}
use Rattle.c_names.specs.declared.paths.Found.{Found}
use Rattle.c_names.specs.declared.paths.Found.TheVariants as found_as
use Rattle.c_names.specs.Scope.{Scope}
use Rattle.c_names.specs.Paths.{found}
use Rattle.c_expressions.specs.Expressions.{path_type, path_sites, type_of, typed_of, offences_in, sites_in, left_type, right_type, operator_sites, converted_to}
use Rattle.c_statements.specs.declared.calls.Callee.{Callee}
use Rattle.c_statements.specs.declared.calls.Callee.TheVariants as callee_as
use Rattle.c_statements.specs.declared.calls.Signature.{Signature}
use Rattle.c_statements.specs.Calls.{callee, args_sites, call_offences, call_args, call_typed, init_offences, init_sites, init_typed}

-- what is assigned to has to be an object that is not `const` (C99 6.3.2.1p1, 6.5.16p2)
abbrev pub store_offences : Place → Found → List Offence
store_offences p found_as.Unknown = at p CUnknownName
store_offences p found_as.Other = at p CNotAssignable
store_offences p (found_as.Integer o) = if o.constant then at p CNotAssignable else []

-- the object of a name; one that nothing reads where the name is an offence
abbrev pub slot_found : Found → Slot
slot_found found_as.Unknown = BoundValue
slot_found found_as.Other = BoundValue
slot_found (found_as.Integer o) = o.slot

-- what the left side of an assignment offends: its name first, then its index
abbrev pub target_offences : List Scope → Path → List Offence
target_offences env (path.Object o) = store_offences o.name.place (found env false o)
target_offences env (path.Element' o p _ (path.more_of-Expression e _)) = store_offences o.name.place (found env true o) ++ offences_in env e

-- the object as a whole is assigned to
abbrev pub plain_target : Place → Found → TTarget
plain_target p o = record { place = p; slot = slot_found o; index = None; bounds = None }

-- the element at an index is assigned to, with the property that the index is within the bounds
abbrev pub element_target : Place → Found → TExpr → ℕ → TTarget
element_target p o x id = record { place = p; slot = slot_found o; index = Some x; bounds = Some (record { 0 = number_of id }) }

-- the left side of an assignment; the property of its bounds stands behind those of its index
abbrev pub target_typed : List Scope → (base : ℕ) → Path → TTarget
target_typed env base (path.Object o) = plain_target o.name.place (found env false o)
target_typed env base (path.Element' o p _ (path.more_of-Expression e _)) =
    element_target o.name.place (found env true o) (typed_of env base e) (base + length (sites_in env e))

-- the property of a call of `next_timeframe`
abbrev pub frame_sites : Place → Callee → List Site
frame_sites p callee_as.Unknown = []
frame_sites p callee_as.NotFunction = []
frame_sites p callee_as.SetInputs = []
frame_sites p callee_as.NextFrame = (record { kind = kind.Frame; place = p }) ∷ []
frame_sites p (callee_as.Declared f) = []

-- a call as a statement: of a function, or of one of the two that steer the circuit; nothing where it is an offence
abbrev pub call_node : Place → Callee → (id : ℕ) → List TExpr → SNode
call_node p callee_as.Unknown id args = Block []
call_node p callee_as.NotFunction id args = Block []
call_node p callee_as.SetInputs id args = SetInputs
call_node p callee_as.NextFrame id args = NextFrame (record { 0 = number_of id })
call_node p (callee_as.Declared f) id args = ACall (call_typed p f args)

-- whether an operator between two operands works in their common type, or in the promoted type of the left one
abbrev pub meaning_with : BinaryOp → Meaning
meaning_with tb.Add = meaning.Arithmetic tb.Add
meaning_with tb.Sub = meaning.Arithmetic tb.Sub
meaning_with tb.Mul = meaning.Arithmetic tb.Mul
meaning_with tb.Div = meaning.Arithmetic tb.Div
meaning_with tb.Rem = meaning.Arithmetic tb.Rem
meaning_with tb.Shl = meaning.Shift tb.Shl
meaning_with tb.Shr = meaning.Shift tb.Shr
meaning_with tb.And = meaning.Arithmetic tb.And
meaning_with tb.Or = meaning.Arithmetic tb.Or
meaning_with tb.Xor = meaning.Arithmetic tb.Xor
meaning_with tb.Eq = meaning.Comparison tb.Eq
meaning_with tb.Ne = meaning.Comparison tb.Ne
meaning_with tb.Lt = meaning.Comparison tb.Lt
meaning_with tb.Le = meaning.Comparison tb.Le
meaning_with tb.Gt = meaning.Comparison tb.Gt
meaning_with tb.Ge = meaning.Comparison tb.Ge

-- `++` adds 1 of type `int`, and `--` subtracts it
abbrev pub step_op : StepOperator → BinaryOp
step_op steps.Increment = tb.Add
step_op steps.Decrement = tb.Sub

-- an operator that works in a type and has its properties at a place, of which so many stand before
abbrev pub updated : (base : ℕ) → BinaryOp → IntType → Option TExpr → Place → TUpdate
updated base op t right p = record {
  op = op;
  ty = t;
  right = right;
  division = prop_at base (sites_of (division_kind op) p);
  other = prop_at (base + length (sites_of (division_kind op) p)) (sites_of (other_kind op t.signed) p);
}

-- the type in which `op=` works, by the types of the target and of the operand
abbrev pub update_type : BinaryOp → (t u : IntType) → IntType
update_type op t u = left_type (meaning_with op) t u

-- the type to which its operand is converted
abbrev pub amount_type : BinaryOp → (t u : IntType) → IntType
amount_type op t u = right_type (meaning_with op) t u

-- the properties of `op=`: of its left side, of its right side, then of its operator
abbrev pub update_sites : List Scope → Path → AssignmentMark → Expression → List Site
update_sites env x mark e =
    path_sites env x ++ (sites_in env e ++ operator_sites (update_op mark.operator) (update_type (update_op mark.operator) (path_type env x) (type_of env e)).signed mark.place)

-- `op=` reads its left side, converts both sides as the operator asks, and stores the result (C99 6.5.16.2p3)
abbrev pub update_typed : List Scope → (base : ℕ) → Path → AssignmentMark → Expression → SNode
update_typed env base x mark e =
    let op = update_op mark.operator in
    let t = path_type env x in
    let u = type_of env e in
    let right = base + length (path_sites env x) in
    Update (target_typed env base x) (updated (right + length (sites_in env e)) op (update_type op t u) (Some (converted_to (amount_type op t u) (typed_of env right e))) mark.place)

-- the properties of `++` and `--`: of the left side, then of adding or subtracting 1
abbrev pub stepped_sites : List Scope → Path → StepMark → List Site
stepped_sites env x mark = path_sites env x ++ operator_sites (step_op mark.operator) (common (path_type env x) int).signed mark.place

-- `++` and `--` add or subtract 1 at the common type with `int` (C99 6.5.2.4, 6.5.3.1)
abbrev pub stepped_typed : List Scope → (base : ℕ) → Path → StepMark → SNode
stepped_typed env base x mark =
    Update (target_typed env base x) (updated (base + length (path_sites env x)) (step_op mark.operator) (common (path_type env x) int) None mark.place)

-- what an assignment, a step or a call offends, from left to right
abbrev pub simple_offences : List Signature → List Scope → Simple → List Offence
simple_offences fns env (simple.Assign x i) = target_offences env x ++ init_offences fns env i
simple_offences fns env (simple.Update x mark e) = target_offences env x ++ offences_in env e
simple_offences fns env (simple.StepAfter x mark) = target_offences env x
simple_offences fns env (simple.StepBefore mark x) = target_offences env x
simple_offences fns env (simple.Called call) = call_offences fns env call

-- the properties of an assignment, a step or a call, in order
abbrev pub simple_sites : List Scope → Simple → List Site
simple_sites env (simple.Assign x i) = path_sites env x ++ init_sites env i
simple_sites env (simple.Update x mark e) = update_sites env x mark e
simple_sites env (simple.StepAfter x mark) = stepped_sites env x mark
simple_sites env (simple.StepBefore mark x) = stepped_sites env x mark
simple_sites env (simple.Called call) = args_sites env call.arguments ++ frame_sites call.name.place (callee env call)

-- the typed statement of an assignment, a step or a call
abbrev pub simple_typed : List Signature → List Scope → (base : ℕ) → Simple → SNode
simple_typed fns env base (simple.Assign x i) =
    Store (target_typed env base x) (init_typed fns env (base + length (path_sites env x)) (path_type env x) i)
simple_typed fns env base (simple.Update x mark e) = update_typed env base x mark e
simple_typed fns env base (simple.StepAfter x mark) = stepped_typed env base x mark
simple_typed fns env base (simple.StepBefore mark x) = stepped_typed env base x mark
simple_typed fns env base (simple.Called call) =
    call_node call.name.place (callee env call) (base + length (args_sites env call.arguments)) (call_args fns env base call)
