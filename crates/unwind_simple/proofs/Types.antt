-- Objects and results have types.
use Rattle.std.proofs.Common.{◌≡◌, ℕ, zero, suc, ◌<◌, List, [], ◌∷◌, length, false, true, Option, Some, None, sym, subst, arith}
use Rattle.std.specs.Prelude.{All, IfSome, IsSome, slice_get}
use Rattle.std.proofs.lemmas.List.Elements.{All-head, All-tail}
use Rattle.joint_ir.specs.declared.ctype.IntType.{IntType}
use Rattle.joint_ir.specs.declared.expr.Slot.TheVariants.{Global, Local, Member, BoundValue}
use Rattle.joint_ir.specs.declared.pair.Pair.{Pair}
use Rattle.joint_ir.specs.declared.program.Function.{Function}
use Rattle.joint_ir.specs.declared.program.Member.{Member as AMember}
use Rattle.joint_ir.specs.declared.program.Var.{Var}
use Rattle.joint_ir.specs.Steps.{var_type, member_type, type_or_int}
use Rattle.joint_ir.specs.Types.{IsType}
use Rattle.joint_ir.specs.Views.{members_of}
use Rattle.joint_ir.specs.WellFormed.{IsWellFormed, FitsVar, FitsMember}
use Rattle.unwind_state.specs.Writing.{HasTypes}

var_typed : (xs : List Var) (i : ℕ) → i < length xs → All FitsVar xs → IsType (var_type (slice_get xs i))
var_typed [] i few h = absurd (omega arith)
var_typed (x ∷ xs) zero few h = (All-head FitsVar x xs h).type
var_typed (x ∷ xs) (suc i) few h = var_typed xs i (omega arith) (All-tail FitsVar x xs h)

member_typed : (xs : List AMember) (i : ℕ) (m : AMember) → slice_get xs i ≡ Some m → All FitsMember xs → FitsMember m
member_typed [] i m at h = let e : None ≡ Some m = at in cc
member_typed (x ∷ xs) zero m at h = let e : Some x ≡ Some m = at in subst FitsMember (same e) (All-head FitsMember x xs h)
  where
    same : Some x ≡ Some m → x ≡ m
    same e = cc
member_typed (x ∷ xs) (suc i) m at h = member_typed xs i m at (All-tail FitsMember x xs h)

some_type : (t : Option IntType) → IsSome t → IfSome t IsType → IsType (type_or_int t)
some_type None some h = let d : false ≡ true = some in cc
some_type (Some t) some h = h

-- each object that there is has a type
pub has_types : (p : Pair) → IsWellFormed p → HasTypes p.program
has_types p well (Global i) there = var_typed p.program.globals i there well.program.globals
has_types p well (Local i) there = var_typed p.program.locals i there well.program.locals
has_types p well (Member i) (m, at, some) = subst (λ (o : Option AMember). IsType (member_type o)) (sym at) (some_type m.ty some (member_typed (members_of p.program.mirror) i m at well.program.members).type)
has_types p well BoundValue there = absurd there

-- the result of a function that has one is of a type
pub result_typed : (p : Pair) → IsWellFormed p → (f : ℕ) (fn : Function) (t : IntType) → slice_get p.program.functions f ≡ Some fn → fn.result ≡ Some t → IsType t
result_typed p well f fn t at is = let h : IfSome (Some t) IsType = subst (λ (o : Option IntType). IfSome o IsType) is (well.program.functions f fn at).result in h
