-- An expression that has a value: `bound - 4`, in a program without objects.
use Rattle.std.proofs.Common.{◌≡◌, [], true, false, refl, sym, subst, arith, pos}
use Rattle.std.specs.Prelude.{All, None}
use Rattle.std.proofs.lemmas.Int.{ints}
use Rattle.std.proofs.lemmas.List.Elements.{All-cons, All-nil}
use denote.Hole.Carrier.{hidden}
use Rattle.src_text.specs.declared.refusal.Place.{Place}
use Rattle.joint_ir.specs.declared.ctype.IntType.{IntType}
use Rattle.joint_ir.specs.declared.expr.BinaryOp.TheVariants.{Sub}
use Rattle.joint_ir.specs.declared.expr.Slot.{Slot}
use Rattle.joint_ir.specs.declared.expr.Slot.TheVariants.{Global, Local, Member, BoundValue}
use Rattle.joint_ir.specs.declared.expr.TExpr.{TExpr}
use Rattle.joint_ir.specs.declared.expr.TNode.{Const, Read, Binary}
use Rattle.joint_ir.specs.declared.expr.TNode.TheBlock.{hidden-the_row-TExpr-0}
use Rattle.joint_ir.specs.declared.program.CProgram.{CProgram}
use Rattle.joint_ir.specs.Types.{InRange, IsType, Single}
use Rattle.joint_ir.specs.States.{Store, rows_of}
use Rattle.joint_ir.specs.Steps.{slot_type}
use Rattle.joint_ir.specs.WellFormed.{Scope, FitsExpr, IsPromoted}
use Rattle.joint_value.specs.Evaluable.{IsEvaluable}

abbrev unsigned : IntType
unsigned = record { bits = 32; signed = false; truth = false }

abbrev here : Place
here = record { line = 1; column = 1 }

abbrev no_objects : CProgram
no_objects = record { functions = []; globals = []; locals = []; mirror = None; props = []; main = 0 }

abbrev pub no_store : Store
no_store = record { globals = []; locals = []; members = [] }

abbrev scope : Scope
scope = record { program = no_objects; here = 0; locals = []; in_loop = false; may_break = false }

held : (slot : Slot) → IsType (slot_type no_objects slot)
held (Global i) = Single true
held (Local i) = Single true
held (Member i) = Single true
held BoundValue = Single false

abbrev the_bound : TExpr
the_bound = record { ty = unsigned; place = here; node = Read BoundValue }

abbrev four : TExpr
four = record { ty = unsigned; place = here; node = Const (pos 4) }

wide : IsPromoted unsigned
wide = record { type = Single false; wide = omega arith }

bound_fits : FitsExpr scope the_bound
bound_fits = (record { visible = tt; shape = refl }, refl)

four_fits : FitsExpr scope four
four_fits = (wide, record { low = omega (arith, ints); high = omega (arith, ints) })

difference_fits : (a b : TExpr) → a ≡ the_bound → b ≡ four → FitsExpr scope (record { ty = unsigned; place = here; node = Binary Sub a b None None })
unfolding hidden-the_row-TExpr-0 hidden
difference_fits a b is_a is_b =
    subst (λ (x : TExpr). FitsExpr scope (record { ty = unsigned; place = here; node = Binary Sub x b None None })) (sym is_a)
    (subst (λ (y : TExpr). FitsExpr scope (record { ty = unsigned; place = here; node = Binary Sub the_bound y None None })) (sym is_b)
    ((wide, refl, refl, refl, refl), bound_fits, four_fits))

numbers : (slot : Slot) → All (InRange (slot_type no_objects slot)) (rows_of 3 no_store slot)
numbers (Global i) = All-nil (InRange (slot_type no_objects (Global i)))
numbers (Local i) = All-nil (InRange (slot_type no_objects (Local i)))
numbers (Member i) = All-nil (InRange (slot_type no_objects (Member i)))
numbers BoundValue =
    All-cons (InRange unsigned) (pos 3) [] (record { low = omega (arith, ints); high = omega (arith, ints) }) (All-nil (InRange unsigned))

pub difference_evaluable : (a b : TExpr) → a ≡ the_bound → b ≡ four →
    IsEvaluable (rows_of 3 no_store) (record { ty = unsigned; place = here; node = Binary Sub a b None None })
difference_evaluable a b is_a is_b =
    record { scope = scope; fits = difference_fits a b is_a is_b; held = record { types = λ slot. held slot; values = λ slot. numbers slot } }
