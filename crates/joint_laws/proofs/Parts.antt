-- Parts of small programs are well-formed.
use Rattle.std.proofs.Common.{◌≡◌, ℕ, ◌+◌, ◌<◌, ◌≤◌, length, refl, arith}
use Rattle.std.specs.Prelude.{Some, IsSome, slice_get, true, false, All, count_by, eqb}
use Rattle.joint_ir.specs.declared.ctype.IntType.{IntType}
use Rattle.joint_ir.specs.declared.program.CProgram.{CProgram}
use Rattle.joint_ir.specs.declared.program.Function.{Function}
use Rattle.joint_ir.specs.Types.{IsType, Byte, Single, int}
use Rattle.joint_ir.specs.Views.{members_of}
use Rattle.joint_ir.specs.WellFormed.{IsPromoted, FitsVar, FitsMember, FitsFunction, FitsProgram, declared_by}
use Rattle.joint_laws.specs.Words.{declared, var, nondet, a_member}
use Rattle.joint_laws.proofs.Lists.{all_none}

pub int_promoted : IsPromoted int
int_promoted = record { type = Single true; wide = omega arith }

pub var_fits : (ty : IntType) (n : ℕ) → IsType ty → FitsVar (var ty n)
var_fits ty n t = record { type = t; firsts = all_none _; few = omega arith }

pub a_member_fits : (n : ℕ) → FitsMember (a_member n)
a_member_fits n = record { type = Byte false }

pub nondet_fits : (p : CProgram) (f : ℕ) (ty : IntType) → IsType ty → FitsFunction p f (nondet ty)
nondet_fits p f ty t = record { result = t; body = (refl, refl) }

pub program_fits : (p : CProgram) → ((f : ℕ) (fn : Function) → slice_get p.functions f ≡ Some fn → FitsFunction p f fn) → All FitsVar p.globals → All FitsVar p.locals →
    All FitsMember (members_of p.mirror) → ((x : ℕ) → x < length p.locals → count_by (eqb x) (declared_by p.functions) ≡ 1) →
    ((fn : Function) × (slice_get p.functions p.main ≡ Some fn) × IsSome fn.body × (fn.params ≡ 0)) →
    length p.locals + length p.globals + length (members_of p.mirror) + length p.props + length p.functions ≤ 100 → FitsProgram p
program_fits p functions globals locals members declared main few = record {
  functions = functions;
  globals = globals;
  locals = locals;
  members = members;
  declared = declared;
  main = main;
  few_locals = omega arith;
  few_globals = omega arith;
  few_members = omega arith;
  few_props = omega arith;
  few_functions = omega arith;
}
