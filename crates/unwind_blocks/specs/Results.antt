-- What is made of calls' results.
use Rattle.std.specs.Prelude.{◌≡◌, Bool, false, Option, Some, None, slice_get}
use Rattle.bits_core.specs.Word.{number}
use Rattle.word_eqs.specs.Meaning.{Values, Respects}
use Rattle.joint_ir.specs.declared.ctype.IntType.{IntType}
use Rattle.joint_ir.specs.declared.program.Function.{Function}
use Rattle.joint_ir.specs.declared.stmt.TCall.{TCall}
use Rattle.joint_ir.specs.declared.stmt.TInit.{TInit}
use Rattle.joint_ir.specs.declared.stmt.TInit.TheVariants.{Free, Values as Exprs, Called}
use Rattle.joint_ir.specs.Types.{converted}
use Rattle.joint_ir.specs.WellFormed.{is_some}
use Rattle.sized_terms.specs.declared.SizedTerm.{SizedTerm}
use Rattle.sized_terms.specs.Sized.{Has, bits}
use Rattle.unrolled.specs.declared.Unrolled.{Unrolled}
use Rattle.unwind_state.specs.Guards.{Adds}
use Rattle.unwind_simple.specs.declared.simple.Activation.{Activation}

-- a function with a body
abbrev pub has_a_body : Option Function → Bool
has_a_body None = false
has_a_body (Some fn) = is_some fn.body

-- the function that is called has a body
abbrev pub body_runs : Activation → TCall → Bool
body_runs a call = has_a_body (slice_get a.pair.now.program.functions call.function)

-- what an object is set to comes from such a function
abbrev pub init_runs : Activation → TInit → Bool
init_runs a Free = false
init_runs a (Exprs es) = false
init_runs a (Called call) = body_runs a call

-- a term that is what another one is converted to
pub record IsAsType (n0 n1 : Unrolled) (from ty : IntType) (t u : SizedTerm) : Type 0 where
  pub adds : Adds n0 n1
  pub has : Has n1.terms u
  pub width : u.width ≡ ty.bits
  pub value : (v : Values) → Respects v n1.terms → number ty.signed ty.bits (bits v u) ≡ converted ty (number from.signed from.bits (bits v t))
