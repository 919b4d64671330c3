use Rattle.std.proofs.Common.{sym, subst}
use Rattle.joint_ir.specs.Types.{IsType}
use Rattle.unwind_calls.proofs.Closing.{typed_or_int}
use Rattle.unwind_calls.proofs.entries.nought.Goals as goal

pub literal-requires-clause-ty : goal.literal-requires-clause-ty
literal-requires-clause-ty c = subst IsType (sym c.type_or_int-ty.ensures) (typed_or_int c.args.ty c.requires)
