use Rattle.std.proofs.Common.{subst}
use Rattle.joint_ir.specs.declared.expr.Slot.TheVariants.{Local}
use Rattle.joint_ir.specs.Types.{IsType}
use Rattle.joint_value.proofs.Stores.{slot_typed}
use Rattle.joint_step.proofs.parts.declare_array.Goals as goal

pub free_elements-requires : goal.free_elements-requires
free_elements-requires c = subst IsType c.requires.typed (slot_typed c.args.at.now.pair.now.program (Local c.args.x) c.requires.well.program)
