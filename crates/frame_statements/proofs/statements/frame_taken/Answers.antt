use Rattle.std.proofs.Common.{refl}
use Rattle.joint_ir.specs.Steps.{next_frame}
use Rattle.unwind_simple.specs.Simple.{setting_of}
use Rattle.frame_statements.proofs.Doing.{called_done}
use Rattle.frame_statements.proofs.statements.frame_taken.Goals as goal

pub returns : goal.returns
returns c = λ d inside.
    let a = c.args.at.now in
    called_done a c.args.net.now c.next_frame.new.net c.args.state.now c.next_frame.new.state c.args.guard c.only.result d.locals (next_frame (setting_of a) c.args.broken) c.only.ensures c.requires.guard
    (c.in_ok-next_frame.ensures (setting_of a) refl refl)
