use Rattle.std.proofs.Common.{subst}
use Rattle.std.specs.Prelude.{All}
use Rattle.std.proofs.lemmas.List.{take_all}
use Rattle.std.proofs.lemmas.List.Elements.{All-more}
use Rattle.joint_ir.specs.WellFormed.{FitsSignal}
use Rattle.pair_checks.proofs.modules.are_signals.Goals as goal

pub loop-signal-preserved : goal.loop-signal-preserved
loop-signal-preserved c =
    All-more FitsSignal c.args.signals.now c.loop-signal.signal-index c.signal-item.result c.loop-signal-test.true c.loop-signal.invariant
    (subst FitsSignal c.signal-item.is (c.is_signal.ensures c.if-not-is_signal.false))

pub returns : goal.returns
returns c = λ yes. subst (All FitsSignal) (take_all c.loop-signal.signal-index c.args.signals.now c.loop-signal-test.false) c.loop-signal.invariant
