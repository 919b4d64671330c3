use Rattle.std.proofs.Common.{take}
use Rattle.unwind_calls.specs.Arguments.{AreSet}
use Rattle.unwind_calls.proofs.parameters.set_params.Given as goal

-- the parameters before this one have their arguments
abbrev pub invariant-loop-i : goal.invariant-loop-i
invariant-loop-i l = AreSet l._pair l.fn.net l.net l.fn.objects l.objects l.first (take l.i l.args) l.guard
