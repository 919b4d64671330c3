use Rattle.std.proofs.Common.{◌-◌, ◌+◌, ◌*◌}
use Rattle.joint_lists.specs.Lists.{entered_case}
use Rattle.switch_guards.specs.Entries.{number_of}
use Rattle.unwind_blocks.proofs.Cases.{CasesLeft}
use Rattle.unwind_blocks.proofs.Strides.{stride}
use Rattle.unwind_blocks.proofs.Turns.{LoopLeft}
use Rattle.unwind_blocks.proofs.Orders.{Sofar}
use Rattle.unwind_blocks.proofs.blocks.+blocks.Given as goal

abbrev pub decreases-stmt : goal.decreases-stmt
decreases-stmt l = l.at.now.left * stride l.at.now.pair.now.program.functions + (3 * goal.size-stmt l + 6)

abbrev pub decreases-optional : goal.decreases-optional
decreases-optional l = l.at.now.left * stride l.at.now.pair.now.program.functions + (3 * goal.size-optional l + 7)

abbrev pub decreases-block : goal.decreases-block
decreases-block l = l.at.now.left * stride l.at.now.pair.now.program.functions + (3 * goal.size-block l + 7)

abbrev pub decreases-round : goal.decreases-round
decreases-round l = l.at.now.left * stride l.at.now.pair.now.program.functions + (3 * goal.size-round l + 6)

abbrev pub decreases-turns : goal.decreases-turns
decreases-turns l = l.at.now.left * stride l.at.now.pair.now.program.functions + (3 * goal.size-turns l + 7)

abbrev pub decreases-repeat : goal.decreases-repeat
decreases-repeat l = l.at.now.left * stride l.at.now.pair.now.program.functions + (3 * goal.size-repeat l + 8)

abbrev pub decreases-cases : goal.decreases-cases
decreases-cases l = l.at.now.left * stride l.at.now.pair.now.program.functions + (3 * goal.size-cases l + 7)

abbrev pub decreases-call_made : goal.decreases-call_made
decreases-call_made l = l.at.now.left * stride l.at.now.pair.now.program.functions + 3

abbrev pub decreases-call_value : goal.decreases-call_value
decreases-call_value l = l.at.now.left * stride l.at.now.pair.now.program.functions + 2

abbrev pub decreases-body_value : goal.decreases-body_value
decreases-body_value l = l.at.now.left * stride l.at.now.pair.now.program.functions + 1

abbrev pub decreases-received : goal.decreases-received
decreases-received l = l.at.now.left * stride l.at.now.pair.now.program.functions + 3

abbrev pub decreases-result_declared : goal.decreases-result_declared
decreases-result_declared l = l.at.now.left * stride l.at.now.pair.now.program.functions + 4

abbrev pub decreases-result_stored : goal.decreases-result_stored
decreases-result_stored l = l.at.now.left * stride l.at.now.pair.now.program.functions + 4

abbrev pub decreases-result_stored_at : goal.decreases-result_stored_at
decreases-result_stored_at l = l.at.now.left * stride l.at.now.pair.now.program.functions + 4

abbrev pub decreases-result_returned : goal.decreases-result_returned
decreases-result_returned l = l.at.now.left * stride l.at.now.pair.now.program.functions + 4

abbrev pub decreases-declared : goal.decreases-declared
decreases-declared l = l.at.now.left * stride l.at.now.pair.now.program.functions + 5

abbrev pub decreases-stored : goal.decreases-stored
decreases-stored l = l.at.now.left * stride l.at.now.pair.now.program.functions + 5

abbrev pub decreases-returned : goal.decreases-returned
decreases-returned l = l.at.now.left * stride l.at.now.pair.now.program.functions + 5

abbrev pub invariant-block-loop-s : goal.invariant-block-loop-s
invariant-block-loop-s l = Sofar l.at l.fn.net l.net l.fn.state l.state l.items l.s-index l.fn.guard l.ways

-- so many turns are left
abbrev pub invariant-turns-loop-turn : goal.invariant-turns-loop-turn
invariant-turns-loop-turn l = LoopLeft l.at l.fn.net l.net l.fn.state l.state l.one l.fn.guard l.ways (l.limit - l.turn)

-- the groups before this one
abbrev pub invariant-cases-loop-i : goal.invariant-cases-loop-i
invariant-cases-loop-i l = CasesLeft l.at l.initial.net l.net l.fn.state l.state l.groups l.i l.fn.guard (λ v. entered_case (number_of l.fn.ty v l.fn.value) l.groups) l.ways
