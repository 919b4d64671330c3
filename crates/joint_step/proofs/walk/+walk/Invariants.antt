use Rattle.std.proofs.Common.{◌≡◌, ◌+◌, ◌-◌, ◌*◌, ℕ, List, drop}
use Rattle.joint_ir.specs.declared.stmt.TLoop.{out-TLoop}
use Rattle.joint_ir.specs.Steps.{limit_of}
use Rattle.joint_ir.specs.Statements.{after_loop}
use Rattle.joint_machine.specs.Moments.{IsKept, IsReady, Stands, from_here, setting_of}
use Rattle.joint_lists.specs.Lists.{after_items, after_cases, FitsItems}
use Rattle.joint_step.specs.Walks.{calls_in}
use Rattle.joint_step.proofs.Strides.{stride}
use Rattle.joint_step.proofs.Turns.{loop_turns}
use Rattle.joint_step.proofs.walk.+walk.Given as goal

abbrev pub decreases-enter : goal.decreases-enter
decreases-enter l = l.at.now.left * stride l.at.now.pair.now.program.functions

abbrev pub decreases-call : goal.decreases-call
decreases-call l = l.at.now.left * stride l.at.now.pair.now.program.functions + 1

abbrev pub decreases-initial : goal.decreases-initial
decreases-initial l = l.at.now.left * stride l.at.now.pair.now.program.functions + 2

abbrev pub decreases-store : goal.decreases-store
decreases-store l = l.at.now.left * stride l.at.now.pair.now.program.functions + 3

abbrev pub decreases-declare : goal.decreases-declare
decreases-declare l = l.at.now.left * stride l.at.now.pair.now.program.functions + 3

abbrev pub decreases-give_back : goal.decreases-give_back
decreases-give_back l = l.at.now.left * stride l.at.now.pair.now.program.functions + 3

abbrev pub decreases-statement : goal.decreases-statement
decreases-statement l = l.at.now.left * stride l.at.now.pair.now.program.functions + (3 * goal.size-statement l + 4)

abbrev pub decreases-block : goal.decreases-block
decreases-block l = l.at.now.left * stride l.at.now.pair.now.program.functions + (3 * goal.size-block l + 5)

abbrev pub decreases-optional : goal.decreases-optional
decreases-optional l = l.at.now.left * stride l.at.now.pair.now.program.functions + (3 * goal.size-optional l + 5)

abbrev pub decreases-repeat : goal.decreases-repeat
decreases-repeat l = l.at.now.left * stride l.at.now.pair.now.program.functions + (3 * goal.size-repeat l + 5)

abbrev pub decreases-run_cases : goal.decreases-run_cases
decreases-run_cases l = l.at.now.left * stride l.at.now.pair.now.program.functions + (3 * goal.size-run_cases l + 5)

-- the rest of the statements is left
abbrev pub invariant-block-loop-s : goal.invariant-block-loop-s
invariant-block-loop-s l = record {
  does : (standing : List ℕ) → l.fn.machine.standing.items ≡ standing →
      from_here l.fn.machine (after_items (setting_of l.at) (calls_in l.at standing) l.items) ≡ from_here l.machine (after_items (setting_of l.at) (calls_in l.at standing) (drop l.s-index l.items));
  kept : IsKept l.fn.machine l.machine;
  ready : IsReady l.at.pair.now l.machine;
  fits : Stands l.at.pair.now l.at.here (λ c. FitsItems c (drop l.s-index l.items));
}

-- the groups from k on are left
abbrev pub invariant-run_cases-loop-k : goal.invariant-run_cases-loop-k
invariant-run_cases-loop-k l = record {
  does : (standing : List ℕ) → l.fn.machine.standing.items ≡ standing →
      from_here l.fn.machine (after_cases (setting_of l.at) (calls_in l.at standing) (drop l.from l.groups)) ≡ from_here l.machine (after_cases (setting_of l.at) (calls_in l.at standing) (drop l.k l.groups));
  kept : IsKept l.fn.machine l.machine;
  ready : IsReady l.at.pair.now l.machine;
}

-- the other turns are left
abbrev pub invariant-repeat-loop-turn : goal.invariant-repeat-loop-turn
invariant-repeat-loop-turn l = record {
  does : (standing : List ℕ) → l.fn.machine.standing.items ≡ standing →
      from_here l.fn.machine (after_loop (setting_of l.at) (calls_in l.at standing) l.one) ≡ from_here l.machine (loop_turns (setting_of l.at) (calls_in l.at standing) l.one (limit_of l.at.bounds.now (out-TLoop l.one).unwind - l.turn));
  kept : IsKept l.fn.machine l.machine;
  ready : IsReady l.at.pair.now l.machine;
}
