use Rattle.std.proofs.Common.{◌≡◌, true, false, rules}
use Rattle.joint_ir.specs.declared.stmt.TLoop.{out-TLoop}
use Rattle.unwind_blocks.proofs.Turns.{first_tests, first_turns}
use Rattle.unwind_blocks.proofs.loops.begun.Goals as goal

pub returns-in_ok-f : goal.returns-in_ok-f
returns-in_ok-f c =
    let o = out-TLoop c.args.one.now in
    let tests : o.tests_first ≡ true = search rules in
    λ d inside fits. first_tests c.args.at.now c.args.net.now c.test.new.net c.args.state.now c.args.state.now c.args.guard c.in_ok-f.f d.locals o.tests_first o.cond tests (c.in_ok-f.ensures d inside fits)

pub returns-else-one : goal.returns-else-one
returns-else-one c =
    let o = out-TLoop c.args.one.now in
    let tests : o.tests_first ≡ false = search rules in
    λ d inside fits. first_turns c.args.at.now c.args.net.now c.args.state.now c.args.guard c.only.result d.locals o.tests_first o.cond tests c.len.ensures.proper c.requires.objects c.requires.guard c.only.ensures
