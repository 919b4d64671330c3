use Rattle.std.proofs.Common.{refl}
use Rattle.unwind_state.proofs.Gates.{adds_built}
use Rattle.unwind_blocks.proofs.Branches.{grows_then, grows_adds, guard_grows, tested_made}
use Rattle.unwind_blocks.proofs.tests_of.tested.Goals as goal

pub split-requires-clause-guard : goal.split-requires-clause-guard
split-requires-clause-guard c =
    guard_grows c.args.net.now.terms c.is_set.new.terms c.args.guard
    (grows_then c.args.net.now.terms c.value.new.net.terms c.is_set.new.terms c.in_ok-t.ensures.grows
    (grows_adds c.value.new.net (record { terms = c.is_set.new.terms; list = c.value.new.net.list }) (adds_built c.value.new.net (record { terms = c.is_set.new.terms; list = c.value.new.net.list }) _ 1 c.in_ok-set.ensures.builds refl))) c.requires.guard

pub returns : goal.returns
returns c =
    tested_made c.args.at.now c.args.net.now c.value.new.net (record { terms = c.is_set.new.terms; list = c.value.new.net.list }) c.split.new.net c.args.state.now c.args.e.now c.args.guard c.in_ok-t.t c.in_ok-set.set c.in_ok-sides.sides
    c.in_ok-t.ensures c.in_ok-set.ensures refl c.in_ok-sides.ensures
