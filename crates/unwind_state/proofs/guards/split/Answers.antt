use Rattle.std.proofs.Common.{refl, ◌∙◌}
use Rattle.unwind_state.proofs.Gates.{adds_built, guard_kept, sides_made}
use Rattle.unwind_state.proofs.guards.split.Goals as goal

pub and_bit-requires-clause-guard : goal.and_bit-requires-clause-guard
and_bit-requires-clause-guard c =
    guard_kept c.args.net.now (record { terms = c.one.new.terms; list = c.args.net.now.list }) c.args.guard
    (adds_built c.args.net.now (record { terms = c.one.new.terms; list = c.args.net.now.list }) 0 1 c.in_ok-unset.ensures.builds refl) c.requires.guard

pub and_bit-requires-clause-set : goal.and_bit-requires-clause-set
and_bit-requires-clause-set c = c.in_ok-unset.ensures.builds.kept c.args.set c.requires.set

pub and_bit-requires-2-clause-guard : goal.and_bit-requires-2-clause-guard
and_bit-requires-2-clause-guard c =
    guard_kept (record { terms = c.one.new.terms; list = c.args.net.now.list }) c.and_bit.new.net c.args.guard c.in_ok-taken.ensures.adds
    (guard_kept c.args.net.now (record { terms = c.one.new.terms; list = c.args.net.now.list }) c.args.guard
    (adds_built c.args.net.now (record { terms = c.one.new.terms; list = c.args.net.now.list }) 0 1 c.in_ok-unset.ensures.builds refl) c.requires.guard)

pub and_bit-requires-2-clause-set : goal.and_bit-requires-2-clause-set
and_bit-requires-2-clause-set c = c.in_ok-taken.ensures.adds.kept c.in_ok-unset.unset c.in_ok-unset.ensures.has

pub and_bit-requires-2-clause-one : goal.and_bit-requires-2-clause-one
and_bit-requires-2-clause-one c = c.in_ok-unset.ensures.width ∙ c.requires.one

pub returns : goal.returns
returns c =
    sides_made c.args.net.now (record { terms = c.one.new.terms; list = c.args.net.now.list }) c.and_bit.new.net c.and_bit-2.new.net c.args.guard c.args.set c.in_ok-unset.unset c.in_ok-taken.taken c.in_ok-other.other
    c.requires.one refl c.in_ok-unset.ensures c.in_ok-taken.ensures c.in_ok-other.ensures
