use Rattle.joint_ir.specs.declared.way.Way.TheVariants.{Breaking, Continuing, Returning}
use Rattle.unwind_state.proofs.Gates.{adds_then, guard_kept, merged_made}
use Rattle.unwind_state.proofs.guards.merged.Goals as goal

pub or-requires-clause-first : goal.or-requires-clause-first
or-requires-clause-first c = c.requires.first Breaking

pub or-requires-clause-second : goal.or-requires-clause-second
or-requires-clause-second c = c.requires.second Breaking

pub or-requires-2-clause-first : goal.or-requires-2-clause-first
or-requires-2-clause-first c = guard_kept c.args.net.now c.or.new.net c.args.a.continuing c.in_ok-breaking.ensures.adds (c.requires.first Continuing)

pub or-requires-2-clause-second : goal.or-requires-2-clause-second
or-requires-2-clause-second c = guard_kept c.args.net.now c.or.new.net c.args.b.continuing c.in_ok-breaking.ensures.adds (c.requires.second Continuing)

pub or-requires-3-clause-first : goal.or-requires-3-clause-first
or-requires-3-clause-first c = guard_kept c.args.net.now c.or-2.new.net c.args.a.returning (adds_then c.args.net.now c.or.new.net c.or-2.new.net c.in_ok-breaking.ensures.adds c.in_ok-continuing.ensures.adds) (c.requires.first Returning)

pub or-requires-3-clause-second : goal.or-requires-3-clause-second
or-requires-3-clause-second c = guard_kept c.args.net.now c.or-2.new.net c.args.b.returning (adds_then c.args.net.now c.or.new.net c.or-2.new.net c.in_ok-breaking.ensures.adds c.in_ok-continuing.ensures.adds) (c.requires.second Returning)

pub returns : goal.returns
returns c = merged_made c.args.net.now c.or.new.net c.or-2.new.net c.or-3.new.net c.args.a c.args.b c.in_ok-breaking.breaking c.in_ok-continuing.continuing c.in_ok-returning.returning c.requires.second c.in_ok-breaking.ensures c.in_ok-continuing.ensures c.in_ok-returning.ensures
