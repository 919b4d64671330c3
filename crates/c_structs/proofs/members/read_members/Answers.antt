use Rattle.std.proofs.Common.{arith}
use Rattle.c_structs.specs.Readings.{nothing_read}
use Rattle.c_structs.proofs.Reading.{members_next, all_read}
use Rattle.c_structs.proofs.members.read_members.Goals as goal

pub loop-member-preserved : goal.loop-member-preserved
loop-member-preserved c =
    members_next c.args.scopes.now c.args.tags.now c.args.members.now c.loop-member.member-index c.member-item.result c.args.notes.now c.loop-member.notes c.read_member.new.notes nothing_read c.loop-member.reading c.read_member.new.reading
    c.loop-member-test.true c.member-item.is c.loop-member.invariant c.in_ok-read_member.ensures

pub returns : goal.returns
returns c =
    all_read c.args.scopes.now c.args.tags.now c.args.members.now c.loop-member.member-index c.args.notes.now c.loop-member.notes c.loop-member.reading
    (omega (arith, c.loop-member-test.false)) c.loop-member.invariant
