use Rattle.std.proofs.Common.{refl}
use Rattle.joint_ir.specs.declared.way.Way.TheVariants.{Next}
use Rattle.unrolled.specs.declared.Unrolled.{Unrolled}
use Rattle.unwind_state.proofs.Gates.{adds_built}
use Rattle.unwind_blocks.proofs.Branches.{guard_grows, flow_grows, grows_then, grows_adds}
use Rattle.unwind_blocks.proofs.Turns.{left_has}
use Rattle.unwind_blocks.proofs.loops.ended.Goals as goal

pub prop-requires : goal.prop-requires
prop-requires c =
    let net : Unrolled = record { terms = c.constant.new.terms; list = c.args.net.now.list } in
    guard_grows c.args.net.now.terms c.constant.new.terms c.args.ways.next (grows_adds c.args.net.now net (adds_built c.args.net.now net 0 1 c.in_ok-unset.ensures.builds refl)) (c.requires Next)

pub gathered-requires : goal.gathered-requires
gathered-requires c =
    let net : Unrolled = record { terms = c.constant.new.terms; list = c.args.net.now.list } in
    left_has c.prop.new.net.terms c.args.ways
    (flow_grows c.args.net.now.terms c.prop.new.net.terms c.args.ways (grows_then c.args.net.now.terms c.constant.new.terms c.prop.new.net.terms (grows_adds c.args.net.now net (adds_built c.args.net.now net 0 1 c.in_ok-unset.ensures.builds refl)) c.in_ok-prop.ensures.grows) c.requires)

pub returns : goal.returns
returns c = record {
  n1 = record { terms = c.constant.new.terms; list = c.args.net.now.list };
  n2 = c.prop.new.net;
  unset = c.in_ok-unset.unset;
  made = c.in_ok-unset.ensures;
  list = refl;
  pushed = c.in_ok-prop.ensures;
  flow = c.in_ok-f.ensures;
}
