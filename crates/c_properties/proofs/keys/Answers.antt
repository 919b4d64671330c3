use Rattle.std.proofs.lemmas.List.Elements.{All-more}
use Rattle.c_numbers.proofs.Counting.{map_one_more}
use Rattle.c_properties.specs.Keys.{key_of, IsPlaced}
use Rattle.c_properties.proofs.keys.Goals as goal

pub loop-site-preserved : goal.loop-site-preserved
loop-site-preserved c = record {
  keys_so = map_one_more key_of c.args.sites.now c.loop-site.site-index _ _ c.loop-site.v.items c.push.new.self.items c.loop-site-test.true c.key.ensures.key c.loop-site.invariant.keys_so c.in_ok-push.ensures.items;
  placed_so = All-more IsPlaced c.args.sites.now c.loop-site.site-index _ c.loop-site-test.true c.loop-site.invariant.placed_so c.key.ensures.placed;
}
