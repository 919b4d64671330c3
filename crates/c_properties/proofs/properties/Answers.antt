use Rattle.c_properties.proofs.Counting.{property_next}
use Rattle.c_properties.proofs.properties.Goals as goal

pub loop-site-preserved : goal.loop-site-preserved
loop-site-preserved c =
    property_next c.args.function.now c.in_ok-name.name c.args.sites.now c.loop-site.site-index _ c.in_ok-unsorted.unsorted.items c.in_ok-keys.keys.items _ c.number_in-number.result c.property.result c.loop-site.properties c.push.new.self
    c.loop-site-test.true c.in_ok-unsorted.ensures.placed c.in_ok-unsorted.ensures.keys (rw c.as_slice.ensures.value at c.in_ok-keys.ensures.same) c.as_slice-in-loop-site.ensures.value c.number_in-number.ensures c.in_ok-name.ensures c.property.ensures c.loop-site.invariant c.in_ok-push.ensures.ok
