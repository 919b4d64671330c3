use Rattle.std.proofs.Common.{◌≡◌, map, take}
use Rattle.c_properties.specs.Properties.{prop_of}
use Rattle.c_properties.proofs.properties.Given as goal

abbrev pub invariant-loop-site : goal.invariant-loop-site
invariant-loop-site l = l.properties ≡ map (prop_of l.function l.sites) (take l.site-index l.sites)
