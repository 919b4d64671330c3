use Rattle.std.proofs.Common.{◌≡◌, map, take}
use Rattle.src_text.specs.Place.{place_at}
use Rattle.token_places.proofs.places.Given as goal

abbrev pub invariant-loop-start : goal.invariant-loop-start
invariant-loop-start l = record {
  same : l.walker.text.now ≡ l.text;
  so_far : l.places.items ≡ map (place_at l.text) (take l.start-index l.starts);
}
