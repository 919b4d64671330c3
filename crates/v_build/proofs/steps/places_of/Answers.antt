use Rattle.std.proofs.Common.{◌≡◌, ◌≤◌, IfOk, length, map, subst, sym, ap, ◌∙◌}
use Rattle.std.specs.List.{All}
use Rattle.src_text.specs.Place.{place_at}
use Rattle.v_build.proofs.Spots.{places_of_starts, starts_within}
use Rattle.v_build.proofs.steps.places_of.Goals as goal

pub places-requires-clause-within : goal.places-requires-clause-within
places-requires-clause-within c = subst (All (λ start. start ≤ length c.args.text.now)) (sym (c.deref.ensures.value ∙ c.in_ok-starts.ensures)) (starts_within c.args.text.now c.args.tokens.now c.requires.inside)

pub returns : goal.returns
returns c =
    let text = c.args.text.now in
    subst (λ x. IfOk c.places.result (λ v. v.items ≡ x)) (ap (map (place_at text)) (c.deref.ensures.value ∙ c.in_ok-starts.ensures) ∙ places_of_starts text c.args.tokens.now) c.places.ensures
