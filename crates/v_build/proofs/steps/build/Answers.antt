use Rattle.std.proofs.Common.{◌≡◌, List, [], ◌∷◌, IfOk, Some, subst, sym, ◌∙◌}
use Rattle.src_text.specs.declared.refusal.Place.{Place}
use Rattle.v_stack.specs.declared.values.Value.TheVariants as value
use Rattle.v_stack.specs.declared.values.ModuleValue.TheVariants as module_value
use Rattle.v_actions.specs.Acts.{built}
use Rattle.v_actions.specs.Reading.{BuildsTree}
use Rattle.v_build.proofs.Spots.{with_places}
use Rattle.v_build.proofs.steps.build.Goals as goal

pub build_of-requires : goal.build_of-requires
build_of-requires c = record {
  builds = subst (λ (x : List Place). BuildsTree (built (with_places c.args.text.now c.args.tokens.now x) c.args.steps.now [])) (sym (c.deref.ensures.value ∙ c.in_ok-places.ensures)) c.requires.builds;
}

pub returns : goal.returns
returns c =
    subst (λ (x : List Place). IfOk c.build_of.result (λ tree. built (with_places c.args.text.now c.args.tokens.now x) c.args.steps.now [] ≡ Some (value.Module (module_value.Source tree) ∷ []))) (c.deref.ensures.value ∙ c.in_ok-places.ensures) c.build_of.ensures
