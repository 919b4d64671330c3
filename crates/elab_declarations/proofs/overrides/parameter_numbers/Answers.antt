use Rattle.std.proofs.Common.{[], sym, ap, ◌∙◌}
use Rattle.std.specs.Prelude.{flat_map}
use Rattle.elab_declarations.specs.Overrides.{names_in, item_names, numbered}
use Rattle.elab_declarations.proofs.Numbering.{numbered_append}
use Rattle.elab_declarations.proofs.overrides.parameter_numbers.Goals as goal

pub returns : goal.returns
returns c =
    c.in_ok-add_items.ensures
    ∙ ap (λ l. numbered c.add_declarations.new.numbers (flat_map item_names l)) c.as_slice-2.ensures
    ∙ ap (λ s. numbered s (flat_map item_names c.args.m.now.items))
    (c.in_ok-add_declarations.ensures
    ∙ ap (λ l. numbered c.new-numbers.result (flat_map names_in l)) c.as_slice.ensures
    ∙ ap (λ s. numbered s (flat_map names_in c.args.m.now.parameters)) c.new-numbers.ensures)
    ∙ sym (numbered_append [] (flat_map names_in c.args.m.now.parameters) (flat_map item_names c.args.m.now.items))
