use Rattle.std.proofs.Common.{◌≡◌, [], ◌∷◌, ◌++◌, Some, None, reverse, sym, ◌∙◌}
use Rattle.stack_parts.proofs.Takings.{two_found, two_lost}
use Rattle.c_stack.specs.Values.{with_external, with_externals}
use Rattle.c_stack.specs.declared.values.Value.TheVariants as value
use Rattle.c_stack.specs.declared.values.FileValue.TheVariants as file_value
use Rattle.c_make_statements.proofs.file_actions.make_add_external.Goals as goal

pub returns-in_default : goal.returns-in_default
returns-in_default c = two_lost c.take_external-part.result c.take_externals-externals.result (with_external (reverse c.args.stack.now.items)) with_externals (reverse c.take_external-part.new.stack.items) (reverse c.take_externals-externals.new.stack.items) c.take_external-part.ensures c.take_externals-externals.ensures (λ part externals rest. Some (value.File (file_value.Externals (externals ++ part ∷ [])) ∷ rest)) (sym c.all_two.ensures ∙ c.in_default.is)
