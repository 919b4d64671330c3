use Rattle.std.proofs.Common.{◌≡◌, [], ◌∷◌, ◌++◌, Some, None, reverse, sym, ◌∙◌}
use Rattle.stack_parts.proofs.Takings.{two_found, two_lost}
use Rattle.c_stack.specs.Values.{with_labelled, with_statement}
use Rattle.c_stack.specs.declared.values.Value.TheVariants as value
use Rattle.c_stack.specs.declared.values.SwitchValue.TheVariants as switch_value
use Rattle.c_make_statements.proofs.statement_actions.make_add_to_group.Goals as goal

pub returns-in_default : goal.returns-in_default
returns-in_default c = two_lost c.take_statement-part.result c.take_labelled-labelled.result (with_statement (reverse c.args.stack.now.items)) with_labelled (reverse c.take_statement-part.new.stack.items) (reverse c.take_labelled-labelled.new.stack.items) c.take_statement-part.ensures c.take_labelled-labelled.ensures (λ part labelled rest. Some (value.Switch (switch_value.Labelled (record { place = labelled.place; labels = labelled.labels; body = (labelled.body ++ part ∷ []) })) ∷ rest)) (sym c.all_two.ensures ∙ c.in_default.is)
