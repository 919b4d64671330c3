use Rattle.std.proofs.Common.{◌≡◌, [], ◌∷◌, ◌++◌, Some, None, reverse, sym, ◌∙◌}
use Rattle.stack_parts.proofs.Takings.{two_found, two_lost}
use Rattle.c_stack.specs.Values.{with_label, with_labels}
use Rattle.c_stack.specs.declared.values.Value.TheVariants as value
use Rattle.c_stack.specs.declared.values.SwitchValue.TheVariants as switch_value
use Rattle.c_make_statements.proofs.statement_actions.make_add_label.Goals as goal

pub returns-in_default : goal.returns-in_default
returns-in_default c = two_lost c.take_label-label_made.result c.take_labels-labels.result (with_label (reverse c.args.stack.now.items)) with_labels (reverse c.take_label-label_made.new.stack.items) (reverse c.take_labels-labels.new.stack.items) c.take_label-label_made.ensures c.take_labels-labels.ensures (λ label_made labels rest. Some (value.Switch (switch_value.Labels (record { place = labels.place; labels = (labels.labels ++ label_made ∷ []) })) ∷ rest)) (sym c.all_two.ensures ∙ c.in_default.is)
