use Rattle.std.proofs.Common.{◌≡◌, [], ◌∷◌, ◌++◌, Some, None, reverse, sym, ◌∙◌}
use Rattle.stack_parts.proofs.Takings.{two_found, two_lost}
use Rattle.c_stack.specs.Values.{with_name, with_object}
use Rattle.c_stack.specs.declared.values.Value.TheVariants as value
use Rattle.c_stack.specs.declared.values.ExpressionValue.TheVariants as expression_value
use Rattle.c_make_expressions.proofs.expression_actions.make_add_path_member.Goals as goal

pub returns-in_default : goal.returns-in_default
returns-in_default c = two_lost c.take_name-name.result c.take_object-object.result (with_name (reverse c.args.stack.now.items)) with_object (reverse c.take_name-name.new.stack.items) (reverse c.take_object-object.new.stack.items) c.take_name-name.ensures c.take_object-object.ensures (λ name object rest. Some (value.Expression (expression_value.Object (record { name = object.name; members = (object.members ++ name ∷ []) })) ∷ rest)) (sym c.all_two.ensures ∙ c.in_default.is)
