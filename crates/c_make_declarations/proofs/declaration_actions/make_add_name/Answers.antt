use Rattle.std.proofs.Common.{◌≡◌, [], ◌∷◌, ◌++◌, Some, None, reverse, sym, ◌∙◌}
use Rattle.stack_parts.proofs.Takings.{two_found, two_lost}
use Rattle.c_stack.specs.Values.{with_declared, with_names}
use Rattle.c_stack.specs.declared.values.Value.TheVariants as value
use Rattle.c_stack.specs.declared.values.DeclarationValue.TheVariants as declaration_value
use Rattle.c_make_declarations.proofs.declaration_actions.make_add_name.Goals as goal

pub returns-in_default : goal.returns-in_default
returns-in_default c = two_lost c.take_declared-name.result c.take_names-names.result (with_declared (reverse c.args.stack.now.items)) with_names (reverse c.take_declared-name.new.stack.items) (reverse c.take_names-names.new.stack.items) c.take_declared-name.ensures c.take_names-names.ensures (λ name names rest. Some (value.Declaration (declaration_value.Names (names ++ name ∷ [])) ∷ rest)) (sym c.all_two.ensures ∙ c.in_default.is)
