use Rattle.std.proofs.Common.{◌≡◌, [], ◌∷◌, ◌++◌, Some, None, reverse, sym, ◌∙◌}
use Rattle.stack_parts.proofs.Takings.{two_found, two_lost}
use Rattle.c_stack.specs.Values.{with_declarator, with_declarators}
use Rattle.c_stack.specs.declared.values.Value.TheVariants as value
use Rattle.c_stack.specs.declared.values.DeclarationValue.TheVariants as declaration_value
use Rattle.c_make_declarations.proofs.declaration_actions.make_add_declarator.Goals as goal

pub returns-in_default : goal.returns-in_default
returns-in_default c = two_lost c.take_declarator-declarator_made.result c.take_declarators-declarators.result (with_declarator (reverse c.args.stack.now.items)) with_declarators (reverse c.take_declarator-declarator_made.new.stack.items) (reverse c.take_declarators-declarators.new.stack.items) c.take_declarator-declarator_made.ensures c.take_declarators-declarators.ensures (λ declarator_made declarators rest. Some (value.Declaration (declaration_value.Declarators (declarators ++ declarator_made ∷ [])) ∷ rest)) (sym c.all_two.ensures ∙ c.in_default.is)
