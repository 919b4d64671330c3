use Rattle.std.proofs.Common.{[], ◌∷◌, ◌++◌, Some, reverse, sym, ◌∙◌}
use Rattle.stack_parts.proofs.Takings.{two_lost}
use Rattle.v_stack.specs.Values.{with_declarator, with_declarators}
use Rattle.v_stack.specs.declared.values.NamesValue.TheVariants as NamesValue
use Rattle.v_stack.specs.declared.values.Value.TheVariants as Value
use Rattle.v_make_declarations.proofs.declaration_actions.make_add_declarator.Goals as goal

pub returns-in_default : goal.returns-in_default
returns-in_default c = two_lost c.take_declarator-declarator.result c.take_declarators-declarators.result (with_declarator (reverse c.args.stack.now.items)) with_declarators (reverse c.take_declarator-declarator.new.stack.items) (reverse c.take_declarators-declarators.new.stack.items) c.take_declarator-declarator.ensures c.take_declarators-declarators.ensures (λ declarator declarators rest. Some (Value.Names (NamesValue.Declarators (declarators ++ declarator ∷ [])) ∷ rest)) (sym c.all_two.ensures ∙ c.in_default.is)
