use Rattle.std.proofs.Common.{[], ◌∷◌, ◌++◌, Some, reverse, sym, ◌∙◌}
use Rattle.stack_parts.proofs.Takings.{two_lost}
use Rattle.v_stack.specs.Values.{with_declared, with_declared_names}
use Rattle.v_stack.specs.declared.values.NamesValue.TheVariants as NamesValue
use Rattle.v_stack.specs.declared.values.Value.TheVariants as Value
use Rattle.v_make_declarations.proofs.declaration_actions.make_add_declared.Goals as goal

pub returns-in_default : goal.returns-in_default
returns-in_default c = two_lost c.take_declared-name.result c.take_declared_names-names.result (with_declared (reverse c.args.stack.now.items)) with_declared_names (reverse c.take_declared-name.new.stack.items) (reverse c.take_declared_names-names.new.stack.items) c.take_declared-name.ensures c.take_declared_names-names.ensures (λ name names rest. Some (Value.Names (NamesValue.DeclaredNames (names ++ name ∷ [])) ∷ rest)) (sym c.all_two.ensures ∙ c.in_default.is)
