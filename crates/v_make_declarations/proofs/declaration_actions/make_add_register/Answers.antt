use Rattle.std.proofs.Common.{[], ◌∷◌, ◌++◌, Some, reverse, sym, ◌∙◌}
use Rattle.stack_parts.proofs.Takings.{two_lost}
use Rattle.v_stack.specs.Values.{with_register, with_registers}
use Rattle.v_stack.specs.declared.values.NamesValue.TheVariants as NamesValue
use Rattle.v_stack.specs.declared.values.Value.TheVariants as Value
use Rattle.v_make_declarations.proofs.declaration_actions.make_add_register.Goals as goal

pub returns-in_default : goal.returns-in_default
returns-in_default c = two_lost c.take_register-register.result c.take_registers-registers.result (with_register (reverse c.args.stack.now.items)) with_registers (reverse c.take_register-register.new.stack.items) (reverse c.take_registers-registers.new.stack.items) c.take_register-register.ensures c.take_registers-registers.ensures (λ register registers rest. Some (Value.Names (NamesValue.Registers (registers ++ register ∷ [])) ∷ rest)) (sym c.all_two.ensures ∙ c.in_default.is)
