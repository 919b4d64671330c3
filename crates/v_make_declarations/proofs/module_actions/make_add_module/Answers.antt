use Rattle.std.proofs.Common.{[], ◌∷◌, ◌++◌, Some, reverse, sym, ◌∙◌}
use Rattle.stack_parts.proofs.Takings.{two_lost}
use Rattle.v_stack.specs.Values.{with_module, with_modules}
use Rattle.v_stack.specs.declared.values.ModuleValue.TheVariants as ModuleValue
use Rattle.v_stack.specs.declared.values.Value.TheVariants as Value
use Rattle.v_make_declarations.proofs.module_actions.make_add_module.Goals as goal

pub returns-in_default : goal.returns-in_default
returns-in_default c = two_lost c.take_module-unit.result c.take_modules-units.result (with_module (reverse c.args.stack.now.items)) with_modules (reverse c.take_module-unit.new.stack.items) (reverse c.take_modules-units.new.stack.items) c.take_module-unit.ensures c.take_modules-units.ensures (λ unit units rest. Some (Value.Module (ModuleValue.Modules (units ++ unit ∷ [])) ∷ rest)) (sym c.all_two.ensures ∙ c.in_default.is)
