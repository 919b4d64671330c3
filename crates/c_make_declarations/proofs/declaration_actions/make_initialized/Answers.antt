use Rattle.std.proofs.Common.{◌≡◌, [], ◌∷◌, ◌++◌, Some, None, reverse, sym, ◌∙◌}
use Rattle.stack_parts.proofs.Takings.{two_found, two_lost}
use Rattle.c_stack.specs.Values.{with_initializer, with_name}
use Rattle.c_tree.specs.declared.declarations.Declarator.TheVariants as declarator
use Rattle.c_stack.specs.declared.values.Value.TheVariants as value
use Rattle.c_stack.specs.declared.values.DeclarationValue.TheVariants as declaration_value
use Rattle.c_make_declarations.proofs.declaration_actions.make_initialized.Goals as goal

pub returns : goal.returns
returns c =
    let e = two_found c.take_initializer-given.result c.take_name-name.result (with_initializer (reverse c.args.stack.now.items)) with_name (reverse c.take_initializer-given.new.stack.items) (reverse c.take_name-name.new.stack.items) c.take_initializer-given.ensures c.take_name-name.ensures (λ given name rest. Some (value.Declaration (declaration_value.Declarator (declarator.Initialized name given)) ∷ rest)) (c.in-Some.given, c.in-Some.name) (sym c.all_two.ensures ∙ c.in-Some.is) in
    let p = c.in_ok-put.ensures in
    cc

pub returns-in_default : goal.returns-in_default
returns-in_default c = two_lost c.take_initializer-given.result c.take_name-name.result (with_initializer (reverse c.args.stack.now.items)) with_name (reverse c.take_initializer-given.new.stack.items) (reverse c.take_name-name.new.stack.items) c.take_initializer-given.ensures c.take_name-name.ensures (λ given name rest. Some (value.Declaration (declaration_value.Declarator (declarator.Initialized name given)) ∷ rest)) (sym c.all_two.ensures ∙ c.in_default.is)
