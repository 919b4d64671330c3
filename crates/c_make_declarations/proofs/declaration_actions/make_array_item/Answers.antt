use Rattle.std.proofs.Common.{◌≡◌, [], ◌∷◌, ◌++◌, Some, None, reverse, sym, ◌∙◌}
use Rattle.stack_parts.proofs.Takings.{two_found, two_lost}
use Rattle.c_stack.specs.Values.{with_expression, with_name}
use Rattle.c_tree.specs.declared.declarations.MemberDeclarator.TheVariants as member_declarator
use Rattle.c_stack.specs.declared.values.Value.TheVariants as value
use Rattle.c_stack.specs.declared.values.DeclarationValue.TheVariants as declaration_value
use Rattle.c_make_declarations.proofs.declaration_actions.make_array_item.Goals as goal

pub returns : goal.returns
returns c =
    let e = two_found c.take_expression-len.result c.take_name-name.result (with_expression (reverse c.args.stack.now.items)) with_name (reverse c.take_expression-len.new.stack.items) (reverse c.take_name-name.new.stack.items) c.take_expression-len.ensures c.take_name-name.ensures (λ len name rest. Some (value.Declaration (declaration_value.Item (member_declarator.Array name len)) ∷ rest)) (c.in-Some.len, c.in-Some.name) (sym c.all_two.ensures ∙ c.in-Some.is) in
    let p = c.in_ok-put.ensures in
    cc

pub returns-in_default : goal.returns-in_default
returns-in_default c = two_lost c.take_expression-len.result c.take_name-name.result (with_expression (reverse c.args.stack.now.items)) with_name (reverse c.take_expression-len.new.stack.items) (reverse c.take_name-name.new.stack.items) c.take_expression-len.ensures c.take_name-name.ensures (λ len name rest. Some (value.Declaration (declaration_value.Item (member_declarator.Array name len)) ∷ rest)) (sym c.all_two.ensures ∙ c.in_default.is)
