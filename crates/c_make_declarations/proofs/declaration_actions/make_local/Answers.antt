use Rattle.std.proofs.Common.{◌≡◌, [], ◌∷◌, ◌++◌, Some, None, reverse, sym, ◌∙◌}
use Rattle.stack_parts.proofs.Takings.{two_found, two_lost}
use Rattle.c_stack.specs.Values.{with_declarators, with_type}
use Rattle.c_stack.specs.declared.values.Value.TheVariants as value
use Rattle.c_stack.specs.declared.values.DeclarationValue.TheVariants as declaration_value
use Rattle.c_make_declarations.proofs.declaration_actions.make_local.Goals as goal

pub returns : goal.returns
returns c =
    let e = two_found c.take_declarators-declarators.result c.take_type-type_name.result (with_declarators (reverse c.args.stack.now.items)) with_type (reverse c.take_declarators-declarators.new.stack.items) (reverse c.take_type-type_name.new.stack.items) c.take_declarators-declarators.ensures c.take_type-type_name.ensures (λ declarators type_name rest. Some (value.Declaration (declaration_value.Local (record { constant = None; type_name = type_name; declarators = declarators })) ∷ rest)) (c.in-Some.declarators, c.in-Some.type_name) (sym c.all_two.ensures ∙ c.in-Some.is) in
    let p = c.in_ok-put.ensures in
    cc

pub returns-in_default : goal.returns-in_default
returns-in_default c = two_lost c.take_declarators-declarators.result c.take_type-type_name.result (with_declarators (reverse c.args.stack.now.items)) with_type (reverse c.take_declarators-declarators.new.stack.items) (reverse c.take_type-type_name.new.stack.items) c.take_declarators-declarators.ensures c.take_type-type_name.ensures (λ declarators type_name rest. Some (value.Declaration (declaration_value.Local (record { constant = None; type_name = type_name; declarators = declarators })) ∷ rest)) (sym c.all_two.ensures ∙ c.in_default.is)
