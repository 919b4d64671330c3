use Rattle.std.proofs.Common.{◌≡◌, [], ◌∷◌, ◌++◌, Some, None, reverse, sym, ◌∙◌}
use Rattle.stack_parts.proofs.Takings.{two_found, two_lost}
use Rattle.c_stack.specs.Values.{with_parts, with_place}
use Rattle.c_stack.specs.declared.values.Value.TheVariants as value
use Rattle.c_stack.specs.declared.values.StatementValue.TheVariants as statement_value
use Rattle.c_make_statements.proofs.statement_actions.make_block.Goals as goal

pub returns : goal.returns
returns c =
    let e = two_found c.take_parts-items.result c.take_place-place.result (with_parts (reverse c.args.stack.now.items)) with_place (reverse c.take_parts-items.new.stack.items) (reverse c.take_place-place.new.stack.items) c.take_parts-items.ensures c.take_place-place.ensures (λ items place rest. Some (value.Statement (statement_value.Block (record { place = place; items = items })) ∷ rest)) (c.in-Some.items, c.in-Some.place) (sym c.all_two.ensures ∙ c.in-Some.is) in
    let p = c.in_ok-put.ensures in
    cc

pub returns-in_default : goal.returns-in_default
returns-in_default c = two_lost c.take_parts-items.result c.take_place-place.result (with_parts (reverse c.args.stack.now.items)) with_place (reverse c.take_parts-items.new.stack.items) (reverse c.take_place-place.new.stack.items) c.take_parts-items.ensures c.take_place-place.ensures (λ items place rest. Some (value.Statement (statement_value.Block (record { place = place; items = items })) ∷ rest)) (sym c.all_two.ensures ∙ c.in_default.is)
