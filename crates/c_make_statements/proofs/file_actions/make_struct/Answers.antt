use Rattle.std.proofs.Common.{◌≡◌, [], ◌∷◌, ◌++◌, Some, None, reverse, sym, ◌∙◌}
use Rattle.stack_parts.proofs.Takings.{three_found, three_lost}
use Rattle.c_stack.specs.Values.{with_declared, with_members, with_place}
use Rattle.c_tree.specs.declared.file.External.TheVariants as external
use Rattle.c_stack.specs.declared.values.Value.TheVariants as value
use Rattle.c_stack.specs.declared.values.FileValue.TheVariants as file_value
use Rattle.c_make_statements.proofs.file_actions.make_struct.Goals as goal

pub returns : goal.returns
returns c =
    let e = three_found c.take_members-members.result c.take_declared-tag.result c.take_place-place.result (with_members (reverse c.args.stack.now.items)) with_declared with_place (reverse c.take_members-members.new.stack.items) (reverse c.take_declared-tag.new.stack.items) (reverse c.take_place-place.new.stack.items) c.take_members-members.ensures c.take_declared-tag.ensures c.take_place-place.ensures (λ members tag place rest. Some (value.File (file_value.External (external.Struct place tag members)) ∷ rest)) (c.in-Some.members, c.in-Some.tag, c.in-Some.place) (sym c.all_three.ensures ∙ c.in-Some.is) in
    let p = c.in_ok-put.ensures in
    cc

pub returns-in_default : goal.returns-in_default
returns-in_default c = three_lost c.take_members-members.result c.take_declared-tag.result c.take_place-place.result (with_members (reverse c.args.stack.now.items)) with_declared with_place (reverse c.take_members-members.new.stack.items) (reverse c.take_declared-tag.new.stack.items) (reverse c.take_place-place.new.stack.items) c.take_members-members.ensures c.take_declared-tag.ensures c.take_place-place.ensures (λ members tag place rest. Some (value.File (file_value.External (external.Struct place tag members)) ∷ rest)) (sym c.all_three.ensures ∙ c.in_default.is)
