use Rattle.std.proofs.Common.{◌≡◌, [], ◌∷◌, ◌++◌, Some, None, reverse, sym, ◌∙◌}
use Rattle.stack_parts.proofs.Takings.{two_found, two_lost}
use Rattle.c_stack.specs.Values.{with_member, with_members}
use Rattle.c_stack.specs.declared.values.Value.TheVariants as value
use Rattle.c_stack.specs.declared.values.PartValue.TheVariants as part_value
use Rattle.c_make_declarations.proofs.declaration_actions.make_add_member.Goals as goal

pub returns-in_default : goal.returns-in_default
returns-in_default c = two_lost c.take_member-member_made.result c.take_members-members.result (with_member (reverse c.args.stack.now.items)) with_members (reverse c.take_member-member_made.new.stack.items) (reverse c.take_members-members.new.stack.items) c.take_member-member_made.ensures c.take_members-members.ensures (λ member_made members rest. Some (value.Part (part_value.Members (members ++ member_made ∷ [])) ∷ rest)) (sym c.all_two.ensures ∙ c.in_default.is)
