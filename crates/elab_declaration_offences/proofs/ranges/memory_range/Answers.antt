use Rattle.std.proofs.Common.{ap, ◌∙◌}
use Rattle.src_text.specs.declared.kind.Kind.TheVariants.{VRange}
use Rattle.offence_order.specs.Order.{first_of}
use Rattle.elab_offences.specs.Rules.{at_if}
use Rattle.elab_offences.proofs.Noting.{notes_then}
use Rattle.elab_declaration_offences.specs.Ranges.{end_of, ends_offences, is_wrong_memory}
use Rattle.elab_declaration_offences.proofs.ranges.memory_range.Goals as goal

pub returns : goal.returns
returns c =
    notes_then (ends_offences c.args.names.now c.args.r.now) (at_if (is_wrong_memory (end_of c.args.names.now c.args.r.now.high) (end_of c.args.names.now c.args.r.now.low)) c.args.r.now.place VRange) _ _ _
    c.in_ok-ends.ensures
    (c.at_if.ensures ∙ ap (λ b. first_of c.ends.new.first.found (at_if b c.args.r.now.place VRange)) (c.is_wrong_memory.ensures ∙ ap (λ h. is_wrong_memory h c.in_ok-last.last) c.in_ok-start.ensures ∙ ap (is_wrong_memory (end_of c.args.names.now c.args.r.now.high)) c.in_ok-last.ensures))
