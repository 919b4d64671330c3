use Rattle.std.proofs.Common.{◌≡◌, ◌++◌, List, ap, ◌∙◌}
use Rattle.std.specs.Prelude.{codes, slice_get, string_bytes}
use Rattle.std.specs.List.{flat_map}
use Rattle.joint_ir.specs.declared.event.Event.{Event}
use Rattle.joint_ir.specs.declared.program.PropId.{PropId}
use Rattle.trace_text.specs.Trace.{event_text, prop_text, broken_prop}
use Rattle.trace_text.proofs.Joins.{joined}
use Rattle.trace_text.proofs.trace.Goals as goal

pub returns : goal.returns
returns c =
    let props = c.args.pair.now.program.props in
    let prop : c.broken_prop.result ≡ broken_prop c.args.events.now = c.broken_prop.ensures ∙ ap broken_prop c.as_slice.ensures in
    joined (string_bytes c.new-text.result) (string_bytes c.push_head.new.text) (string_bytes c.push_events.new.text) (string_bytes c.write.new.self)
    (codes "Trace for ") (prop_text (slice_get props (broken_prop c.args.events.now).0)) (codes ":\n") (flat_map (event_text c.args.pair.now) c.args.events.now) (codes "VERIFICATION FAILED\n")
    c.new-text.ensures.bytes
    (c.in_ok-push_head.ensures ∙ ap (λ (p : PropId). string_bytes c.new-text.result ++ (codes "Trace for " ++ (prop_text (slice_get props p.0) ++ codes ":\n"))) prop)
    (c.in_ok-push_events.ensures ∙ ap (λ (l : List Event). string_bytes c.push_head.new.text ++ flat_map (event_text c.args.pair.now) l) c.as_slice-2.ensures)
    c.in_ok-write.ensures.bytes
