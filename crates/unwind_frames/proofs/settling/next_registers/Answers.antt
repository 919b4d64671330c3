use Rattle.std.proofs.Common.{◌≡◌, ◌++◌, ap, ◌∙◌}
use Rattle.unwind_frames.proofs.Copied.{edge_subs, next_made}
use Rattle.unwind_frames.proofs.settling.next_registers.Goals as goal

pub copied-requires-clause-subs : goal.copied-requires-clause-subs
copied-requires-clause-subs c =
    let R = c.args.registers.now in
    let I = c.args.inputs.now in
    let W = c.args.wires.now in
    let U = c.args.unknown.now in
    let e : c.push_all-3.new.ids ≡ R ++ I ++ W ++ U =
    c.in_ok-push_all-3.ensures ∙ ap (λ l. l ++ U) (c.in_ok-push_all-2.ensures ∙ ap (λ l. l ++ W) (c.in_ok-push_all.ensures ∙ ap (λ l. l ++ I) c.in_ok-subs.ensures)) in
    edge_subs c.args.flat.now c.requires.fits c.args.net.now.terms R I W U c.push_all-3.new.ids e c.requires.registers c.requires.inputs c.requires.wires c.requires.unknown

pub returns : goal.returns
returns c =
    let R = c.args.registers.now in
    let I = c.args.inputs.now in
    let W = c.args.wires.now in
    let U = c.args.unknown.now in
    let e : c.push_all-3.new.ids ≡ R ++ I ++ W ++ U =
    c.in_ok-push_all-3.ensures ∙ ap (λ l. l ++ U) (c.in_ok-push_all-2.ensures ∙ ap (λ l. l ++ W) (c.in_ok-push_all.ensures ∙ ap (λ l. l ++ I) c.in_ok-subs.ensures)) in
    next_made c.args.flat.now c.requires.fits c.args.net.now c.copied.new.net R I W U c.push_all-3.new.ids c.in_ok-ids.ids e c.in_ok-ids.ensures
