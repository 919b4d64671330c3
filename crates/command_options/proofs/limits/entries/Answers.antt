use Rattle.std.proofs.Common.{◌∙◌, sym, ap, Some, rules}
use Rattle.command_options.proofs.Entries.{after, listed, stops, goes_on, ends_without, ends_with}
use Rattle.command_options.proofs.limits.entries.Goals as goal

pub returns-in-None : goal.returns-in-None
returns-in-None c =
    stops c.args.text.now c.pieces.rest.now c.pieces.list (c.in-Some.piece.now, c.in-Some.more.now) c.pieces.invariant.1 (sym c.in-Some.ensures)
    (sym c.in_ok-entry.ensures ∙ c.in-None.is)

pub pieces-preserved : goal.pieces-preserved
pieces-preserved c = (
  search rules,
  goes_on c.args.text.now c.pieces.rest.now c.pieces.list c.in-Some-2.one (c.in-Some.piece.now, c.in-Some.more.now) c.pieces.invariant.1 (sym c.in-Some.ensures)
      (sym c.in_ok-entry.ensures ∙ c.in-Some-2.is)
      ∙ ap (λ es. after es (listed c.in-Some.more.now)) (sym c.in_ok-push-in-Some-2.ensures.ok),
)

pub returns-in-None-2 : goal.returns-in-None-2
returns-in-None-2 c =
    ends_without c.args.text.now c.pieces.rest.now c.pieces.list c.pieces.invariant.1 (sym c.in_default.ensures) (sym c.in_ok-entry-2.ensures ∙ c.in-None-2.is)

pub returns-in_ok-push-in-Some-3 : goal.returns-in_ok-push-in-Some-3
returns-in_ok-push-in-Some-3 c =
    ap Some c.in_ok-push-in-Some-3.ensures.ok
    ∙ ends_with c.args.text.now c.pieces.rest.now c.pieces.list c.in-Some-3.one c.pieces.invariant.1 (sym c.in_default.ensures) (sym c.in_ok-entry-2.ensures ∙ c.in-Some-3.is)
