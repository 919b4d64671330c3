use Rattle.std.proofs.Common.{sym, ap, ◌∙◌}
use Rattle.clause_arena.specs.Clause.{has}
use Rattle.clause_arena.proofs.Sets.{list_any-from_has}
use Rattle.cdcl.proofs.Places.{all-but, falsified-all, forces-one}
use Rattle.cdcl.proofs.propagate.find_watch.Goals as goal

pub returns-then-holds : goal.returns-then-holds
returns-then-holds c = list_any-from_has (has c.args.trail.now.lits.items) c.args.clause.now c.args.other c.requires.other (sym c.holds.ensures ∙ c.if-holds.true)

pub returns-then-holds-2 : goal.returns-then-holds-2
returns-then-holds-2 c =
    falsified-all c.args.trail.now.lits.items c.args.clause.now c.args.other
    (all-but c.args.trail.now.lits.items c.args.clause.now c.args.other c.min-from.result c.in-None.ensures c.in-None-open_place.ensures)
    (ap (has c.args.trail.now.lits.items) (sym c.negated.ensures) ∙ sym c.holds-2.ensures ∙ c.if-holds-2.true)

pub returns : goal.returns
returns c =
    forces-one c.args.trail.now.lits.items c.args.clause.now c.args.other
    (all-but c.args.trail.now.lits.items c.args.clause.now c.args.other c.min-from.result c.in-None.ensures c.in-None-open_place.ensures)
    c.requires.other (sym c.holds.ensures ∙ c.if-holds.false)
    (ap (has c.args.trail.now.lits.items) (sym c.negated.ensures) ∙ sym c.holds-2.ensures ∙ c.if-holds-2.false)
