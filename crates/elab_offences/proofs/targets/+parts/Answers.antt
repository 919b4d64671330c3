use Rattle.std.proofs.Common.{false, refl, ap, ◌∙◌}
use Rattle.std.specs.Prelude.{Option, flat_map}
use Rattle.v_tree.specs.declared.expr.Selection.{Selection}
use Rattle.offence_order.specs.Order.{first_of}
use Rattle.elab_names.specs.declared.names.Entry.{Entry}
use Rattle.elab_names.specs.declared.select.Choice.{Choice}
use Rattle.elab_names.specs.Names.{find_in}
use Rattle.elab_names.specs.Measured.{choice_of}
use Rattle.elab_offences.specs.Rules.{part_target_offences}
use Rattle.elab_offences.specs.Expressions.{selection_offences}
use Rattle.elab_offences.specs.Targets.{target_offences}
use Rattle.elab_offences.proofs.Noting.{noted_one, noted_two, listed_next, listed_end}
use Rattle.elab_offences.proofs.Equations.{wrong_targets}
use Rattle.elab_offences.proofs.targets.+parts.Goals as goal

pub target-returns-in_ok-targets-in-Concatenation : goal.target-returns-in_ok-targets-in-Concatenation
target-returns-in_ok-targets-in-Concatenation t c =
    noted_one (target_offences c.args.names.now c.args.turns.now c.args.register) _ _ c.in-Concatenation.is (flat_map (target_offences c.args.names.now c.args.turns.now c.args.register)) _ _ _ _ c.as_slice.ensures c.in_ok-targets-in-Concatenation.ensures (wrong_targets c.args.names.now c.args.turns.now c.args.register c.in-Concatenation.field-0 _)

pub targets-loop-t-preserved : goal.targets-loop-t-preserved
targets-loop-t-preserved t c =
    listed_next (target_offences c.args.names.now c.args.turns.now c.args.register) c.args.ts.now c.loop-t.t-index _ _ c.loop-t.invariant c.t-item.result _ _ c.loop-t-test.true c.t-item.is c.in_ok-target.ensures

pub targets-returns : goal.targets-returns
targets-returns t c =
    listed_end (target_offences c.args.names.now c.args.turns.now c.args.register) c.args.ts.now c.loop-t.t-index _ _ c.loop-t.invariant c.loop-t-test.false

pub target-returns-in_ok-selection-in-Select : goal.target-returns-in_ok-selection-in-Select
target-returns-in_ok-selection-in-Select t c =
    let wrong = λ (o : Option Entry) (k : Choice). part_target_offences c.args.register c.in-Select.x.place o k in
    let old = c.args.first.now.found in
    noted_two (target_offences c.args.names.now c.args.turns.now c.args.register) _ _ c.in-Select.is (λ (s : Selection). wrong (find_in c.args.names.now c.in-Select.x.name) (choice_of c.args.names.now c.args.turns.now s)) (selection_offences c.args.names.now c.args.turns.now false)
    c.in-Select.s c.in-Select.s c.in-Select.s c.in-Select.s _ _ _
    refl refl
    (c.part_target.ensures ∙ ap (λ o. first_of old (wrong o c.in_ok-c-in-Select.c)) c.find-in-Select.ensures ∙ ap (λ k. first_of old (wrong (find_in c.args.names.now c.in-Select.x.name) k)) c.in_ok-c-in-Select.ensures)
    c.in_ok-selection-in-Select.ensures refl
