use Rattle.std.proofs.Common.{◌≡◌, sym, ap, ◌∙◌, subst}
use Rattle.std.proofs.lemmas.Result.{IfOk-weaker}
use Rattle.joint_ir.specs.Views.{term_numbers}
use Rattle.joint_view.specs.Conditions.{AreWords}
use Rattle.joint_view.proofs.Values.{edge_fits, next_narrow}
use Rattle.joint_view.proofs.settling.next_registers.Goals as goal

pub term_numbers-requires-clause-vars : goal.term_numbers-requires-clause-vars
term_numbers-requires-clause-vars c =
    subst (λ l. AreWords c.args.flat.now.edge_terms.vars l) (sym (c.as_slice.ensures ∙ c.in_ok-numbers.ensures))
    (edge_fits c.args.flat.now c.requires.fits c.args.view.now c.args.unknown.now c.requires.view c.requires.unknown)

pub term_numbers-requires-clause-narrow : goal.term_numbers-requires-clause-narrow
term_numbers-requires-clause-narrow c = next_narrow c.args.flat.now c.requires.fits

pub returns-clause-value : goal.returns-clause-value
returns-clause-value c =
    let m = c.args.flat.now in
    IfOk-weaker c.term_numbers.result (λ ns. ns ≡ term_numbers m.edge_terms c.as_slice.result.now m.next) _
    (λ ns e. e ∙ ap (λ l. term_numbers m.edge_terms l m.next) (c.as_slice.ensures ∙ c.in_ok-numbers.ensures)) c.term_numbers.ensures.value
