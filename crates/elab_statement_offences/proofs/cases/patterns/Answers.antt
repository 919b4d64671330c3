use Rattle.elab_offences.proofs.Noting.{listed_next, listed_end}
use Rattle.elab_statement_offences.specs.Cases.{pattern_offences}
use Rattle.elab_statement_offences.proofs.cases.patterns.Goals as goal

pub loop-e-preserved : goal.loop-e-preserved
loop-e-preserved c =
    listed_next (pattern_offences c.args.names.now c.args.turns.now c.args.kind) c.args.values.now c.loop-e.e-index _ _ c.loop-e.invariant c.e-item.result _ _ c.loop-e-test.true c.e-item.is c.in_ok-pattern.ensures

pub returns : goal.returns
returns c =
    listed_end (pattern_offences c.args.names.now c.args.turns.now c.args.kind) c.args.values.now c.loop-e.e-index _ _ c.loop-e.invariant c.loop-e-test.false
