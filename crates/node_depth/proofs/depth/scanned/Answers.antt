use Rattle.std.proofs.Common.{◌∷◌, [], reverse, take, sym, ◌∙◌}
use Rattle.std.specs.declared.option.Option.TheVariants.{None}
use Rattle.node_depth.specs.Scan.{scan}
use Rattle.node_depth.proofs.ScanSteps.{runs_out}
use Rattle.node_depth.proofs.depth.scanned.Goals as goal

pub returns-in_default : goal.returns-in_default
returns-in_default c = runs_out c.nodes.levels.items c.nodes.best (scan (c.args.level ∷ []) None (reverse c.args.nodes.now)) (reverse (take c.nodes.at c.args.nodes.now))
    (let a = c.nodes.levels.ok.0 in let b = c.in_default.ensures.cases.0 in sym a ∙ b) c.nodes.invariant.state
