use Rattle.std.proofs.Common.{◌≡◌, ◌+◌, ◌∷◌, [], reverse, IfOk, subst}
use Rattle.std.specs.declared.option.Option.TheVariants.{None}
use Rattle.node_depth.specs.Scan.{scan}
use Rattle.node_depth.proofs.ScanSteps.{found_result}
use Rattle.node_depth.proofs.depth.first_deeper.Goals as goal

pub returns : goal.returns
returns c = found_result c.args.limit c.args.nodes.now c.scanned.result
    (subst (λ v. IfOk c.scanned.result (λ r. r ≡ scan ((v + 1) ∷ []) None (reverse c.args.nodes.now))) c.from.ensures c.scanned.ensures)
