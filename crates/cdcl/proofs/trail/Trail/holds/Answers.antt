use Rattle.cdcl.proofs.Arrays.{holds-at}
use Rattle.cdcl.proofs.trail.Trail.holds.Goals as goal

pub returns : goal.returns
returns c =
    holds-at c.args.self.now.lits.items c.args.self.now.values.items c.args.l c.index.result.now c.value_of.result
    c.index.ensures c.value_of.ensures c.args.self.now.consistent c.args.self.now.valued c.requires
