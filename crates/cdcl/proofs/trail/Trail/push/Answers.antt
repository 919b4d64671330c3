use Rattle.std.proofs.Common.{List, set, ap, ◌∙◌, arith}
use Rattle.clause_arena.specs.declared.Lit.{Lit}
use Rattle.cdcl.specs.Arrays.{reasons_along}
use Rattle.cdcl.proofs.Arrays.{reasons-push}
use Rattle.cdcl.proofs.trail.Trail.push.Goals as goal

pub returns-clause-reasoned : goal.returns-clause-reasoned
returns-clause-reasoned c =
    ap (λ (p : List Lit). reasons_along (set c.args.self.now.reasons.items c.args.l.var c.args.reason) p) c.in_ok-push.ensures.items
    ∙ reasons-push c.args.self.now.lits.items c.args.self.now.reasons.items c.args.l c.args.reason c.requires.free (omega (arith, c.requires.below, c.args.self.now.one_reason_each))
