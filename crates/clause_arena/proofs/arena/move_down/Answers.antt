use Rattle.std.proofs.Common.{List, drop, ap, ◌∙◌}
use Rattle.clause_arena.specs.declared.Lit.{Lit}
use Rattle.clause_arena.proofs.SpanParts.{moved-above}
use Rattle.clause_arena.proofs.arena.move_down.Goals as goal

pub returns-clause-above : goal.returns-clause-above
returns-clause-above c =
    ap (λ (x : List Lit). drop c.args.span.to x) c.copy_within.ensures.items
    ∙ moved-above c.args.lits.now.items c.args.span.from c.args.span.to c.args.end c.requires.start c.requires.room c.requires.down
