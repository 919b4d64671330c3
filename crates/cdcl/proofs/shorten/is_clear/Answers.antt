use Rattle.std.proofs.Common.{sym, ap, ◌∙◌, arith}
use Rattle.clause_arena.specs.declared.Lit.{Lit}
use Rattle.cdcl.specs.Marks.{is_seen}
use Rattle.cdcl.proofs.Back.{zero_lit, place-of}
use Rattle.cdcl.proofs.shorten.is_clear.Goals as goal

pub returns : goal.returns
returns c e m h =
    let w = place-of c.args.clause.now m h in
    ap (λ (y : Lit). is_seen c.args.gone.now y.var) (sym (w.2 zero_lit)) ∙ c.loop-l.invariant w.0 (omega (arith, w.1))
