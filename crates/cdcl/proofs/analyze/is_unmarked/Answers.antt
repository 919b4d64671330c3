use Rattle.std.proofs.Common.{◌-◌, sym, ap, ◌∙◌, arith}
use Rattle.clause_arena.specs.declared.Lit.{Lit}
use Rattle.cdcl.specs.Marks.{is_seen}
use Rattle.cdcl.proofs.Back.{get_or-any}
use Rattle.cdcl.proofs.analyze.is_unmarked.Goals as goal

pub returns-then-seen-index : goal.returns-then-seen-index
returns-then-seen-index c = (
  c.back.i - 1,
  omega (arith, c.back-test.true),
  omega (arith, c.back-test.true, c.back.invariant.upper),
  λ d.
      ap (λ (l : Lit). is_seen c.args.seen.now l.var)
      (get_or-any c.args.trail.now.lits.items (c.back.i - 1) d c.index.result.now (omega (arith, c.back-test.true, c.back.invariant.upper, c.requires.place)) ∙ sym c.index.ensures)
      ∙ c.if-seen-index.true,
)
