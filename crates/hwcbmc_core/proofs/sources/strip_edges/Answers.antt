use Rattle.std.proofs.Common.{◌∙◌, ap, sym, ◌++◌, length, arith}
use Rattle.hwcbmc_core.specs.Sources.{edge_lines}
use Rattle.hwcbmc_core.proofs.SourceLemmas.{edge_lines-push}
use Rattle.hwcbmc_core.proofs.sources.strip_edges.Goals as goal

pub loop-next-preserved : goal.loop-next-preserved
loop-next-preserved c = record {
  lines = c.loop-next.invariant.lines ∙ ap (λ xs. edge_lines c.loop-next.edges ++ xs) c.in-Some.ensures.found ∙ sym (edge_lines-push c.loop-next.edges c.in-Some.next.now);
  few = omega (arith, ap length c.in-Some.ensures.found);
}
