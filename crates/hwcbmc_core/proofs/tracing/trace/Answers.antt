use Rattle.std.proofs.Common.{◌≡◌, ◌∙◌, ◌+◌, ◌++◌, List, ℕ, [], ap, sym, refl, arith}
use Rattle.std.specs.Prelude.{codes, decimal}
use Rattle.hwcbmc_core.specs.Runs.{Frame, changed, next_count, shown_count}
use Rattle.hwcbmc_core.specs.Trace.{event_text, shown_text}
use Rattle.hwcbmc_core.proofs.TraceLemmas.{frames_text, count_at-more, first_told, step_told, trace_of_break}
use Rattle.hwcbmc_core.proofs.tracing.trace.Goals as goal

pub loop-edge-init : goal.loop-edge-init
loop-edge-init c = record {
  count = refl;
  told = c.in_ok-push_count.ensures
      ∙ ap (λ xs. xs ++ shown_text (shown_count c.args.counter.first)) (c.in_ok-push_frame.ensures ∙ ap (λ xs. xs ++ event_text (Frame 0 [])) c.in_ok-text.ensures.ok)
      ∙ first_told c.args.counter;
}

pub loop-edge-preserved : goal.loop-edge-preserved
loop-edge-preserved c = record {
  count = ap (next_count c.args.counter) c.loop-edge.invariant.count ∙ sym (count_at-more c.args.counter c.loop-edge.edge);
  told = c.in_ok-push_step.ensures
      ∙ ap (λ xs. xs ++ event_text (Frame (c.loop-edge.edge + 1) (changed c.loop-edge.count (next_count c.args.counter c.loop-edge.count)))) c.loop-edge.invariant.told
      ∙ step_told c.args.counter c.loop-edge.edge c.loop-edge.count c.loop-edge.invariant.count;
}

pub returns : goal.returns
returns c = λ bounds choices broken.
    let last : c.loop-edge.edge ≡ c.args.program.edges = omega arith in
    let foot : List ℕ = codes "broken main.assertion.1 at line " ++ (decimal (5 + c.args.program.edges) ++ codes "\nVERIFICATION FAILED\n") in
    c.in_ok-push_verdict.ensures
    ∙ ap (λ xs. xs ++ foot) (c.loop-edge.invariant.told ∙ ap (λ n. codes "Trace for main.assertion.1:\n" ++ frames_text c.args.counter n) last)
    ∙ trace_of_break c.args.program c.args.counter bounds choices broken
