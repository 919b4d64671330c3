use Rattle.std.proofs.Common.{◌≡◌, ◌++◌}
use Rattle.std.specs.Prelude.{codes, string_bytes}
use Rattle.hwcbmc_core.specs.Runs.{count_at}
use Rattle.hwcbmc_core.proofs.TraceLemmas.{frames_text}
use Rattle.hwcbmc_core.proofs.tracing.trace.Given as goal

-- the frames so far are told, and the count is that of the last
abbrev pub invariant-loop-edge : goal.invariant-loop-edge
invariant-loop-edge l = record {
  count : l.count ≡ count_at l.counter l.edge;
  told : string_bytes l.text ≡ codes "Trace for main.assertion.1:\n" ++ frames_text l.counter l.edge;
}
