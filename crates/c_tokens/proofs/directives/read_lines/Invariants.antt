use Rattle.std.proofs.Common.{◌-◌, ◌≤◌, length, None}
use Rattle.c_tokens.specs.Directives.{lines_of, lines_give}
use Rattle.c_tokens.specs.Reading.{names_of}
use Rattle.c_tokens.proofs.LineLemmas.{Lines}
use Rattle.c_tokens.proofs.directives.read_lines.Given as goal

abbrev pub invariant-loop-at : goal.invariant-loop-at
invariant-loop-at l = record {
  inside : l.at ≤ length l.tokens;
  lines : Lines l.text (lines_give l.text (λ _. None) (lines_of l.text l.tokens)) l.tokens l.read.items (names_of l.names) l.at;
}

abbrev pub decreases-loop-at : goal.decreases-loop-at
decreases-loop-at l = length l.tokens - l.at
