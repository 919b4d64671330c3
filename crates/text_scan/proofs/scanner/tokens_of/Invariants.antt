use Rattle.std.proofs.Common.{◌-◌, ◌≤◌, length}
use Rattle.text_scan.proofs.ScanSteps.{Parts}
use Rattle.text_scan.proofs.scanner.tokens_of.Given as goal

abbrev pub invariant-loop-at : goal.invariant-loop-at
invariant-loop-at g l = record {
  inside : l.at ≤ length l.text;
  parts : Parts g.R.TokenRules.kind_of g.R.TokenRules.is_blank_line l.text l.tokens.items l.fresh l.at;
}

abbrev pub decreases-loop-at : goal.decreases-loop-at
decreases-loop-at g l = length l.text - l.at
