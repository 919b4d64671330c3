use Rattle.std.proofs.Common.{◌≡◌, take}
use Rattle.pair_checks.proofs.lists.have_widths.Given as goal

abbrev pub invariant-loop-k : goal.invariant-loop-k
invariant-loop-k l = take l.k l.terms.vars ≡ take l.k l.widths
