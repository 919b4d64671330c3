use Rattle.std.proofs.Common.{◌+◌, ◌*◌, length}
use Rattle.bitblast.proofs.Placing.{unmade}
use Rattle.bitblast.proofs.Waiting.{Waits, top_of}
use Rattle.bitblast.proofs.making.make.Given as goal

abbrev pub invariant-loop-top : goal.invariant-loop-top
invariant-loop-top l = Waits l.fn.net l.net l.terms l.vars l.fn.words l.words l.fn.t.0 l.stack

abbrev pub decreases-loop-top : goal.decreases-loop-top
decreases-loop-top l = unmade l.words * (length l.terms.terms + 1) + top_of l.stack
