use Rattle.std.proofs.Common.{ℕ, ◌≤◌, take, slice_index}
use Rattle.std.specs.Prelude.{Contains}
use Rattle.word_eqs.specs.Graph.{places}
use Rattle.bitblast.proofs.order.latest_of.Given as goal

abbrev pub invariant-loop-id : goal.invariant-loop-id
invariant-loop-id l = (t : ℕ) → Contains (places (take l.id-index l.ids)) t → slice_index l.last t ≤ l.latest
