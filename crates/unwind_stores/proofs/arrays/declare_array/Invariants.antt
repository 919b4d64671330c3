use Rattle.unwind_stores.proofs.Elementwise.{ElementsSet}
use Rattle.unwind_stores.proofs.arrays.declare_array.Given as goal

-- the elements before this place have their values
abbrev pub invariant-loop-place : goal.invariant-loop-place
invariant-loop-place l = ElementsSet l.at l.fn.net l.net l.fn.state l.state l.local l.init l.guard l.place
