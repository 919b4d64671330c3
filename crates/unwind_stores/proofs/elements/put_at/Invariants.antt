use Rattle.unwind_state.specs.Writing.{IsPutAt}
use Rattle.unwind_state.proofs.Places.{before_place}
use Rattle.unwind_stores.proofs.elements.put_at.Given as goal

-- the places before this one were looked at
abbrev pub invariant-loop-place : goal.invariant-loop-place
invariant-loop-place l = IsPutAt l.fn.net l.net l.fn.objects l.objects l.slot l.index l.value (before_place l.guard l.index l.place)
