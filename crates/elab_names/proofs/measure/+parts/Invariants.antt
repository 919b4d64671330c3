use Rattle.std.proofs.Common.{◌≡◌, drop, map}
use Rattle.std.specs.Prelude.{None}
use Rattle.elab_names.specs.Measured.{with_parts, constant_of}
use Rattle.elab_names.proofs.measure.+parts.Given as goal

-- after some parts: what is left, beside what there is
abbrev pub invariant-parts_standing-loop-p : goal.invariant-parts_standing-loop-p
invariant-parts_standing-loop-p l = with_parts None (map (constant_of l.names l.turns) l.parts) ≡ with_parts l.so_far (map (constant_of l.names l.turns) (drop l.p-index l.parts))
