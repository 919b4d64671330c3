use Rattle.std.proofs.Common.{◌≡◌, ◌≤◌, ℕ, length, sym, subst, arith}
use Rattle.res_log.specs.Segments.{AreSoundBelow}
use Rattle.show_log.proofs.end_after_deletion.Goals as goal

pub next-requires-2-clause-sound : goal.next-requires-2-clause-sound
next-requires-2-clause-sound c =
    let n = c.next.new.self in
    let e : c.next.new.self ≡ length c.derive.new.log = c.in_default.ensures.checked in
    let l : c.next.new.self ≤ length c.derive.new.log = omega arith in
    let f : AreSoundBelow c.derive.new.arena.clauses c.derive.new.log c.next.new.self =
    subst (λ (m : ℕ). AreSoundBelow c.derive.new.arena.clauses c.derive.new.log m) (sym e) c.in_default.ensures.sound in
    c.in_ok-derive-2.ensures.sound n l (c.delete_first.ensures n l f)
