use Rattle.std.proofs.Common.{◌≡◌, drop, eqb}
use Rattle.std.specs.List.{find}
use Rattle.unwind_words.proofs.mirror.mirroring_member.Given as goal

abbrev pub invariant-loop-link : goal.invariant-loop-link
invariant-loop-link l =
    find (λ x. eqb x.signal l.signal) l.links ≡ find (λ x. eqb x.signal l.signal) (drop l.link-index l.links)
