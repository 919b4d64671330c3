-- The guards of the ways on among groups.
use Rattle.std.proofs.Common.{◌≡◌, refl}
use Rattle.std.specs.Prelude.{bit_or}
use Rattle.word_eqs.specs.Meaning.{Values, Respects}
use Rattle.joint_ir.specs.declared.way.Way.{Way}
use Rattle.joint_ir.specs.declared.way.Way.TheVariants.{Next, Breaking, Continuing, Returning}
use Rattle.unrolled.specs.declared.Unrolled.{Unrolled}
use Rattle.unwind_state.specs.declared.state.Flow.{Flow}
use Rattle.unwind_state.specs.declared.state.Guard.{Guard}
use Rattle.unwind_state.specs.declared.state.Guard.TheVariants.{Never}
use Rattle.unwind_state.specs.Guards.{HasFlow, IsFlow, IsGuard, bit_at, bits_of}
use Rattle.unwind_state.proofs.Gates.{guard_kept}
use Rattle.switch_guards.specs.Ways.{entered_of, switched_of}

pub entered_made : (n0 n1 : Unrolled) (a : Flow) (entry x : Guard) → HasFlow n0.terms a → IsGuard n0 n1 x (λ v. bit_or (bit_at v a.next) (bit_at v entry)) →
    IsFlow n0 n1 (record { next = x; breaking = a.breaking; continuing = a.continuing; returning = a.returning }) (λ v. entered_of (bit_at v entry) (bits_of v a))
entered_made n0 n1 a entry x H X = record { adds = X.adds; has = has; ways = ways }
  where
    has : HasFlow n1.terms (record { next = x; breaking = a.breaking; continuing = a.continuing; returning = a.returning })
    has Next = X.has
    has Breaking = guard_kept n0 n1 a.breaking X.adds (H Breaking)
    has Continuing = guard_kept n0 n1 a.continuing X.adds (H Continuing)
    has Returning = guard_kept n0 n1 a.returning X.adds (H Returning)

    ways : (v : Values) → Respects v n1.terms → (way : Way) → bits_of v (record { next = x; breaking = a.breaking; continuing = a.continuing; returning = a.returning }) way ≡ entered_of (bit_at v entry) (bits_of v a) way
    ways v r Next = X.value v r
    ways v r Breaking = refl
    ways v r Continuing = refl
    ways v r Returning = refl

pub switched_made : (n0 n1 : Unrolled) (a : Flow) (x : Guard) → HasFlow n0.terms a → IsGuard n0 n1 x (λ v. bit_or (bit_at v a.next) (bit_at v a.breaking)) →
    IsFlow n0 n1 (record { next = x; breaking = Never; continuing = a.continuing; returning = a.returning }) (λ v. switched_of (bits_of v a))
switched_made n0 n1 a x H X = record { adds = X.adds; has = has; ways = ways }
  where
    has : HasFlow n1.terms (record { next = x; breaking = Never; continuing = a.continuing; returning = a.returning })
    has Next = X.has
    has Breaking = tt
    has Continuing = guard_kept n0 n1 a.continuing X.adds (H Continuing)
    has Returning = guard_kept n0 n1 a.returning X.adds (H Returning)

    ways : (v : Values) → Respects v n1.terms → (way : Way) → bits_of v (record { next = x; breaking = Never; continuing = a.continuing; returning = a.returning }) way ≡ switched_of (bits_of v a) way
    ways v r Next = X.value v r
    ways v r Breaking = refl
    ways v r Continuing = refl
    ways v r Returning = refl
