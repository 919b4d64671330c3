-- Guards made of others.
use Rattle.std.proofs.Common.{◌≡◌, ℕ, zero, suc, ◌+◌, ◌-◌, ◌*◌, ◌<◌, ◌≤◌, ◌^◌, Bool, true, false, refl, sym, ap, ◌∙◌, subst, arith}
use Rattle.std.specs.Prelude.{bit_or, bit_and, not}
use Rattle.std.specs.Int.Bits.{or_zero_l, or_zero_r}
use Rattle.bits_core.specs.Word.{bit, at_zero}
use Rattle.bits_core.specs.declared.op.Op1.TheVariants as op1
use Rattle.bits_core.specs.Ops.{value1}
use Rattle.word_eqs.specs.Graph.{Graph, IsGraph}
use Rattle.word_eqs.specs.Meaning.{Values, Respects}
use Rattle.joint_ir.specs.declared.way.Way.{Way}
use Rattle.joint_ir.specs.declared.way.Way.TheVariants.{Next, Breaking, Continuing, Returning}
use Rattle.sized_terms.specs.declared.SizedTerm.{SizedTerm}
use Rattle.sized_terms.specs.Sized.{Has, Builds, IsMade, bits}
use Rattle.sized_terms.proofs.Made.{bits_below}
use Rattle.unrolled.specs.declared.Unrolled.{Unrolled}
use Rattle.unwind_state.specs.declared.state.Guard.{Guard}
use Rattle.unwind_state.specs.declared.state.Guard.TheVariants.{Never, Always, When}
use Rattle.unwind_state.specs.declared.state.Flow.{Flow}
use Rattle.unwind_state.specs.declared.state.Sides.{Sides}
use Rattle.unwind_state.specs.Guards.{bit_at, HasGuard, bits_of, HasFlow, guard_for, Adds, IsGuard, IsFlow, AreSides, merge_of, turned_of, gathered_of}
use Rattle.unwind_state.specs.Writing.{IsChosen}

pub adds_none : (n : Unrolled) → IsGraph n.terms → Adds n n
adds_none n p = record { grown = λ v r. r; kept = λ x h. h; proper = p; list = refl }

pub adds_then : (n0 n1 n2 : Unrolled) → Adds n0 n1 → Adds n1 n2 → Adds n0 n2
adds_then n0 n1 n2 a b = record { grown = λ v r. a.grown v (b.grown v r); kept = λ x h. b.kept x (a.kept x h); proper = b.proper; list = b.list ∙ a.list }

-- terms that were built, beside a list that stays
pub adds_built : (n0 n1 : Unrolled) (gates most : ℕ) → Builds n0.terms n1.terms gates most → n1.list ≡ n0.list → Adds n0 n1
adds_built n0 n1 gates most b l = record { grown = b.grown; kept = b.kept; proper = b.proper; list = l }

pub guard_kept : (n0 n1 : Unrolled) (g : Guard) → Adds n0 n1 → HasGuard n0.terms g → HasGuard n1.terms g
guard_kept n0 n1 Never a h = tt
guard_kept n0 n1 Always a h = tt
guard_kept n0 n1 (When t) a h = (a.kept t h.0, h.1)

pub flow_kept : (n0 n1 : Unrolled) (f : Flow) → Adds n0 n1 → HasFlow n0.terms f → HasFlow n1.terms f
flow_kept n0 n1 f a h way = guard_kept n0 n1 (guard_for f way) a (h way)

-- a bit is 0 or 1
pub one_bit : (v : Values) (g : Graph) (x : SizedTerm) → IsGraph g → Respects v g → Has g x → x.width ≡ 1 → bits v x < 2
one_bit v g x p r h e = subst (λ w. bits v x < 2 ^ w) e (bits_below v g x p r h)

below_two : (n : ℕ) → n < 2 → bit_or 1 n ≡ 1
below_two zero h = refl
below_two (suc zero) h = refl
below_two (suc (suc n)) h = absurd (omega arith)

below_two_left : (n : ℕ) → n < 2 → bit_or n 1 ≡ 1
below_two_left zero h = refl
below_two_left (suc zero) h = refl
below_two_left (suc (suc n)) h = absurd (omega arith)

and_one : (n : ℕ) → n < 2 → bit_and 1 n ≡ n
and_one zero h = refl
and_one (suc zero) h = refl
and_one (suc (suc n)) h = absurd (omega arith)

pub guard_below : (v : Values) (g : Graph) (a : Guard) → IsGraph g → Respects v g → HasGuard g a → bit_at v a < 2
guard_below v g Never p r h = omega arith
guard_below v g Always p r h = omega arith
guard_below v g (When t) p r h = one_bit v g t p r h.0 h.1

-- where one of two is known
pub or_never : (n : Unrolled) (b : Guard) → IsGraph n.terms → HasGuard n.terms b → IsGuard n n b (λ v. bit_or (bit_at v Never) (bit_at v b))
or_never n b p h = record { adds = adds_none n p; has = h; value = λ v r. sym (or_zero_l (bit_at v b)) }

pub never_or : (n : Unrolled) (a : Guard) → IsGraph n.terms → HasGuard n.terms a → IsGuard n n a (λ v. bit_or (bit_at v a) (bit_at v Never))
never_or n a p h = record { adds = adds_none n p; has = h; value = λ v r. sym (or_zero_r (bit_at v a)) }

pub or_always : (n : Unrolled) (b : Guard) → IsGraph n.terms → HasGuard n.terms b → IsGuard n n Always (λ v. bit_or (bit_at v Always) (bit_at v b))
or_always n b p h = record { adds = adds_none n p; has = tt; value = λ v r. sym (below_two (bit_at v b) (guard_below v n.terms b p r h)) }

pub always_or : (n : Unrolled) (a : Guard) → IsGraph n.terms → HasGuard n.terms a → IsGuard n n Always (λ v. bit_or (bit_at v a) (bit_at v Always))
always_or n a p h = record { adds = adds_none n p; has = tt; value = λ v r. sym (below_two_left (bit_at v a) (guard_below v n.terms a p r h)) }

pub and_never : (n : Unrolled) (set : SizedTerm) → IsGraph n.terms → IsGuard n n Never (λ v. bit_and (bit_at v Never) (bits v set))
and_never n set p = record { adds = adds_none n p; has = tt; value = λ v r. refl }

pub and_always : (n : Unrolled) (set : SizedTerm) → IsGraph n.terms → Has n.terms set → set.width ≡ 1 → IsGuard n n (When set) (λ v. bit_and (bit_at v Always) (bits v set))
and_always n set p h e = record { adds = adds_none n p; has = (h, e); value = λ v r. sym (and_one (bits v set) (one_bit v n.terms set p r h e)) }

-- a guard that is a term
pub guard_made : (n0 n1 : Unrolled) (w gates : ℕ) (t : SizedTerm) (value : Values → ℕ) → IsMade n0.terms n1.terms w gates 1 t value → w ≡ 1 → n1.list ≡ n0.list → IsGuard n0 n1 (When t) value
guard_made n0 n1 w gates t value m e l = record { adds = adds_built n0 n1 gates 1 m.builds l; has = (m.has, m.width ∙ e); value = m.value }

not_bit : (b : Bool) → 2 ^ 1 - 1 - bit b ≡ bit (not b)
not_bit true = refl
not_bit false = refl

pub sides_made : (n0 n1 n2 n3 : Unrolled) (g : Guard) (set unset : SizedTerm) (taken other : Guard) → set.width ≡ 1 → n1.list ≡ n0.list → IsMade n0.terms n1.terms set.width 0 1 unset (λ v. value1 op1.Not set.width (bits v set)) →
    IsGuard n1 n2 taken (λ v. bit_and (bit_at v g) (bits v set)) → IsGuard n2 n3 other (λ v. bit_and (bit_at v g) (bits v unset)) → AreSides n0 n3 set g (record { taken = taken; other = other })
sides_made n0 n1 n2 n3 g set unset taken other one l U T O =
    record {
      adds = adds_then n0 n1 n3 (adds_built n0 n1 0 1 U.builds l) (adds_then n1 n2 n3 T.adds O.adds);
      has_taken = guard_kept n2 n3 taken O.adds T.has;
      has_other = O.has;
      taken = λ v r b e. T.value v (O.adds.grown v r) ∙ ap (bit_and (bit_at v g)) e;
      other = λ v r b e.
          let r1 = T.adds.grown v (O.adds.grown v r) in
          O.value v r ∙ ap (bit_and (bit_at v g)) (U.value v r1 ∙ ap (λ w. 2 ^ w - 1 - bits v set) one ∙ ap (λ n. 2 ^ 1 - 1 - n) e ∙ not_bit b);
    }

-- flows

pub joined_made : (n0 n1 n2 n3 n4 : Unrolled) (a b : Flow) (x y z w : Guard) → IsGuard n0 n1 x (λ v. bit_or (bit_at v a.next) (bit_at v b.next)) → IsGuard n1 n2 y (λ v. bit_or (bit_at v a.breaking) (bit_at v b.breaking)) →
    IsGuard n2 n3 z (λ v. bit_or (bit_at v a.continuing) (bit_at v b.continuing)) → IsGuard n3 n4 w (λ v. bit_or (bit_at v a.returning) (bit_at v b.returning)) →
    IsFlow n0 n4 (record { next = x; breaking = y; continuing = z; returning = w }) (λ v way. bit_or (bits_of v a way) (bits_of v b way))
joined_made n0 n1 n2 n3 n4 a b x y z w X Y Z W = record {
  adds = adds_then n0 n1 n4 X.adds (adds_then n1 n2 n4 Y.adds (adds_then n2 n3 n4 Z.adds W.adds));
  has = has;
  ways = ways;
}
  where
    zw : Adds n2 n4
    zw = adds_then n2 n3 n4 Z.adds W.adds

    has : HasFlow n4.terms (record { next = x; breaking = y; continuing = z; returning = w })
    has Next = guard_kept n1 n4 x (adds_then n1 n2 n4 Y.adds zw) X.has
    has Breaking = guard_kept n2 n4 y zw Y.has
    has Continuing = guard_kept n3 n4 z W.adds Z.has
    has Returning = W.has

    ways : (v : Values) → Respects v n4.terms → (way : Way) → bits_of v (record { next = x; breaking = y; continuing = z; returning = w }) way ≡ bit_or (bits_of v a way) (bits_of v b way)
    ways v r Next = X.value v (Y.adds.grown v (Z.adds.grown v (W.adds.grown v r)))
    ways v r Breaking = Y.value v (Z.adds.grown v (W.adds.grown v r))
    ways v r Continuing = Z.value v (W.adds.grown v r)
    ways v r Returning = W.value v r

pub merged_made : (n0 n2 n3 n4 : Unrolled) (a b : Flow) (y z w : Guard) → HasFlow n0.terms b → IsGuard n0 n2 y (λ v. bit_or (bit_at v a.breaking) (bit_at v b.breaking)) → IsGuard n2 n3 z (λ v. bit_or (bit_at v a.continuing) (bit_at v b.continuing)) →
    IsGuard n3 n4 w (λ v. bit_or (bit_at v a.returning) (bit_at v b.returning)) → IsFlow n0 n4 (record { next = b.next; breaking = y; continuing = z; returning = w }) (λ v way. merge_of way (bits_of v a way) (bits_of v b way))
merged_made n0 n2 n3 n4 a b y z w H Y Z W = record { adds = adds_then n0 n2 n4 Y.adds zw; has = has; ways = ways }
  where
    zw : Adds n2 n4
    zw = adds_then n2 n3 n4 Z.adds W.adds

    has : HasFlow n4.terms (record { next = b.next; breaking = y; continuing = z; returning = w })
    has Next = guard_kept n0 n4 b.next (adds_then n0 n2 n4 Y.adds zw) (H Next)
    has Breaking = guard_kept n2 n4 y zw Y.has
    has Continuing = guard_kept n3 n4 z W.adds Z.has
    has Returning = W.has

    ways : (v : Values) → Respects v n4.terms → (way : Way) → bits_of v (record { next = b.next; breaking = y; continuing = z; returning = w }) way ≡ merge_of way (bits_of v a way) (bits_of v b way)
    ways v r Next = refl
    ways v r Breaking = Y.value v (Z.adds.grown v (W.adds.grown v r))
    ways v r Continuing = Z.value v (W.adds.grown v r)
    ways v r Returning = W.value v r

pub turned_made : (n0 n1 : Unrolled) (a : Flow) (x : Guard) → HasFlow n0.terms a → IsGuard n0 n1 x (λ v. bit_or (bit_at v a.next) (bit_at v a.continuing)) →
    IsFlow n0 n1 (record { next = x; breaking = a.breaking; continuing = Never; returning = a.returning }) (λ v. turned_of (bits_of v a))
turned_made n0 n1 a x H X = record { adds = X.adds; has = has; ways = ways }
  where
    has : HasFlow n1.terms (record { next = x; breaking = a.breaking; continuing = Never; returning = a.returning })
    has Next = X.has
    has Breaking = guard_kept n0 n1 a.breaking X.adds (H Breaking)
    has Continuing = tt
    has Returning = guard_kept n0 n1 a.returning X.adds (H Returning)

    ways : (v : Values) → Respects v n1.terms → (way : Way) → bits_of v (record { next = x; breaking = a.breaking; continuing = Never; returning = a.returning }) way ≡ turned_of (bits_of v a) way
    ways v r Next = X.value v r
    ways v r Breaking = refl
    ways v r Continuing = refl
    ways v r Returning = refl

pub gathered_made : (n0 n1 n2 : Unrolled) (a : Flow) (x y : Guard) → HasFlow n0.terms a → IsGuard n0 n1 x (λ v. bit_or (bit_at v a.next) (bit_at v a.breaking)) → IsGuard n1 n2 y (λ v. bit_or (bit_at v x) (bit_at v a.continuing)) →
    IsFlow n0 n2 (record { next = y; breaking = Never; continuing = Never; returning = a.returning }) (λ v. gathered_of (bits_of v a))
gathered_made n0 n1 n2 a x y H X Y = record { adds = adds_then n0 n1 n2 X.adds Y.adds; has = has; ways = ways }
  where
    has : HasFlow n2.terms (record { next = y; breaking = Never; continuing = Never; returning = a.returning })
    has Next = Y.has
    has Breaking = tt
    has Continuing = tt
    has Returning = guard_kept n0 n2 a.returning (adds_then n0 n1 n2 X.adds Y.adds) (H Returning)

    ways : (v : Values) → Respects v n2.terms → (way : Way) → bits_of v (record { next = y; breaking = Never; continuing = Never; returning = a.returning }) way ≡ gathered_of (bits_of v a) way
    ways v r Next = Y.value v r ∙ ap (λ n. bit_or n (bit_at v a.continuing)) (X.value v (Y.adds.grown v r))
    ways v r Breaking = refl
    ways v r Continuing = refl
    ways v r Returning = refl

-- a choice of two terms
pub chosen_never : (n : Unrolled) (new old : SizedTerm) → IsGraph n.terms → Has n.terms old → old.width ≡ new.width → IsChosen n n new.width old (λ v. at_zero (bit_at v Never) (bits v old) (bits v new))
chosen_never n new old p h e = record { adds = adds_none n p; has = h; width = e; value = λ v r. refl }

pub chosen_always : (n : Unrolled) (new old : SizedTerm) → IsGraph n.terms → Has n.terms new → IsChosen n n new.width new (λ v. at_zero (bit_at v Always) (bits v old) (bits v new))
chosen_always n new old p h = record { adds = adds_none n p; has = h; width = refl; value = λ v r. refl }

pub chosen_made : (n0 n1 : Unrolled) (w gates : ℕ) (t : SizedTerm) (value : Values → ℕ) → IsMade n0.terms n1.terms w gates 1 t value → n1.list ≡ n0.list → IsChosen n0 n1 w t value
chosen_made n0 n1 w gates t value m l = record { adds = adds_built n0 n1 gates 1 m.builds l; has = m.has; width = m.width; value = m.value }
