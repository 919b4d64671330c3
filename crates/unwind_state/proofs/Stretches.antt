-- Stretches of an unwinding, put together; nothing here knows of trees.
use Rattle.std.proofs.Common.{◌≡◌, ℕ, zero, suc, List, [], ◌∷◌, ◌++◌, ◌⊎◌, ⊎_elim, refl, sym, ap, ◌∙◌, subst, append_assoc, append-nil}
use Rattle.std.specs.Prelude.{bit_or, bit_and, None, Option, ℤ, Bool, true, false, not, if◌then◌else◌}
use Rattle.bits_core.specs.Word.{Word, at_zero, bit, number}
use Rattle.word_eqs.specs.declared.list.Act.{Act}
use Rattle.word_eqs.specs.declared.list.Act.TheVariants.{Free, Cut, Prop}
use Rattle.word_eqs.specs.declared.list.Step.{Step}
use Rattle.word_eqs.specs.Guarded.{AtCut, AtProp}
use Rattle.word_eqs.specs.Meaning.{Values, Respects}
use Rattle.joint_ir.specs.declared.ctype.IntType.{IntType}
use Rattle.joint_ir.specs.declared.event.Event.TheVariants.{Broke}
use Rattle.joint_ir.specs.declared.event.Outcome.{Outcome}
use Rattle.joint_ir.specs.declared.event.Outcome.TheVariants.{Broken}
use Rattle.joint_ir.specs.declared.program.PropId.{PropId}
use Rattle.joint_ir.specs.declared.way.Way.{Way}
use Rattle.joint_ir.specs.declared.way.Way.TheVariants.{Next, Breaking, Continuing, Returning}
use Rattle.joint_ir.specs.Effects.{Effect, Told, nothing, seen, Goes, Stops, Onward, preceded, with_value, broken, draw}
use Rattle.joint_ir.specs.States.{JointState}
use Rattle.joint_ir.specs.Values.{Answer, Value, Fault}
use Rattle.sized_terms.specs.declared.SizedTerm.{SizedTerm}
use Rattle.sized_terms.specs.Sized.{bits}
use Rattle.unrolled.specs.declared.Unrolled.{Unrolled}
use Rattle.unwound.specs.Covers.{broken_by}
use Rattle.trails.specs.Following.{way_bit, IsAt, GoesOn, EndsAt, goes, Follows}
use Rattle.trails.specs.Trails.{Trail, Through, Halts, values_of, trail_then, act_trail, trail}
use Rattle.trails.proofs.Walking.{then_nothing, nothing_then, trail-append, trail_one}
use Rattle.trails.proofs.Ways.{bind_follows, stays_follows, follows_as, follows_mapped, IsAfter, is_next, next_off, preceded_nothing, joined_nothing}
use Rattle.unwind_state.specs.declared.state.Flow.{Flow}
use Rattle.unwind_state.specs.declared.state.Guard.{Guard}
use Rattle.unwind_state.specs.declared.state.Sides.{Sides}
use Rattle.unwind_state.specs.declared.state.State.{State}
use Rattle.unwind_state.specs.Guards.{bit_at, bits_of, flow_at, Adds, IsFlow, AreSides, merge_of}
use Rattle.unwind_state.specs.Images.{Image, look}
use Rattle.unwind_state.specs.Unwinding.{IsIdle, Unwinds, Gives, Asks, IsPushed, IsDrawn, Changes}

-- bits of ways

pub either_bit : (w way : Way) → bit_or (way_bit w way) 0 ≡ way_bit w way
either_bit Next Next = refl
either_bit Next Breaking = refl
either_bit Next Continuing = refl
either_bit Next Returning = refl
either_bit Breaking Next = refl
either_bit Breaking Breaking = refl
either_bit Breaking Continuing = refl
either_bit Breaking Returning = refl
either_bit Continuing Next = refl
either_bit Continuing Breaking = refl
either_bit Continuing Continuing = refl
either_bit Continuing Returning = refl
either_bit Returning Next = refl
either_bit Returning Breaking = refl
either_bit Returning Continuing = refl
either_bit Returning Returning = refl

pub bit_either : (w way : Way) → bit_or 0 (way_bit w way) ≡ way_bit w way
bit_either Next Next = refl
bit_either Next Breaking = refl
bit_either Next Continuing = refl
bit_either Next Returning = refl
bit_either Breaking Next = refl
bit_either Breaking Breaking = refl
bit_either Breaking Continuing = refl
bit_either Breaking Returning = refl
bit_either Continuing Next = refl
bit_either Continuing Breaking = refl
bit_either Continuing Continuing = refl
bit_either Continuing Returning = refl
bit_either Returning Next = refl
bit_either Returning Breaking = refl
bit_either Returning Continuing = refl
bit_either Returning Returning = refl

-- after the first stretch went on to the second
merge_next : (w way : Way) → merge_of w (way_bit w Next) (way_bit w way) ≡ way_bit w way
merge_next Next way = refl
merge_next Breaking way = bit_either Breaking way
merge_next Continuing way = bit_either Continuing way
merge_next Returning way = bit_either Returning way

-- where the second did not run
merge_stays : (w way : Way) → (way ≡ Next → ⊥) → merge_of w (way_bit w way) 0 ≡ way_bit w way
merge_stays Next way h = sym (next_off way h)
merge_stays Breaking way h = either_bit Breaking way
merge_stays Continuing way h = either_bit Continuing way
merge_stays Returning way h = either_bit Returning way

merge_off : (w : Way) → merge_of w 0 0 ≡ 0
merge_off Next = refl
merge_off Breaking = refl
merge_off Continuing = refl
merge_off Returning = refl

-- the guards of a stretch with one way on
pub only_off : (v : Values) (way w : Way) (g : Guard) → bit_at v g ≡ 0 → bits_of v (flow_at way g) w ≡ 0
only_off v Next Next g d = d
only_off v Next Breaking g d = refl
only_off v Next Continuing g d = refl
only_off v Next Returning g d = refl
only_off v Breaking Next g d = refl
only_off v Breaking Breaking g d = d
only_off v Breaking Continuing g d = refl
only_off v Breaking Returning g d = refl
only_off v Continuing Next g d = refl
only_off v Continuing Breaking g d = refl
only_off v Continuing Continuing g d = d
only_off v Continuing Returning g d = refl
only_off v Returning Next g d = refl
only_off v Returning Breaking g d = refl
only_off v Returning Continuing g d = refl
only_off v Returning Returning g d = d

pub only_at : (v : Values) (way w : Way) (g : Guard) → bit_at v g ≡ 1 → bits_of v (flow_at way g) w ≡ way_bit w way
only_at v Next Next g d = d
only_at v Next Breaking g d = refl
only_at v Next Continuing g d = refl
only_at v Next Returning g d = refl
only_at v Breaking Next g d = refl
only_at v Breaking Breaking g d = d
only_at v Breaking Continuing g d = refl
only_at v Breaking Returning g d = refl
only_at v Continuing Next g d = refl
only_at v Continuing Breaking g d = refl
only_at v Continuing Continuing g d = d
only_at v Continuing Returning g d = refl
only_at v Returning Next g d = refl
only_at v Returning Breaking g d = refl
only_at v Returning Continuing g d = refl
only_at v Returning Returning g d = d

pub and_off : (g : ℕ) (b : Bool) → g ≡ 0 → bit_and g (bit b) ≡ 0
and_off g true e = ap (λ n. bit_and n 1) e
and_off g false e = ap (λ n. bit_and n 0) e

pub and_on : (g : ℕ) (b : Bool) → g ≡ 1 → bit_and g (bit b) ≡ bit b
and_on g true e = ap (λ n. bit_and n 1) e
and_on g false e = ap (λ n. bit_and n 0) e

module _ (fixed : Image → Type 0) where
  -- the same, in other words
  pub unwinds_as : (n0 n1 : Unrolled) (s0 s1 : State) (run run' : Values → Onward) (g : Guard) (f : Flow) (before before' : Image → JointState → Type 0) (behind behind' : Way → Image → JointState → Type 0) (out out' : Way → Onward) →
      ((x : Image) (s : JointState) → before' x s → before x s) → ((v : Values) → Respects v n1.terms → (s : JointState) → before' (look v s0) s → (c : List ℕ) → run v s c ≡ run' v s c) →
      ((way : Way) (x : Image) (s : JointState) → behind way x s → behind' way x s) → ((way : Way) (s : JointState) (c : List ℕ) → out way s c ≡ out' way s c) →
      Unwinds fixed n0 n1 s0 s1 run g f before behind out → Unwinds fixed n0 n1 s0 s1 run' g f before' behind' out'
  unwinds_as n0 n1 s0 s1 run run' g f before before' behind behind' out out' pre e post m A = record {
    grown = A.grown;
    more = A.more;
    list = A.list;
    settled = A.settled;
    idle = A.idle;
    live = λ v r l x s h.
        follows_as (run v s) (run' v s) (trail v A.more) (bits_of v f) (bits_of v f) (λ way. behind way (look v s1)) (λ way. behind' way (look v s1)) out out' (λ way. way)
        (e v r s h) (λ way at. at) (λ way s' q. post way (look v s1) s' q) (λ way s' c q. m way s' c) (A.live v r l x s (pre (look v s0) s h));
  }

  -- something is done behind a run
  pub unwinds_mapped : (F : Effect → Effect) → IsAfter F → (n0 n1 : Unrolled) (s0 s1 : State) (run : Values → Onward) (g : Guard) (f : Flow) (before : Image → JointState → Type 0) (behind : Way → Image → JointState → Type 0) (out : Way → Onward) →
      Unwinds fixed n0 n1 s0 s1 run g f before behind out → Unwinds fixed n0 n1 s0 s1 (λ v s c. F (run v s c)) g f before behind (λ way s c. F (out way s c))
  unwinds_mapped F k n0 n1 s0 s1 run g f before behind out A = record {
    grown = A.grown;
    more = A.more;
    list = A.list;
    settled = A.settled;
    idle = A.idle;
    live = λ v r l x s h. follows_mapped F k (run v s) (trail v A.more) (bits_of v f) (λ way. behind way (look v s1)) out (A.live v r l x s h);
  }

  -- other guards of the ways on, some of which may be put together
  pub relabelled : (n0 n1 n2 : Unrolled) (s0 s1 : State) (run : Values → Onward) (g : Guard) (a f : Flow) (before : Image → JointState → Type 0) (behind behind' : Way → Image → JointState → Type 0) (out out' : Way → Onward) (turn : Way → Way) → Adds n1 n2 →
      ((v : Values) → Respects v n2.terms → (way : Way) → IsAt (bits_of v a) way → IsAt (bits_of v f) (turn way)) →
      ((v : Values) → Respects v n2.terms → ((way : Way) → bits_of v a way ≡ 0) → (way : Way) → bits_of v f way ≡ 0) →
      ((way : Way) (x : Image) (s : JointState) → behind way x s → behind' (turn way) x s) → ((way : Way) (s : JointState) (c : List ℕ) → out way s c ≡ out' (turn way) s c) →
      Unwinds fixed n0 n1 s0 s1 run g a before behind out → Unwinds fixed n0 n2 s0 s1 run g f before behind' out'
  relabelled n0 n1 n2 s0 s1 run g a f before behind behind' out out' turn L on off post m A = record {
    grown = λ v r. A.grown v (L.grown v r);
    more = A.more;
    list = L.list ∙ A.list;
    settled = λ v r x. A.settled v (L.grown v r) x;
    idle = λ v r o x. let q = A.idle v (L.grown v r) o x in record { passes = q.passes; off = off v r q.off; kept = q.kept };
    live = λ v r l x s h.
        follows_as (run v s) (run v s) (trail v A.more) (bits_of v a) (bits_of v f) (λ way. behind way (look v s1)) (λ way. behind' way (look v s1)) out out' turn
        (λ c. refl) (on v r) (λ way s' q. post way (look v s1) s' q) (λ way s' c q. m way s' c) (A.live v (L.grown v r) l x s h);
  }

  -- terms that stand before a stretch
  pub added_before : (n0 n1 n2 : Unrolled) (s0 s1 : State) (run : Values → Onward) (g : Guard) (f : Flow) (before : Image → JointState → Type 0) (behind : Way → Image → JointState → Type 0) (out : Way → Onward) → Adds n0 n1 →
      Unwinds fixed n1 n2 s0 s1 run g f before behind out → Unwinds fixed n0 n2 s0 s1 run g f before behind out
  added_before n0 n1 n2 s0 s1 run g f before behind out L A = record {
    grown = λ v r. L.grown v (A.grown v r);
    more = A.more;
    list = A.list ∙ ap (λ l. l ++ A.more) L.list;
    settled = A.settled;
    idle = A.idle;
    live = A.live;
  }

  -- nothing is done, and the run goes on
  pub begun : (n : Unrolled) (st : State) (way : Way) (g : Guard) (before : Image → JointState → Type 0) (behind : Way → Image → JointState → Type 0) (out : Way → Onward) → ((x : Image) (s : JointState) → before x s → behind way x s) →
      Unwinds fixed n n st st (λ v. out way) g (flow_at way g) before behind out
  begun n st way g before behind out post = record {
    grown = λ v r. r;
    more = [];
    list = sym (append-nil n.list);
    settled = λ v r x. x;
    idle = λ v r o x. record { passes = refl; off = λ w. only_off v way w g o; kept = refl };
    live = λ v r l x s h. stays_follows way s (bits_of v (flow_at way g)) (λ way'. behind way' (look v st)) out (λ w. only_at v way w g l) (post (look v st) s h);
  }

  -- one stretch after another, under the first's guard of Next
  pub chain : (n0 n1 n2 n3 : Unrolled) (s0 s1 s2 : State) (run : Values → Onward) (g : Guard) (f1 f2 f : Flow) (before : Image → JointState → Type 0) (h1 h2 : Way → Image → JointState → Type 0) (out1 out2 : Way → Onward) →
      ((way : Way) (x : Image) (s : JointState) → (way ≡ Next → ⊥) → h1 way x s → h2 way x s) → ((way : Way) (s : JointState) (c : List ℕ) → (way ≡ Next → ⊥) → out1 way s c ≡ out2 way s c) →
      Unwinds fixed n0 n1 s0 s1 run g f1 before h1 out1 → Unwinds fixed n1 n2 s1 s2 (λ v. out1 Next) f1.next f2 (h1 Next) h2 out2 → IsFlow n2 n3 f (λ v way. merge_of way (bits_of v f1 way) (bits_of v f2 way)) →
      Unwinds fixed n0 n3 s0 s2 run g f before h2 out2
  chain n0 n1 n2 n3 s0 s1 s2 run g f1 f2 f before h1 h2 out1 out2 post m A B E = record {
    grown = λ v r. A.grown v (B.grown v (E.adds.grown v r));
    more = A.more ++ B.more;
    list = E.adds.list ∙ B.list ∙ ap (λ l. l ++ B.more) A.list ∙ append_assoc n0.list A.more B.more;
    settled = λ v r x. let r2 = E.adds.grown v r in B.settled v r2 (A.settled v (B.grown v r2) x);
    idle = λ v r o x.
        let r2 = E.adds.grown v r in
        let r1 = B.grown v r2 in
        let a = A.idle v r1 o x in
        let b = B.idle v r2 (a.off Next) (A.settled v r1 x) in
        record {
          passes = trail-append v A.more B.more ∙ ap (λ t. trail_then t (trail v B.more)) a.passes ∙ then_nothing (trail v B.more) ∙ b.passes;
          off = λ w. E.ways v r w ∙ ap (λ n. merge_of w n (bits_of v f2 w)) (a.off w) ∙ ap (merge_of w 0) (b.off w) ∙ merge_off w;
          kept = b.kept ∙ a.kept;
        };
    live = λ v r l x s h.
        let r1 = B.grown v (E.adds.grown v r) in
        subst (λ t. Follows (run v s) t (bits_of v f) (λ w. h2 w (look v s2)) out2) (sym (trail-append v A.more B.more))
        (bind_follows (run v s) (trail v A.more) (trail v B.more) (bits_of v f1) (bits_of v f) (λ w. h1 w (look v s1)) (λ w. h2 w (look v s2)) out1 out2 (A.live v r1 l x s h) (after v r (A.settled v r1 x)));
  }
    where
      after : (v : Values) → Respects v n3.terms → fixed (look v s1) → (way : Way) → IsAt (bits_of v f1) way → (s : JointState) → h1 way (look v s1) s → Follows (out1 way s) (trail v B.more) (bits_of v f) (λ w. h2 w (look v s2)) out2
      after v r x way at s h = ⊎_elim on off (is_next way)
        where
          r2 : Respects v n2.terms
          r2 = E.adds.grown v r

          on : way ≡ Next → Follows (out1 way s) (trail v B.more) (bits_of v f) (λ w. h2 w (look v s2)) out2
          on e =
              let at' : IsAt (bits_of v f1) Next = subst (IsAt (bits_of v f1)) e at in
              follows_as (out1 Next s) (out1 way s) (trail v B.more) (bits_of v f2) (bits_of v f) (λ w. h2 w (look v s2)) (λ w. h2 w (look v s2)) out2 out2 (λ w. w) (λ c. ap (λ w. out1 w s c) (sym e))
              (λ w q p. E.ways v r p ∙ ap (λ n. merge_of p n (bits_of v f2 p)) (at' p) ∙ ap (merge_of p (way_bit p Next)) (q p) ∙ merge_next p w) (λ w s' q. q) (λ w s' c q. refl)
              (B.live v r2 (at' Next) x s (subst (λ w. h1 w (look v s1) s) e h))

          off : (way ≡ Next → ⊥) → Follows (out1 way s) (trail v B.more) (bits_of v f) (λ w. h2 w (look v s2)) out2
          off isnt =
              let b = B.idle v r2 (at Next ∙ next_off way isnt) x in
              let h' = subst (λ t. Follows (out2 way s) t (bits_of v f) (λ w. h2 w (look v s2)) out2) (sym b.passes)
              (stays_follows way s (bits_of v f) (λ w. h2 w (look v s2)) out2
              (λ w. E.ways v r w ∙ ap (merge_of w (bits_of v f1 w)) (b.off w) ∙ ap (λ n. merge_of w n 0) (at w) ∙ merge_stays w way isnt)
              (subst (λ y. h2 way y s) (sym b.kept) (post way (look v s1) s isnt h))) in
              follows_as (out2 way s) (out1 way s) (trail v B.more) (bits_of v f) (bits_of v f) (λ w. h2 w (look v s2)) (λ w. h2 w (look v s2)) out2 out2 (λ w. w) (λ c. sym (m way s c isnt)) (λ w q. q) (λ w s' q. q) (λ w s' c q. refl) h'
