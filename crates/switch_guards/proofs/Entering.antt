-- Stretches that begin in some valuations only: where control has entered a switch.
use Rattle.std.proofs.Common.{◌≡◌, ℕ, zero, suc, List, [], ◌∷◌, ◌++◌, ◌⊎◌, ⊎_elim, inl, inr, refl, sym, ap, ◌∙◌, subst, append_assoc}
use Rattle.std.specs.Prelude.{bit_or}
use Rattle.std.specs.Int.Bits.{or_zero_r}
use Rattle.word_eqs.specs.declared.list.Step.{Step}
use Rattle.word_eqs.specs.Meaning.{Values, Respects}
use Rattle.joint_ir.specs.declared.way.Way.{Way}
use Rattle.joint_ir.specs.declared.way.Way.TheVariants.{Next, Breaking, Continuing, Returning}
use Rattle.joint_ir.specs.Effects.{Onward}
use Rattle.joint_ir.specs.States.{JointState}
use Rattle.unrolled.specs.declared.Unrolled.{Unrolled}
use Rattle.trails.specs.Following.{way_bit, IsAt, Follows}
use Rattle.trails.specs.Trails.{Trail, Through, trail_then, trail}
use Rattle.trails.proofs.Walking.{then_nothing, trail-append}
use Rattle.trails.proofs.Ways.{bind_follows, stays_follows, follows_as, is_next, next_off}
use Rattle.unwind_state.specs.declared.state.Flow.{Flow}
use Rattle.unwind_state.specs.declared.state.Guard.{Guard}
use Rattle.unwind_state.specs.declared.state.State.{State}
use Rattle.unwind_state.specs.Guards.{bit_at, bits_of, IsFlow, merge_of}
use Rattle.unwind_state.specs.Images.{Image, look}
use Rattle.unwind_state.specs.Unwinding.{IsIdle, Unwinds}
use Rattle.switch_guards.specs.Ways.{entered_of}

-- what was pushed does what a run does where a bit is 1, and nothing where it is 0
pub record UnwindsWhere (fixed : Image → Type 0) (n0 n1 : Unrolled) (s0 s1 : State) (run : Values → Onward) (on : Values → ℕ) (f : Flow) (before : Image → JointState → Type 0) (behind : Way → Image → JointState → Type 0) (out : Way → Onward) : Type 0 where
  pub grown : (v : Values) → Respects v n1.terms → Respects v n0.terms
  pub more : List Step
  pub list : n1.list ≡ n0.list ++ more
  pub settled : (v : Values) → Respects v n1.terms → fixed (look v s0) → fixed (look v s1)
  pub idle : (v : Values) → Respects v n1.terms → on v ≡ 0 → fixed (look v s0) → IsIdle (trail v more) (bits_of v f) (look v s0) (look v s1)
  pub live : (v : Values) → Respects v n1.terms → on v ≡ 1 → fixed (look v s0) → (s : JointState) → before (look v s0) s → Follows (run v s) (trail v more) (bits_of v f) (λ way. behind way (look v s1)) out

-- where control has entered before, and where it enters now
abbrev pub HasEntered : (on on' entry : ℕ) → Type 0
HasEntered on on' entry = ((on' ≡ 0) × (on ≡ 0) × (entry ≡ 0)) ⊎ (((on' ≡ 1) × (on ≡ 1) × (entry ≡ 0)) ⊎ ((on' ≡ 1) × (on ≡ 0) × (entry ≡ 1)))

one_or : (n : ℕ) → n ≡ 1 → bit_or 0 n ≡ 1
one_or n e = ap (bit_or 0) e

merge_next : (w way : Way) → merge_of w (way_bit w Next) (way_bit w way) ≡ way_bit w way
merge_next Next way = refl
merge_next Breaking Next = refl
merge_next Breaking Breaking = refl
merge_next Breaking Continuing = refl
merge_next Breaking Returning = refl
merge_next Continuing Next = refl
merge_next Continuing Breaking = refl
merge_next Continuing Continuing = refl
merge_next Continuing Returning = refl
merge_next Returning Next = refl
merge_next Returning Breaking = refl
merge_next Returning Continuing = refl
merge_next Returning Returning = refl

merge_stays : (w way : Way) → (way ≡ Next → ⊥) → merge_of w (way_bit w way) 0 ≡ way_bit w way
merge_stays Next way h = sym (next_off way h)
merge_stays Breaking way h = or_zero_r (way_bit Breaking way)
merge_stays Continuing way h = or_zero_r (way_bit Continuing way)
merge_stays Returning way h = or_zero_r (way_bit Returning way)

merge_off : (w : Way) → merge_of w 0 0 ≡ 0
merge_off Next = refl
merge_off Breaking = refl
merge_off Continuing = refl
merge_off Returning = refl

-- the guards behind an entry
entered_kept : (x : Way → ℕ) (e : ℕ) → e ≡ 0 → (w : Way) → entered_of e x w ≡ x w
entered_kept x e off Next = ap (bit_or (x Next)) off ∙ or_zero_r (x Next)
entered_kept x e off Breaking = refl
entered_kept x e off Continuing = refl
entered_kept x e off Returning = refl

entered_now : (x : Way → ℕ) (e : ℕ) → e ≡ 1 → ((w : Way) → x w ≡ 0) → (w : Way) → entered_of e x w ≡ way_bit w Next
entered_now x e on off Next = ap (λ n. bit_or n e) (off Next) ∙ one_or e on
entered_now x e on off Breaking = off Breaking
entered_now x e on off Continuing = off Continuing
entered_now x e on off Returning = off Returning

module _ (fixed : Image → Type 0) where
  pub where_guard : (n0 n1 : Unrolled) (s0 s1 : State) (run : Values → Onward) (on : Values → ℕ) (g : Guard) (f : Flow) (before : Image → JointState → Type 0) (behind : Way → Image → JointState → Type 0) (out : Way → Onward) → ((v : Values) → Respects v n1.terms → bit_at v g ≡ on v) →
      UnwindsWhere fixed n0 n1 s0 s1 run on f before behind out → Unwinds fixed n0 n1 s0 s1 run g f before behind out
  where_guard n0 n1 s0 s1 run on g f before behind out is A = record {
    grown = A.grown;
    more = A.more;
    list = A.list;
    settled = A.settled;
    idle = λ v r o x. A.idle v r (sym (is v r) ∙ o) x;
    live = λ v r l x s h. A.live v r (sym (is v r) ∙ l) x s h;
  }

  -- control enters
  pub entering : (n0 n1 n2 : Unrolled) (s0 s1 : State) (run : Values → Onward) (on on' : Values → ℕ) (entry : Guard) (ways f : Flow) (before : Image → JointState → Type 0) (behind : Way → Image → JointState → Type 0) (out : Way → Onward) → ((x : Image) (s : JointState) → before x s → behind Next x s) →
      ((v : Values) → Respects v n2.terms → HasEntered (on v) (on' v) (bit_at v entry)) → ((v : Values) → Respects v n2.terms → bit_at v entry ≡ 1 → (s : JointState) (c : List ℕ) → out Next s c ≡ run v s c) → UnwindsWhere fixed n0 n1 s0 s1 run on ways before behind out →
      IsFlow n1 n2 f (λ v. entered_of (bit_at v entry) (bits_of v ways)) → UnwindsWhere fixed n0 n2 s0 s1 run on' f before behind out
  entering n0 n1 n2 s0 s1 run on on' entry ways f before behind out post has same A E = record {
    grown = λ v r. A.grown v (E.adds.grown v r);
    more = A.more;
    list = E.adds.list ∙ A.list;
    settled = λ v r x. A.settled v (E.adds.grown v r) x;
    idle = λ v r o x. ⊎_elim (λ (q : (on' v ≡ 0) × (on v ≡ 0) × (bit_at v entry ≡ 0)). still v r q.1 q.2 x)
        (λ (q : ((on' v ≡ 1) × (on v ≡ 1) × (bit_at v entry ≡ 0)) ⊎ ((on' v ≡ 1) × (on v ≡ 0) × (bit_at v entry ≡ 1))). absurd (⊎_elim (λ (p : (on' v ≡ 1) × (on v ≡ 1) × (bit_at v entry ≡ 0)). not_both v o p.0) (λ (p : (on' v ≡ 1) × (on v ≡ 0) × (bit_at v entry ≡ 1)). not_both v o p.0) q)) (has v r);
    live = λ v r l x s h. ⊎_elim (λ (q : (on' v ≡ 0) × (on v ≡ 0) × (bit_at v entry ≡ 0)). absurd (not_both v q.0 l))
        (λ (q : ((on' v ≡ 1) × (on v ≡ 1) × (bit_at v entry ≡ 0)) ⊎ ((on' v ≡ 1) × (on v ≡ 0) × (bit_at v entry ≡ 1))). ⊎_elim (λ (p : (on' v ≡ 1) × (on v ≡ 1) × (bit_at v entry ≡ 0)). before_now v r p.1 p.2 x s h) (λ (p : (on' v ≡ 1) × (on v ≡ 0) × (bit_at v entry ≡ 1)). here v r p.1 p.2 x s h) q) (has v r);
  }
    where
      not_both : (v : Values) → on' v ≡ 0 → on' v ≡ 1 → ⊥
      not_both v p q = let d : 0 ≡ 1 = sym p ∙ q in cc

      still : (v : Values) → Respects v n2.terms → on v ≡ 0 → bit_at v entry ≡ 0 → fixed (look v s0) → IsIdle (trail v A.more) (bits_of v f) (look v s0) (look v s1)
      still v r o e x =
          let a = A.idle v (E.adds.grown v r) o x in
          record { passes = a.passes; off = λ w. E.ways v r w ∙ entered_kept (bits_of v ways) (bit_at v entry) e w ∙ a.off w; kept = a.kept }

      before_now : (v : Values) → Respects v n2.terms → on v ≡ 1 → bit_at v entry ≡ 0 → fixed (look v s0) → (s : JointState) → before (look v s0) s → Follows (run v s) (trail v A.more) (bits_of v f) (λ way. behind way (look v s1)) out
      before_now v r l e x s h =
          follows_as (run v s) (run v s) (trail v A.more) (bits_of v ways) (bits_of v f) (λ w. behind w (look v s1)) (λ w. behind w (look v s1)) out out (λ w. w) (λ c. refl)
          (λ way at w. E.ways v r w ∙ entered_kept (bits_of v ways) (bit_at v entry) e w ∙ at w) (λ w s' q. q) (λ w s' c q. refl) (A.live v (E.adds.grown v r) l x s h)

      here : (v : Values) → Respects v n2.terms → on v ≡ 0 → bit_at v entry ≡ 1 → fixed (look v s0) → (s : JointState) → before (look v s0) s → Follows (run v s) (trail v A.more) (bits_of v f) (λ way. behind way (look v s1)) out
      here v r o e x s h =
          let a = A.idle v (E.adds.grown v r) o x in
          let B = stays_follows Next s (bits_of v f) (λ w. behind w (look v s1)) out (λ w. E.ways v r w ∙ entered_now (bits_of v ways) (bit_at v entry) e a.off w) (subst (λ y. behind Next y s) (sym a.kept) (post (look v s0) s h)) in
          subst (λ t. Follows (run v s) t (bits_of v f) (λ w. behind w (look v s1)) out) (sym a.passes)
          (follows_as (out Next s) (run v s) (Through []) (bits_of v f) (bits_of v f) (λ w. behind w (look v s1)) (λ w. behind w (look v s1)) out out (λ w. w) (λ c. same v r e s c) (λ w q. q) (λ w s' q. q) (λ w s' c q. refl) B)

  -- one stretch after another, under the first's guard of Next
  pub chain_where : (n0 n1 n2 n3 : Unrolled) (s0 s1 s2 : State) (run : Values → Onward) (on : Values → ℕ) (f1 f2 f : Flow) (before : Image → JointState → Type 0) (h1 h2 : Way → Image → JointState → Type 0) (out1 out2 : Way → Onward) →
      ((way : Way) (x : Image) (s : JointState) → (way ≡ Next → ⊥) → h1 way x s → h2 way x s) → ((way : Way) (s : JointState) (c : List ℕ) → (way ≡ Next → ⊥) → out1 way s c ≡ out2 way s c) →
      UnwindsWhere fixed n0 n1 s0 s1 run on f1 before h1 out1 → Unwinds fixed n1 n2 s1 s2 (λ v. out1 Next) f1.next f2 (h1 Next) h2 out2 → IsFlow n2 n3 f (λ v way. merge_of way (bits_of v f1 way) (bits_of v f2 way)) →
      UnwindsWhere fixed n0 n3 s0 s2 run on f before h2 out2
  chain_where n0 n1 n2 n3 s0 s1 s2 run on f1 f2 f before h1 h2 out1 out2 post m A B E = record {
    grown = λ v r. A.grown v (B.grown v (E.adds.grown v r));
    more = A.more ++ B.more;
    list = E.adds.list ∙ B.list ∙ ap (λ l. l ++ B.more) A.list ∙ append_assoc n0.list A.more B.more;
    settled = λ v r x. let r2 = E.adds.grown v r in B.settled v r2 (A.settled v (B.grown v r2) x);
    idle = λ v r o x.
        let r2 = E.adds.grown v r in
        let r1 = B.grown v r2 in
        let a = A.idle v r1 o x in
        let b = B.idle v r2 (a.off Next) (A.settled v r1 x) in
        record {
          passes = trail-append v A.more B.more ∙ ap (λ t. trail_then t (trail v B.more)) a.passes ∙ then_nothing (trail v B.more) ∙ b.passes;
          off = λ w. E.ways v r w ∙ ap (λ n. merge_of w n (bits_of v f2 w)) (a.off w) ∙ ap (merge_of w 0) (b.off w) ∙ merge_off w;
          kept = b.kept ∙ a.kept;
        };
    live = λ v r l x s h.
        let r1 = B.grown v (E.adds.grown v r) in
        subst (λ t. Follows (run v s) t (bits_of v f) (λ w. h2 w (look v s2)) out2) (sym (trail-append v A.more B.more))
        (bind_follows (run v s) (trail v A.more) (trail v B.more) (bits_of v f1) (bits_of v f) (λ w. h1 w (look v s1)) (λ w. h2 w (look v s2)) out1 out2 (A.live v r1 l x s h) (after v r (A.settled v r1 x)));
  }
    where
      after : (v : Values) → Respects v n3.terms → fixed (look v s1) → (way : Way) → IsAt (bits_of v f1) way → (s : JointState) → h1 way (look v s1) s → Follows (out1 way s) (trail v B.more) (bits_of v f) (λ w. h2 w (look v s2)) out2
      after v r x way at s h = ⊎_elim on_next off_next (is_next way)
        where
          r2 : Respects v n2.terms
          r2 = E.adds.grown v r

          on_next : way ≡ Next → Follows (out1 way s) (trail v B.more) (bits_of v f) (λ w. h2 w (look v s2)) out2
          on_next e =
              let at' : IsAt (bits_of v f1) Next = subst (IsAt (bits_of v f1)) e at in
              follows_as (out1 Next s) (out1 way s) (trail v B.more) (bits_of v f2) (bits_of v f) (λ w. h2 w (look v s2)) (λ w. h2 w (look v s2)) out2 out2 (λ w. w) (λ c. ap (λ w. out1 w s c) (sym e))
              (λ w q p. E.ways v r p ∙ ap (λ n. merge_of p n (bits_of v f2 p)) (at' p) ∙ ap (merge_of p (way_bit p Next)) (q p) ∙ merge_next p w) (λ w s' q. q) (λ w s' c q. refl)
              (B.live v r2 (at' Next) x s (subst (λ w. h1 w (look v s1) s) e h))

          off_next : (way ≡ Next → ⊥) → Follows (out1 way s) (trail v B.more) (bits_of v f) (λ w. h2 w (look v s2)) out2
          off_next isnt =
              let b = B.idle v r2 (at Next ∙ next_off way isnt) x in
              let h' = subst (λ t. Follows (out2 way s) t (bits_of v f) (λ w. h2 w (look v s2)) out2) (sym b.passes)
              (stays_follows way s (bits_of v f) (λ w. h2 w (look v s2)) out2
              (λ w. E.ways v r w ∙ ap (merge_of w (bits_of v f1 w)) (b.off w) ∙ ap (λ n. merge_of w n 0) (at w) ∙ merge_stays w way isnt)
              (subst (λ y. h2 way y s) (sym b.kept) (post way (look v s1) s isnt h))) in
              follows_as (out2 way s) (out1 way s) (trail v B.more) (bits_of v f) (bits_of v f) (λ w. h2 w (look v s2)) (λ w. h2 w (look v s2)) out2 out2 (λ w. w) (λ c. sym (m way s c isnt)) (λ w q. q) (λ w s' q. q) (λ w s' c q. refl) h'
