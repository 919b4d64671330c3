-- Draws under a guard, one after the other, and what goes on from them.
use Rattle.std.proofs.Common.{◌≡◌, ℕ, zero, suc, ◌%◌, ◌^◌, ◌<◌, List, [], ◌∷◌, ◌++◌, refl, sym, ap, ◌∙◌, subst, append_assoc, append-nil}
use Rattle.std.proofs.Math.Nat.{mod-eq_of_lt}
use Rattle.std.proofs.lemmas.List.{map-append}
use Rattle.bits_core.specs.Word.{Word, at_zero}
use Rattle.word_eqs.specs.declared.list.Act.TheVariants.{Free}
use Rattle.word_eqs.specs.declared.list.Step.{Step}
use Rattle.word_eqs.specs.declared.term.TermId.{TermId}
use Rattle.word_eqs.specs.Graph.{IsGraph}
use Rattle.word_eqs.specs.Meaning.{Values, Respects}
use Rattle.joint_ir.specs.declared.way.Way.{Way}
use Rattle.joint_ir.specs.Effects.{Effect, Told, drew, joined, Goes, Stops, TooFew, Onward, preceded, draw, draw_all}
use Rattle.joint_ir.specs.States.{JointState}
use Rattle.sized_terms.specs.declared.SizedTerm.{SizedTerm}
use Rattle.sized_terms.specs.Sized.{Has, bits}
use Rattle.unrolled.specs.declared.Unrolled.{Unrolled}
use Rattle.trails.specs.Following.{Follows}
use Rattle.trails.specs.Trails.{Trail, Through, Halts, values_of, widths_of, trail_then, act_trail, trail}
use Rattle.trails.proofs.Walking.{then_nothing, trail-append, trail_one}
use Rattle.trails.proofs.Ways.{preceded_nothing, preceded_twice}
use Rattle.unwind_state.specs.declared.state.Flow.{Flow}
use Rattle.unwind_state.specs.declared.state.Guard.{Guard}
use Rattle.unwind_state.specs.declared.state.State.{State}
use Rattle.unwind_state.specs.Guards.{bit_at, bits_of, Adds}
use Rattle.unwind_state.specs.Images.{Image, words, look}
use Rattle.unwind_state.specs.Unwinding.{Unwinds, IsDrawn}
use Rattle.unwind_module.specs.Drawing.{Onwards, drew_all, AreDrawn}
use Rattle.unwind_module.proofs.Terms.{grows_none, grows_then, grows_adds, terms_none, terms_kept, terms_push, sized_is}

-- the choices of two readings
values_both : (r r' : List Word) (rest : List ℕ) → values_of (r ++ r') ++ rest ≡ values_of r ++ (values_of r' ++ rest)
values_both r r' rest = ap (λ l. l ++ rest) (map-append (λ (x : Word). x.value) r r') ∙ append_assoc (values_of r) (values_of r') rest

-- nothing was drawn yet
pub none_drawn : (n : Unrolled) (g : Guard) (drawing : List ℕ → Onwards → Effect) → IsGraph n.terms → ((c : List ℕ) (go : Onwards) → drawing c go ≡ go [] c) → AreDrawn n n g drawing [] []
none_drawn n g drawing p same = record {
  grows = grows_none n.terms p;
  more = [];
  list = sym (append-nil n.list);
  terms = terms_none n.terms;
  idle = λ v r o. refl;
  reads = λ v. [];
  through = λ v r l. refl;
  draws = λ v r rest go. same rest go ∙ sym (preceded_nothing (go [] rest));
}

-- one word more
pub one_drawn : (n0 n1 n2 : Unrolled) (g : Guard) (drawing drawing' : List ℕ → Onwards → Effect) (ws : List ℕ) (ids : List TermId) (w : ℕ) (t : SizedTerm) →
    ((c : List ℕ) (go : Onwards) → drawing' c go ≡ drawing c (λ ns c'. draw w c' (λ n rest. go (ns ++ n ∷ []) rest))) →
    AreDrawn n0 n1 g drawing ws ids → IsDrawn n1 n2 w g t → AreDrawn n0 n2 g drawing' (ws ++ w ∷ []) (ids ++ t.term ∷ [])
one_drawn n0 n1 n2 g drawing drawing' ws ids w t same A D =
    let P = D.pushed in
    let x = D.variable in
    let st : Step = record { guard = P.guard; act = Free x } in
    record {
      grows = grows_then n0.terms n1.terms n2.terms A.grows P.grows;
      more = A.more ++ st ∷ [];
      list = P.list ∙ ap (λ l. l ++ st ∷ []) A.list ∙ append_assoc n0.list A.more (st ∷ []);
      terms = terms_push n2.terms ids t.term ws w (terms_kept n1.terms n2.terms ids ws P.grows A.terms) (sized_is n2.terms t w D.has D.width);
      idle = λ v r o.
          trail-append v A.more (st ∷ []) ∙ ap (λ u. trail_then u (trail v (st ∷ []))) (A.idle v (P.grows.grown v r) o) ∙ then_nothing (trail v (st ∷ []))
          ∙ trail_one v st ∙ ap (λ n. at_zero n (Through []) (act_trail v (Free x))) (P.value v r ∙ o);
      reads = λ v. A.reads v ++ v.var x.0 ∷ [];
      through = λ v r l.
          trail-append v A.more (st ∷ []) ∙ ap (λ u. trail_then u (trail v (st ∷ []))) (A.through v (P.grows.grown v r) l)
          ∙ ap (trail_then (Through (A.reads v))) (trail_one v st ∙ ap (λ n. at_zero n (Through []) (act_trail v (Free x))) (P.value v r ∙ l));
      draws = λ v r rest go.
          let a = v.var x.0 in
          let reads = A.reads v in
          let all : Told = joined (drew_all (widths_of reads)) (drew w) in
          ap (λ c. drawing' c go) (values_both reads (a ∷ []) rest)
          ∙ same (values_of reads ++ a.value ∷ rest) go
          ∙ A.draws v (P.grows.grown v r) (a.value ∷ rest) (λ ns c'. draw w c' (λ n rest. go (ns ++ n ∷ []) rest))
          ∙ preceded_twice (drew_all (widths_of reads)) (drew w) (go (words v ids ++ a.value % 2 ^ w ∷ []) rest)
          ∙ ap (λ n. preceded all (go (words v ids ++ n ∷ []) rest)) (mod-eq_of_lt (D.word v r).below ∙ sym (D.value v r))
          ∙ ap (λ l. preceded all (go l rest)) (sym (map-append (λ (y : TermId). (v.term y.0).value) ids (t.term ∷ [])))
          ∙ ap (λ l. preceded (drew_all l) (go (words v (ids ++ t.term ∷ [])) rest)) (ap (λ n. widths_of reads ++ n ∷ []) (sym (D.word v r).width) ∙ sym (map-append (λ (y : Word). y.width) reads (a ∷ [])));
    }

-- one number that is known, without a draw
pub one_known : (n0 n1 n2 : Unrolled) (g : Guard) (drawing drawing' : List ℕ → Onwards → Effect) (ws : List ℕ) (ids : List TermId) (w n : ℕ) (t : SizedTerm) →
    ((c : List ℕ) (go : Onwards) → drawing' c go ≡ drawing c (λ ns rest. go (ns ++ n ∷ []) rest)) →
    AreDrawn n0 n1 g drawing ws ids → Adds n1 n2 → Has n2.terms t → t.width ≡ w → ((v : Values) → Respects v n2.terms → bits v t ≡ n) → AreDrawn n0 n2 g drawing' (ws ++ w ∷ []) (ids ++ t.term ∷ [])
one_known n0 n1 n2 g drawing drawing' ws ids w n t same A L h e value = record {
  grows = grows_then n0.terms n1.terms n2.terms A.grows (grows_adds n1 n2 L);
  more = A.more;
  list = L.list ∙ A.list;
  terms = terms_push n2.terms ids t.term ws w (terms_kept n1.terms n2.terms ids ws (grows_adds n1 n2 L) A.terms) (sized_is n2.terms t w h e);
  idle = λ v r o. A.idle v (L.grown v r) o;
  reads = A.reads;
  through = λ v r l. A.through v (L.grown v r) l;
  draws = λ v r rest go.
      same (values_of (A.reads v) ++ rest) go
      ∙ A.draws v (L.grown v r) rest (λ ns rest. go (ns ++ n ∷ []) rest)
      ∙ ap (λ m. preceded (drew_all (widths_of (A.reads v))) (go (words v ids ++ m ∷ []) rest)) (sym (value v r))
      ∙ ap (λ l. preceded (drew_all (widths_of (A.reads v))) (go l rest)) (sym (map-append (λ (y : TermId). (v.term y.0).value) ids (t.term ∷ [])));
}

-- draws of one width more
pub draw_all_push : (ws : List ℕ) (w : ℕ) (c : List ℕ) (go : Onwards) → draw_all (ws ++ w ∷ []) c go ≡ draw_all ws c (λ ns c'. draw w c' (λ n rest. go (ns ++ n ∷ []) rest))
draw_all_push [] w c go = refl
draw_all_push (b ∷ ws) w [] go = refl
draw_all_push (b ∷ ws) w (n ∷ c) go = ap (preceded (drew b)) (draw_all_push ws w c (λ ns. go (n % 2 ^ b ∷ ns)))

-- what is read, and then what goes on
pub reads_follow : (reads : List Word) (run next : List ℕ → Effect) (t : Trail) (guards : Way → ℕ) (holds : Way → JointState → Type 0) (out : Way → Onward) →
    ((rest : List ℕ) → run (values_of reads ++ rest) ≡ preceded (drew_all (widths_of reads)) (next rest)) → Follows next t guards holds out → Follows run (trail_then (Through reads) t) guards holds out
reads_follow reads run next (Through r) guards holds out e k = record {
  way = k.way;
  state = k.state;
  told = joined (drew_all (widths_of reads)) k.told;
  at = k.at;
  held = k.held;
  widths = ap (λ l. widths_of reads ++ l) k.widths ∙ sym (map-append (λ (x : Word). x.width) reads r);
  runs = λ rest.
      ap run (values_both reads r rest) ∙ e (values_of r ++ rest) ∙ ap (preceded (drew_all (widths_of reads))) (k.runs rest)
      ∙ preceded_twice (drew_all (widths_of reads)) k.told (out k.way k.state rest);
}
reads_follow reads run next (Halts r stop) guards holds out e k = record {
  outcome = k.outcome;
  told = joined (drew_all (widths_of reads)) k.told;
  broken = k.broken;
  widths = ap (λ l. widths_of reads ++ l) k.widths ∙ sym (map-append (λ (x : Word). x.width) reads r);
  runs = λ rest. ap run (values_both reads r rest) ∙ e (values_of r ++ rest) ∙ ap (preceded (drew_all (widths_of reads))) (k.runs rest);
}

module _ (fixed : Image → Type 0) where
  -- draws, and then a stretch that goes on with the numbers drawn
  pub all_drawn : (n0 n1 n2 : Unrolled) (s0 s1 : State) (drawing : List ℕ → Onwards → Effect) (ws : List ℕ) (ids : List TermId) (K : Values → List ℕ → Onward) (g : Guard) (f : Flow) (before : Image → JointState → Type 0) (behind : Way → Image → JointState → Type 0) (out : Way → Onward) →
      AreDrawn n0 n1 g drawing ws ids → Unwinds fixed n1 n2 s0 s1 (λ v. K v (words v ids)) g f before behind out → Unwinds fixed n0 n2 s0 s1 (λ v s c. drawing c (λ ns rest. K v ns s rest)) g f before behind out
  all_drawn n0 n1 n2 s0 s1 drawing ws ids K g f before behind out A B = record {
    grown = λ v r. A.grows.grown v (B.grown v r);
    more = A.more ++ B.more;
    list = B.list ∙ ap (λ l. l ++ B.more) A.list ∙ append_assoc n0.list A.more B.more;
    settled = B.settled;
    idle = λ v r o x.
        let b = B.idle v r o x in
        record {
          passes = trail-append v A.more B.more ∙ ap (λ t. trail_then t (trail v B.more)) (A.idle v (B.grown v r) o) ∙ then_nothing (trail v B.more) ∙ b.passes;
          off = b.off;
          kept = b.kept;
        };
    live = λ v r l x s h.
        let r1 = B.grown v r in
        subst (λ t. Follows (λ c. drawing c (λ ns rest. K v ns s rest)) t (bits_of v f) (λ w. behind w (look v s1)) out)
        (sym (trail-append v A.more B.more ∙ ap (λ t. trail_then t (trail v B.more)) (A.through v r1 l)))
        (reads_follow (A.reads v) (λ c. drawing c (λ ns rest. K v ns s rest)) (K v (words v ids) s) (trail v B.more) (bits_of v f) (λ w. behind w (look v s1)) out
        (λ rest. A.draws v r1 rest (λ ns rest. K v ns s rest)) (B.live v r l x s h));
  }
