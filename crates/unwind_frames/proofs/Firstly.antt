-- A run's beginning: its three draws, one after the other.
use Rattle.std.proofs.Common.{◌≡◌, ℕ, List, ◌++◌, refl, sym, ap, ◌∙◌, append_assoc}
use Rattle.std.proofs.lemmas.List.{map-append}
use Rattle.bits_core.specs.Word.{Word}
use Rattle.word_eqs.specs.declared.list.Step.{Step}
use Rattle.word_eqs.specs.declared.term.TermId.{TermId}
use Rattle.word_eqs.specs.Meaning.{Values, Respects}
use Rattle.joint_ir.specs.declared.module.Role.TheVariants.{Input, Register}
use Rattle.joint_ir.specs.declared.pair.Pair.{Pair}
use Rattle.joint_ir.specs.Effects.{Effect, preceded, draw_all}
use Rattle.joint_ir.specs.Runs.{draw_registers}
use Rattle.joint_ir.specs.Views.{widths_of, site_widths}
use Rattle.sized_terms.specs.declared.SizedTerm.{SizedTerm}
use Rattle.unrolled.specs.declared.Unrolled.{Unrolled}
use Rattle.trails.specs.Trails.{Through, values_of, widths_of as read_widths, trail_then, trail}
use Rattle.trails.proofs.Walking.{trail-append}
use Rattle.trails.proofs.Ways.{preceded_twice}
use Rattle.unwind_state.specs.declared.state.Guard.TheVariants.{Always}
use Rattle.unwind_state.specs.Images.{words}
use Rattle.unwind_state.specs.Writing.{IsChosen}
use Rattle.unwind_module.specs.Drawing.{Onwards, drew_all, AreDrawn}
use Rattle.unwind_module.proofs.Terms.{grows_adds, grows_then, terms_kept}
use Rattle.unwind_frames.specs.Firsts.{AreFirstSources}

pub sources_first : (p : Pair) (n0 n1 n2 n3 n4 : Unrolled) (registers inputs unknown : List TermId) (edges : SizedTerm) → AreDrawn n0 n1 Always (draw_registers p.module.firsts (widths_of Register p.module.signals)) (widths_of Register p.module.signals) registers →
    AreDrawn n1 n2 Always (draw_all (widths_of Input p.module.signals)) (widths_of Input p.module.signals) inputs → AreDrawn n2 n3 Always (draw_all (site_widths p.module.settle_sites)) (site_widths p.module.settle_sites) unknown → IsChosen n3 n4 32 edges (λ v. 0) →
    AreFirstSources p n0 n4 (record { registers = registers; inputs = inputs; unknown = unknown; edges = edges })
sources_first p n0 n1 n2 n3 n4 registers inputs unknown edges A B C E =
    let G34 = grows_adds n3 n4 E.adds in
    let G24 = grows_then n2.terms n3.terms n4.terms C.grows G34 in
    let G14 = grows_then n1.terms n2.terms n4.terms B.grows G24 in
    record {
      n1 = n1;
      n2 = n2;
      n3 = n3;
      registers_ = A;
      inputs_ = B;
      unknown_ = C;
      edges_ = E;
      typed = record {
        registers_ = terms_kept n1.terms n4.terms registers (widths_of Register p.module.signals) G14 A.terms;
        inputs_ = terms_kept n2.terms n4.terms inputs (widths_of Input p.module.signals) G24 B.terms;
        unknown_ = terms_kept n3.terms n4.terms unknown (site_widths p.module.settle_sites) G34 C.terms;
        edges_ = E.has;
        counter = E.width;
      };
    }

three_values : (a b c : List Word) (rest : List ℕ) → values_of (a ++ b ++ c) ++ rest ≡ values_of a ++ (values_of b ++ (values_of c ++ rest))
three_values a b c rest =
    ap (λ l. l ++ rest) (map-append (λ (x : Word). x.value) (a ++ b) c ∙ ap (λ l. l ++ values_of c) (map-append (λ (x : Word). x.value) a b))
    ∙ append_assoc (values_of a ++ values_of b) (values_of c) rest ∙ append_assoc (values_of a) (values_of b) (values_of c ++ rest)

three_widths : (a b c : List Word) → read_widths a ++ (read_widths b ++ read_widths c) ≡ read_widths (a ++ b ++ c)
three_widths a b c = sym (map-append (λ (x : Word). x.width) (a ++ b) c ∙ ap (λ l. l ++ read_widths c) (map-append (λ (x : Word). x.width) a b) ∙ append_assoc (read_widths a) (read_widths b) (read_widths c))

-- three draws always made, one after the other
module _ (n0 n1 n2 n3 : Unrolled) (dA dB dC : List ℕ → Onwards → Effect) (wa wb wc : List ℕ) (a b c : List TermId) (A : AreDrawn n0 n1 Always dA wa a) (B : AreDrawn n1 n2 Always dB wb b) (C : AreDrawn n2 n3 Always dC wc c) where
  abbrev pub three_more : List Step
  three_more = A.more ++ B.more ++ C.more

  abbrev pub three_reads : Values → List Word
  three_reads v = A.reads v ++ B.reads v ++ C.reads v

  pub three_list : n3.list ≡ n0.list ++ three_more
  three_list =
      C.list ∙ ap (λ l. l ++ C.more) (B.list ∙ ap (λ l. l ++ B.more) A.list) ∙ ap (λ l. l ++ C.more) (append_assoc n0.list A.more B.more) ∙ append_assoc n0.list (A.more ++ B.more) C.more

  pub three_through : (v : Values) → Respects v n3.terms → trail v three_more ≡ Through (three_reads v)
  three_through v r =
      let r2 = C.grows.grown v r in
      let r1 = B.grows.grown v r2 in
      trail-append v (A.more ++ B.more) C.more
      ∙ ap (λ t. trail_then t (trail v C.more)) (trail-append v A.more B.more ∙ ap (λ t. trail_then t (trail v B.more)) (A.through v r1 refl) ∙ ap (trail_then (Through (A.reads v))) (B.through v r2 refl))
      ∙ ap (trail_then (Through (A.reads v ++ B.reads v))) (C.through v r refl)

  pub three_draws : (v : Values) → Respects v n3.terms → (rest : List ℕ) (go : List ℕ → List ℕ → List ℕ → List ℕ → Effect) →
      dA (values_of (three_reads v) ++ rest) (λ ns c'. dB c' (λ ms c''. dC c'' (λ us rest. go ns ms us rest))) ≡ preceded (drew_all (read_widths (three_reads v))) (go (words v a) (words v b) (words v c) rest)
  three_draws v r rest go =
      let r2 = C.grows.grown v r in
      let r1 = B.grows.grown v r2 in
      let ra = A.reads v in
      let rb = B.reads v in
      let rc = C.reads v in
      ap (λ l. dA l (λ ns c'. dB c' (λ ms c''. dC c'' (λ us rest. go ns ms us rest)))) (three_values ra rb rc rest)
      ∙ A.draws v r1 (values_of rb ++ (values_of rc ++ rest)) (λ ns c'. dB c' (λ ms c''. dC c'' (λ us rest. go ns ms us rest)))
      ∙ ap (preceded (drew_all (read_widths ra)))
      (B.draws v r2 (values_of rc ++ rest) (λ ms c''. dC c'' (λ us rest. go (words v a) ms us rest))
      ∙ ap (preceded (drew_all (read_widths rb))) (C.draws v r rest (λ us rest. go (words v a) (words v b) us rest))
      ∙ preceded_twice (drew_all (read_widths rb)) (drew_all (read_widths rc)) (go (words v a) (words v b) (words v c) rest))
      ∙ preceded_twice (drew_all (read_widths ra)) (drew_all (read_widths rb ++ read_widths rc)) (go (words v a) (words v b) (words v c) rest)
      ∙ ap (λ l. preceded (drew_all l) (go (words v a) (words v b) (words v c) rest)) (three_widths ra rb rc)
