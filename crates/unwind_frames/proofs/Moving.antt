-- Calls that reach the module: what is drawn, what a state is at then, and how the run goes on.
use Rattle.std.proofs.Common.{◌≡◌, ℕ, ◌+◌, ◌%◌, ◌^◌, ◌<◌, List, Bool, true, false, refl, sym, ap, ◌∙◌, subst, arith}
use Rattle.std.specs.Prelude.{nat_lt, if◌then◌else◌}
use Rattle.std.proofs.Math.Nat.{mod-eq_of_lt}
use Rattle.std.proofs.lemmas.Bool.{ltb-true}
use Rattle.bits_core.specs.Word.{bit, at_zero}
use Rattle.word_eqs.specs.declared.list.Act.TheVariants.{Prop, Cut}
use Rattle.word_eqs.specs.declared.term.TermId.{TermId}
use Rattle.word_eqs.specs.Graph.{Graph}
use Rattle.word_eqs.specs.Meaning.{Values, Respects}
use Rattle.joint_ir.specs.declared.bounds.Bounds.{Bounds}
use Rattle.joint_ir.specs.declared.event.Event.TheVariants.{Frame, Driven}
use Rattle.joint_ir.specs.declared.event.Outcome.TheVariants.{OutOfFrames}
use Rattle.joint_ir.specs.declared.module.FlatModule.{FlatModule}
use Rattle.joint_ir.specs.declared.module.Role.TheVariants.{Input, Register, Wire}
use Rattle.joint_ir.specs.declared.pair.Pair.{Pair}
use Rattle.joint_ir.specs.declared.program.PropId.{PropId}
use Rattle.joint_ir.specs.declared.way.Way.{Way}
use Rattle.joint_ir.specs.declared.way.Way.TheVariants.{Next}
use Rattle.joint_ir.specs.Effects.{Effect, Told, Onward, nothing, seen, Goes, Stops, broken, draw_all}
use Rattle.joint_ir.specs.States.{JointState, View}
use Rattle.joint_ir.specs.Steps.{Setting, settled_view, at_view, set_inputs, clock_edge, next_frame}
use Rattle.joint_ir.specs.Views.{widths_of, site_widths, next_registers, changed, driven}
use Rattle.joint_ir.specs.WellFormed.{AreTerms}
use Rattle.sized_terms.specs.declared.SizedTerm.{SizedTerm}
use Rattle.sized_terms.specs.Sized.{bits}
use Rattle.unrolled.specs.declared.Unrolled.{Unrolled}
use Rattle.trails.specs.Following.{goes}
use Rattle.unwind_state.specs.declared.state.Guard.{Guard}
use Rattle.unwind_state.specs.declared.state.State.{State}
use Rattle.unwind_state.specs.Guards.{Adds, bit_at, flow_at}
use Rattle.unwind_state.specs.Images.{Image, words, look, IsState, IsSettled}
use Rattle.unwind_state.specs.Unwinding.{Grows, IsPushed, Changes, Unwinds}
use Rattle.unwind_state.specs.Writing.{HasObjects, IsChosen}
use Rattle.unwind_state.proofs.Gates.{adds_then}
use Rattle.unwind_state.proofs.Pieces.{isnt_zero, changed as changed_stretch, asserted, assumed}
use Rattle.unwind_state.proofs.Sequences.{seq}
use Rattle.unwind_state.proofs.Stretches.{unwinds_as, added_before}
use Rattle.unwind_module.specs.Drawing.{AreDrawn}
use Rattle.unwind_module.specs.Words.{HasModule, AreChosen}
use Rattle.unwind_module.proofs.Draws.{all_drawn}
use Rattle.unwind_module.proofs.Terms.{grows_adds, grows_then, terms_kept}
use Rattle.unwind_words.specs.Rows.{AreDriven}
use Rattle.unwind_frames.specs.declared.calls.Drawn.{Drawn}
use Rattle.unwind_frames.specs.declared.views.Sources.{Sources}
use Rattle.unwind_frames.specs.Frames.{HasSources, AreSame, AreNext, IsRefreshed, settled_from, view_of}
use Rattle.unwind_frames.specs.Moves.{IsCall, IsEdgeDrawn, HaveWords, AreInputSources, AreEdgeSources, IsBounded, edge_to, edge_counted, onto_next}

-- what a state has, as a graph grows

pub objects_grow : (p : Pair) (g h : Graph) (s : State) → Grows g h → HasObjects p.program g s.objects → HasObjects p.program h s.objects
objects_grow p g h s G O = record { count = O.count; has = λ slot there k u at. G.kept _ (O.has slot there k u at) }

pub module_grow : (p : Pair) (g h : Graph) (s : State) → Grows g h → HasModule p g s → HasModule p h s
module_grow p g h s G M = record {
  sources = record {
    registers = terms_kept g h s.registers (widths_of Register p.module.signals) G M.sources.registers;
    inputs = terms_kept g h s.inputs (widths_of Input p.module.signals) G M.sources.inputs;
    unknown = terms_kept g h s.unknown (site_widths p.module.settle_sites) G M.sources.unknown;
    mirror = M.sources.mirror;
  };
  wires = terms_kept g h s.wires (widths_of Wire p.module.signals) G M.wires;
  edges = G.kept s.edges M.edges;
  counter = M.counter;
}

-- a state that is at another view, as a change
pub view_changes : (p : Pair) (na nb nc : Unrolled) (s0 s1 : State) (x : Sources) (g : Guard) (visible : List ℕ) (next : Values → JointState → JointState) → Adds na nb → IsRefreshed p nb nc s0 s1 x g →
    ((v : Values) → Respects v nb.terms → bit_at v g ≡ 0 → AreSame v s0 x) →
    ((v : Values) → Respects v nb.terms → bit_at v g ≡ 1 → (s : JointState) → IsState p visible (look v s0) s → at_view p s (bits v x.edges) (settled_from p v x) ≡ next v s) →
    Changes (IsSettled p) na nc s0 s1 g (IsState p visible) (IsState p visible) next
view_changes p na nb nc s0 s1 x g visible next A R same is = record {
  grown = λ v r. A.grown v (R.adds.grown v r);
  list = R.adds.list ∙ A.list;
  settled = λ v r h. R.settled v r;
  kept = λ v r o h. R.off v r o (same v (R.adds.grown v r) o) h;
  changed = λ v r l h s q. subst (IsState p visible (look v s1)) (is v (R.adds.grown v r) l s q) (R.on v r l visible s q);
}

-- `set_inputs()` of a pair
inputs_of : Pair → Onward
inputs_of p s c =
    let m = p.module in
    draw_all (site_widths m.settle_sites) c (λ unknown rest.
    let v = settled_view m s.view.registers (driven p s.store.members s.view.inputs) unknown in
    Goes Next (at_view p s s.edges v) (seen (Driven (changed m s.view v))) rest)

pub input_sources : (p : Pair) (n0 n1 n2 n3 : Unrolled) (s : State) (drawn new registers inputs unknown : List TermId) (g : Guard) → registers ≡ s.registers → HasModule p n0.terms s → AreTerms n0.terms drawn (site_widths p.module.settle_sites) →
    AreDriven p n0 n1 s.objects.members.items s.inputs new → AreChosen n1 n2 g new s.inputs inputs → AreChosen n2 n3 g drawn s.unknown unknown →
    AreInputSources p n0 n3 s drawn g (record { registers = registers; inputs = inputs; unknown = unknown; edges = s.edges })
input_sources p n0 n1 n2 n3 s drawn new registers inputs unknown g e M T D I U = record {
  adds = adds_then n0 n1 n3 D.adds (adds_then n1 n2 n3 I.adds U.adds);
  sources = (
      let L02 = adds_then n0 n1 n2 D.adds I.adds in
      let N = module_grow p n0.terms n3.terms s (grows_adds n0 n3 (adds_then n0 n2 n3 L02 U.adds)) M in
      record {
        registers_ = subst (λ l. AreTerms n3.terms l (widths_of Register p.module.signals)) (sym e) N.sources.registers;
        inputs_ = terms_kept n2.terms n3.terms inputs (widths_of Input p.module.signals) (grows_adds n2 n3 U.adds) (subst (AreTerms n2.terms inputs) D.terms.sized I.terms);
        unknown_ = subst (AreTerms n3.terms unknown) (terms_kept n0.terms n2.terms drawn (site_widths p.module.settle_sites) (grows_adds n0 n2 L02) T).sized U.terms;
        edges_ = N.edges;
        counter = N.counter;
      });
  off = λ v r o. record { registers_ = ap (words v) e; inputs_ = I.off v (U.adds.grown v r) o; unknown_ = U.off v r o; edges_ = refl };
  registers_ = λ v r. ap (words v) e;
  edges_ = λ v r. refl;
  on_inputs = λ v r l visible q k.
      let r2 = U.adds.grown v r in
      let r1 = I.adds.grown v r2 in
      I.on v r2 l ∙ D.stand v r1 q.store.members (λ i. k.members i);
  on_unknown = λ v r l. U.on v r l;
}

pub edge_typed : (p : Pair) (n0 n1 : Unrolled) (s : State) (d : Drawn) (g : Guard) (x : Sources) → AreEdgeSources p.module n0 n1 s d g x → HasSources p n1.terms x
edge_typed p n0 n1 s d g x S = record { registers_ = S.registers_; inputs_ = S.inputs_; unknown_ = S.unknown_; edges_ = S.edges_; counter = S.counter }

module _ (p : Pair) (n0 n1 n2 n3 : Unrolled) (s0 s1 : State) (g : Guard) (drawn : List TermId) (x : Sources) where
  inputs_next : Values → JointState → JointState
  inputs_next v s = at_view p s s.edges (settled_view p.module s.view.registers (driven p s.store.members s.view.inputs) (words v drawn))

  inputs_told : Values → JointState → Told
  inputs_told v s = seen (Driven (changed p.module s.view (settled_view p.module s.view.registers (driven p s.store.members s.view.inputs) (words v drawn))))

  inputs_on : Values → List ℕ → Onward
  inputs_on v ns s c =
      let w = settled_view p.module s.view.registers (driven p s.store.members s.view.inputs) ns in
      Goes Next (at_view p s s.edges w) (seen (Driven (changed p.module s.view w))) c

  inputs_are : AreInputSources p n1 n2 s0 drawn g x → (visible : List ℕ) (v : Values) → Respects v n2.terms → bit_at v g ≡ 1 → (s : JointState) → IsState p visible (look v s0) s →
      at_view p s (bits v x.edges) (settled_from p v x) ≡ inputs_next v s
  unfolding inputs_next
  inputs_are S visible v r l s k =
      let inputs : words v x.inputs ≡ driven p s.store.members s.view.inputs = S.on_inputs v r l visible s k ∙ ap (driven p s.store.members) k.inputs in
      let registers : words v x.registers ≡ s.view.registers = S.registers_ v r ∙ k.registers in
      ap (λ n. at_view p s n (settled_from p v x)) (S.edges_ v r ∙ k.edges)
      ∙ ap (λ a. at_view p s s.edges (settled_view p.module a (words v x.inputs) (words v x.unknown))) registers
      ∙ ap (λ b. at_view p s s.edges (settled_view p.module s.view.registers b (words v x.unknown))) inputs
      ∙ ap (λ c. at_view p s s.edges (settled_view p.module s.view.registers (driven p s.store.members s.view.inputs) c)) (S.on_unknown v r l)

  pub inputs_call : AreDrawn n0 n1 g (draw_all (site_widths p.module.settle_sites)) (site_widths p.module.settle_sites) drawn → AreInputSources p n1 n2 s0 drawn g x → IsRefreshed p n2 n3 s0 s1 x g →
      (k : Setting) → k.pair ≡ p → IsCall p n0 n3 s0 s1 g (set_inputs k)
  unfolding inputs_next inputs_told inputs_on inputs_of
  inputs_call D S R k e =
      subst (λ (q : Pair). IsCall p n0 n3 s0 s1 g (inputs_of q)) (sym e)
      (record {
        grows = grows_then n0.terms n1.terms n3.terms D.grows (grows_adds n1 n3 (adds_then n1 n2 n3 S.adds R.adds));
        objects_ = R.objects_;
        module_ = R.module_;
        result_ = R.result_;
        does = λ visible.
            all_drawn (IsSettled p) n0 n1 n3 s0 s1 (draw_all (site_widths p.module.settle_sites)) (site_widths p.module.settle_sites) drawn inputs_on g (flow_at Next g) (IsState p visible) (onto_next p visible) goes D
            (changed_stretch (IsSettled p) n1 n3 s0 s1 Next g (IsState p visible) (IsState p visible) inputs_next inputs_told (onto_next p visible) (λ v s. refl) (λ y s h. h)
            (view_changes p n1 n2 n3 s0 s1 x g visible inputs_next S.adds R S.off (inputs_are S visible)));
      })

-- an edge

pub edge_words : (p : Pair) (n0 n3 : Unrolled) (s : State) (d : Drawn) (g : Guard) → IsEdgeDrawn p.module n0 n3 g d → HasModule p n0.terms s → HaveWords p.module n3.terms s d
edge_words p n0 n3 s d g E M =
    let G1 = E.at_edge_.grows in
    let G2 = E.inputs_.grows in
    let G3 = E.unknown_.grows in
    let G23 = grows_then E.n1.terms E.n2.terms n3.terms G2 G3 in
    let N = module_grow p n0.terms n3.terms s (grows_then n0.terms E.n1.terms n3.terms G1 G23) M in
    record {
      registers_ = N.sources.registers;
      inputs_ = N.sources.inputs;
      unknown_ = N.sources.unknown;
      wires_ = N.wires;
      edges_ = N.edges;
      counter = N.counter;
      at_edge = terms_kept E.n1.terms n3.terms d.at_edge (site_widths p.module.edge_sites) G23 E.at_edge_.terms;
      new_inputs = terms_kept E.n2.terms n3.terms d.inputs (widths_of Input p.module.signals) G3 E.inputs_.terms;
      new_unknown = E.unknown_.terms;
    }

pub edge_grows : (m : FlatModule) (n0 n3 : Unrolled) (d : Drawn) (g : Guard) → IsEdgeDrawn m n0 n3 g d → Grows n0.terms n3.terms
edge_grows m n0 n3 d g E = grows_then n0.terms E.n1.terms n3.terms E.at_edge_.grows (grows_then E.n1.terms E.n2.terms n3.terms E.inputs_.grows E.unknown_.grows)

pub sources_made : (m : FlatModule) (n0 n1 n2 n3 n4 n5 : Unrolled) (s : State) (d : Drawn) (g : Guard) (new registers inputs unknown : List TermId) (edges : SizedTerm) → HaveWords m n0.terms s d → AreNext m n0 n1 s.registers s.inputs s.wires d.at_edge new →
    AreChosen n1 n2 g new s.registers registers → AreChosen n2 n3 g d.inputs s.inputs inputs → AreChosen n3 n4 g d.unknown s.unknown unknown → IsChosen n4 n5 32 edges (λ v. at_zero (bit_at v g) (bits v s.edges) ((bits v s.edges + 1) % 2 ^ 32)) →
    AreEdgeSources m n0 n5 s d g (record { registers = registers; inputs = inputs; unknown = unknown; edges = edges })
sources_made m n0 n1 n2 n3 n4 n5 s d g new registers inputs unknown edges H N R I U E =
    let L45 = E.adds in
    let L35 = adds_then n3 n4 n5 U.adds L45 in
    let L25 = adds_then n2 n3 n5 I.adds L35 in
    let L15 = adds_then n1 n2 n5 R.adds L25 in
    let L02 = adds_then n0 n1 n2 N.adds R.adds in
    let L03 = adds_then n0 n2 n3 L02 I.adds in
    record {
      adds = adds_then n0 n1 n5 N.adds L15;
      registers_ = terms_kept n2.terms n5.terms registers (widths_of Register m.signals) (grows_adds n2 n5 L25) (subst (AreTerms n2.terms registers) N.terms.sized R.terms);
      inputs_ = terms_kept n3.terms n5.terms inputs (widths_of Input m.signals) (grows_adds n3 n5 L35)
          (subst (AreTerms n3.terms inputs) (terms_kept n0.terms n2.terms d.inputs (widths_of Input m.signals) (grows_adds n0 n2 L02) H.new_inputs).sized I.terms);
      unknown_ = terms_kept n4.terms n5.terms unknown (site_widths m.settle_sites) (grows_adds n4 n5 L45)
          (subst (AreTerms n4.terms unknown) (terms_kept n0.terms n3.terms d.unknown (site_widths m.settle_sites) (grows_adds n0 n3 L03) H.new_unknown).sized U.terms);
      edges_ = E.has;
      counter = E.width;
      off = λ v r o.
          let r4 = L45.grown v r in
          let r3 = U.adds.grown v r4 in
          let r2 = I.adds.grown v r3 in
          record {
            registers_ = R.off v r2 o;
            inputs_ = I.off v r3 o;
            unknown_ = U.off v r4 o;
            edges_ = E.value v r ∙ ap (λ b. at_zero b (bits v s.edges) ((bits v s.edges + 1) % 2 ^ 32)) o;
          };
      next = λ v r l.
          let r2 = L25.grown v r in
          R.on v r2 l ∙ N.value v (R.adds.grown v r2);
      on_inputs = λ v r l. I.on v (L35.grown v r) l;
      on_unknown = λ v r l. U.on v (L45.grown v r) l;
      on_edges = λ v r l. E.value v r ∙ ap (λ b. at_zero b (bits v s.edges) ((bits v s.edges + 1) % 2 ^ 32)) l;
    }

-- an edge of a pair, where edges are counted modulo 2^32
edge_of : Pair → Onward
edge_of p s c =
    let m = p.module in
    let n = (s.edges + 1) % 2 ^ 32 in
    draw_all (site_widths m.edge_sites) c (λ at_edge c'.
    draw_all (widths_of Input m.signals) c' (λ inputs c''.
    draw_all (site_widths m.settle_sites) c'' (λ unknown rest.
    let v = settled_view m (next_registers m s.view at_edge) inputs unknown in
    Goes Next (at_view p s n v) (seen (Frame n (changed m s.view v))) rest)))

module _ (p : Pair) (n0 n3 n4 n5 : Unrolled) (s0 s1 : State) (g : Guard) (d : Drawn) (x : Sources) where
  edge_on : List ℕ → List ℕ → List ℕ → Onward
  edge_on at_edge inputs unknown s c =
      let n = (s.edges + 1) % 2 ^ 32 in
      let w = settled_view p.module (next_registers p.module s.view at_edge) inputs unknown in
      Goes Next (at_view p s n w) (seen (Frame n (changed p.module s.view w))) c

  edge_view : Values → JointState → View
  edge_view v s = settled_view p.module (next_registers p.module s.view (words v d.at_edge)) (words v d.inputs) (words v d.unknown)

  edge_next : Values → JointState → JointState
  edge_next v s = at_view p s ((s.edges + 1) % 2 ^ 32) (edge_view v s)

  edge_told : Values → JointState → Told
  edge_told v s = seen (Frame ((s.edges + 1) % 2 ^ 32) (changed p.module s.view (edge_view v s)))

  edge_are : AreEdgeSources p.module n3 n4 s0 d g x → (visible : List ℕ) (v : Values) → Respects v n4.terms → bit_at v g ≡ 1 → (s : JointState) → IsState p visible (look v s0) s → at_view p s (bits v x.edges) (settled_from p v x) ≡ edge_next v s
  unfolding edge_next edge_view
  edge_are S visible v r l s k =
      let m = p.module in
      let view : view_of v s0.registers s0.inputs s0.wires ≡ s.view =
      ap (λ a. record { registers = a; inputs = words v s0.inputs; wires = words v s0.wires }) k.registers
      ∙ ap (λ b. record { registers = s.view.registers; inputs = b; wires = words v s0.wires }) k.inputs
      ∙ ap (λ c. record { registers = s.view.registers; inputs = s.view.inputs; wires = c }) k.wires in
      let registers : words v x.registers ≡ next_registers m s.view (words v d.at_edge) = S.next v r l ∙ ap (λ w. next_registers m w (words v d.at_edge)) view in
      ap (λ n. at_view p s n (settled_from p v x)) (S.on_edges v r l ∙ ap (λ e. (e + 1) % 2 ^ 32) k.edges)
      ∙ ap (λ a. at_view p s ((s.edges + 1) % 2 ^ 32) (settled_view m a (words v x.inputs) (words v x.unknown))) registers
      ∙ ap (λ b. at_view p s ((s.edges + 1) % 2 ^ 32) (settled_view m (next_registers m s.view (words v d.at_edge)) b (words v x.unknown))) (S.on_inputs v r l)
      ∙ ap (λ c. at_view p s ((s.edges + 1) % 2 ^ 32) (settled_view m (next_registers m s.view (words v d.at_edge)) (words v d.inputs) c)) (S.on_unknown v r l)

  pub edge_call : IsEdgeDrawn p.module n0 n3 g d → AreEdgeSources p.module n3 n4 s0 d g x → IsRefreshed p n4 n5 s0 s1 x g → (k : Setting) → k.pair ≡ p → IsCall p n0 n5 s0 s1 g (edge_counted k)
  unfolding edge_next edge_view edge_told edge_on edge_of
  edge_call E S R k e =
      subst (λ (q : Pair). IsCall p n0 n5 s0 s1 g (edge_of q)) (sym e)
      (record {
        grows = grows_then n0.terms n3.terms n5.terms (edge_grows p.module n0 n3 d g E) (grows_adds n3 n5 (adds_then n3 n4 n5 S.adds R.adds));
        objects_ = R.objects_;
        module_ = R.module_;
        result_ = R.result_;
        does = λ visible.
            let fixed = IsSettled p in
            let state = IsState p visible in
            let behind = onto_next p visible in
            let f = flow_at Next g in
            let we = site_widths p.module.edge_sites in
            let wi = widths_of Input p.module.signals in
            let wu = site_widths p.module.settle_sites in
            let C = changed_stretch fixed n3 n5 s0 s1 Next g state state edge_next edge_told behind (λ v s. refl) (λ y s h. h) (view_changes p n3 n4 n5 s0 s1 x g visible edge_next S.adds R S.off (edge_are S visible)) in
            let third = all_drawn fixed E.n2 n3 n5 s0 s1 (draw_all wu) wu d.unknown (λ v. edge_on (words v d.at_edge) (words v d.inputs)) g f state behind goes E.unknown_ C in
            let second = all_drawn fixed E.n1 E.n2 n5 s0 s1 (draw_all wi) wi d.inputs (λ v ins s c. draw_all wu c (λ uns rest. edge_on (words v d.at_edge) ins uns s rest)) g f state behind goes E.inputs_ third in
            all_drawn fixed n0 E.n1 n5 s0 s1 (draw_all we) we d.at_edge (λ v ats s c. draw_all wi c (λ ins c'. draw_all wu c' (λ uns rest. edge_on ats ins uns s rest))) g f state behind goes E.at_edge_ second;
      })

-- the bound on edges

pub bounded_by : (n0 n1 n2 : Unrolled) (b : Bounds) (p : PropId) (edges test : SizedTerm) (g : Guard) → b.frames < 2 ^ 32 → IsChosen n0 n1 1 test (λ v. bit (nat_lt (bits v edges) b.frames)) → IsPushed n1 n2 g (if b.check_bound then Prop p.0 test.term else Cut test.term) → IsBounded n0 n2 b p edges g
bounded_by n0 n1 n2 b p edges test g few T P = record { n1 = n1; test = test; few = few; within = T; pushed = P }

pub bounded_grows : (n0 n2 : Unrolled) (b : Bounds) (p : PropId) (edges : SizedTerm) (g : Guard) → IsBounded n0 n2 b p edges g → Grows n0.terms n2.terms
bounded_grows n0 n2 b p edges g B = grows_then n0.terms B.n1.terms n2.terms (grows_adds n0 B.n1 B.within.adds) B.pushed.grows

-- an edge is counted as a word counts it
counted_is : (k : Setting) (s : JointState) (c : List ℕ) → s.edges + 1 < 2 ^ 32 → edge_counted k s c ≡ clock_edge k s c
counted_is k s c lt = ap (λ n. edge_to k n s c) (mod-eq_of_lt lt)

lt_is : (a b : ℕ) → nat_lt a b ≡ true → a < b
lt_is a b e = ltb-true a b e

module _ (k : Setting) (prop : PropId) (few : k.bounds.frames < 2 ^ 32) (s : JointState) (c : List ℕ) where
  out_of : Effect
  out_of = if k.bounds.check_bound then broken prop c else Stops OutOfFrames nothing c

  frame_is : (n : ℕ) (d : Bool) → nat_lt s.edges k.bounds.frames ≡ d → n ≡ bit d → (if isnt_zero n then edge_counted k s c else out_of) ≡ next_frame k prop s c
  unfolding out_of
  frame_is n true e is =
      let lt = lt_is s.edges k.bounds.frames e in
      ap (λ m. if isnt_zero m then edge_counted k s c else out_of) is ∙ counted_is k s c (omega arith) ∙ sym (ap (λ d. if d then clock_edge k s c else out_of) e)
  frame_is n false e is = ap (λ m. if isnt_zero m then edge_counted k s c else out_of) is ∙ sym (ap (λ d. if d then clock_edge k s c else out_of) e)

module _ (p : Pair) (n0 n2 n3 : Unrolled) (s0 s1 : State) (g : Guard) (b : Bounds) (prop : PropId) (B : IsBounded n0 n2 b prop s0.edges g) where
  -- the step, and what stands behind it
  bound_then : (K : Onward) (visible : List ℕ) (behind : Way → Image → JointState → Type 0) → Unwinds (IsSettled p) n2 n3 s0 s1 (λ v. K) g (flow_at Next g) (IsState p visible) behind goes →
      Unwinds (IsSettled p) B.n1 n3 s0 s1 (λ v s c. if isnt_zero (bits v B.test) then K s c else (if b.check_bound then broken prop c else Stops OutOfFrames nothing c)) g (flow_at Next g) (IsState p visible) behind goes
  bound_then K visible behind U = by b.check_bound B.pushed
    where
      by : (t : Bool) → IsPushed B.n1 n2 g (if t then Prop prop.0 B.test.term else Cut B.test.term) →
          Unwinds (IsSettled p) B.n1 n3 s0 s1 (λ v s c. if isnt_zero (bits v B.test) then K s c else (if t then broken prop c else Stops OutOfFrames nothing c)) g (flow_at Next g) (IsState p visible) behind goes
      by true P =
          seq (IsSettled p) B.n1 n2 n3 s0 s0 s1 (λ v s c. if isnt_zero (bits v B.test) then K s c else broken prop c) g (flow_at Next g) (IsState p visible) (IsState p visible) (λ way. IsState p visible) behind (λ way. K) goes (λ y s h. h)
          (asserted (IsSettled p) B.n1 n2 s0 prop g B.test.term (IsState p visible) (λ way. IsState p visible) (λ way. K) (λ y s h. h) P) U
      by false P =
          seq (IsSettled p) B.n1 n2 n3 s0 s0 s1 (λ v s c. if isnt_zero (bits v B.test) then K s c else Stops OutOfFrames nothing c) g (flow_at Next g) (IsState p visible) (IsState p visible) (λ way. IsState p visible) behind (λ way. K) goes (λ y s h. h)
          (assumed (IsSettled p) B.n1 n2 s0 OutOfFrames refl g B.test.term (IsState p visible) (λ way. IsState p visible) (λ way. K) (λ y s h. h) P) U

  frame_made : (k : Setting) → k.bounds ≡ b → IsCall p n2 n3 s0 s1 g (edge_counted k) → IsCall p n0 n3 s0 s1 g (next_frame k prop)
  unfolding out_of
  frame_made k e C = record {
    grows = grows_then n0.terms n2.terms n3.terms (bounded_grows n0 n2 b prop s0.edges g B) C.grows;
    objects_ = C.objects_;
    module_ = C.module_;
    result_ = C.result_;
    does = λ visible.
        added_before (IsSettled p) n0 B.n1 n3 s0 s1 (λ v. next_frame k prop) g (flow_at Next g) (IsState p visible) (onto_next p visible) goes B.within.adds
        (unwinds_as (IsSettled p) B.n1 n3 s0 s1 (λ v s c. if isnt_zero (bits v B.test) then edge_counted k s c else (if b.check_bound then broken prop c else Stops OutOfFrames nothing c)) (λ v. next_frame k prop) g (flow_at Next g)
        (IsState p visible) (IsState p visible) (onto_next p visible) (onto_next p visible) goes goes (λ y s h. h)
        (λ v r s q c.
        let r1 = B.pushed.grows.grown v (C.grows.grown v r) in
        let is : bits v B.test ≡ bit (nat_lt s.edges k.bounds.frames) = B.within.value v r1 ∙ ap (λ n. bit (nat_lt n b.frames)) q.edges ∙ ap (λ (y : Bounds). bit (nat_lt s.edges y.frames)) (sym e) in
        ap (λ (y : Bounds). if isnt_zero (bits v B.test) then edge_counted k s c else (if y.check_bound then broken prop c else Stops OutOfFrames nothing c)) (sym e)
        ∙ frame_is k prop (subst (λ (y : Bounds). y.frames < 2 ^ 32) (sym e) B.few) s c (bits v B.test) (nat_lt s.edges k.bounds.frames) refl is)
        (λ way y s h. h) (λ way s c. refl) (bound_then (edge_counted k) visible (onto_next p visible) (C.does visible)));
  }

  pub frame_call : ((k : Setting) → k.pair ≡ p → IsCall p n2 n3 s0 s1 g (edge_counted k)) → (k : Setting) → k.pair ≡ p → k.bounds ≡ b → IsCall p n0 n3 s0 s1 g (next_frame k prop)
  frame_call C k ep eb = frame_made k eb (C k ep)
