-- What the calls that reach the module promise.
use Rattle.std.specs.Prelude.{◌≡◌, ℕ, ◌+◌, ◌%◌, ◌^◌, ◌<◌, List, nat_lt, if◌then◌else◌}
use Rattle.bits_core.specs.Word.{bit}
use Rattle.word_eqs.specs.declared.list.Act.TheVariants.{Cut, Prop}
use Rattle.word_eqs.specs.declared.term.TermId.{TermId}
use Rattle.word_eqs.specs.Meaning.{Values, Respects}
use Rattle.joint_ir.specs.declared.bounds.Bounds.{Bounds}
use Rattle.joint_ir.specs.declared.program.PropId.{PropId}
use Rattle.joint_ir.specs.declared.module.FlatModule.{FlatModule}
use Rattle.joint_ir.specs.WellFormed.{AreTerms}
use Rattle.sized_terms.specs.declared.SizedTerm.{SizedTerm}
use Rattle.sized_terms.specs.Sized.{Has, bits}
use Rattle.joint_ir.specs.declared.event.Event.TheVariants.{Frame}
use Rattle.joint_ir.specs.declared.module.Role.TheVariants as role
use Rattle.joint_ir.specs.declared.pair.Pair.{Pair}
use Rattle.joint_ir.specs.declared.way.Way.{Way}
use Rattle.joint_ir.specs.declared.way.Way.TheVariants.{Next, Breaking, Continuing, Returning}
use Rattle.joint_ir.specs.Effects.{Onward, seen, Goes, draw_all}
use Rattle.joint_ir.specs.States.{JointState}
use Rattle.joint_ir.specs.Steps.{Setting, settled_view, at_view}
use Rattle.joint_ir.specs.Views.{widths_of, site_widths, next_registers, changed, driven}
use Rattle.word_eqs.specs.Graph.{Graph}
use Rattle.unrolled.specs.declared.Unrolled.{Unrolled}
use Rattle.trails.specs.Following.{goes}
use Rattle.unwind_state.specs.declared.state.Guard.{Guard}
use Rattle.unwind_state.specs.declared.state.State.{State}
use Rattle.unwind_state.specs.Guards.{Adds, bit_at, flow_at}
use Rattle.unwind_state.specs.Images.{Image, words, look, IsState, IsSettled}
use Rattle.unwind_state.specs.Unwinding.{Grows, IsPushed, Unwinds}
use Rattle.unwind_state.specs.Writing.{HasObjects, IsChosen}
use Rattle.unwind_module.specs.Drawing.{AreDrawn}
use Rattle.unwind_module.specs.Words.{HasModule}
use Rattle.unwind_frames.specs.declared.calls.Drawn.{Drawn}
use Rattle.unwind_frames.specs.declared.views.Sources.{Sources}
use Rattle.unwind_frames.specs.Frames.{HasSources, AreSame, view_of}

-- a clock edge with the inputs as they stand, given the number of edges behind it; then each input takes a new value, and the wires settle
abbrev pub edge_to : Setting → (edges : ℕ) → Onward
edge_to k n s c =
    let m = k.pair.module in
    draw_all (site_widths m.edge_sites) c (λ at_edge c'.
    draw_all (widths_of role.Input m.signals) c' (λ inputs c''.
    draw_all (site_widths m.settle_sites) c'' (λ unknown rest.
    let v = settled_view m (next_registers m s.view at_edge) inputs unknown in
    Goes Next (at_view k.pair s n v) (seen (Frame n (changed m s.view v))) rest)))

-- a clock edge where edges are counted modulo 2^32, as a word of 32 bits counts them
abbrev pub edge_counted : Setting → Onward
edge_counted k s c = edge_to k ((s.edges + 1) % 2 ^ 32) s c

-- the words that an edge draws, one list after the other
pub record IsEdgeDrawn (m : FlatModule) (n0 n3 : Unrolled) (g : Guard) (d : Drawn) : Type 0 where
  pub n1 : Unrolled
  pub n2 : Unrolled
  pub at_edge_ : AreDrawn n0 n1 g (draw_all (site_widths m.edge_sites)) (site_widths m.edge_sites) d.at_edge
  pub inputs_ : AreDrawn n1 n2 g (draw_all (widths_of role.Input m.signals)) (widths_of role.Input m.signals) d.inputs
  pub unknown_ : AreDrawn n2 n3 g (draw_all (site_widths m.settle_sites)) (site_widths m.settle_sites) d.unknown

-- what the view behind `set_inputs()` is made of, where the guard is 1; where it is 0 the words stay
pub record AreInputSources (p : Pair) (n0 n1 : Unrolled) (s : State) (drawn : List TermId) (g : Guard) (x : Sources) : Type 0 where
  pub adds : Adds n0 n1
  pub sources : HasSources p n1.terms x
  pub off : (v : Values) → Respects v n1.terms → bit_at v g ≡ 0 → AreSame v s x
  pub registers_ : (v : Values) → Respects v n1.terms → words v x.registers ≡ words v s.registers
  pub edges_ : (v : Values) → Respects v n1.terms → bits v x.edges ≡ bits v s.edges
  pub on_inputs : (v : Values) → Respects v n1.terms → bit_at v g ≡ 1 → (visible : List ℕ) (q : JointState) → IsState p visible (look v s) q → words v x.inputs ≡ driven p q.store.members (words v s.inputs)
  pub on_unknown : (v : Values) → Respects v n1.terms → bit_at v g ≡ 1 → words v x.unknown ≡ words v drawn

-- the words of a module before an edge, and those that it draws, have terms of their widths
pub record HaveWords (m : FlatModule) (g : Graph) (s : State) (d : Drawn) : Type 0 where
  pub registers_ : AreTerms g s.registers (widths_of role.Register m.signals)
  pub inputs_ : AreTerms g s.inputs (widths_of role.Input m.signals)
  pub unknown_ : AreTerms g s.unknown (site_widths m.settle_sites)
  pub wires_ : AreTerms g s.wires (widths_of role.Wire m.signals)
  pub edges_ : Has g s.edges
  pub counter : s.edges.width ≡ 32
  pub at_edge : AreTerms g d.at_edge (site_widths m.edge_sites)
  pub new_inputs : AreTerms g d.inputs (widths_of role.Input m.signals)
  pub new_unknown : AreTerms g d.unknown (site_widths m.settle_sites)

-- what the view behind an edge is made of, where the guard is 1; where it is 0 the words stay
pub record AreEdgeSources (m : FlatModule) (n0 n1 : Unrolled) (s : State) (d : Drawn) (g : Guard) (x : Sources) : Type 0 where
  pub adds : Adds n0 n1
  pub registers_ : AreTerms n1.terms x.registers (widths_of role.Register m.signals)
  pub inputs_ : AreTerms n1.terms x.inputs (widths_of role.Input m.signals)
  pub unknown_ : AreTerms n1.terms x.unknown (site_widths m.settle_sites)
  pub edges_ : Has n1.terms x.edges
  pub counter : x.edges.width ≡ 32
  pub off : (v : Values) → Respects v n1.terms → bit_at v g ≡ 0 → AreSame v s x
  pub next : (v : Values) → Respects v n1.terms → bit_at v g ≡ 1 → words v x.registers ≡ next_registers m (view_of v s.registers s.inputs s.wires) (words v d.at_edge)
  pub on_inputs : (v : Values) → Respects v n1.terms → bit_at v g ≡ 1 → words v x.inputs ≡ words v d.inputs
  pub on_unknown : (v : Values) → Respects v n1.terms → bit_at v g ≡ 1 → words v x.unknown ≡ words v d.unknown
  pub on_edges : (v : Values) → Respects v n1.terms → bit_at v g ≡ 1 → bits v x.edges ≡ (bits v s.edges + 1) % 2 ^ 32

-- a step that ends a run, or breaks a property, where the guard is 1 and as many edges were taken as the bound says
pub record IsBounded (n0 n2 : Unrolled) (b : Bounds) (p : PropId) (edges : SizedTerm) (g : Guard) : Type 0 where
  pub n1 : Unrolled
  pub test : SizedTerm
  pub few : b.frames < 2 ^ 32
  pub within : IsChosen n0 n1 1 test (λ v. bit (nat_lt (bits v edges) b.frames))
  pub pushed : IsPushed n1 n2 g (if b.check_bound then Prop p.0 test.term else Cut test.term)

-- behind a call the words stand for the run's state, and it goes on to the next statement alone
abbrev pub onto_next : Pair → (visible : List ℕ) → Way → Image → JointState → Type 0
onto_next p visible Next x s = IsState p visible x s
onto_next p visible Breaking x s = ⊥
onto_next p visible Continuing x s = ⊥
onto_next p visible Returning x s = ⊥

-- A call that reaches the module was unwound: what it does, whatever locals are declared; all objects and all words of the module
-- have terms of their widths again, and the result's term is as before.
pub record IsCall (p : Pair) (n0 n1 : Unrolled) (s0 s1 : State) (g : Guard) (run : Onward) : Type 0 where
  pub grows : Grows n0.terms n1.terms
  pub objects_ : HasObjects p.program n1.terms s1.objects
  pub module_ : HasModule p n1.terms s1
  pub result_ : s1.result ≡ s0.result
  pub does : (visible : List ℕ) → Unwinds (IsSettled p) n0 n1 s0 s1 (λ v. run) g (flow_at Next g) (IsState p visible) (onto_next p visible) goes
