-- What settles, and the view of a moment with the mirror filled from it.
use Rattle.std.specs.Prelude.{◌≡◌, ℕ, List, map}
use Rattle.word_eqs.specs.declared.term.TermId.{TermId}
use Rattle.word_eqs.specs.Graph.{Graph}
use Rattle.word_eqs.specs.Meaning.{Values, Respects}
use Rattle.joint_ir.specs.declared.module.FlatModule.{FlatModule}
use Rattle.joint_ir.specs.declared.module.Role.TheVariants.{Input, Register, Wire}
use Rattle.joint_ir.specs.declared.pair.Pair.{Pair}
use Rattle.joint_ir.specs.States.{View, JointState}
use Rattle.joint_ir.specs.Steps.{settled_view, at_view}
use Rattle.joint_ir.specs.Views.{widths_of, site_widths, settled_wires, next_registers, filled, members_of}
use Rattle.joint_ir.specs.WellFormed.{AreTerms}
use Rattle.sized_terms.specs.Sized.{Has, bits}
use Rattle.unrolled.specs.declared.Unrolled.{Unrolled}
use Rattle.unwind_state.specs.declared.state.Guard.{Guard}
use Rattle.unwind_state.specs.declared.state.State.{State}
use Rattle.unwind_state.specs.Guards.{Adds, bit_at}
use Rattle.unwind_state.specs.Images.{words, look, IsState, IsSettled}
use Rattle.unwind_state.specs.Writing.{HasObjects}
use Rattle.unwind_module.specs.Words.{HasModule}
use Rattle.unwind_words.specs.Rows.{AreRows, member_widths, member_numbers}
use Rattle.unwind_frames.specs.declared.views.Sources.{Sources}
use Rattle.unwind_frames.specs.declared.views.Shown.{Shown}

-- the wires that settle
pub record AreSettled (m : FlatModule) (n0 n1 : Unrolled) (registers inputs unknown ids : List TermId) : Type 0 where
  pub adds : Adds n0 n1
  pub terms : AreTerms n1.terms ids (widths_of Wire m.signals)
  pub value : (v : Values) → Respects v n1.terms → words v ids ≡ settled_wires m (words v registers) (words v inputs) (words v unknown)

-- the view that terms stand for
abbrev pub view_of : Values → (registers inputs wires : List TermId) → View
view_of v registers inputs wires = record { registers = words v registers; inputs = words v inputs; wires = words v wires }

-- the registers after a clock edge
pub record AreNext (m : FlatModule) (n0 n1 : Unrolled) (registers inputs wires unknown ids : List TermId) : Type 0 where
  pub adds : Adds n0 n1
  pub terms : AreTerms n1.terms ids (widths_of Register m.signals)
  pub value : (v : Values) → Respects v n1.terms → words v ids ≡ next_registers m (view_of v registers inputs wires) (words v unknown)

-- the terms that a view is made of have their widths
pub record HasSources (p : Pair) (g : Graph) (s : Sources) : Type 0 where
  pub registers_ : AreTerms g s.registers (widths_of Register p.module.signals)
  pub inputs_ : AreTerms g s.inputs (widths_of Input p.module.signals)
  pub unknown_ : AreTerms g s.unknown (site_widths p.module.settle_sites)
  pub edges_ : Has g s.edges
  pub counter : s.edges.width ≡ 32

-- the view of settled wires that they stand for
abbrev pub settled_from : Pair → Values → Sources → View
settled_from p v s = settled_view p.module (words v s.registers) (words v s.inputs) (words v s.unknown)

-- the wires of a view are settled, and the mirror's rows are filled from it
pub record IsShown (p : Pair) (n0 n1 : Unrolled) (s : Sources) (shown : Shown) : Type 0 where
  pub adds : Adds n0 n1
  pub wires_ : AreTerms n1.terms shown.wires (widths_of Wire p.module.signals)
  pub members_ : AreRows n1.terms shown.members.items (member_widths (members_of p.program.mirror))
  pub settled : (v : Values) → Respects v n1.terms → words v shown.wires ≡ (settled_from p v s).wires
  pub stand : (v : Values) → Respects v n1.terms → member_numbers (members_of p.program.mirror) (map (words v) shown.members.items) ≡ filled p (settled_from p v s)

-- the terms of a view have the words that a state has
pub record AreSame (v : Values) (s : State) (x : Sources) : Type 0 where
  pub registers_ : words v x.registers ≡ words v s.registers
  pub inputs_ : words v x.inputs ≡ words v s.inputs
  pub unknown_ : words v x.unknown ≡ words v s.unknown
  pub edges_ : bits v x.edges ≡ bits v s.edges

-- A state is at another view where the guard is 1, and all objects and all words of the module have terms of their widths again.
pub record IsRefreshed (p : Pair) (n0 n1 : Unrolled) (s0 s1 : State) (x : Sources) (g : Guard) : Type 0 where
  pub adds : Adds n0 n1
  pub objects_ : HasObjects p.program n1.terms s1.objects
  pub module_ : HasModule p n1.terms s1
  pub result_ : s1.result ≡ s0.result
  pub settled : (v : Values) → Respects v n1.terms → IsSettled p (look v s1)
  pub off : (v : Values) → Respects v n1.terms → bit_at v g ≡ 0 → AreSame v s0 x → IsSettled p (look v s0) → look v s1 ≡ look v s0
  pub on : (v : Values) → Respects v n1.terms → bit_at v g ≡ 1 → (visible : List ℕ) (s : JointState) → IsState p visible (look v s0) s →
      IsState p visible (look v s1) (at_view p s (bits v x.edges) (settled_from p v x))
