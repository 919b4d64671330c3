-- The calls that reach the module, from what their parts give.
use Rattle.std.proofs.Common.{◌≡◌, ℕ, ◌+◌, List, [], ◌∷◌, sym, ap, ◌∙◌, subst}
use Rattle.std.specs.Prelude.{ℤ, pos}
use Rattle.joint_ir.specs.declared.event.Event.TheVariants.{Frame, Driven}
use Rattle.joint_ir.specs.declared.event.Shown.{Shown}
use Rattle.joint_ir.specs.declared.module.Role.TheVariants.{Input, Register}
use Rattle.joint_ir.specs.declared.pair.Pair.{Pair}
use Rattle.joint_ir.specs.States.{View, JointState, first_rows}
use Rattle.joint_ir.specs.Views.{widths_of, site_widths, next_registers, filled, driven, changed}
use Rattle.joint_ir.specs.Effects.{Effect, Goes, Onward, draw_all}
use Rattle.joint_ir.specs.declared.way.Way.TheVariants.{Next}
use Rattle.joint_ir.specs.Steps.{Setting, settled_view, set_inputs, clock_edge, at_view}
use Rattle.joint_ir.specs.Runs.{draw_registers, with_first_state}
use Rattle.joint_view.specs.declared.halt.Halt.{Halt}
use Rattle.joint_view.specs.declared.halt.Halt.TheVariants as halt
use Rattle.joint_view.specs.Halts.{HaltsAs, Draws, HaltsDraws, only_seen, unmeasured}
use Rattle.joint_view.specs.Moves.{moved_to, IsAt}

-- a stretch that begins with draws that halt
pub halts_drawing : (h : Halt) (drawing : (List ℕ → List ℕ → Effect) → Effect) (effect : Effect) (left : List ℕ) (go : List ℕ → List ℕ → Effect) → unmeasured effect ≡ unmeasured (drawing go) → HaltsDraws h drawing → HaltsAs h left effect
halts_drawing (halt.Stop o) drawing effect left go e h = absurd h
halts_drawing halt.TooFew drawing effect left go e h = e ∙ h go
halts_drawing halt.Memory drawing effect left go e h = tt

module _ (rows : List (List ℤ)) (new : View) (seen : List Shown) where
  -- `set_inputs()`
  abbrev InputsMoved : (k : Setting) (s : JointState) (unknown c left : List ℕ) → Pair → View → List (List ℤ) → Type 0
  InputsMoved k s unknown c left p v members =
      Draws (draw_all (site_widths p.module.settle_sites) c) unknown left →
      new ≡ settled_view p.module v.registers (driven p members v.inputs) unknown →
      rows ≡ filled p new → seen ≡ changed p.module v new →
      unmeasured (set_inputs k s c) ≡ Goes Next (moved_to s s.edges new rows) (only_seen (Driven seen ∷ [])) left

  own_inputs_moved : (k : Setting) (s : JointState) (unknown c left : List ℕ) → InputsMoved k s unknown c left k.pair s.view s.store.members
  own_inputs_moved k s unknown c left drawn is filled_is seen_is =
      let m = k.pair.module in
      let driven_inputs = driven k.pair s.store.members s.view.inputs in
      let after : View → List (List ℤ) → List Shown → Effect = λ v r x. Goes Next (moved_to s s.edges v r) (only_seen (Driven x ∷ [])) left in
      drawn (λ u rest. let v = settled_view m s.view.registers driven_inputs u in Goes Next (at_view k.pair s s.edges v) (only_seen (Driven (changed m s.view v) ∷ [])) rest)
      ∙ ap (λ v. after v (filled k.pair v) (changed m s.view v)) (sym is)
      ∙ ap (λ r. after new r (changed m s.view new)) (sym filled_is)
      ∙ ap (λ x. after new rows x) (sym seen_is)

  pub inputs_moved : (p : Pair) (v : View) (members : List (List ℤ)) (unknown c left : List ℕ) (k : Setting) (s : JointState) → IsAt p v k s → s.store.members ≡ members → InputsMoved k s unknown c left p v members
  inputs_moved p v members unknown c left k s at same =
      subst (λ m. InputsMoved k s unknown c left p v m) same
      (subst (λ v. InputsMoved k s unknown c left p v s.store.members) at.view
      (subst (λ p. InputsMoved k s unknown c left p s.view s.store.members) at.pair
      (own_inputs_moved k s unknown c left)))

  -- a clock edge
  abbrev EdgeTaken : (k : Setting) (s : JointState) (at_edge inputs unknown c c' c'' left : List ℕ) → Pair → View → (edges : ℕ) → Type 0
  EdgeTaken k s at_edge inputs unknown c c' c'' left p v edges =
      Draws (draw_all (site_widths p.module.edge_sites) c) at_edge c' →
      Draws (draw_all (widths_of Input p.module.signals) c') inputs c'' →
      Draws (draw_all (site_widths p.module.settle_sites) c'') unknown left →
      new ≡ settled_view p.module (next_registers p.module v at_edge) inputs unknown →
      rows ≡ filled p new → seen ≡ changed p.module v new →
      unmeasured (clock_edge k s c) ≡ Goes Next (moved_to s (s.edges + 1) new rows) (only_seen (Frame (edges + 1) seen ∷ [])) left

  own_edge_taken : (k : Setting) (s : JointState) (at_edge inputs unknown c c' c'' left : List ℕ) → EdgeTaken k s at_edge inputs unknown c c' c'' left k.pair s.view s.edges
  own_edge_taken k s at_edge inputs unknown c c' c'' left first second third is filled_is seen_is =
      let m = k.pair.module in
      let after : View → List (List ℤ) → List Shown → Effect = λ v r x. Goes Next (moved_to s (s.edges + 1) v r) (only_seen (Frame (s.edges + 1) x ∷ [])) left in
      let last : List ℕ → List ℕ → List ℕ → List ℕ → Effect = λ a i u rest.
      let v = settled_view m (next_registers m s.view a) i u in
      Goes Next (at_view k.pair s (s.edges + 1) v) (only_seen (Frame (s.edges + 1) (changed m s.view v) ∷ [])) rest in
      first (λ a d. draw_all (widths_of Input m.signals) d (λ i d'. draw_all (site_widths m.settle_sites) d' (λ u rest. last a i u rest)))
      ∙ second (λ i d'. draw_all (site_widths m.settle_sites) d' (λ u rest. last at_edge i u rest))
      ∙ third (λ u rest. last at_edge inputs u rest)
      ∙ ap (λ v. after v (filled k.pair v) (changed m s.view v)) (sym is)
      ∙ ap (λ r. after new r (changed m s.view new)) (sym filled_is)
      ∙ ap (λ x. after new rows x) (sym seen_is)

  pub edge_taken : (p : Pair) (v : View) (edges : ℕ) (at_edge inputs unknown c c' c'' left : List ℕ) (k : Setting) (s : JointState) → IsAt p v k s → s.edges ≡ edges → EdgeTaken k s at_edge inputs unknown c c' c'' left p v edges
  edge_taken p v edges at_edge inputs unknown c c' c'' left k s at same =
      subst (λ e. EdgeTaken k s at_edge inputs unknown c c' c'' left p v e) same
      (subst (λ v. EdgeTaken k s at_edge inputs unknown c c' c'' left p v s.edges) at.view
      (subst (λ p. EdgeTaken k s at_edge inputs unknown c c' c'' left p s.view s.edges) at.pair
      (own_edge_taken k s at_edge inputs unknown c c' c'' left)))

module _ (rows : List (List ℤ)) (new : View) where
  -- the first state
  pub state_begun : (p : Pair) (registers inputs unknown c c' c'' left : List ℕ) →
      Draws (draw_registers p.module.firsts (widths_of Register p.module.signals) c) registers c' →
      Draws (draw_all (widths_of Input p.module.signals) c') inputs c'' →
      Draws (draw_all (site_widths p.module.settle_sites) c'') unknown left →
      new ≡ settled_view p.module registers inputs unknown → rows ≡ filled p new →
      (go : Onward) → unmeasured (with_first_state p c go) ≡ unmeasured (go (record {
        store = record { globals = first_rows p.program.globals; locals = first_rows p.program.locals; members = rows };
        view = new;
        edges = 0;
        returned = pos 0;
      }) left)
  state_begun p registers inputs unknown c c' c'' left first second third is filled_is go =
      let m = p.module in
      let state : View → List (List ℤ) → JointState = λ v r. record {
        store = record { globals = first_rows p.program.globals; locals = first_rows p.program.locals; members = r };
        view = v;
        edges = 0;
        returned = pos 0;
      } in
      let last : List ℕ → List ℕ → List ℕ → List ℕ → Effect = λ r i u rest. let v = settled_view m r i u in go (state v (filled p v)) rest in
      first (λ r d. draw_all (widths_of Input m.signals) d (λ i d'. draw_all (site_widths m.settle_sites) d' (λ u rest. last r i u rest)))
      ∙ second (λ i d'. draw_all (site_widths m.settle_sites) d' (λ u rest. last registers i u rest))
      ∙ third (λ u rest. last registers inputs u rest)
      ∙ ap (λ v. unmeasured (go (state v (filled p v)) left)) (sym is)
      ∙ ap (λ r. unmeasured (go (state new r) left)) (sym filled_is)
