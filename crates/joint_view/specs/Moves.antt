-- What the calls that reach the module leave of a state.
use Rattle.std.specs.Prelude.{◌≡◌, ℕ, List, [], ◌∷◌, map, drop, ℤ, pos}
use Rattle.std.specs.Global.{Vec}
use Rattle.joint_ir.specs.declared.pair.Pair.{Pair}
use Rattle.joint_ir.specs.States.{View, JointState, first_rows}
use Rattle.joint_ir.specs.Effects.{Effect, Goes}
use Rattle.joint_ir.specs.declared.way.Way.TheVariants.{Next}
use Rattle.joint_ir.specs.Steps.{Setting}
use Rattle.joint_view.specs.Halts.{only_seen, unmeasured}
use Rattle.joint_view.specs.declared.steps.Begun.{Begun}
use Rattle.joint_view.specs.declared.steps.Moved.{Moved}

-- the elements that rows hold
abbrev pub row_items : List (Vec ℤ) → List (List ℤ)
row_items rows = map (λ (row : Vec ℤ). row.items) rows

-- a state with another view, other elements of the mirror's members and another number of edges
abbrev pub moved_to : JointState → (edges : ℕ) → View → (members : List (List ℤ)) → JointState
moved_to s edges v members = record {
  store = record { globals = s.store.globals; locals = s.store.locals; members = members };
  view = v;
  edges = edges;
  returned = s.returned;
}

-- a state of a run of this pair, with this view
pub record IsAt (p : Pair) (v : View) (k : Setting) (s : JointState) : Type 0 where
  pub pair : k.pair ≡ p
  pub view : s.view ≡ v

-- a call goes on so from a state
abbrev pub Moves : Effect → JointState → (edges : ℕ) → (choices : List ℕ) → Moved → Type 0
Moves effect s edges choices m =
    unmeasured effect ≡ Goes Next (moved_to s edges m.view (row_items m.members.items)) (only_seen (m.event ∷ [])) (drop m.at choices)

-- the first state of a pair
abbrev pub first_state : Pair → Begun → JointState
first_state p b = record {
  store = record { globals = first_rows p.program.globals; locals = first_rows p.program.locals; members = row_items b.members.items };
  view = b.view;
  edges = 0;
  returned = pos 0;
}
