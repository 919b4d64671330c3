-- A joint run, as a function of the choices that it draws.
use Rattle.std.specs.Prelude.{◌≡◌, ℕ, ◌-◌, List, [], ◌∷◌, slice_get, Option, Some, None, pos}
use Rattle.joint_ir.specs.declared.bounds.Bounds.{Bounds}
use Rattle.joint_ir.specs.declared.event.Event.TheVariants.{Frame}
use Rattle.joint_ir.specs.declared.event.Outcome.TheVariants.{Ended, Broken}
use Rattle.joint_ir.specs.declared.module.Role.TheVariants.{Input, Register}
use Rattle.joint_ir.specs.declared.pair.Pair.{Pair}
use Rattle.joint_ir.specs.declared.program.Function.{Function}
use Rattle.joint_ir.specs.declared.program.PropId.{PropId}
use Rattle.joint_ir.specs.declared.stmt.TStmt.{TStmt}
use Rattle.joint_ir.specs.States.{first_rows}
use Rattle.joint_ir.specs.Views.{widths_of, site_widths, filled, shown}
use Rattle.joint_ir.specs.Effects.{Effect, Told, nothing, seen, Goes, Stops, TooFew, Onward, then_do, draw, draw_all}
use Rattle.joint_ir.specs.declared.way.Way.TheVariants.{Next}
use Rattle.joint_ir.specs.Steps.{Setting, settled_view}
use Rattle.joint_ir.specs.Statements.{ACTIVATIONS, after, calls_at}

-- the register words at the start: a first value where there is one, else one choice
abbrev pub draw_registers : (firsts : List (Option ℕ)) → (widths : List ℕ) → List ℕ → (List ℕ → List ℕ → Effect) → Effect
draw_registers [] widths c go = go [] c
draw_registers (first ∷ firsts) [] c go = go [] c
draw_registers (Some n ∷ firsts) (bits ∷ widths) c go = draw_registers firsts widths c (λ ns. go (n ∷ ns))
draw_registers (None ∷ firsts) (bits ∷ widths) c go = draw bits c (λ n rest. draw_registers firsts widths rest (λ ns. go (n ∷ ns)))

-- the first state, with the choices that are left
abbrev pub with_first_state : Pair → List ℕ → Onward → Effect
with_first_state p c go =
    let m = p.module in
    draw_registers m.firsts (widths_of Register m.signals) c (λ registers c'.
    draw_all (widths_of Input m.signals) c' (λ inputs c''.
    draw_all (site_widths m.settle_sites) c'' (λ unknown rest.
    let v = settled_view m registers inputs unknown in
    go (record {
      store = record { globals = first_rows p.program.globals; locals = first_rows p.program.locals; members = filled p v };
      view = v;
      edges = 0;
      returned = pos 0;
    }) rest)))

-- the body of a function, where it has one
abbrev pub body_of : Option Function → Option TStmt
body_of None = None
body_of (Some fn) = fn.body

-- what `main` does
abbrev pub main_effect : Pair → Bounds → Option TStmt → Onward
main_effect p b None s c = Goes Next s nothing c
main_effect p b (Some body) s c =
    let k : Setting = record { pair = p; bounds = b; here = p.program.main } in
    after k (calls_at p b (ACTIVATIONS - 1) (p.program.main ∷ [])) body.place body.node s c

-- a run ends where `main` has
abbrev pub ended : Effect → Effect
ended (Goes way s told c) = Stops Ended told c
ended (Stops o told c) = Stops o told c
ended TooFew = TooFew

-- the run of a pair on a list of choices: how it ends, what is seen of it, the widths that it draws, and the choices that
-- it leaves; or that it draws more than there are
abbrev pub run_of : Pair → Bounds → List ℕ → Effect
run_of p b choices =
    with_first_state p choices (λ s c.
    ended (then_do (Goes Next s (seen (Frame 0 (shown p.module s.view))) c)
    (main_effect p b (body_of (slice_get p.program.functions p.program.main)))))

-- some run breaks a property
pub record CanBreak (pair : Pair) (bounds : Bounds) (p : PropId) : Type 0 where
  pub choices : List ℕ
  pub told : Told
  pub rest : List ℕ
  pub breaks : run_of pair bounds choices ≡ Stops (Broken p) told rest
