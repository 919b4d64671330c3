-- How the runs of a pair end.
use Rattle.std.proofs.Common.{◌≡◌, ℕ, ◌+◌, ◌*◌, ◌/◌, ◌%◌, ◌<◌, ◌≤◌, List, [], ◌∷◌, ◌++◌, zero, suc, Bool, true, false, eqb, cond, ap, sym, ◌∙◌, arith, refl, inl, inr}
use Rattle.std.proofs.lemmas.Bool.{ne_eqb}
use Rattle.std.proofs.lemmas.Bool.Decides.{eqb_tells}
use Rattle.std.specs.Prelude.{replicate}
use Rattle.hwcbmc_core.specs.Runs.{Statement, NextFrame, Assert, Ended, OutOfFrames, Broken, Run, Property, assertion, next_count, count_at, run_from, run_of, CanBreak}
use Rattle.hwcbmc_core.specs.declared.sources.Program.{Program}
use Rattle.hwcbmc_core.specs.declared.sources.Counter.{Counter}
use Rattle.joint_ir.specs.declared.bounds.Bounds.{Bounds}

-- The sum of the steps, at 8 bits.
pub count_at_is : (counter : Counter) (edges : ℕ) → counter.first < 256 → count_at counter edges ≡ (counter.first + edges * counter.step) % 256
count_at_is counter zero byte = omega arith
count_at_is counter (suc edges) byte =
    let before = count_at_is counter edges byte in
    omega arith

-- Edges count modulo 256 alone.
pub count_turns : (first step edges : ℕ) → (first + edges % 256 * step) % 256 ≡ (first + edges * step) % 256
count_turns first step edges =
    let parts : edges ≡ 256 * (edges / 256) + edges % 256 = omega arith in
    let products : edges * step ≡ 256 * (edges / 256 * step) + edges % 256 * step = ap (λ k. k * step) parts ∙ omega arith in
    omega arith

-- the register after some more edges
abbrev pub count_from : Counter → ℕ → ℕ → ℕ
count_from counter count zero = count
count_from counter count (suc edges) = count_from counter (next_count counter count) edges

count_from-next : (counter : Counter) (count edges : ℕ) → count_from counter (next_count counter count) edges ≡ next_count counter (count_from counter count edges)
count_from-next counter count zero = refl
count_from-next counter count (suc edges) = count_from-next counter (next_count counter count) edges

pub count_from_first : (counter : Counter) (edges : ℕ) → count_from counter counter.first edges ≡ count_at counter edges
count_from_first counter zero = refl
count_from_first counter (suc edges) = count_from-next counter counter.first edges ∙ ap (next_count counter) (count_from_first counter edges)

-- what is left of `main` before so many edges
abbrev pub rest_of : Program → ℕ → List Statement
rest_of program edges = replicate edges NextFrame ++ Assert program.expected ∷ []

outcome-cond : (b : Bool) (x y : Run) → (cond b x y).outcome ≡ cond b x.outcome y.outcome
outcome-cond true x y = refl
outcome-cond false x y = refl

-- within the frames a run goes on to its assertion
pub outcome_within : (program : Program) (counter : Counter) (bounds : Bounds) (left count edges : ℕ) → edges + left ≤ bounds.frames
    → (run_from program counter bounds (rest_of program left) (record { count = count; edges = edges })).outcome
    ≡ cond (eqb (count_from counter count left) program.expected) Ended (Broken (assertion program))
outcome_within program counter bounds zero count edges within = outcome-cond (eqb count program.expected) _ _
outcome_within program counter bounds (suc left) count edges within =
    let next : ℕ = next_count counter count in
    let rest : Run = run_from program counter bounds (rest_of program left) (record { count = next; edges = edges + 1 }) in
    let unlike : eqb edges bounds.frames ≡ false = ne_eqb edges bounds.frames (λ is. omega arith) in
    outcome-cond (eqb edges bounds.frames) _ _ ∙ ap (λ b. cond b OutOfFrames rest.outcome) unlike
    ∙ outcome_within program counter bounds left next (edges + 1) (omega arith)

-- past the frames it ends quietly
pub outcome_past : (program : Program) (counter : Counter) (bounds : Bounds) (left count edges : ℕ) → edges ≤ bounds.frames → bounds.frames < edges + left
    → (run_from program counter bounds (rest_of program left) (record { count = count; edges = edges })).outcome ≡ OutOfFrames
outcome_past program counter bounds zero count edges within past = absurd (omega arith)
outcome_past program counter bounds (suc left) count edges within past =
    let next : ℕ = next_count counter count in
    let rest : Run = run_from program counter bounds (rest_of program left) (record { count = next; edges = edges + 1 }) in
    outcome-cond (eqb edges bounds.frames) _ _ ∙ elim (eqb_tells edges bounds.frames) [
      | inl last ↦ ap (λ b. cond b OutOfFrames rest.outcome) last.0
      | inr more ↦ ap (λ b. cond b OutOfFrames rest.outcome) more.0
          ∙ outcome_past program counter bounds left next (edges + 1) (let apart = more.1 in omega arith) (omega arith)
    ]

ended_unbroken : (property : Property) → Ended ≡ Broken property → ⊥
ended_unbroken property is = cc

pub past_unbroken : (property : Property) → OutOfFrames ≡ Broken property → ⊥
past_unbroken property is = cc

-- The assertion breaks in each run.
pub breaks_all : (program : Program) (counter : Counter) (bounds : Bounds) → program.edges ≤ bounds.frames
    → eqb (count_at counter program.edges) program.expected ≡ false
    → (choices : List ℕ) → (run_of program counter bounds choices).outcome ≡ Broken (assertion program)
breaks_all program counter bounds within apart choices =
    outcome_within program counter bounds program.edges counter.first 0 (omega arith)
    ∙ ap (λ n. cond (eqb n program.expected) Ended (Broken (assertion program))) (count_from_first counter program.edges)
    ∙ ap (λ b. cond b Ended (Broken (assertion program))) apart

-- The assertion holds in each run.
pub breaks_none : (program : Program) (counter : Counter) (bounds : Bounds) → program.edges ≤ bounds.frames
    → eqb (count_at counter program.edges) program.expected ≡ true
    → (property : Property) → ¬ (CanBreak program counter bounds property)
breaks_none program counter bounds within same property (choices, broken) =
    ended_unbroken property (sym (outcome_within program counter bounds program.edges counter.first 0 (omega arith)
    ∙ ap (λ n. cond (eqb n program.expected) Ended (Broken (assertion program))) (count_from_first counter program.edges)
    ∙ ap (λ b. cond b Ended (Broken (assertion program))) same) ∙ broken)

-- Each run ends past the frames.
pub breaks_none_past : (program : Program) (counter : Counter) (bounds : Bounds) → bounds.frames < program.edges
    → (property : Property) → ¬ (CanBreak program counter bounds property)
breaks_none_past program counter bounds past property (choices, broken) =
    past_unbroken property (sym (outcome_past program counter bounds program.edges counter.first 0 (omega arith) (omega arith)) ∙ broken)
