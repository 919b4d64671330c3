-- The events of a run that breaks its assertion, frame by frame.
use Rattle.std.proofs.Common.{◌≡◌, ℕ, ◌+◌, ◌≤◌, List, [], ◌∷◌, ◌++◌, zero, suc, Bool, true, false, eqb, cond, ap, sym, ◌∙◌, arith, refl, add-one, append_assoc, append-nil, inl, inr}
use Rattle.std.specs.Prelude.{codes, decimal}
use Rattle.std.specs.List.{flat_map}
use Rattle.std.proofs.lemmas.Bool.{ne_eqb, cases_lt}
use Rattle.std.proofs.lemmas.Bool.Decides.{eqb_tells}
use Rattle.std.proofs.lemmas.Grind.{flat_map-append}
use Rattle.hwcbmc_core.specs.Runs.{Shown, Broken, Event, Frame, Broke, Run, assertion, next_count, count_at, changed, shown_count, run_from, run_of}
use Rattle.hwcbmc_core.specs.Trace.{shown_text, event_text, trace_text}
use Rattle.hwcbmc_core.specs.declared.sources.Program.{Program}
use Rattle.hwcbmc_core.specs.declared.sources.Counter.{Counter}
use Rattle.joint_ir.specs.declared.bounds.Bounds.{Bounds}
use Rattle.hwcbmc_core.proofs.RunLemmas.{rest_of, outcome_past, past_unbroken, breaks_none}

-- the frames up to one
abbrev pub frames_to : Counter → ℕ → List Event
frames_to counter zero = Frame 0 (shown_count counter.first ∷ []) ∷ []
frames_to counter (suc edges) = frames_to counter edges ++ Frame (edges + 1) (changed (count_at counter edges) (next_count counter (count_at counter edges))) ∷ []

-- their text
abbrev pub frames_text : Counter → ℕ → List ℕ
frames_text counter edges = flat_map event_text (frames_to counter edges)

-- one frame more
pub frames_text-more : (counter : Counter) (edges : ℕ)
    → frames_text counter (edges + 1) ≡ frames_text counter edges ++ event_text (Frame (edges + 1) (changed (count_at counter edges) (next_count counter (count_at counter edges))))
frames_text-more counter edges =
    let frame : Event = Frame (edges + 1) (changed (count_at counter edges) (next_count counter (count_at counter edges))) in
    ap (frames_text counter) (add-one edges) ∙ flat_map-append event_text (frames_to counter edges) (frame ∷ [])
    ∙ ap (λ xs. frames_text counter edges ++ xs) (append-nil (event_text frame))

pub count_at-more : (counter : Counter) (edges : ℕ) → count_at counter (edges + 1) ≡ next_count counter (count_at counter edges)
count_at-more counter edges = ap (count_at counter) (add-one edges)

-- what an assertion that breaks tells
abbrev pub last_events : Program → ℕ → List Event
last_events program count = cond (eqb count program.expected) [] (Broke (assertion program) ∷ [])

events-cond : (b : Bool) (x y : Run) → (cond b x y).events ≡ cond b x.events y.events
events-cond true x y = refl
events-cond false x y = refl

-- the events of the rest of a run that stays within the frames
pub events_within : (program : Program) (counter : Counter) (bounds : Bounds) (left done edges : ℕ) → edges ≡ done → edges + left ≤ bounds.frames
    → frames_to counter done ++ (run_from program counter bounds (rest_of program left) (record { count = count_at counter done; edges = edges })).events
    ≡ frames_to counter (done + left) ++ last_events program (count_at counter (done + left))
events_within program counter bounds zero done edges same within =
    let whole : done ≡ done + 0 = omega arith in
    ap (λ xs. frames_to counter done ++ xs) (events-cond (eqb (count_at counter done) program.expected) _ _)
    ∙ ap (λ n. frames_to counter n ++ last_events program (count_at counter n)) whole
events_within program counter bounds (suc left) done edges same within =
    let next : ℕ = next_count counter (count_at counter done) in
    let shown : List Shown = changed (count_at counter done) next in
    let rest : Run = run_from program counter bounds (rest_of program left) (record { count = next; edges = edges + 1 }) in
    let unlike : eqb edges bounds.frames ≡ false = ne_eqb edges bounds.frames (λ is. omega arith) in
    let after : suc done + left ≡ done + suc left = omega arith in
    ap (λ xs. frames_to counter done ++ xs) (events-cond (eqb edges bounds.frames) _ _ ∙ ap (λ b. cond b [] (Frame (edges + 1) shown ∷ rest.events)) unlike)
    ∙ sym (append_assoc (frames_to counter done) (Frame (edges + 1) shown ∷ []) rest.events)
    ∙ ap (λ n. (frames_to counter done ++ Frame (n + 1) shown ∷ []) ++ rest.events) same
    ∙ events_within program counter bounds left (suc done) (edges + 1) (omega arith) (omega arith)
    ∙ ap (λ n. frames_to counter n ++ last_events program (count_at counter n)) after

-- A run that breaks its assertion stays within the frames.
broken_within : (program : Program) (counter : Counter) (bounds : Bounds) (choices : List ℕ)
    → (run_of program counter bounds choices).outcome ≡ Broken (assertion program) → program.edges ≤ bounds.frames
broken_within program counter bounds choices broken = elim (cases_lt bounds.frames program.edges) [
  | inl past ↦ absurd (past_unbroken (assertion program) (sym (outcome_past program counter bounds program.edges counter.first 0 (omega arith) (omega arith)) ∙ broken))
  | inr within ↦ within
]

-- Its last count isn't the one asserted.
broken_apart : (program : Program) (counter : Counter) (bounds : Bounds) (choices : List ℕ)
    → (run_of program counter bounds choices).outcome ≡ Broken (assertion program) → program.edges ≤ bounds.frames
    → eqb (count_at counter program.edges) program.expected ≡ false
broken_apart program counter bounds choices broken within = elim (eqb_tells (count_at counter program.edges) program.expected) [
  | inl same ↦ absurd (breaks_none program counter bounds within same.0 (assertion program) (choices, broken))
  | inr apart ↦ apart.0
]

-- its events
pub events_of_break : (program : Program) (counter : Counter) (bounds : Bounds) (choices : List ℕ)
    → (run_of program counter bounds choices).outcome ≡ Broken (assertion program)
    → (run_of program counter bounds choices).events ≡ frames_to counter program.edges ++ Broke (assertion program) ∷ []
events_of_break program counter bounds choices broken =
    let within : program.edges ≤ bounds.frames = broken_within program counter bounds choices broken in
    let whole : 0 + program.edges ≡ program.edges = omega arith in
    events_within program counter bounds program.edges 0 0 refl (omega arith)
    ∙ ap (λ n. frames_to counter n ++ last_events program (count_at counter n)) whole
    ∙ ap (λ b. frames_to counter program.edges ++ cond b [] (Broke (assertion program) ∷ [])) (broken_apart program counter bounds choices broken within)

-- and their text
pub trace_of_break : (program : Program) (counter : Counter) (bounds : Bounds) (choices : List ℕ)
    → (run_of program counter bounds choices).outcome ≡ Broken (assertion program)
    → (codes "Trace for main.assertion.1:\n" ++ frames_text counter program.edges)
    ++ (codes "broken main.assertion.1 at line " ++ (decimal (5 + program.edges) ++ codes "\nVERIFICATION FAILED\n"))
    ≡ trace_text (assertion program) (run_of program counter bounds choices).events
trace_of_break program counter bounds choices broken =
    let head : List ℕ = codes "Trace for main.assertion.1:\n" in
    let frames : List ℕ = frames_text counter program.edges in
    let broke : List ℕ = event_text (Broke (assertion program)) in
    let verdict : List ℕ = codes "VERIFICATION FAILED\n" in
    let events : List Event = (run_of program counter bounds choices).events in
    let foot : broke ++ verdict ≡ codes "broken main.assertion.1 at line " ++ (decimal (5 + program.edges) ++ codes "\nVERIFICATION FAILED\n")
    = ap (λ xs. codes "broken main.assertion.1 at line " ++ xs) (append_assoc (decimal (5 + program.edges)) (codes "\n") verdict) in
    let body : flat_map event_text events ++ verdict ≡ frames ++ (broke ++ verdict)
    = ap (λ xs. flat_map event_text xs ++ verdict) (events_of_break program counter bounds choices broken)
    ∙ ap (λ xs. xs ++ verdict) (flat_map-append event_text (frames_to counter program.edges) (Broke (assertion program) ∷ []) ∙ ap (λ xs. frames ++ xs) (append-nil broke))
    ∙ append_assoc frames broke verdict in
    ap (λ xs. head ++ (frames ++ xs)) (sym foot) ∙ ap (λ xs. head ++ xs) (sym body)

-- the first frame, told in two parts
pub first_told : (counter : Counter)
    → ((codes "Trace for main.assertion.1:\n" ++ event_text (Frame 0 [])) ++ shown_text (shown_count counter.first))
    ≡ codes "Trace for main.assertion.1:\n" ++ frames_text counter 0
first_told counter =
    let number : List ℕ = decimal 0 in
    let shown : List ℕ = shown_text (shown_count counter.first) in
    let parts : (number ++ codes "\n") ++ shown ≡ (number ++ (codes "\n" ++ (shown ++ []))) ++ []
    = append_assoc number (codes "\n") shown ∙ ap (λ xs. number ++ (codes "\n" ++ xs)) (sym (append-nil shown)) ∙ sym (append-nil (number ++ (codes "\n" ++ (shown ++ [])))) in
    ap (λ xs. codes "Trace for main.assertion.1:\n" ++ (codes "frame " ++ xs)) parts

-- one frame more is told
pub step_told : (counter : Counter) (edges count : ℕ) → count ≡ count_at counter edges
    → ((codes "Trace for main.assertion.1:\n" ++ frames_text counter edges) ++ event_text (Frame (edges + 1) (changed count (next_count counter count))))
    ≡ codes "Trace for main.assertion.1:\n" ++ frames_text counter (edges + 1)
step_told counter edges count is =
    let head : List ℕ = codes "Trace for main.assertion.1:\n" in
    append_assoc head (frames_text counter edges) (event_text (Frame (edges + 1) (changed count (next_count counter count))))
    ∙ ap (λ n. head ++ (frames_text counter edges ++ event_text (Frame (edges + 1) (changed n (next_count counter n))))) is
    ∙ ap (λ xs. head ++ xs) (sym (frames_text-more counter edges))
