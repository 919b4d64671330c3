-- From the layers' contracts to the verdict.
use Rattle.std.proofs.Common.{◌≡◌, ◌↔◌, ℕ, ◌*◌, ◌≤◌, Bool, true, List, [], ◌++◌, length, take, drop, replicate, Some, refl, sym, ap, ◌∙◌, subst, arith, append_assoc, append-nil, length-append}
use Rattle.std.proofs.lemmas.List.{take-append-drop, length-replicate}
use Rattle.std.proofs.Math.Seq.{length-take-le}
use Rattle.arrayvec.specs.ArrayVec.{ArrayVec}
use Rattle.gate_net.specs.declared.net.Edge.{Edge}
use Rattle.gate_net.specs.declared.net.Node.{Node}
use Rattle.gate_net.specs.Edge.{edge_value}
use Rattle.gate_net.specs.Net.{IsValuation}
use Rattle.word_eqs.specs.declared.list.Step.{Step}
use Rattle.word_eqs.specs.Graph.{Graph, IsGraph}
use Rattle.word_eqs.specs.Guarded.{Walk, Passes, Stops, AtCut, AtProp, walk, choices_read, widths_read}
use Rattle.word_eqs.specs.Meaning.{Values}
use Rattle.std.proofs.lemmas.Bool.{false≢true}
use Rattle.clause_arena.specs.Arena.{Arena}
use Rattle.clause_arena.specs.Clause.{Clauses, EachClause, EachOnce, IsModel}
use Rattle.gate_net.specs.Clauses.{Fits}
use Rattle.res_log.specs.Log.{EndsEmpty, SatisfiesInputs}
use Rattle.res_log.specs.Step.{Step as LogStep}
use Rattle.res_log.proofs.Refutes.{refutation_law}
use Rattle.cdcl.specs.Answer.{IsLogOver}
use Rattle.pair_proof.specs.Shown.{IsProof}
use Rattle.pair_proof.proofs.Sets.{same_models, plain_inputs, few_inputs}
use Rattle.bitblast.specs.Blasted.{StandsFor, AreBits}
use Rattle.joint_ir.specs.declared.bounds.Bounds.{Bounds}
use Rattle.joint_ir.specs.declared.event.Outcome.{Outcome}
use Rattle.joint_ir.specs.declared.event.Outcome.TheVariants.{Ended, Cut, OutOfFrames, Broken}
use Rattle.joint_ir.specs.declared.pair.Pair.{Pair}
use Rattle.joint_ir.specs.declared.program.PropId.{PropId}
use Rattle.joint_ir.specs.Effects as effect
use Rattle.joint_ir.specs.Effects.{Told}
use Rattle.joint_ir.specs.Runs.{run_of, CanBreak}
use Rattle.exact_draws.specs.Draws.{DrawsAs, DrawsIn}
use Rattle.exact_draws.proofs.Runs.{run_draws}
use Rattle.word_eqs.specs.Assignments.{IsAssignment, reduced, broken_in}
use Rattle.list_laws.specs.Matched.{Matches}
use Rattle.list_laws.proofs.Matching.{each_matched}
use Rattle.list_laws.proofs.Reading.{reads_are_fit}
use Rattle.unwound.specs.Covers.{CoversRuns, FollowsRun, broken_by}

-- a walk that a property ends
walk_broken : (w : Walk) (p : ℕ) → broken_in w ≡ Some p → (reads : List ℕ) × (w ≡ Stops reads (AtProp p))
walk_broken (Passes reads) p e = cc
walk_broken (Stops reads AtCut) p e = cc
walk_broken (Stops reads (AtProp q)) p e = let is : q ≡ p = cc in (reads, ap (λ n. Stops reads (AtProp n)) is)

-- an outcome that is a break
outcome_broken : (o : Outcome) (p : ℕ) → broken_by o ≡ Some p → (q : PropId) × (o ≡ Broken q)
outcome_broken Ended p e = cc
outcome_broken Cut p e = cc
outcome_broken OutOfFrames p e = cc
outcome_broken (Broken q) p e = (q, refl)

pub stops_same : (o o' : Outcome) (told told' : Told) (c c' : List ℕ) → effect.Stops o told c ≡ effect.Stops o' told' c' → o ≡ o'
stops_same o o' told told' c c' e = cc

module _ (pair : Pair) (bounds : Bounds) where
  -- a run that stops draws just what it tells
  stop_draws : (choices rest : List ℕ) (o : Outcome) (told : Told) → run_of pair bounds choices ≡ effect.Stops o told rest → DrawsAs (run_of pair bounds) choices rest told (effect.Stops o told)
  stop_draws choices rest o told is = subst (DrawsIn (run_of pair bounds) choices) is ((run_draws pair bounds).at choices)

  -- it stops alike where more choices follow
  stops_with_more : (choices rest more : List ℕ) (o : Outcome) (told : Told) → run_of pair bounds choices ≡ effect.Stops o told rest → run_of pair bounds (choices ++ more) ≡ effect.Stops o told (rest ++ more)
  stops_with_more choices rest more o told is =
      let d = stop_draws choices rest o told is in
      ap (λ l. run_of pair bounds (l ++ more)) d.parts ∙ ap (run_of pair bounds) (append_assoc d.used rest more) ∙ d.same d.used (rest ++ more) refl refl

  -- and on choices that begin with numbers equal to those drawn, modulo 2 to the widths
  stops_on_like : (reads like more : List ℕ) (o : Outcome) (told : Told) → run_of pair bounds reads ≡ effect.Stops o told [] → length like ≡ length told.widths → reduced told.widths like ≡ reduced told.widths reads → run_of pair bounds (like ++ more) ≡ effect.Stops o told more
  stops_on_like reads like more o told is long equal =
      let d = stop_draws reads [] o told is in
      let all : reads ≡ d.used = d.parts ∙ append-nil d.used in
      d.same like more (long ∙ sym d.many) (equal ∙ ap (reduced told.widths) all)

module _ (pair : Pair) (bounds : Bounds) (g : Graph) (list : List Step) (net : List Node) (root : Edge) (wires : List (ArrayVec Edge))
    (covers : CoversRuns pair bounds g list) (stands : StandsFor g list net root wires) where
  -- a run that breaks a property shows in values of the net
  pub break_shown : IsGraph g → (q : PropId) → CanBreak pair bounds q → (a : ℕ → Bool) × (IsValuation net a × (edge_value a root ≡ true))
  break_shown graph q b =
      let zeros : List ℕ = replicate (length list) 0 in
      let long : List ℕ = b.choices ++ zeros in
      let enough : length list ≤ length long = omega (arith, length-append b.choices zeros, length-replicate {A = ℕ} (length list) 0) in
      let m : Matches g list long = each_matched g list long graph covers.ordered enough in
      let widths : List ℕ = widths_read g m.v list in
      let n : ℕ = length widths in
      let d : FollowsRun pair bounds g list m.v = covers.runs m.v m.assigns in
      let fit = reads_are_fit g list m.v covers.ordered m.assigns in
      let reads : List ℕ = choices_read (walk m.v list) in
      let equal : reduced widths (take n long) ≡ reduced widths reads = m.reads ∙ sym fit.1 in
      let runs : run_of pair bounds long ≡ effect.Stops d.outcome d.told (drop n long) =
      ap (run_of pair bounds) (sym (take-append-drop n long))
      ∙ stops_on_like pair bounds reads (take n long) (drop n long) d.outcome d.told d.runs (length-take-le n long m.enough ∙ ap length (sym d.widths)) (subst (λ ws. reduced ws (take n long) ≡ reduced ws reads) (sym d.widths) equal) in
      let more : run_of pair bounds long ≡ effect.Stops (Broken q) b.told (b.rest ++ zeros) = stops_with_more pair bounds b.choices b.rest zeros (Broken q) b.told b.breaks in
      let is : d.outcome ≡ Broken q = stops_same d.outcome (Broken q) d.told b.told (drop n long) (b.rest ++ zeros) (sym runs ∙ more) in
      let w = walk_broken (walk m.v list) q.0 (sym d.breaks ∙ ap broken_by is) in
      let s = stands.shown m.v m.assigns in
      (s.0, (s.1.0, (stands.breaks s.0 m.v s.1.0 m.assigns s.1.1).1 (q.0, (w.0, w.1))))

  -- the assignment that values of the net show, and its run, which breaks a property
  record ShownRun (a : ℕ → Bool) : Type 0 where
    v : Values
    assigns : IsAssignment g list v
    bits : AreBits a v g wires
    told : Told
    property : PropId
    runs : run_of pair bounds (choices_read (walk v list)) ≡ effect.Stops (Broken property) told []

  shown_run : (a : ℕ → Bool) → IsValuation net a → edge_value a root ≡ true → ShownRun a
  shown_run a val one =
      let r = stands.read a val in
      let v : Values = r.0 in
      let assigns : IsAssignment g list v = r.1.0 in
      let broken = (stands.breaks a v val assigns r.1.1).0 one in
      let d : FollowsRun pair bounds g list v = covers.runs v assigns in
      let q = outcome_broken d.outcome broken.0 (d.breaks ∙ ap broken_in broken.1.1) in
      record { v = v; assigns = assigns; bits = r.1.1; told = d.told; property = q.0; runs = d.runs ∙ ap (λ o. effect.Stops o d.told []) q.1 }

  -- the choices that are lifted are those of that run
  pub shown_breaks : (a : ℕ → Bool) → IsValuation net a → edge_value a root ≡ true → (choices : List ℕ) → ((v : Values) → IsAssignment g list v → AreBits a v g wires → choices ≡ choices_read (walk v list)) →
      (told : Told) × (q : PropId) × (run_of pair bounds choices ≡ effect.Stops (Broken q) told [])
  shown_breaks a val one choices lifted =
      let r = shown_run a val one in
      (r.told, r.property, ap (run_of pair bounds) (lifted r.v r.assigns r.bits) ∙ r.runs)

  can_break : (a : ℕ → Bool) → IsValuation net a → edge_value a root ≡ true → (q : PropId) × CanBreak pair bounds q
  can_break a val one =
      let r = shown_run a val one in
      (r.property, record { choices = choices_read (walk r.v list); told = r.told; rest = []; breaks = r.runs })

  module _ (graph : IsGraph g) (old : Clauses) (arena : Arena) (log : List LogStep) (budget : ℕ)
      (models : (a : ℕ → Bool) → IsModel a old ↔ (IsValuation net a × (edge_value a root ≡ true))) (fit : EachClause (Fits (length net)) old) (count : length old ≤ 3 * length net) (over : IsLogOver old arena.clauses log) where
    -- the inputs have a model exactly where the net has values with the root 1
    input_models : (a : ℕ → Bool) → SatisfiesInputs arena.clauses log a ↔ (IsValuation net a × (edge_value a root ≡ true))
    input_models a =
        let m = same_models old arena.clauses log over.inputs a in
        (λ h. (models a).0 (m.0 h), λ h. m.1 ((models a).1 h))

    pub is_proof : length log ≤ budget → EachOnce arena.clauses →
        IsProof pair bounds budget (record { unwound = record { terms = g; list = list }; blasted = record { net = net; root = root; wires = wires }; arena = arena; log = log })
    is_proof within once = record {
      covers = covers;
      stands = stands;
      valid = over.valid;
      gaining = over.gaining;
      within = within;
      models = input_models;
      breaks = (
        λ h. let m = (input_models h.0).0 h.1 in can_break h.0 m.0 m.1,
        λ h. let m = break_shown graph h.0 h.1 in (m.0, (input_models m.0).1 (m.1.0, m.1.1)),
      );
      plain = plain_inputs old arena.clauses log over.inputs (length net) fit;
      once = once;
      few = few_inputs old arena.clauses log over.inputs (3 * length net) count;
      light = let a = stands.count in let b = covers.few in omega arith;
    }

    -- no run breaks a property where the log ends empty
    pub none_breaks : EndsEmpty arena.clauses log → (q : PropId) → ¬ (CanBreak pair bounds q)
    none_breaks ends q b =
        let m = break_shown graph q b in
        false≢true (refutation_law arena.clauses log over.valid.0 ends m.0 ((input_models m.0).1 (m.1.0, m.1.1)))
