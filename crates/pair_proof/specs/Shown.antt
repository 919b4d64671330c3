-- What a proof of a pair shows, and when the pair is safe.
use Rattle.std.specs.Prelude.{◌≡◌, ◌↔◌, ℕ, ◌*◌, ◌≤◌, Bool, true, length, None}
use Rattle.std.specs.Option.{ForSome}
use Rattle.clause_arena.specs.Clause.{is_plain, EachOnce}
use Rattle.res_log.specs.Log.{IsValid, SatisfiesInputs, input}
use Rattle.res_log.specs.Gaining.{IsGaining}
use Rattle.gate_net.specs.Edge.{edge_value}
use Rattle.gate_net.specs.Net.{IsValuation}
use Rattle.bitblast.specs.Blasted.{StandsFor}
use Rattle.joint_ir.specs.declared.bounds.Bounds.{Bounds}
use Rattle.joint_ir.specs.declared.pair.Pair.{Pair}
use Rattle.joint_ir.specs.declared.program.PropId.{PropId}
use Rattle.joint_ir.specs.Machine.{Fails}
use Rattle.joint_ir.specs.Runs.{CanBreak}
use Rattle.joint_ir.specs.Weights.{weight_of}
use Rattle.unwound.specs.Covers.{CoversRuns}
use Rattle.pair_proof.specs.declared.Proof.{Proof}

-- The clauses of a proof are those of just this pair within these bounds, and its log derives from just these.
pub record IsProof (pair : Pair) (bounds : Bounds) (budget : ℕ) (p : Proof) : Type 0 where
  pub covers : CoversRuns pair bounds p.unwound.terms p.unwound.list
  pub stands : StandsFor p.unwound.terms p.unwound.list p.blasted.net p.blasted.root p.blasted.wires
  pub valid : IsValid p.arena.clauses p.log
  pub gaining : IsGaining p.arena.clauses p.log
  pub within : length p.log ≤ budget
  -- the models of the inputs are the values of the net in which the root is 1
  pub models : (a : ℕ → Bool) → SatisfiesInputs p.arena.clauses p.log a ↔ (IsValuation p.blasted.net a × (edge_value a p.blasted.root ≡ true))
  -- so they have a model exactly where some run breaks a property
  pub breaks : ((a : ℕ → Bool) × SatisfiesInputs p.arena.clauses p.log a) ↔ ((q : PropId) × CanBreak pair bounds q)
  -- an input is no tautology, and its variables are nodes of the net
  pub plain : (id : ℕ) → ForSome (input p.arena.clauses p.log id) (λ c. is_plain (length p.blasted.net) c ≡ true)
  -- no clause holds a literal twice
  pub once : EachOnce p.arena.clauses
  -- the inputs stand at the first places, at most three for each node
  pub few : (id : ℕ) → 3 * length p.blasted.net ≤ id → input p.arena.clauses p.log id ≡ None
  pub light : length p.blasted.net ≤ 8 * weight_of pair bounds

-- No run within the bounds breaks a property, and nothing fails without the limits on turns and activations.
pub record IsSafe (pair : Pair) (bounds : Bounds) : Type 0 where
  pub no_run_breaks : (q : PropId) → ¬ (CanBreak pair bounds q)
  pub nothing_fails : (q : PropId) → ¬ (Fails pair bounds q)
