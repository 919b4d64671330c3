-- What each verdict on a pair within bounds promises.
use Rattle.std.specs.Prelude.{◌≡◌, ℕ, ◌^◌, ◌<◌, true, List, length}
use Rattle.std.specs.List.{list_all}
use Rattle.res_log.specs.Log.{EndsEmpty, results}
use Rattle.res_log.specs.Partial.{is_open}
use Rattle.log_laws.specs.Variables.{AreOver}
use Rattle.joint_ir.specs.declared.bounds.Bounds.{Bounds}
use Rattle.joint_ir.specs.declared.event.Outcome.TheVariants.{Broken}
use Rattle.joint_ir.specs.declared.pair.Pair.{Pair}
use Rattle.joint_ir.specs.declared.program.PropId.{PropId}
use Rattle.joint_ir.specs.Runs.{run_of}
use Rattle.joint_step.specs.declared.run.Replayed.{Replayed}
use Rattle.joint_step.specs.Ends.{IsRun}
use Rattle.pair_proof.specs.declared.Proof.{Proof}
use Rattle.pair_proof.specs.Shown.{IsProof, IsSafe}
use Rattle.judge.specs.declared.Verdict.{Verdict}
use Rattle.judge.specs.declared.Verdict.TheVariants.{Successful, Failed, Spent}

-- A success: the pair is safe, by a log that ends with the empty clause.
pub record IsSuccess (pair : Pair) (bounds : Bounds) (budget : ℕ) (p : Proof) : Type 0 where
  pub safe : IsSafe pair bounds
  pub shown : IsProof pair bounds budget p
  pub ends : EndsEmpty p.arena.clauses p.log

-- A failure: the run on the choices is this one, and a property ends it.
pub record IsFailure (pair : Pair) (bounds : Bounds) (choices : List ℕ) (r : Replayed) : Type 0 where
  pub runs : IsRun r (run_of pair bounds choices)
  pub property : PropId
  pub breaks : r.outcome ≡ Broken property

-- A spent budget: so many clauses were derived, none of them empty, and that is fewer than there are over the variables that
-- stand in the inputs. So this answer never comes where the budget is at least 3 ^ n for n such variables.
pub record IsSpentBudget (pair : Pair) (bounds : Bounds) (budget : ℕ) (p : Proof) : Type 0 where
  pub shown : IsProof pair bounds budget p
  pub spent : length p.log ≡ budget
  pub none_empty : list_all is_open (results p.arena.clauses p.log) ≡ true
  pub earned : (variables : List ℕ) → AreOver variables p.arena.clauses p.log → budget < 3 ^ length variables

-- what each verdict on a pair within bounds must hold
abbrev pub IsVerdict : Pair → Bounds → (budget : ℕ) → Verdict → Type 0
IsVerdict pair bounds budget (Successful p) = IsSuccess pair bounds budget p
IsVerdict pair bounds budget (Failed choices r) = IsFailure pair bounds choices r
IsVerdict pair bounds budget (Spent p) = IsSpentBudget pair bounds budget p

-- the verdict is a failure
abbrev pub IsBreak : Pair → Bounds → Verdict → Type 0
IsBreak pair bounds (Successful p) = ⊥
IsBreak pair bounds (Failed choices r) = IsFailure pair bounds choices r
IsBreak pair bounds (Spent p) = ⊥
