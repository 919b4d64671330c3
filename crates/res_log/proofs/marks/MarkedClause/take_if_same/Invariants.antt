use Rattle.std.proofs.Common.{◌≡◌, ℕ, eqb, None, take, cond}
use Rattle.std.specs.List.{list_any}
use Rattle.res_log.specs.Marks.{sign_at}
use Rattle.res_log.proofs.marks.MarkedClause.take_if_same.Given as goal

abbrev pub invariant-loop-lit : goal.invariant-loop-lit
invariant-loop-lit l = (v : ℕ) → sign_at l.self v ≡ cond (list_any (λ x. eqb x.var v) (take l.lit-index l.clause)) None (sign_at l.fn.self v)
