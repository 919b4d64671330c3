use Rattle.std.proofs.Common.{◌≢◌, ℕ, ◌+◌, Bool, [], ◌∷◌, arith}
use Rattle.clause_arena.specs.Clause.{lit, IsEachOnce}
use Rattle.clause_arena.proofs.Each.{IsEachOnce-from_variables}
use Rattle.gate_net.proofs.Tseitin.{once-three}
use Rattle.bench_clauses.proofs.clause.Goals as goal

three : (v : ℕ) (a b c : Bool) → IsEachOnce (lit a v ∷ lit b (v + 1) ∷ lit c (v + 2) ∷ [])
three v a b c =
    let n : v ≢ v + 1 = omega arith in
    let m : v ≢ v + 2 = omega arith in
    let k : v + 1 ≢ v + 2 = omega arith in
    IsEachOnce-from_variables (lit a v ∷ lit b (v + 1) ∷ lit c (v + 2) ∷ []) (once-three (lit a v) (lit b (v + 1)) (lit c (v + 2)) n m k)

pub returns : goal.returns
returns c = three _ _ _ _
