use Rattle.std.proofs.Common.{◌≡◌, ◌≤◌, ℕ, eqb, refl, arith}
use Rattle.std.specs.List.{IsDistinct}
use Rattle.std.proofs.lemmas.Bool.{and_left, and_right, ne_eqb}
use Rattle.bench_log.proofs.implication.Goals as goal

differs : (n k : ℕ) → 2 ≤ n → k ≤ 1 → n ≡ k → ⊥
differs n k l m e = omega arith

pub returns : goal.returns
unfolding IsDistinct
returns c = (
  (and_right (eqb c.args.from c.args.to) _ refl, (and_right (eqb c.args.from 0) _ refl, (and_right (eqb c.args.from 1) _ refl, tt))),
  (
    (and_left _ _ (ne_eqb c.args.to 0 (differs c.args.to 0 c.requires (omega arith))), (and_left _ _ (ne_eqb c.args.to 1 (differs c.args.to 1 c.requires (omega arith))), tt)),
    ((refl, tt), (tt, tt)),
  ),
)
