-- The pass from the right over nodes in postorder, which looks for those that stand one deeper than the limit.
use Rattle.std.specs.Prelude.{ℕ, ◌-◌, List, [], ◌∷◌, min}
use Rattle.std.proofs.Common.{suc, zero}
use Rattle.std.specs.declared.option.Option.{Option}
use Rattle.std.specs.declared.option.Option.TheVariants.{None, Some}
use Rattle.node_depth.specs.declared.depth.Node.{Node}

-- the number x on top of a stack, n times
abbrev pub copies : ℕ → ℕ → List ℕ → List ℕ
copies zero x st = st
copies (suc n) x st = x ∷ copies n x st

-- the least of the places
abbrev pub least_of : Option ℕ → ℕ → Option ℕ
least_of None i = Some i
least_of (Some j) i = Some (min j i)

-- A node's level is 1 where it stands one deeper than the limit, more above that, and 0 below.
abbrev pub keep : ℕ → ℕ → Option ℕ → Option ℕ
keep zero i best = best
keep (suc zero) i best = least_of best i
keep (suc (suc v)) i best = best

-- The levels of the trees to come, the rightmost first, and the nodes from the right.
abbrev pub scan : List ℕ → Option ℕ → List Node → Option ℕ
scan st best [] = best
scan [] best (n ∷ ns) = best
scan (v ∷ st) best (n ∷ ns) = scan (copies n.inside (v - 1) st) (keep v n.place best) ns
