use Rattle.std.proofs.Common.{◌≡◌, ℕ, ◌<◌, length, get_or, take, cond}
use Rattle.res_log.specs.declared.origins.Origin.TheVariants.{Input}
use Rattle.res_log.specs.Log.{derives}
use Rattle.res_log.proofs.origins.set_origins.Given as goal

abbrev pub invariant-loop-j : goal.invariant-loop-j
invariant-loop-j l =
    (length l.table.items ≡ length l.fn.table.items)
    × ((id : ℕ) → id < length l.fn.table.items → get_or l.table.items id Input ≡ cond (derives (take l.j l.log) id) l.origin (get_or l.fn.table.items id Input))
