use Rattle.std.proofs.Common.{◌≡◌, drop}
use Rattle.offence_order.specs.Order.{first_of}
use Rattle.elab_modules.specs.Modules.{numbers_of, numbered_from, twice_offences, twice_from}
use Rattle.elab_modules.proofs.modules.numbered.Given as goal

-- what is left of the modules, from the names so far
abbrev pub invariant-loop-m : goal.invariant-loop-m
invariant-loop-m l =
    (l.n ≡ l.m-index) × (numbers_of l.modules ≡ numbered_from l.numbers l.n (drop l.m-index l.modules)) ×
    (first_of l.initial.first.found (twice_offences l.modules) ≡ first_of l.first.found (twice_from l.numbers l.n (drop l.m-index l.modules)))
