use Rattle.std.proofs.Common.{◌≡◌, take, map}
use Rattle.bits_core.specs.Word.{Word}
use Rattle.show_runs.proofs.random.random_words.Given as goal

abbrev pub invariant-loop-x : goal.invariant-loop-x
invariant-loop-x l = map (λ (a : Word). a.width) l.words ≡ take l.x l.terms.vars
