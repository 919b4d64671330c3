use Rattle.std.proofs.Common.{◌≡◌, ℕ, ◌<◌, map, slice_index}
use Rattle.bits_core.specs.Word.{Word}
use Rattle.show_blast.proofs.source.words_fit.Given as goal

abbrev pub invariant-loop-i : goal.invariant-loop-i
invariant-loop-i l = (j : ℕ) → j < l.i → slice_index (map (λ (a : Word). a.width) l.env) j ≡ slice_index l.terms.vars j
