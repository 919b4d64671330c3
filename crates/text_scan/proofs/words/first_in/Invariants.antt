use Rattle.std.proofs.Common.{◌≡◌, drop}
use Rattle.text_scan.specs.Words.{first_in, words_of}
use Rattle.text_scan.proofs.words.first_in.Given as goal

abbrev pub invariant-loop-word : goal.invariant-loop-word
invariant-loop-word l = first_in (words_of (drop l.word-index l.words)) l.bytes ≡ first_in (words_of l.words) l.bytes
