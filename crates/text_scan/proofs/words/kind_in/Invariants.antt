use Rattle.std.proofs.Common.{◌≡◌, drop}
use Rattle.text_scan.specs.Words.{kind_in, words_of}
use Rattle.text_scan.proofs.words.kind_in.Given as goal

abbrev pub invariant-loop-word : goal.invariant-loop-word
invariant-loop-word l = kind_in (words_of (drop l.word-index l.words)) l.bytes ≡ kind_in (words_of l.words) l.bytes
