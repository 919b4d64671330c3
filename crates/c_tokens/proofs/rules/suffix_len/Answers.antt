use Rattle.std.proofs.Common.{◌≡◌, true, refl, sym, ◌∙◌, ap}
use Rattle.text_scan.specs.Pieces.{longest_of}
use Rattle.text_scan.specs.Words.{is_longest_first, kind_in}
use Rattle.c_tokens.specs.Kinds.{SUFFIXES}
use Rattle.c_tokens.proofs.IntegerLemmas.{suffix-some, suffix-none}
use Rattle.c_tokens.proofs.rules.suffix_len.Goals as goal

suffixes_first : is_longest_first 255 SUFFIXES ≡ true
unfolding SUFFIXES
suffixes_first = refl

pub longest_in-requires : goal.longest_in-requires
longest_in-requires c = ap (is_longest_first 255) c.suffixes.ensures ∙ suffixes_first

pub returns-in-Some : goal.returns-in-Some
returns-in-Some c =
    suffix-some c.args.bytes.now _ c.in-Some.len (ap (λ x. longest_of (kind_in x) c.args.bytes.now) (sym c.suffixes.ensures) ∙ sym c.in-Some.ensures)

pub returns-in-None : goal.returns-in-None
returns-in-None c = suffix-none c.args.bytes.now (ap (λ x. longest_of (kind_in x) c.args.bytes.now) (sym c.suffixes.ensures) ∙ sym c.in-None.ensures)
