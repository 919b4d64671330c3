use Rattle.std.proofs.Common.{◌≡◌, true, refl, sym, ◌∙◌, ap, subst}
use Rattle.text_scan.specs.Words.{words_of, is_longest_first}
use Rattle.v_tokens.specs.Kinds.{MARKS}
use Rattle.v_tokens.proofs.KindLemmas.{word_answer, number_answer, based_some, based_none, mark_answer}
use Rattle.v_tokens.proofs.rules.VerilogTokenRules.longest.Goals as goal

marks_first : is_longest_first 255 MARKS ≡ true
unfolding MARKS
marks_first = refl

pub longest_in-requires : goal.longest_in-requires
longest_in-requires c = ap (is_longest_first 255) c.marks.ensures ∙ marks_first

pub returns-then-begins_word : goal.returns-then-begins_word
returns-then-begins_word c =
    word_answer c.in-Some.first.now c.in-Some.rest.now c.args.bytes.now c.in-Some.ensures.cases.0 c.word_kind.result c.word_len-len.result
    (sym c.begins_word.ensures ∙ c.if-begins_word.true) c.word_len-len.ensures c.word_kind.ensures

pub returns-then-is_decimal : goal.returns-then-is_decimal
returns-then-is_decimal c =
    number_answer c.in-Some.first.now c.in-Some.rest.now c.args.bytes.now c.in-Some.ensures.cases.0 c.number_len.result
    (sym c.begins_word.ensures ∙ c.if-begins_word.false) (sym c.is_decimal.ensures ∙ c.if-is_decimal.true) c.number_len.ensures

pub returns-in-Some-based_len : goal.returns-in-Some-based_len
returns-in-Some-based_len c =
    based_some c.in-Some.first.now c.in-Some.rest.now c.args.bytes.now c.in-Some.ensures.cases.0 c.in-Some-based_len.len
    (sym c.begins_word.ensures ∙ c.if-begins_word.false) (sym c.is_decimal.ensures ∙ c.if-is_decimal.false) c.if-first-eq39.true c.in-Some-based_len.ensures

pub returns-in-None : goal.returns-in-None
returns-in-None c =
    based_none c.in-Some.first.now c.in-Some.rest.now c.args.bytes.now c.in-Some.ensures.cases.0
    (sym c.begins_word.ensures ∙ c.if-begins_word.false) (sym c.is_decimal.ensures ∙ c.if-is_decimal.false) c.if-first-eq39.true c.in-None.ensures

pub returns : goal.returns
returns c =
    mark_answer c.in-Some.first.now c.in-Some.rest.now c.args.bytes.now c.in-Some.ensures.cases.0 c.longest_in.result (words_of c.marks.result.now)
    (sym c.begins_word.ensures ∙ c.if-begins_word.false) (sym c.is_decimal.ensures ∙ c.if-is_decimal.false) c.if-first-eq39.false c.marks.ensures c.longest_in.ensures
