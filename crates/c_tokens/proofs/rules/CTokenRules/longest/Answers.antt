use Rattle.std.proofs.Common.{◌≡◌, true, Some, None, refl, sym, ◌∙◌, ap}
use Rattle.text_scan.specs.Words.{words_of, is_longest_first}
use Rattle.c_tokens.specs.Kinds.{MARKS}
use Rattle.c_tokens.proofs.KindLemmas.{word_answer, integer_answer, character_answer, string_answer, mark_answer}
use Rattle.c_tokens.proofs.rules.CTokenRules.longest.Goals as goal

marks_first : is_longest_first 255 MARKS ≡ true
unfolding MARKS
marks_first = refl

pub longest_in-requires : goal.longest_in-requires
longest_in-requires c = ap (is_longest_first 255) c.marks.ensures ∙ marks_first

pub returns-then-begins_word : goal.returns-then-begins_word
returns-then-begins_word c =
    word_answer c.in-Some.first.now c.in-Some.rest.now c.args.bytes.now c.in-Some.ensures.cases.0 c.word_kind.result c.word_len-len.result
    (sym c.begins_word.ensures ∙ c.if-begins_word.true) c.word_len-len.ensures c.word_kind.ensures

pub returns-then-is_decimal : goal.returns-then-is_decimal
returns-then-is_decimal c =
    integer_answer c.in-Some.first.now c.in-Some.rest.now c.args.bytes.now c.in-Some.ensures.cases.0 c.after_digit_len-len.result
    (sym c.begins_word.ensures ∙ c.if-begins_word.false) (sym c.is_decimal.ensures ∙ c.if-is_decimal.true) c.after_digit_len-len.ensures

pub returns-in-Some-after_quote_len : goal.returns-in-Some-after_quote_len
returns-in-Some-after_quote_len c =
    character_answer c.in-Some.first.now c.in-Some.rest.now c.args.bytes.now c.in-Some.ensures.cases.0
    (sym c.begins_word.ensures ∙ c.if-begins_word.false) (sym c.is_decimal.ensures ∙ c.if-is_decimal.false) c.if-first-eq39.true (Some c.in-Some-after_quote_len.len) c.in-Some-after_quote_len.ensures

pub returns-in-None : goal.returns-in-None
returns-in-None c =
    character_answer c.in-Some.first.now c.in-Some.rest.now c.args.bytes.now c.in-Some.ensures.cases.0
    (sym c.begins_word.ensures ∙ c.if-begins_word.false) (sym c.is_decimal.ensures ∙ c.if-is_decimal.false) c.if-first-eq39.true None c.in-None.ensures

pub returns-in-Some-after_double_quote_len : goal.returns-in-Some-after_double_quote_len
returns-in-Some-after_double_quote_len c =
    string_answer c.in-Some.first.now c.in-Some.rest.now c.args.bytes.now c.in-Some.ensures.cases.0
    (sym c.begins_word.ensures ∙ c.if-begins_word.false) (sym c.is_decimal.ensures ∙ c.if-is_decimal.false) c.if-first-eq39.false c.if-first-eq34.true
    (Some c.in-Some-after_double_quote_len.len) c.in-Some-after_double_quote_len.ensures

pub returns-in-None-after_double_quote_len : goal.returns-in-None-after_double_quote_len
returns-in-None-after_double_quote_len c =
    string_answer c.in-Some.first.now c.in-Some.rest.now c.args.bytes.now c.in-Some.ensures.cases.0
    (sym c.begins_word.ensures ∙ c.if-begins_word.false) (sym c.is_decimal.ensures ∙ c.if-is_decimal.false) c.if-first-eq39.false c.if-first-eq34.true None c.in-None-after_double_quote_len.ensures

pub returns : goal.returns
returns c =
    mark_answer c.in-Some.first.now c.in-Some.rest.now c.args.bytes.now c.in-Some.ensures.cases.0 c.longest_in.result (words_of c.marks.result.now)
    (sym c.begins_word.ensures ∙ c.if-begins_word.false) (sym c.is_decimal.ensures ∙ c.if-is_decimal.false) c.if-first-eq39.false c.if-first-eq34.false c.marks.ensures c.longest_in.ensures
