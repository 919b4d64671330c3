use Rattle.std.proofs.Common.{◌≡◌, ◌+◌, ◌-◌, length, take, drop, None, ◌∙◌, ap, arith, length-drop}
use Rattle.c_tokens.specs.Directives.{Names, first_line, lines_of, lines_give}
use Rattle.c_tokens.specs.Reading.{names_of}
use Rattle.c_tokens.proofs.NameLemmas.{names_of-empty}
use Rattle.c_tokens.proofs.LineLemmas.{rest_of, first_line-len, line_of, lines-start, lines-step, lines-end}
use Rattle.c_tokens.proofs.directives.read_lines.Goals as goal

pub loop-at-init : goal.loop-at-init
loop-at-init c = record {
  inside = omega arith;
  lines =
      let none : Names = λ _. None in
      lines-start c.args.text.now c.args.tokens.now c.new-read.result.items none (names_of c.new-names.result) c.new-read.ensures.items (names_of-empty c.new-names.result c.new-names.ensures.empty);
}

pub loop-at-preserved : goal.loop-at-preserved
loop-at-preserved c =
    let none : Names = λ _. None in
    let text = c.args.text.now in
    let tokens = c.args.tokens.now in
    let at = c.loop-at.at in
    let len = c.first_line_len-len.result in
    let count : len ≡ length (first_line text (drop at tokens)) = c.first_line_len-len.ensures ∙ ap (λ x. length (first_line text x)) (rest_of at tokens) in
    record {
      inside = (let w = (first_line-len text (drop at tokens) (let d = length-drop at tokens in let l = c.loop-at-test.true in omega (arith, d, l))).1 in let d = length-drop at tokens in let l = c.loop-at-test.true in omega (arith, w, d, l, count));
      lines =
          lines-step text (lines_give text none (lines_of text tokens)) tokens c.loop-at.read.items c.read_line.new.read.items (names_of c.loop-at.names) (names_of c.read_line.new.names) at len
          (take (at + len - at) (drop at tokens)) c.loop-at-test.true c.loop-at.invariant.lines count (line_of text tokens at len count) c.in_ok-read_line.ensures.gained c.in_ok-read_line.ensures.names;
    }

pub returns : goal.returns
returns c =
    let none : Names = λ _. None in
    lines-end c.args.text.now (lines_give c.args.text.now none (lines_of c.args.text.now c.args.tokens.now)) c.args.tokens.now c.loop-at.read.items (names_of c.loop-at.names) c.loop-at.at
    c.loop-at-test.false c.loop-at.invariant.lines
