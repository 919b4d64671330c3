use Rattle.std.proofs.Common.{◌≡◌, ◌+◌, sym, ◌∙◌, ap, subst, arith, length-drop}
use Rattle.text_scan.specs.Pieces.{piece_of}
use Rattle.text_scan.specs.Tokens.{fresh_after}
use Rattle.text_scan.proofs.ScanSteps.{rest_is, Parts, parts-start, parts-step, parts-end}
use Rattle.text_scan.proofs.scanner.tokens_of.Goals as goal

pub loop-at-init : goal.loop-at-init
loop-at-init g c = record {
  inside = omega arith;
  parts = parts-start g.R.TokenRules.kind_of g.R.TokenRules.is_blank_line c.args.text.now c.new-tokens.result.items c.new-tokens.ensures.items;
}

pub loop-at-preserved : goal.loop-at-preserved
loop-at-preserved g c = record {
  inside = (let w = c.piece_at-piece.ensures.within in let d = length-drop c.loop-at.at c.args.text.now in omega (arith, w, d));
  parts =
      let rest = rest_is c.loop-at.at c.args.text.now in
      let piece = c.piece_at-piece.result in
      subst (λ b. Parts g.R.TokenRules.kind_of g.R.TokenRules.is_blank_line c.args.text.now c.push_piece.new.tokens.items b (c.loop-at.at + piece.len))
      (ap (λ x. fresh_after piece.kind piece.len c.loop-at.fresh x) (sym rest) ∙ sym c.is_fresh_after-fresh.ensures)
      (parts-step g.R.TokenRules.kind_of g.R.TokenRules.is_blank_line c.args.text.now c.loop-at.tokens.items c.push_piece.new.tokens.items c.loop-at.fresh c.loop-at.at piece
      c.loop-at-test.true c.loop-at.invariant.parts (subst (λ x. piece ≡ piece_of g.R.TokenRules.kind_of g.R.TokenRules.is_blank_line c.loop-at.fresh x) rest c.piece_at-piece.ensures.exact)
      c.piece_at-piece.ensures.some c.in_ok-push_piece.ensures);
}

pub returns : goal.returns
returns g c = parts-end g.R.TokenRules.kind_of g.R.TokenRules.is_blank_line c.args.text.now c.loop-at.tokens.items c.loop-at.fresh c.loop-at.at c.loop-at-test.false c.loop-at.invariant.parts
