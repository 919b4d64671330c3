use Rattle.std.proofs.Common.{sym, subst, ◌<◌, ◌≤◌, length}
use Rattle.text_scan.specs.declared.pieces.Piece.{Piece}
use Rattle.text_scan.proofs.PieceLemmas.{longest_of-len}
use Rattle.text_scan.proofs.pieces.piece_at.Goals as goal

pub returns-in-Some-clause-some : goal.returns-in-Some-clause-some
returns-in-Some-clause-some g c =
    subst (λ (p : Piece). 0 < p.len) (sym c.token.ensures) (longest_of-len g.R.TokenRules.kind_of c.args.bytes.now c.in-Some.kind c.in-Some.len (sym c.in-Some.ensures)).0

pub returns-in-Some-clause-within : goal.returns-in-Some-clause-within
returns-in-Some-clause-within g c =
    subst (λ (p : Piece). p.len ≤ length c.args.bytes.now) (sym c.token.ensures) (longest_of-len g.R.TokenRules.kind_of c.args.bytes.now c.in-Some.kind c.in-Some.len (sym c.in-Some.ensures)).1
