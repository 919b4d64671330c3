use Rattle.std.proofs.Common.{◌≡◌, ◌<◌, length, take, drop, arith}
use Rattle.std.proofs.lemmas.Grind.{common_steps}
use Rattle.io_edge.proofs.PieceLemmas.{IsNextPiece-copied}
use Rattle.io_edge.proofs.piece.Piece.copy.Goals as goal

pub returns-clause-next : goal.returns-clause-next
returns-clause-next c =
    let some : 0 < c.min-count.result = grind (arith, common_steps) in
    let long : length c.copy_from_slice.new.self ≡ c.min-count.result = grind (arith, common_steps) in
    let is : c.copy_from_slice.new.self ≡ take c.min-count.result (drop c.args.taken c.args.text.now) = grind (arith, common_steps) in
    IsNextPiece-copied c.args.text.now _ _ _ _ c.if-taken-text.false some long is
