use Rattle.std.proofs.Common.{◌≡◌, take, map}
use Rattle.joint_ir.specs.Types.{converted}
use Rattle.joint_ir.specs.Views.{word_number}
use Rattle.joint_view.proofs.mirror.mirror_row.Given as goal

abbrev pub invariant-loop-n : goal.invariant-loop-n
invariant-loop-n l = l.row.items ≡ map (λ n. converted l.ty (word_number l.signal n)) (take l.n-index l.numbers)
