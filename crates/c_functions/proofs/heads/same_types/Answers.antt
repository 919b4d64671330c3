use Rattle.std.proofs.Common.{◌∙◌, sym, inl, inr}
use Rattle.c_functions.proofs.Types.{same_ends}
use Rattle.c_functions.proofs.heads.same_types.Goals as goal
use Rattle.c_functions.proofs.heads.same_types.Goals.{then-loop-i-test+else-i-b, else-loop-i-test}

pub returns : goal.returns
returns c =
    sym (c.loop-i.invariant.0 ∙ same_ends c.args.a.now c.args.b.now c.loop-i.i c.loop-i.invariant.1.0 c.loop-i.invariant.1.1 (elim c.loop-i-test.branch [ then-loop-i-test+else-i-b w ↦ inr w.if-i-b.false | else-loop-i-test w ↦ inl w.loop-i-test.false ]))
