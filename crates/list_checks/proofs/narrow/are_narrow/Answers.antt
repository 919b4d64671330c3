use Rattle.std.proofs.Common.{refl, subst, arith}
use Rattle.std.proofs.lemmas.Option.{slice_get_within}
use Rattle.list_checks.specs.Narrow.{IsNarrow}
use Rattle.list_checks.proofs.narrow.are_narrow.Goals as goal

pub is_narrow-requires : goal.is_narrow-requires
is_narrow-requires c = (c.requires c.loop-k.k c.get.result c.get.ensures).act

pub returns : goal.returns
returns c = (
  λ yes. record {
    at = λ k s x at free.
        let l = slice_get_within c.args.list.now k s at in
        subst (IsNarrow c.args.terms.now) free (c.loop-k.invariant k s (omega (arith, c.loop-k-test.false, c.len-k-end.ensures)) at);
  },
  λ is. refl,
)
