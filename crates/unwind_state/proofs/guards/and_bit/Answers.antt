use Rattle.std.proofs.Common.{sym, subst}
use Rattle.std.specs.Prelude.{bit_and}
use Rattle.sized_terms.specs.Sized.{bits}
use Rattle.unwind_state.specs.declared.state.Guard.{Guard}
use Rattle.unwind_state.specs.declared.state.Guard.TheVariants.{When}
use Rattle.unwind_state.specs.Guards.{IsGuard, bit_at}
use Rattle.unwind_state.proofs.Gates.{and_always}
use Rattle.unwind_state.proofs.guards.and_bit.Goals as goal

pub returns-in-Always : goal.returns-in-Always
returns-in-Always c =
    subst (λ (g : Guard). IsGuard c.args.net.now c.args.net.now (When c.args.set) (λ v. bit_and (bit_at v g) (bits v c.args.set))) (sym c.in-Always.is) (and_always c.args.net.now c.args.set c.len.ensures.proper c.requires.set c.requires.one)
