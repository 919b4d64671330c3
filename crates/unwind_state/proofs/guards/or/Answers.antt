use Rattle.std.proofs.Common.{sym, subst}
use Rattle.std.specs.Prelude.{bit_or}
use Rattle.unwind_state.specs.declared.state.Guard.{Guard}
use Rattle.unwind_state.specs.declared.state.Guard.TheVariants.{Always}
use Rattle.unwind_state.specs.Guards.{IsGuard, bit_at}
use Rattle.unwind_state.proofs.Gates.{or_always, always_or, never_or}
use Rattle.unwind_state.proofs.guards.or.Goals as goal

pub returns-in-Always-default-2 : goal.returns-in-Always-default-2
returns-in-Always-default-2 c =
    subst (λ (g : Guard). IsGuard c.args.net.now c.args.net.now Always (λ v. bit_or (bit_at v g) (bit_at v c.args.b))) (sym c.in-Always-default.is-0) (or_always c.args.net.now c.args.b c.len.ensures.proper c.requires.second)

pub returns-in_default-Always : goal.returns-in_default-Always
returns-in_default-Always c =
    subst (λ (g : Guard). IsGuard c.args.net.now c.args.net.now Always (λ v. bit_or (bit_at v c.args.a) (bit_at v g))) (sym c.in_default-Always.is-1) (always_or c.args.net.now c.args.a c.len.ensures.proper c.requires.first)

pub returns-in_default-Never-2 : goal.returns-in_default-Never-2
returns-in_default-Never-2 c =
    subst (λ (g : Guard). IsGuard c.args.net.now c.args.net.now c.args.a (λ v. bit_or (bit_at v c.args.a) (bit_at v g))) (sym c.in_default-Never.is-1) (never_or c.args.net.now c.args.a c.len.ensures.proper c.requires.first)
