use Rattle.std.proofs.Common.{◌<◌, ◌^◌, refl, sym, subst}
use Rattle.std.specs.Prelude.{IfSome}
use Rattle.unrolled.specs.declared.Unrolled.{Unrolled}
use Rattle.unwind_module.specs.Drawing.{IsFirst}
use Rattle.unwind_words.proofs.Drawn.{first_known}
use Rattle.unwind_words.proofs.draws.first_word.Goals as goal

pub returns-in_ok-t-in-Some : goal.returns-in_ok-t-in-Some
returns-in_ok-t-in-Some c =
    let net : Unrolled = record { terms = c.constant.new.terms; list = c.args.net.now.list } in
    let below = subst (λ o. IfSome o (λ n. n < 2 ^ c.args.width)) c.in-Some.is c.requires.first in
    subst (λ o. IsFirst c.args.net.now net o c.args.width c.in_ok-t-in-Some.t) (sym c.in-Some.is) (first_known c.args.net.now net c.args.width c.in-Some.n c.in_ok-t-in-Some.t c.in_ok-t-in-Some.ensures refl below)
