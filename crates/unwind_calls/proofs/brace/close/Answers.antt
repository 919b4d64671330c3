use Rattle.std.proofs.Common.{true, refl, sym, subst}
use Rattle.std.specs.Prelude.{Option, IfSome}
use Rattle.joint_ir.specs.declared.ctype.IntType.{IntType}
use Rattle.joint_ir.specs.declared.way.Way.TheVariants.{Next}
use Rattle.joint_ir.specs.Types.{IsType, Single}
use Rattle.unrolled.specs.declared.Unrolled.{Unrolled}
use Rattle.unwind_calls.specs.Calls.{IsClosing}
use Rattle.unwind_calls.proofs.Closing.{nought_made, end_guard, close_none, close_some}
use Rattle.unwind_calls.proofs.brace.close.Goals as goal

pub literal-requires-clause-ty : goal.literal-requires-clause-ty
literal-requires-clause-ty c = Single true

pub end_value-requires-clause-guard : goal.end_value-requires-clause-guard
end_value-requires-clause-guard c = c.in_ok-all-in-Some.ensures.has Next

pub chosen-requires-clause-guard : goal.chosen-requires-clause-guard
chosen-requires-clause-guard c =
    let all = c.in_ok-all-in-Some.all in
    end_guard c.gathered.new.net c.end_value.new.net c.args.is_main c.in-Some.ty all.next all.next c.in_ok-end-in-Some.end c.in_ok-end-in-Some.ensures (c.in_ok-all-in-Some.ensures.has Next)

pub returns-in_ok-t-in-None : goal.returns-in_ok-t-in-None
returns-in_ok-t-in-None c =
    let net : Unrolled = record { terms = c.literal.new.terms; list = c.args.net.now.list } in
    subst (λ (o : Option IntType). IsClosing c.args.net.now net c.args.is_main o c.args.ways c.args.returned c.in_ok-t-in-None.t) (sym c.in-None.is)
    (close_none c.args.net.now net c.args.is_main c.args.ways c.args.returned c.in_ok-t-in-None.t (nought_made c.args.net.now net _ c.in_ok-t-in-None.t refl c.in_ok-t-in-None.ensures))

pub returns-in_ok-t-in-Some : goal.returns-in_ok-t-in-Some
returns-in_ok-t-in-Some c =
    let ty = c.in-Some.ty in
    let all = c.in_ok-all-in-Some.all in
    subst (λ (o : Option IntType). IsClosing c.args.net.now c.chosen.new.net c.args.is_main o c.args.ways c.args.returned c.in_ok-t-in-Some.t) (sym c.in-Some.is)
    (close_some c.args.net.now c.gathered.new.net c.end_value.new.net c.chosen.new.net ty c.args.ways all c.args.returned c.in_ok-end-in-Some.end c.in_ok-t-in-Some.t c.in_ok-all-in-Some.ensures c.in_ok-t-in-Some.ensures c.args.is_main (subst (λ (o : Option IntType). IfSome o IsType) c.in-Some.is c.requires.typed) c.in_ok-end-in-Some.ensures)
