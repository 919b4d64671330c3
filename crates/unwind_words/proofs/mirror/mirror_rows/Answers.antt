use Rattle.std.proofs.Common.{◌≡◌, ◌+◌, Some, sym, subst}
use Rattle.std.specs.Prelude.{slice_get}
use Rattle.unwind_module.proofs.Terms.{grows_adds}
use Rattle.unwind_words.specs.Rows.{signal_widths}
use Rattle.unwind_words.proofs.Rows.{rows_kept}
use Rattle.unwind_words.proofs.Links.{stands_there}
use Rattle.unwind_words.proofs.Showing.{AreMembers, one_member}
use Rattle.unwind_words.proofs.mirror.mirror_rows.Goals as goal

pub shown_member-requires-clause-rows : goal.shown_member-requires-clause-rows
shown_member-requires-clause-rows c =
    rows_kept c.args.net.now.terms c.loop-place.net.terms c.args.rows.now (signal_widths c.args.pair.now.module.signals) (grows_adds c.args.net.now c.loop-place.net c.loop-place.invariant.adds) c.requires.rows

pub shown_member-requires-clause-there : goal.shown_member-requires-clause-there
shown_member-requires-clause-there c =
    subst (λ l. slice_get l c.loop-place.place ≡ Some c.index-members-place.result) c.all_members-members.ensures
    (stands_there c.all_members-members.result.now c.loop-place.place c.index-members-place.result c.loop-place-test.true c.index-members-place.is)

pub loop-place-preserved : goal.loop-place-preserved
loop-place-preserved c =
    let p = c.args.pair.now in
    let members = c.all_members-members.result.now in
    subst (λ l. AreMembers p c.args.net.now c.shown_member.new.net c.args.rows.now members (c.loop-place.place + 1) l) (sym c.in_ok-push.ensures.items)
    (one_member p c.args.net.now c.loop-place.net c.shown_member.new.net c.args.rows.now members c.loop-place.place c.loop-place.shown.items c.index-members-place.result c.in_ok-ids.ids c.loop-place-test.true c.index-members-place.is c.loop-place.invariant c.in_ok-ids.ensures)
