use Rattle.unwind_frames.proofs.Slices.{alike_rows_slices, chosen_rows_slices}
use Rattle.unwind_frames.proofs.Refreshing.{mirror_alike, refreshed}
use Rattle.unwind_frames.proofs.views.refresh.Goals as goal

pub choose_rows-requires-clause-alike : goal.choose_rows-requires-clause-alike
choose_rows-requires-clause-alike c =
    let s = c.args.state.now in
    let made = c.in_ok-made.made in
    alike_rows_slices c.filled_view.new.net.terms made.members.items s.objects.members.items c.as_slice.result.now c.as_slice-2.result.now c.as_slice.ensures.value c.as_slice-2.ensures.value
    (mirror_alike c.args.pair.now c.args.net.now c.filled_view.new.net s c.args.sources made c.requires.objects c.requires.words c.in_ok-made.ensures)

pub returns : goal.returns
returns c =
    let s = c.args.state.now in
    let made = c.in_ok-made.made in
    let n1 = c.filled_view.new.net in
    let n2 = c.choose_rows.new.net in
    let members = c.in_ok-members.members in
    let C = chosen_rows_slices n1 n2 c.args.guard made.members.items s.objects.members.items c.as_slice.result.now c.as_slice-2.result.now members.items c.as_slice.ensures.value c.as_slice-2.ensures.value c.in_ok-members.ensures in
    refreshed c.args.pair.now c.args.net.now n1 s c.args.sources made c.requires.objects c.requires.words c.in_ok-made.ensures c.requires.sources n2 c.args.guard members C
