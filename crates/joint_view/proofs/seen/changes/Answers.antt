use Rattle.std.proofs.Common.{sym, ap, ◌∙◌, ◌++◌}
use Rattle.std.proofs.lemmas.List.{append-nil}
use Rattle.std.proofs.lemmas.Slice.Zip.{zip_end}
use Rattle.joint_view.proofs.Rows.{changes_end}
use Rattle.joint_view.proofs.seen.changes.Goals as goal

pub returns : goal.returns
returns c =
    let before = c.args.before.now in
    let after = c.args.after.now in
    let e = zip_end before after c.loop-x.yielded c.into_iter-x-iterator.result c.loop-x.x-iterator c.next.new.self c.next.result (cc) (cc) c.loop-x.yielded_by c.in-None.is c.next.ensures.steps in
    sym (append-nil c.loop-x.list) ∙ ap (λ l. c.loop-x.list ++ l) (sym (changes_end before after _ e)) ∙ c.loop-x.invariant
