use Rattle.std.proofs.Common.{◌≡◌, ◌++◌, [], ◌∙◌, ap, false, true}
use Rattle.std.specs.Prelude.{slice_index_or}
use Rattle.joint_ir.specs.declared.module.Role.TheVariants.{Clock}
use Rattle.joint_ir.specs.Views.{same_role, shown_words}
use Rattle.joint_view.proofs.Rows.{shown_more, shown_same}
use Rattle.joint_view.proofs.seen.all_shown.Goals as goal
use Rattle.joint_view.proofs.seen.all_shown.Goals.{then-not-is_clock+in_ok-show, else-not-is_clock}

pub loop-k-preserved : goal.loop-k-preserved
loop-k-preserved c =
    let signals = c.args.signals.now in
    let words = c.args.words.now in
    let s = c.index-signals-k.result in
    let k = c.loop-k.k in
    elim c.if-not-is_clock.branch [
      | then-not-is_clock+in_ok-show w ↦
          let e : same_role Clock s.role ≡ false = cc in
          let is : c.if-not-is_clock.list ≡ c.loop-k.list ++ shown_words k 0 (slice_index_or words k []) =
          w.list-is ∙ w.in_ok-show.ensures ∙ ap (λ l. c.loop-k.list ++ shown_words k 0 l) w.words_at.ensures in
          shown_more signals words c.loop-k.list _ k s c.loop-k-test.true c.index-signals-k.is c.loop-k.invariant c.if-not-is_clock.list e is
      | else-not-is_clock w ↦
          let e : same_role Clock s.role ≡ true = cc in
          let same = shown_same signals words c.loop-k.list _ k s c.loop-k-test.true c.index-signals-k.is c.loop-k.invariant e in
          rw w.list-is same
    ]
