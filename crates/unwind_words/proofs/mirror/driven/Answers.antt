use Rattle.std.proofs.Common.{◌≡◌, ◌+◌, ◌<◌, Some, true, false, length, get_or, sym, ap, ◌∙◌, subst}
use Rattle.std.specs.Prelude.{slice_get}
use Rattle.std.proofs.lemmas.List.{get_or_default}
use Rattle.word_eqs.specs.declared.term.TermId.{TermId}
use Rattle.joint_ir.specs.declared.module.Role.TheVariants.{Input}
use Rattle.joint_ir.specs.Views.{same_role, members_of}
use Rattle.joint_ir.specs.WellFormed.{FitsSignal}
use Rattle.unwind_module.proofs.Terms.{grows_adds}
use Rattle.unwind_words.specs.Rows.{member_widths}
use Rattle.unwind_words.proofs.Rows.{rows_kept}
use Rattle.unwind_words.proofs.Links.{stands_there, all_there}
use Rattle.unwind_words.proofs.Showing.{AreInputs, no_input, input_there, one_input}
use Rattle.unwind_words.proofs.mirror.driven.Goals as goal
use Rattle.unwind_words.proofs.mirror.driven.Goals.{then-is_input+in_ok-t+in_ok-push, else-is_input}

pub driven_input-requires-clause-members : goal.driven_input-requires-clause-members
driven_input-requires-clause-members c =
    rows_kept c.args.net.now.terms c.loop-k.net.terms c.args.members.now (member_widths (members_of c.args.pair.now.program.mirror)) (grows_adds c.args.net.now c.loop-k.net c.loop-k.invariant.adds) c.requires.members

pub driven_input-requires-clause-there : goal.driven_input-requires-clause-there
driven_input-requires-clause-there c =
    subst (λ l. slice_get l c.loop-k.k ≡ Some c.index-signals-k.result) c.as_slice-signals.ensures
    (stands_there c.as_slice-signals.result.now c.loop-k.k c.index-signals-k.result c.loop-k-test.true c.index-signals-k.is)

pub loop-k-preserved : goal.loop-k-preserved
loop-k-preserved c =
    let p = c.args.pair.now in
    let signals = p.module.signals in
    let k = c.loop-k.k in
    let s = c.index-signals-k.result in
    let n0 = c.args.net.now in
    let n1 = c.loop-k.net in
    let members = c.args.members.now in
    let inputs = c.args.inputs.now in
    let ids = c.loop-k.ids in
    let A = c.loop-k.invariant in
    let lt : k < length signals = subst (λ l. k < length l) c.as_slice-signals.ensures c.loop-k-test.true in
    let at : s ≡ get_or signals k s = subst (λ l. s ≡ get_or l k s) c.as_slice-signals.ensures c.index-signals-k.is in
    let fits : FitsSignal s = all_there FitsSignal signals k s c.requires.well.module_.signals (stands_there signals k s lt at) in
    elim c.if-is_input.branch [
      | then-is_input+in_ok-t+in_ok-push w ↦
          let is : same_role Input s.role ≡ true = sym w.if-is_input.ensures in
          let d : TermId = record { 0 = 0 } in
          let j = w.len-then-is_input.result in
          let old = get_or inputs j d in
          let there = input_there p n0 n1 members inputs k ids s lt at A fits is in
          let e : old ≡ get_or inputs (length ids) old = ap (λ j. get_or inputs j d) w.len-then-is_input.ensures ∙ get_or_default inputs (length ids) d old there in
          let B = one_input p n0 n1 members inputs k ids s lt at A fits is w.driven_input.new.net old w.in_ok-t.t e w.in_ok-t.ensures in
          subst (λ n. AreInputs p n0 n members inputs (k + 1) c.if-is_input.ids) (sym w.net-is)
          (subst (λ l. AreInputs p n0 w.driven_input.new.net members inputs (k + 1) l) (sym (w.ids-is ∙ w.in_ok-push.ensures.ok)) B)
      | else-is_input w ↦
          let is : same_role Input s.role ≡ false = sym w.if-is_input.ensures in
          let B = no_input p n0 n1 members inputs k ids s lt at A is in
          subst (λ n. AreInputs p n0 n members inputs (k + 1) c.if-is_input.ids) (sym w.net-is) (subst (λ l. AreInputs p n0 n1 members inputs (k + 1) l) (sym w.ids-is) B)
    ]
