use Rattle.std.proofs.Common.{◌+◌, ◌<◌, length, take, get_or, sym, subst, arith}
use Rattle.unwind_module.specs.Words.{AreAlike, AreChosen}
use Rattle.unwind_module.proofs.Terms.{grows_adds}
use Rattle.unwind_words.specs.Rows.{AreChosenRows}
use Rattle.unwind_words.proofs.Rows.{alike_kept, alike_rows_length, alike_at, row_chosen, all_rows_chosen}
use Rattle.unwind_words.proofs.choices.choose_rows.Goals as goal

pub bounds-old-k : goal.bounds-old-k
bounds-old-k c = omega (arith, alike_rows_length c.args.net.now.terms c.args.new.now c.args.old.now c.requires.alike, c.loop-k-test.true)

pub choose_all-requires-clause-alike : goal.choose_all-requires-clause-alike
choose_all-requires-clause-alike c =
    let g = c.args.net.now.terms in
    let h = c.loop-k.net.terms in
    let k = c.loop-k.k in
    let a = c.index-new-k.result in
    let b = c.index-old-k.result in
    let at = alike_at g c.args.new.now c.args.old.now k a b c.requires.alike c.loop-k-test.true in
    let there : AreAlike g a b = subst (λ l. AreAlike g l b) (sym c.index-new-k.is) (subst (λ l. AreAlike g (get_or c.args.new.now k a) l) (sym c.index-old-k.is) at) in
    let now = alike_kept g h a b (grows_adds c.args.net.now c.loop-k.net c.loop-k.invariant.adds) there in
    subst (λ l. AreAlike h l c.as_slice-in-loop-k.result.now) (sym c.as_slice.ensures) (subst (λ l. AreAlike h a l) (sym c.as_slice-in-loop-k.ensures) now)

pub loop-k-preserved : goal.loop-k-preserved
loop-k-preserved c =
    let g = c.args.net.now.terms in
    let k = c.loop-k.k in
    let new = c.args.new.now in
    let old = c.args.old.now in
    let a = c.index-new-k.result in
    let b = c.index-old-k.result in
    let lt' : k < length old = omega (arith, alike_rows_length g new old c.requires.alike, c.loop-k-test.true) in
    let at = alike_at g new old k a b c.requires.alike c.loop-k-test.true in
    let there : AreAlike g a b = subst (λ l. AreAlike g l b) (sym c.index-new-k.is) (subst (λ l. AreAlike g (get_or new k a) l) (sym c.index-old-k.is) at) in
    let C : AreChosen c.loop-k.net c.choose_all.new.net c.args.guard a b c.in_ok-ids.ids =
    subst (λ l. AreChosen c.loop-k.net c.choose_all.new.net c.args.guard l b c.in_ok-ids.ids) c.as_slice.ensures
    (subst (λ l. AreChosen c.loop-k.net c.choose_all.new.net c.args.guard c.as_slice.result.now l c.in_ok-ids.ids) c.as_slice-in-loop-k.ensures c.in_ok-ids.ensures) in
    subst (λ l. AreChosenRows c.args.net.now c.choose_all.new.net c.args.guard (take (k + 1) new) (take (k + 1) old) l) (sym c.in_ok-push.ensures.items)
    (row_chosen c.args.net.now c.loop-k.net c.choose_all.new.net c.args.guard new old c.loop-k.rows.items a b c.in_ok-ids.ids k c.loop-k-test.true lt' c.index-new-k.is c.index-old-k.is there c.loop-k.invariant C)

pub returns : goal.returns
returns c =
    all_rows_chosen c.args.net.now c.loop-k.net c.args.guard c.args.new.now c.args.old.now c.loop-k.rows.items c.loop-k.k (omega (arith, c.loop-k-test.false)) (alike_rows_length c.args.net.now.terms c.args.new.now c.args.old.now c.requires.alike) c.loop-k.invariant
