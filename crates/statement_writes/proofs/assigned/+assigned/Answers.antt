use Rattle.std.proofs.Common.{arith, refl, sym, ap, ◌∙◌}
use Rattle.std.specs.Prelude.{◌||◌}
use Rattle.std.proofs.lemmas.Grind.{common_steps}
use Rattle.std.proofs.lemmas.Result.{on_ok_weaker}
use Rattle.bit_sets.specs.Sets.{is_in}
use Rattle.v_views.specs.Spots.{spot}
use Rattle.v_views.specs.declared.Stmt.{the_lemmas}
use Rattle.flat_language.proofs.Local.{flat_language}
use Rattle.flat_values.specs.Fits.{shapes_of}
use Rattle.statement_writes.proofs.Statements.{adds_both, assigns-block, assigns-if, assigns-if-else, assigns-case, item-values, item-default, fits-block, fits-if, fits-if-else, fits-case, fits-values, fits-default}
use Rattle.statement_writes.proofs.assigned.+assigned.Goals as goal

pub add_assigned-add_body-requires : goal.add_assigned-add_body-requires
add_assigned-add_body-requires t c = (grind (the_lemmas, arith, common_steps), (fits-block c.args.signals.now _ _ _ _ c.in-Block.is c.as_slice.ensures c.requires.fits, c.requires.within))

pub add_assigned-add_assigned-requires : goal.add_assigned-add_assigned-requires
add_assigned-add_assigned-requires t c = (grind (the_lemmas, arith, common_steps), (fits-if c.args.signals.now _ _ _ _ _ c.in-If.is c.get.ensures c.requires.fits, c.requires.within))

pub add_assigned-add_assigned-requires-in-IfElse : goal.add_assigned-add_assigned-requires-in-IfElse
add_assigned-add_assigned-requires-in-IfElse t c = (grind (the_lemmas, arith, common_steps), ((fits-if-else c.args.signals.now _ _ _ _ _ _ _ c.in-IfElse.is c.get-in-IfElse.ensures refl c.requires.fits).0, c.requires.within))

pub add_assigned-add_assigned-requires-in-IfElse-2 : goal.add_assigned-add_assigned-requires-in-IfElse-2
add_assigned-add_assigned-requires-in-IfElse-2 t c = (grind (the_lemmas, arith, common_steps), ((fits-if-else c.args.signals.now _ _ _ _ _ _ _ c.in-IfElse.is refl c.get-in-IfElse-2.ensures c.requires.fits).1, c.in_ok-add_assigned-in-IfElse.ensures.within))

pub add_assigned-add_items-requires : goal.add_assigned-add_items-requires
add_assigned-add_items-requires t c = (grind (the_lemmas, arith, common_steps), (fits-case c.args.signals.now _ _ _ _ _ c.in-Case.is c.as_slice-in-Case.ensures c.requires.fits, c.requires.within))

pub add_item-add_assigned-requires : goal.add_item-add_assigned-requires
add_item-add_assigned-requires t c = (grind (the_lemmas, arith, common_steps), (fits-values c.args.signals.now _ _ _ _ c.in-Values.is c.get.ensures c.requires.fits, c.requires.within))

pub add_item-add_assigned-requires-in-Default : goal.add_item-add_assigned-requires-in-Default
add_item-add_assigned-requires-in-Default t c = (grind (the_lemmas, arith, common_steps), (fits-default c.args.signals.now _ _ _ _ c.in-Default.is c.get-in-Default.ensures c.requires.fits, c.requires.within))

pub add_assigned-returns-in-Block-clause-adds : goal.add_assigned-returns-in-Block-clause-adds
add_assigned-returns-in-Block-clause-adds t c =
    let l = flat_language (shapes_of c.args.signals.now) in
    on_ok_weaker c.add_body.result (λ a h k. a h k ∙ ap (λ b. is_in c.args.set.now.items h k || b) (sym (assigns-block l c.args.by (spot h 0 k) _ _ _ _ c.in-Block.is c.as_slice.ensures))) c.add_body.ensures.adds

pub add_assigned-returns-in-If-clause-adds : goal.add_assigned-returns-in-If-clause-adds
add_assigned-returns-in-If-clause-adds t c =
    let l = flat_language (shapes_of c.args.signals.now) in
    on_ok_weaker c.add_assigned.result (λ a h k. a h k ∙ ap (λ b. is_in c.args.set.now.items h k || b) (sym (assigns-if l c.args.by (spot h 0 k) _ _ _ _ _ c.in-If.is c.get.ensures))) c.add_assigned.ensures.adds

pub add_assigned-returns-in_ok-add_assigned-in-IfElse-clause-adds : goal.add_assigned-returns-in_ok-add_assigned-in-IfElse-clause-adds
add_assigned-returns-in_ok-add_assigned-in-IfElse-clause-adds t c =
    let l = flat_language (shapes_of c.args.signals.now) in
    on_ok_weaker c.add_assigned-in-IfElse-2.result
    (λ a h k.
    adds_both _ _ _ _ _ (c.in_ok-add_assigned-in-IfElse.ensures.adds h k) (a h k)
    ∙ ap (λ b. is_in c.args.set.now.items h k || b) (sym (assigns-if-else l c.args.by (spot h 0 k) _ _ _ _ _ _ _ c.in-IfElse.is c.get-in-IfElse.ensures c.get-in-IfElse-2.ensures)))
    c.add_assigned-in-IfElse-2.ensures.adds

pub add_assigned-returns-in-Case-clause-adds : goal.add_assigned-returns-in-Case-clause-adds
add_assigned-returns-in-Case-clause-adds t c =
    let l = flat_language (shapes_of c.args.signals.now) in
    on_ok_weaker c.add_items.result (λ a h k. a h k ∙ ap (λ b. is_in c.args.set.now.items h k || b) (sym (assigns-case l c.args.by (spot h 0 k) _ _ _ _ _ c.in-Case.is c.as_slice-in-Case.ensures))) c.add_items.ensures.adds

pub add_item-returns-in-Values-clause-adds : goal.add_item-returns-in-Values-clause-adds
add_item-returns-in-Values-clause-adds t c =
    let l = flat_language (shapes_of c.args.signals.now) in
    on_ok_weaker c.add_assigned.result (λ a h k. a h k ∙ ap (λ b. is_in c.args.set.now.items h k || b) (sym (item-values l c.args.by (spot h 0 k) _ _ _ _ c.in-Values.is c.get.ensures))) c.add_assigned.ensures.adds

pub add_item-returns-in-Default-clause-adds : goal.add_item-returns-in-Default-clause-adds
add_item-returns-in-Default-clause-adds t c =
    let l = flat_language (shapes_of c.args.signals.now) in
    on_ok_weaker c.add_assigned-in-Default.result (λ a h k. a h k ∙ ap (λ b. is_in c.args.set.now.items h k || b) (sym (item-default l c.args.by (spot h 0 k) _ _ _ _ c.in-Default.is c.get-in-Default.ensures))) c.add_assigned-in-Default.ensures.adds
