use Rattle.std.proofs.Common.{arith, refl, sym, ap, ◌∙◌}
use Rattle.std.specs.Prelude.{◌||◌}
use Rattle.std.proofs.lemmas.Grind.{common_steps}
use Rattle.std.proofs.lemmas.Result.{on_ok_weaker}
use Rattle.bit_sets.specs.Sets.{is_in}
use Rattle.v_views.specs.Spots.{spot}
use Rattle.v_views.specs.declared.Stmt.{the_lemmas}
use Rattle.flat_language.proofs.Local.{flat_language}
use Rattle.flat_values.specs.Fits.{shapes_of}
use Rattle.statement_reads.proofs.Indexes.{adds_both, adds_three}
use Rattle.statement_reads.proofs.Parts.{reads-block, reads-if, reads-if-else, reads-case, reads-assignment, item-values, item-default, fits-block, fits-if, fits-if-else, fits-case, fits-values, fits-default}
use Rattle.statement_reads.proofs.statements.+reads.Goals as goal

pub add_statement_reads-add_body-requires : goal.add_statement_reads-add_body-requires
add_statement_reads-add_body-requires t c = (grind (the_lemmas, arith, common_steps), (fits-block c.args.signals.now _ _ _ _ c.in-Block.is c.as_slice.ensures c.requires.fits, c.requires.within))

pub add_statement_reads-add_statement_reads-requires : goal.add_statement_reads-add_statement_reads-requires
add_statement_reads-add_statement_reads-requires t c = (grind (the_lemmas, arith, common_steps), ((fits-if c.args.signals.now _ _ _ _ _ c.in-If.is c.get.ensures c.requires.fits).1, c.in_ok-add_reads-in-If.ensures.within))

pub add_statement_reads-add_statement_reads-requires-in-IfElse : goal.add_statement_reads-add_statement_reads-requires-in-IfElse
add_statement_reads-add_statement_reads-requires-in-IfElse t c = (grind (the_lemmas, arith, common_steps), ((fits-if-else c.args.signals.now _ _ _ _ _ _ _ c.in-IfElse.is c.get-in-IfElse.ensures refl c.requires.fits).1, c.in_ok-add_reads-in-IfElse.ensures.within))

pub add_statement_reads-add_statement_reads-requires-in-IfElse-2 : goal.add_statement_reads-add_statement_reads-requires-in-IfElse-2
add_statement_reads-add_statement_reads-requires-in-IfElse-2 t c = (grind (the_lemmas, arith, common_steps), ((fits-if-else c.args.signals.now _ _ _ _ _ _ _ c.in-IfElse.is refl c.get-in-IfElse-2.ensures c.requires.fits).2, c.in_ok-add_statement_reads-in-IfElse.ensures.within))

pub add_statement_reads-add_items-requires : goal.add_statement_reads-add_items-requires
add_statement_reads-add_items-requires t c = (grind (the_lemmas, arith, common_steps), ((fits-case c.args.signals.now _ _ _ _ _ c.in-Case.is c.as_slice-in-Case.ensures c.requires.fits).1, c.in_ok-add_reads-in-Case.ensures.within))

pub add_item-add_statement_reads-requires : goal.add_item-add_statement_reads-requires
add_item-add_statement_reads-requires t c = (grind (the_lemmas, arith, common_steps), ((fits-values c.args.signals.now _ _ _ _ _ c.in-Values.is refl c.get.ensures c.requires.fits).1, c.in_ok-add_patterns-in-Values.ensures.within))

pub add_item-add_statement_reads-requires-in-Default : goal.add_item-add_statement_reads-requires-in-Default
add_item-add_statement_reads-requires-in-Default t c = (grind (the_lemmas, arith, common_steps), (fits-default c.args.signals.now _ _ _ _ c.in-Default.is c.get-in-Default.ensures c.requires.fits, c.requires.within))

pub add_statement_reads-returns-in-Block-clause-adds : goal.add_statement_reads-returns-in-Block-clause-adds
add_statement_reads-returns-in-Block-clause-adds t c =
    let l = flat_language (shapes_of c.args.signals.now) in
    on_ok_weaker c.add_body.result (λ a h k. a h k ∙ ap (λ b. is_in c.args.set.now.items h k || b) (sym (reads-block l (spot h 0 k) _ _ _ _ c.in-Block.is c.as_slice.ensures))) c.add_body.ensures.adds

pub add_statement_reads-returns-in_ok-add_reads-in-If-clause-adds : goal.add_statement_reads-returns-in_ok-add_reads-in-If-clause-adds
add_statement_reads-returns-in_ok-add_reads-in-If-clause-adds t c =
    let l = flat_language (shapes_of c.args.signals.now) in
    on_ok_weaker c.add_statement_reads.result
    (λ a h k.
    adds_both _ _ _ _ _ (c.in_ok-add_reads-in-If.ensures.adds h k) (a h k)
    ∙ ap (λ b. is_in c.args.set.now.items h k || b) (sym (reads-if l (spot h 0 k) _ _ _ _ _ c.in-If.is c.get.ensures)))
    c.add_statement_reads.ensures.adds

pub add_statement_reads-returns-in_ok-add_statement_reads-in-IfElse-clause-adds : goal.add_statement_reads-returns-in_ok-add_statement_reads-in-IfElse-clause-adds
add_statement_reads-returns-in_ok-add_statement_reads-in-IfElse-clause-adds t c =
    let l = flat_language (shapes_of c.args.signals.now) in
    on_ok_weaker c.add_statement_reads-in-IfElse-2.result
    (λ a h k.
    adds_three _ _ _ _ _ _ _ (c.in_ok-add_reads-in-IfElse.ensures.adds h k) (c.in_ok-add_statement_reads-in-IfElse.ensures.adds h k) (a h k)
    ∙ ap (λ b. is_in c.args.set.now.items h k || b) (sym (reads-if-else l (spot h 0 k) _ _ _ _ _ _ _ c.in-IfElse.is c.get-in-IfElse.ensures c.get-in-IfElse-2.ensures)))
    c.add_statement_reads-in-IfElse-2.ensures.adds

pub add_statement_reads-returns-in_ok-add_reads-in-Case-clause-adds : goal.add_statement_reads-returns-in_ok-add_reads-in-Case-clause-adds
add_statement_reads-returns-in_ok-add_reads-in-Case-clause-adds t c =
    let l = flat_language (shapes_of c.args.signals.now) in
    on_ok_weaker c.add_items.result
    (λ a h k.
    adds_both _ _ _ _ _ (c.in_ok-add_reads-in-Case.ensures.adds h k) (a h k)
    ∙ ap (λ b. is_in c.args.set.now.items h k || b) (sym (reads-case l (spot h 0 k) _ _ _ _ _ c.in-Case.is c.as_slice-in-Case.ensures)))
    c.add_items.ensures.adds

pub add_statement_reads-returns-in_ok-add_target_reads-in-Assignment-clause-adds : goal.add_statement_reads-returns-in_ok-add_target_reads-in-Assignment-clause-adds
add_statement_reads-returns-in_ok-add_target_reads-in-Assignment-clause-adds t c =
    let l = flat_language (shapes_of c.args.signals.now) in
    on_ok_weaker c.add_reads-in-Assignment.result
    (λ a h k.
    adds_both _ _ _ _ _ (c.in_ok-add_target_reads-in-Assignment.ensures.adds h k) (a h k)
    ∙ ap (λ b. is_in c.args.set.now.items h k || b) (sym (reads-assignment l (spot h 0 k) _ _ _ _ _ c.in-Assignment.is)))
    c.add_reads-in-Assignment.ensures.adds

pub add_item-returns-in_ok-add_patterns-in-Values-clause-adds : goal.add_item-returns-in_ok-add_patterns-in-Values-clause-adds
add_item-returns-in_ok-add_patterns-in-Values-clause-adds t c =
    let l = flat_language (shapes_of c.args.signals.now) in
    on_ok_weaker c.add_statement_reads.result
    (λ a h k.
    adds_both _ _ _ _ _ (c.in_ok-add_patterns-in-Values.ensures.adds h k) (a h k)
    ∙ ap (λ b. is_in c.args.set.now.items h k || b) (sym (item-values l (spot h 0 k) _ _ _ _ _ c.in-Values.is c.as_slice.ensures c.get.ensures)))
    c.add_statement_reads.ensures.adds

pub add_item-returns-in-Default-clause-adds : goal.add_item-returns-in-Default-clause-adds
add_item-returns-in-Default-clause-adds t c =
    let l = flat_language (shapes_of c.args.signals.now) in
    on_ok_weaker c.add_statement_reads-in-Default.result (λ a h k. a h k ∙ ap (λ b. is_in c.args.set.now.items h k || b) (sym (item-default l (spot h 0 k) _ _ _ _ c.in-Default.is c.get-in-Default.ensures))) c.add_statement_reads-in-Default.ensures.adds

pub add_item-add_patterns-requires-clause-fits : goal.add_item-add_patterns-requires-clause-fits
add_item-add_patterns-requires-clause-fits t c = (fits-values c.args.signals.now _ _ _ _ _ c.in-Values.is c.as_slice.ensures refl c.requires.fits).0

pub add_statement_reads-add_reads-requires-clause-fits : goal.add_statement_reads-add_reads-requires-clause-fits
add_statement_reads-add_reads-requires-clause-fits t c = (fits-if c.args.signals.now _ _ _ _ _ c.in-If.is refl c.requires.fits).0

pub add_statement_reads-add_reads-requires-in-IfElse-clause-fits : goal.add_statement_reads-add_reads-requires-in-IfElse-clause-fits
add_statement_reads-add_reads-requires-in-IfElse-clause-fits t c = (fits-if-else c.args.signals.now _ _ _ _ _ _ _ c.in-IfElse.is refl refl c.requires.fits).0
