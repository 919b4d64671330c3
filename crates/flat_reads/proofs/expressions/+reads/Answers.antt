use Rattle.std.proofs.Common.{arith, refl, sym, ap, ◌∙◌, length}
use Rattle.std.specs.Prelude.{◌||◌}
use Rattle.std.proofs.lemmas.Grind.{common_steps}
use Rattle.std.proofs.lemmas.Result.{on_ok_weaker}
use Rattle.bit_sets.specs.Sets.{is_in}
use Rattle.v_views.specs.Spots.{spot}
use Rattle.flat_tree.specs.declared.expr.FlatExpr.{the_lemmas}
use Rattle.flat_language.specs.Reads.{reads, index_reads}
use Rattle.flat_values.specs.Fits.{shapes_of}
use Rattle.flat_values.proofs.Nodes.{fits-unary, fits-parentheses, fits-signed, fits-unsigned, fits-binary, fits-conditional, fits-concatenation, fits-replication, fits-select, fits-number}
use Rattle.flat_reads.specs.Sets.{IsVector, selected}
use Rattle.flat_reads.proofs.Selecting.{select_index, select_is}
use Rattle.flat_reads.proofs.Adding.{adds_both, adds_three}
use Rattle.flat_reads.proofs.Nodes.{reads-unary, reads-parentheses, reads-signed, reads-unsigned, reads-binary, reads-conditional, reads-concatenation, reads-replication, index-bit, index-up, index-down, readable-bit, readable-up, readable-down, select_index_fits, number_index_fits, parts_fit}
use Rattle.flat_reads.proofs.expressions.+reads.Goals as goal

pub add_index-add_reads-requires : goal.add_index-add_reads-requires
add_index-add_reads-requires t c = (grind (the_lemmas, arith, common_steps), (readable-bit c.args.signals.now _ _ c.in-Bit.is c.get.ensures c.requires.fits, c.requires.within))

pub add_index-add_reads-requires-in-Up : goal.add_index-add_reads-requires-in-Up
add_index-add_reads-requires-in-Up t c = (grind (the_lemmas, arith, common_steps), (readable-up c.args.signals.now _ _ _ c.in-Up.is c.get-in-Up.ensures c.requires.fits, c.requires.within))

pub add_index-add_reads-requires-in-Down : goal.add_index-add_reads-requires-in-Down
add_index-add_reads-requires-in-Down t c = (grind (the_lemmas, arith, common_steps), (readable-down c.args.signals.now _ _ _ c.in-Down.is c.get-in-Down.ensures c.requires.fits, c.requires.within))

pub add_index-returns-in-Bit-clause-adds : goal.add_index-returns-in-Bit-clause-adds
add_index-returns-in-Bit-clause-adds t c =
    let m = shapes_of c.args.signals.now in
    on_ok_weaker c.add_reads.result (λ a h k. a h k ∙ ap (λ b. is_in c.args.set.now.items h k || b) (sym (index-bit m (spot h 0 k) _ _ c.in-Bit.is c.get.ensures))) c.add_reads.ensures.adds

pub add_index-returns-in-Up-clause-adds : goal.add_index-returns-in-Up-clause-adds
add_index-returns-in-Up-clause-adds t c =
    let m = shapes_of c.args.signals.now in
    on_ok_weaker c.add_reads-in-Up.result (λ a h k. a h k ∙ ap (λ b. is_in c.args.set.now.items h k || b) (sym (index-up m (spot h 0 k) _ _ _ c.in-Up.is c.get-in-Up.ensures))) c.add_reads-in-Up.ensures.adds

pub add_index-returns-in-Down-clause-adds : goal.add_index-returns-in-Down-clause-adds
add_index-returns-in-Down-clause-adds t c =
    let m = shapes_of c.args.signals.now in
    on_ok_weaker c.add_reads-in-Down.result (λ a h k. a h k ∙ ap (λ b. is_in c.args.set.now.items h k || b) (sym (index-down m (spot h 0 k) _ _ _ c.in-Down.is c.get-in-Down.ensures))) c.add_reads-in-Down.ensures.adds

pub add_reads-add_index-requires : goal.add_reads-add_index-requires
add_reads-add_index-requires t c =
    let n = length c.args.signals.now in
    let m = shapes_of c.args.signals.now in
    let f = fits-select (IsVector n m) (Unit {0}) (Unit {0}) m _ c.in-Select.g c.in-Select.s c.in-Select.is c.requires.fits in
    (grind (the_lemmas, arith, common_steps), (select_index_fits c.args.signals.now c.in-Select.g c.in-Select.s f.1, c.in_ok-add_selected-in-Select.ensures.within))

pub add_reads-add_index-requires-in-SelectNumber : goal.add_reads-add_index-requires-in-SelectNumber
add_reads-add_index-requires-in-SelectNumber t c =
    let n = length c.args.signals.now in
    let m = shapes_of c.args.signals.now in
    let f = fits-number (IsVector n m) (Unit {0}) (Unit {0}) m _ _ _ c.in-SelectNumber.s c.in-SelectNumber.is c.requires.fits in
    (grind (the_lemmas, arith, common_steps), (number_index_fits c.args.signals.now _ _ c.in-SelectNumber.s f.1, c.requires.within))

pub add_reads-add_reads-requires : goal.add_reads-add_reads-requires
add_reads-add_reads-requires t c =
    let n = length c.args.signals.now in
    let m = shapes_of c.args.signals.now in
    (grind (the_lemmas, arith, common_steps), (fits-unary (IsVector n m) (Unit {0}) (Unit {0}) m _ _ _ c.in-Unary.is c.get.ensures c.requires.fits, c.requires.within))

pub add_reads-add_reads-requires-in-Binary : goal.add_reads-add_reads-requires-in-Binary
add_reads-add_reads-requires-in-Binary t c =
    let n = length c.args.signals.now in
    let m = shapes_of c.args.signals.now in
    (grind (the_lemmas, arith, common_steps), ((fits-binary (IsVector n m) (Unit {0}) (Unit {0}) m _ _ _ _ _ c.in-Binary.is c.get-in-Binary.ensures refl c.requires.fits).0, c.requires.within))

pub add_reads-add_reads-requires-in-Binary-2 : goal.add_reads-add_reads-requires-in-Binary-2
add_reads-add_reads-requires-in-Binary-2 t c =
    let n = length c.args.signals.now in
    let m = shapes_of c.args.signals.now in
    (grind (the_lemmas, arith, common_steps), ((fits-binary (IsVector n m) (Unit {0}) (Unit {0}) m _ _ _ _ _ c.in-Binary.is refl c.get-in-Binary-2.ensures c.requires.fits).1, c.in_ok-add_reads-in-Binary.ensures.within))

pub add_reads-add_reads-requires-in-Conditional : goal.add_reads-add_reads-requires-in-Conditional
add_reads-add_reads-requires-in-Conditional t c =
    let n = length c.args.signals.now in
    let m = shapes_of c.args.signals.now in
    (grind (the_lemmas, arith, common_steps), ((fits-conditional (IsVector n m) (Unit {0}) (Unit {0}) m _ _ _ _ _ _ c.in-Conditional.is c.get-in-Conditional.ensures refl refl c.requires.fits).0, c.requires.within))

pub add_reads-add_reads-requires-in-Conditional-2 : goal.add_reads-add_reads-requires-in-Conditional-2
add_reads-add_reads-requires-in-Conditional-2 t c =
    let n = length c.args.signals.now in
    let m = shapes_of c.args.signals.now in
    (grind (the_lemmas, arith, common_steps), ((fits-conditional (IsVector n m) (Unit {0}) (Unit {0}) m _ _ _ _ _ _ c.in-Conditional.is refl c.get-in-Conditional-2.ensures refl c.requires.fits).1, c.in_ok-add_reads-in-Conditional.ensures.within))

pub add_reads-add_reads-requires-in-Conditional-3 : goal.add_reads-add_reads-requires-in-Conditional-3
add_reads-add_reads-requires-in-Conditional-3 t c =
    let n = length c.args.signals.now in
    let m = shapes_of c.args.signals.now in
    (grind (the_lemmas, arith, common_steps), ((fits-conditional (IsVector n m) (Unit {0}) (Unit {0}) m _ _ _ _ _ _ c.in-Conditional.is refl refl c.get-in-Conditional-3.ensures c.requires.fits).2, c.in_ok-add_reads-in-Conditional-2.ensures.within))

pub add_reads-add_reads-requires-in-Parentheses : goal.add_reads-add_reads-requires-in-Parentheses
add_reads-add_reads-requires-in-Parentheses t c =
    let n = length c.args.signals.now in
    let m = shapes_of c.args.signals.now in
    (grind (the_lemmas, arith, common_steps), (fits-parentheses (IsVector n m) (Unit {0}) (Unit {0}) m _ _ _ c.in-Parentheses.is c.get-in-Parentheses.ensures c.requires.fits, c.requires.within))

pub add_reads-add_parts-requires : goal.add_reads-add_parts-requires
add_reads-add_parts-requires t c =
    let n = length c.args.signals.now in
    let m = shapes_of c.args.signals.now in
    let f = fits-concatenation (IsVector n m) (Unit {0}) (Unit {0}) m _ _ _ c.in-Concatenation.is c.as_slice.ensures c.requires.fits in
    (grind (the_lemmas, arith, common_steps), (parts_fit c.args.signals.now _ f.0, c.requires.within))

pub add_reads-add_parts-requires-in-Replication : goal.add_reads-add_parts-requires-in-Replication
add_reads-add_parts-requires-in-Replication t c =
    let n = length c.args.signals.now in
    let m = shapes_of c.args.signals.now in
    let f = fits-replication (IsVector n m) (Unit {0}) (Unit {0}) m _ _ _ _ c.in-Replication.is c.as_slice-in-Replication.ensures c.requires.fits in
    (grind (the_lemmas, arith, common_steps), (parts_fit c.args.signals.now _ f.0, c.requires.within))

pub add_reads-add_reads-requires-in-Signed : goal.add_reads-add_reads-requires-in-Signed
add_reads-add_reads-requires-in-Signed t c =
    let n = length c.args.signals.now in
    let m = shapes_of c.args.signals.now in
    (grind (the_lemmas, arith, common_steps), (fits-signed (IsVector n m) (Unit {0}) (Unit {0}) m _ _ _ c.in-Signed.is c.get-in-Signed.ensures c.requires.fits, c.requires.within))

pub add_reads-add_reads-requires-in-Unsigned : goal.add_reads-add_reads-requires-in-Unsigned
add_reads-add_reads-requires-in-Unsigned t c =
    let n = length c.args.signals.now in
    let m = shapes_of c.args.signals.now in
    (grind (the_lemmas, arith, common_steps), (fits-unsigned (IsVector n m) (Unit {0}) (Unit {0}) m _ _ _ c.in-Unsigned.is c.get-in-Unsigned.ensures c.requires.fits, c.requires.within))

pub add_reads-returns-in_ok-add_selected-in-Select-clause-adds : goal.add_reads-returns-in_ok-add_selected-in-Select-clause-adds
add_reads-returns-in_ok-add_selected-in-Select-clause-adds t c =
    let n = length c.args.signals.now in
    let m = shapes_of c.args.signals.now in
    let g = c.in-Select.g in
    let s = c.in-Select.s in
    let f = fits-select (IsVector n m) (Unit {0}) (Unit {0}) m _ g s c.in-Select.is c.requires.fits in
    on_ok_weaker c.add_index.result
    (λ a h k.
    adds_both _ _ _ (selected m g s (spot h 0 k)) (index_reads m s (spot h 0 k)) (c.in_ok-add_selected-in-Select.ensures.adds h k) (a h k)
    ∙ ap (λ b. is_in c.args.set.now.items h k || b)
    (sym (select_is m g s (spot h 0 k) (select_index (IsVector n m) m g s f.1)) ∙ ap (λ e. reads m e (spot h 0 k)) (sym c.in-Select.is)))
    c.add_index.ensures.adds

pub add_reads-returns-in-Unary-clause-adds : goal.add_reads-returns-in-Unary-clause-adds
add_reads-returns-in-Unary-clause-adds t c =
    let m = shapes_of c.args.signals.now in
    on_ok_weaker c.add_reads.result (λ a h k. a h k ∙ ap (λ b. is_in c.args.set.now.items h k || b) (sym (reads-unary m (spot h 0 k) _ _ _ c.in-Unary.is c.get.ensures))) c.add_reads.ensures.adds

pub add_reads-returns-in_ok-add_reads-in-Binary-clause-adds : goal.add_reads-returns-in_ok-add_reads-in-Binary-clause-adds
add_reads-returns-in_ok-add_reads-in-Binary-clause-adds t c =
    let m = shapes_of c.args.signals.now in
    on_ok_weaker c.add_reads-in-Binary-2.result
    (λ a h k.
    adds_both _ _ _ _ _ (c.in_ok-add_reads-in-Binary.ensures.adds h k) (a h k)
    ∙ ap (λ b. is_in c.args.set.now.items h k || b) (sym (reads-binary m (spot h 0 k) _ _ _ _ _ c.in-Binary.is c.get-in-Binary.ensures c.get-in-Binary-2.ensures)))
    c.add_reads-in-Binary-2.ensures.adds

pub add_reads-returns-in_ok-add_reads-in-Conditional-2-clause-adds : goal.add_reads-returns-in_ok-add_reads-in-Conditional-2-clause-adds
add_reads-returns-in_ok-add_reads-in-Conditional-2-clause-adds t c =
    let m = shapes_of c.args.signals.now in
    on_ok_weaker c.add_reads-in-Conditional-3.result
    (λ a h k.
    adds_three _ _ _ _ _ _ _ (c.in_ok-add_reads-in-Conditional.ensures.adds h k) (c.in_ok-add_reads-in-Conditional-2.ensures.adds h k) (a h k)
    ∙ ap (λ b. is_in c.args.set.now.items h k || b)
    (sym (reads-conditional m (spot h 0 k) _ _ _ _ _ _ c.in-Conditional.is c.get-in-Conditional.ensures c.get-in-Conditional-2.ensures c.get-in-Conditional-3.ensures)))
    c.add_reads-in-Conditional-3.ensures.adds

pub add_reads-returns-in-Parentheses-clause-adds : goal.add_reads-returns-in-Parentheses-clause-adds
add_reads-returns-in-Parentheses-clause-adds t c =
    let m = shapes_of c.args.signals.now in
    on_ok_weaker c.add_reads-in-Parentheses.result (λ a h k. a h k ∙ ap (λ b. is_in c.args.set.now.items h k || b) (sym (reads-parentheses m (spot h 0 k) _ _ _ c.in-Parentheses.is c.get-in-Parentheses.ensures))) c.add_reads-in-Parentheses.ensures.adds

pub add_reads-returns-in-Concatenation-clause-adds : goal.add_reads-returns-in-Concatenation-clause-adds
add_reads-returns-in-Concatenation-clause-adds t c =
    let m = shapes_of c.args.signals.now in
    on_ok_weaker c.add_parts.result (λ a h k. a h k ∙ ap (λ b. is_in c.args.set.now.items h k || b) (sym (reads-concatenation m (spot h 0 k) _ _ _ c.in-Concatenation.is c.as_slice.ensures))) c.add_parts.ensures.adds

pub add_reads-returns-in-Replication-clause-adds : goal.add_reads-returns-in-Replication-clause-adds
add_reads-returns-in-Replication-clause-adds t c =
    let m = shapes_of c.args.signals.now in
    on_ok_weaker c.add_parts-in-Replication.result (λ a h k. a h k ∙ ap (λ b. is_in c.args.set.now.items h k || b) (sym (reads-replication m (spot h 0 k) _ _ _ _ c.in-Replication.is c.as_slice-in-Replication.ensures))) c.add_parts-in-Replication.ensures.adds

pub add_reads-returns-in-Signed-clause-adds : goal.add_reads-returns-in-Signed-clause-adds
add_reads-returns-in-Signed-clause-adds t c =
    let m = shapes_of c.args.signals.now in
    on_ok_weaker c.add_reads-in-Signed.result (λ a h k. a h k ∙ ap (λ b. is_in c.args.set.now.items h k || b) (sym (reads-signed m (spot h 0 k) _ _ _ c.in-Signed.is c.get-in-Signed.ensures))) c.add_reads-in-Signed.ensures.adds

pub add_reads-returns-in-Unsigned-clause-adds : goal.add_reads-returns-in-Unsigned-clause-adds
add_reads-returns-in-Unsigned-clause-adds t c =
    let m = shapes_of c.args.signals.now in
    on_ok_weaker c.add_reads-in-Unsigned.result (λ a h k. a h k ∙ ap (λ b. is_in c.args.set.now.items h k || b) (sym (reads-unsigned m (spot h 0 k) _ _ _ c.in-Unsigned.is c.get-in-Unsigned.ensures))) c.add_reads-in-Unsigned.ensures.adds
