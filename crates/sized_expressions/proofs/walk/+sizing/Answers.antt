use Rattle.std.proofs.Common.{◌+◌, ◌*◌, ◌<◌, ◌≤◌, drop, length, sym, ap, ◌∙◌, subst, arith}
use Rattle.std.specs.Prelude.{if◌then◌else◌}
use Rattle.std.proofs.lemmas.Grind.{common_steps}
use Rattle.bits_core.specs.Word.{IsWidth}
use Rattle.flat_tree.specs.declared.expr.FlatExpr.{the_lemmas}
use Rattle.flat_tree.specs.Measures.{nodes_of}
use Rattle.flat_tree.specs.Operators.{form_of, is_reduction}
use Rattle.flat_values.specs.Fits.{shapes_of}
use Rattle.flat_values.proofs.Nodes.{fits-select, fits-number}
use Rattle.operand_contexts.specs.Contexts.{has_site}
use Rattle.sized_expressions.proofs.Parts.{part_is, none_left, concatenation_part, replication_part, concatenation_room, replication_room, concatenation_done, replication_done, next_part, beside_room, may_stand, one_walked, rest_ready, all_walked}
use Rattle.sized_expressions.proofs.Starting.{at_context, fit_form, first_word, taken, unary_ready, unary_part, binary_ready, conditional_ready, parentheses_part, signed_ready, signed_part, unsigned_ready, unsigned_part}
use Rattle.sized_expressions.proofs.Walking.{context_width, unary_width, three_there, own_is, name_known, unary_room, signed_room, unsigned_room, left_room, right_room, branch_room, binary_left, binary_site, binary_right, test_part, one_part, other_part, number_done, name_done, select_done, select_number_done, unary_done, binary_done, conditional_done, parentheses_done, signed_done, unsigned_done}
use Rattle.row_terms.proofs.Joining.{Sofar}
use Rattle.sized_expressions.specs.Rows.{AreReady}
use Rattle.sized_expressions.specs.Sized.{IsKnown, world_in}
use Rattle.sized_expressions.proofs.walk.+sizing.Goals as goal

pub size-number-requires-clause-room : goal.size-number-requires-clause-room
size-number-requires-clause-room t c =
    let n = ap (nodes_of (shapes_of c.args.signals.now)) c.in-Literal.is in
    let r = c.requires.room in
    omega (arith, n, r)

pub size-word_at-x-requires-clause-start : goal.size-word_at-x-requires-clause-start
size-word_at-x-requires-clause-start t c = (name_known c.args.signals.now c.args.starts.now c.args.words.now c.args.terms.now c.args.e.now _ c.in-Signal.g c.args.at.length c.in-Signal.is c.requires).start

pub size-word_at-x-requires-clause-inside : goal.size-word_at-x-requires-clause-inside
size-word_at-x-requires-clause-inside t c =
    let k = (name_known c.args.signals.now c.args.starts.now c.args.words.now c.args.terms.now c.args.e.now _ c.in-Signal.g c.args.at.length c.in-Signal.is c.requires).inside in
    omega (arith, k)

pub size-resize-requires-clause-a : goal.size-resize-requires-clause-a
size-resize-requires-clause-a t c =
    let k = (name_known c.args.signals.now c.args.starts.now c.args.words.now c.args.terms.now c.args.e.now _ c.in-Signal.g c.args.at.length c.in-Signal.is c.requires).there 0 (first_word _) in
    subst (λ x. x < length c.args.terms.now.terms) (sym c.word_at-x.ensures) k

pub size-resize-requires-clause-room : goal.size-resize-requires-clause-room
size-resize-requires-clause-room t c =
    let n = ap (nodes_of (shapes_of c.args.signals.now)) c.in-Signal.is in
    let r = c.requires.room in
    omega (arith, n, r)

pub size-select-requires-clause-known : goal.size-select-requires-clause-known
size-select-requires-clause-known t c =
    let m = shapes_of c.args.signals.now in
    (fits-select (IsKnown (length c.args.signals.now) m c.args.starts.now c.args.words.now c.args.terms.now) (Unit {0}) (Unit {0}) m _ c.in-Select.g c.in-Select.s c.in-Select.is c.requires.fits).0

pub size-select-requires-clause-fits : goal.size-select-requires-clause-fits
size-select-requires-clause-fits t c =
    let m = shapes_of c.args.signals.now in
    (fits-select (IsKnown (length c.args.signals.now) m c.args.starts.now c.args.words.now c.args.terms.now) (Unit {0}) (Unit {0}) m _ c.in-Select.g c.in-Select.s c.in-Select.is c.requires.fits).1

pub size-select-requires-clause-room : goal.size-select-requires-clause-room
size-select-requires-clause-room t c = subst (λ e. length c.args.terms.now.terms + 32 * nodes_of (shapes_of c.args.signals.now) e ≤ _) c.in-Select.is c.requires.room

pub size-select_number-requires-clause-fits : goal.size-select_number-requires-clause-fits
size-select_number-requires-clause-fits t c =
    let m = shapes_of c.args.signals.now in
    (fits-number (IsKnown (length c.args.signals.now) m c.args.starts.now c.args.words.now c.args.terms.now) (Unit {0}) (Unit {0}) m _ _ _ c.in-SelectNumber.s c.in-SelectNumber.is c.requires.fits).1

pub size-select_number-requires-clause-room : goal.size-select_number-requires-clause-room
size-select_number-requires-clause-room t c = subst (λ e. length c.args.terms.now.terms + 32 * nodes_of (shapes_of c.args.signals.now) e ≤ _) c.in-SelectNumber.is c.requires.room

pub size-own-requires : goal.size-own-requires
size-own-requires t c = taken c.args.signals.now c.args.starts.now c.args.words.now c.args.terms.now c.get-a.result.now (unary_ready c.args.signals.now c.args.starts.now c.args.words.now c.args.terms.now c.args.e.now _ c.get-a.result.now c.in-Unary.operator c.args.at.length c.requires c.in-Unary.is c.get-a.ensures)

pub size-size-requires : goal.size-size-requires
size-size-requires t c =
    let u = c.unary_context-stand.ensures.length in
    let r = is_reduction c.in-Unary.operator.op in (
      grind (the_lemmas, arith, common_steps),
      unary_part c.args.signals.now c.args.starts.now c.args.words.now c.args.terms.now c.args.e.now _ c.get-a.result.now c.in-Unary.operator c.args.at.length _ c.requires c.in-Unary.is c.get-a.ensures
          (subst IsWidth (sym u) (context_width r c.own.result.length c.args.at.length c.own.ensures.width c.requires.width)) (u ∙ ap (λ k. if r then k else c.args.at.length) c.own.ensures.length),
    )

pub size-unary-requires-clause-x : goal.size-unary-requires-clause-x
size-unary-requires-clause-x t c = (c.in_ok-x-in-Unary.ensures 0 (omega arith)).typed.there

pub size-unary-requires-clause-width : goal.size-unary-requires-clause-width
size-unary-requires-clause-width t c =
    unary_width (is_reduction c.in-Unary.operator.op) _ c.own.result.length c.args.at.length ((c.in_ok-x-in-Unary.ensures 0 (omega arith)).typed.width ∙ c.unary_context-stand.ensures.length)

pub size-unary-requires-clause-room : goal.size-unary-requires-clause-room
size-unary-requires-clause-room t c =
    let r = unary_room c.args.signals.now c.args.starts.now c.args.words.now c.args.terms.now c.size.new.terms c.args.e.now _ c.get-a.result.now c.in-Unary.operator c.args.at.length _ _ _ c.requires c.in-Unary.is c.get-a.ensures c.in_ok-x-in-Unary.ensures in
    omega (arith, r)

pub size-returns-in_ok-t-in-Unary : goal.size-returns-in_ok-t-in-Unary
size-returns-in_ok-t-in-Unary t c =
    let r = is_reduction c.in-Unary.operator.op in
    unary_done c.args.signals.now c.args.starts.now c.args.words.now c.args.e.now _ c.get-a.result.now c.in-Unary.operator c.args.at.length _ c.args.at.signed _ c.args.terms.now c.size.new.terms c.unary.new.terms c.in_ok-x-in-Unary.x.0 c.in_ok-t-in-Unary.t.0 c.in-Unary.is c.get-a.ensures
    (c.unary_context-stand.ensures.length ∙ ap (λ k. if r then k else c.args.at.length) c.own.ensures.length) (c.unary_context-stand.ensures.signed ∙ ap (λ k. if r then k else c.args.at.signed) c.own.ensures.signed) c.in_ok-x-in-Unary.ensures c.in_ok-t-in-Unary.ensures.adds

pub size-contexts-stand-requires-clause-left : goal.size-contexts-stand-requires-clause-left
size-contexts-stand-requires-clause-left t c =
    taken c.args.signals.now c.args.starts.now c.args.words.now c.args.terms.now c.get-a-in-Binary.result.now
    (binary_ready c.args.signals.now c.args.starts.now c.args.words.now c.args.terms.now c.args.e.now _ c.get-a-in-Binary.result.now _ c.get-b.result.now c.in-Binary.operator c.args.at.length c.requires c.in-Binary.is c.get-a-in-Binary.ensures c.get-b.ensures).0

pub size-contexts-stand-requires-clause-right : goal.size-contexts-stand-requires-clause-right
size-contexts-stand-requires-clause-right t c =
    taken c.args.signals.now c.args.starts.now c.args.words.now c.args.terms.now c.get-b.result.now
    (binary_ready c.args.signals.now c.args.starts.now c.args.words.now c.args.terms.now c.args.e.now _ c.get-a-in-Binary.result.now _ c.get-b.result.now c.in-Binary.operator c.args.at.length c.requires c.in-Binary.is c.get-a-in-Binary.ensures c.get-b.ensures).1

pub size-size-requires-in-Binary : goal.size-size-requires-in-Binary
size-size-requires-in-Binary t c =
    (grind (the_lemmas, arith, common_steps), binary_left c.args.signals.now c.args.starts.now c.args.words.now c.args.terms.now c.args.e.now _ c.get-a-in-Binary.result.now _ c.get-b.result.now c.in-Binary.operator c.args.at.length _ c.requires c.in-Binary.is c.get-a-in-Binary.ensures c.get-b.ensures c.contexts-stand.ensures.left.width c.contexts-stand.ensures.left.length)

pub size-site_of-requires-clause-left : goal.size-site_of-requires-clause-left
size-site_of-requires-clause-left t c = (c.in_ok-x-in-Binary.ensures 0 (omega arith)).typed.there

pub size-site_of-requires-clause-few : goal.size-site_of-requires-clause-few
size-site_of-requires-clause-few t c =
    binary_site c.args.signals.now c.args.starts.now c.args.words.now c.args.terms.now c.size-in-Binary.new.terms c.args.e.now _ c.get-a-in-Binary.result.now _ c.get-b.result.now c.in-Binary.operator c.args.at.length _ _ _ c.requires c.in-Binary.is c.get-a-in-Binary.ensures c.get-b.ensures c.contexts-stand.ensures.left.length c.in_ok-x-in-Binary.ensures

pub size-site_of-requires-clause-room : goal.size-site_of-requires-clause-room
size-site_of-requires-clause-room t c =
    let r = left_room c.args.signals.now c.args.starts.now c.args.words.now c.args.terms.now c.size-in-Binary.new.terms c.args.e.now _ c.get-a-in-Binary.result.now _ c.get-b.result.now c.in-Binary.operator c.args.at.length _ _ _ c.requires c.in-Binary.is c.get-a-in-Binary.ensures c.get-b.ensures c.in_ok-x-in-Binary.ensures in
    omega (arith, r)

pub size-size-requires-in-Binary-2 : goal.size-size-requires-in-Binary-2
size-size-requires-in-Binary-2 t c = (
  grind (the_lemmas, arith, common_steps),
  binary_right c.args.signals.now c.args.starts.now c.args.words.now c.args.terms.now c.size-in-Binary.new.terms c.site_of.new.terms c.args.e.now _ c.get-a-in-Binary.result.now _ c.get-b.result.now c.in-Binary.operator c.args.at.length _ _ _ _ _ c.requires c.in-Binary.is c.get-a-in-Binary.ensures c.get-b.ensures
      c.contexts-stand.ensures.right.width c.contexts-stand.ensures.left.length c.contexts-stand.ensures.right.length c.in_ok-x-in-Binary.ensures c.in_ok-n-in-Binary.ensures,
)

pub size-operated-requires-clause-x : goal.size-operated-requires-clause-x
size-operated-requires-clause-x t c =
    (three_there _ _ _ _ _ _ _ _ _ _ (c.in_ok-x-in-Binary.ensures 0 (omega arith)).typed (c.in_ok-n-in-Binary.ensures c.in-Binary.operator.place 0 (omega arith)).typed (c.in_ok-y-in-Binary.ensures 0 (omega arith)).typed).0

pub size-operated-requires-clause-site : goal.size-operated-requires-clause-site
size-operated-requires-clause-site t c =
    (three_there _ _ _ _ _ _ _ _ _ _ (c.in_ok-x-in-Binary.ensures 0 (omega arith)).typed (c.in_ok-n-in-Binary.ensures c.in-Binary.operator.place 0 (omega arith)).typed (c.in_ok-y-in-Binary.ensures 0 (omega arith)).typed).1

pub size-operated-requires-clause-y : goal.size-operated-requires-clause-y
size-operated-requires-clause-y t c = (c.in_ok-y-in-Binary.ensures 0 (omega arith)).typed.there

pub size-operated-requires-clause-widths : goal.size-operated-requires-clause-widths
size-operated-requires-clause-widths t c =
    let a = three_there _ _ _ _ _ _ _ _ _ _ (c.in_ok-x-in-Binary.ensures 0 (omega arith)).typed (c.in_ok-n-in-Binary.ensures c.in-Binary.operator.place 0 (omega arith)).typed (c.in_ok-y-in-Binary.ensures 0 (omega arith)).typed in
    fit_form (form_of c.in-Binary.operator.op) c.args.at.length _ _ _ _ (a.3 ∙ c.contexts-stand.ensures.left.length) (a.5 ∙ c.contexts-stand.ensures.right.length)

pub size-operated-requires-clause-sites : goal.size-operated-requires-clause-sites
size-operated-requires-clause-sites t c =
    let a = three_there _ _ _ _ _ _ _ _ _ _ (c.in_ok-x-in-Binary.ensures 0 (omega arith)).typed (c.in_ok-n-in-Binary.ensures c.in-Binary.operator.place 0 (omega arith)).typed (c.in_ok-y-in-Binary.ensures 0 (omega arith)).typed in
    λ e. a.4 ∙ own_is (has_site (form_of c.in-Binary.operator.op)) c.args.at.length _ e

pub size-operated-requires-clause-room : goal.size-operated-requires-clause-room
size-operated-requires-clause-room t c =
    right_room c.args.signals.now c.args.starts.now c.args.words.now c.args.terms.now c.size-in-Binary.new.terms c.site_of.new.terms c.size-in-Binary-2.new.terms c.args.e.now _ c.get-a-in-Binary.result.now _ c.get-b.result.now c.in-Binary.operator c.args.at.length _ _ _ _ _ _ c.requires c.in-Binary.is c.get-a-in-Binary.ensures c.get-b.ensures
    c.in_ok-x-in-Binary.ensures (c.in_ok-n-in-Binary.ensures c.in-Binary.operator.place 0 (omega arith)).count c.in_ok-y-in-Binary.ensures

pub size-returns-in_ok-t-in-Binary : goal.size-returns-in_ok-t-in-Binary
size-returns-in_ok-t-in-Binary t c =
    binary_done c.args.signals.now c.args.starts.now c.args.words.now c.args.e.now _ c.get-a-in-Binary.result.now _ c.get-b.result.now c.in-Binary.operator c.args.at.length _ _ c.args.at.signed _ _ c.args.terms.now c.size-in-Binary.new.terms c.site_of.new.terms c.size-in-Binary-2.new.terms c.operated.new.terms c.in_ok-x-in-Binary.x.0 c.in_ok-n-in-Binary.n.0 c.in_ok-y-in-Binary.y.0 c.in_ok-t-in-Binary.t.0 c.in-Binary.is c.get-a-in-Binary.ensures c.get-b.ensures
    c.contexts-stand.ensures.left.length c.contexts-stand.ensures.left.signed c.contexts-stand.ensures.right.length c.contexts-stand.ensures.right.signed c.in_ok-x-in-Binary.ensures c.in_ok-n-in-Binary.ensures c.in_ok-y-in-Binary.ensures c.in_ok-t-in-Binary.ensures

pub size-own-requires-in-Conditional : goal.size-own-requires-in-Conditional
size-own-requires-in-Conditional t c =
    taken c.args.signals.now c.args.starts.now c.args.words.now c.args.terms.now c.get-c.result.now
    (conditional_ready c.args.signals.now c.args.starts.now c.args.words.now c.args.terms.now c.args.e.now _ c.get-c.result.now _ c.get-a-in-Conditional.result.now _ c.get-b-in-Conditional.result.now c.args.at.length c.requires c.in-Conditional.is c.get-c.ensures c.get-a-in-Conditional.ensures c.get-b-in-Conditional.ensures).0

pub size-size-requires-in-Conditional : goal.size-size-requires-in-Conditional
size-size-requires-in-Conditional t c =
    (grind (the_lemmas, arith, common_steps), test_part c.args.signals.now c.args.starts.now c.args.words.now c.args.terms.now c.args.e.now _ c.get-c.result.now _ c.get-a-in-Conditional.result.now _ c.get-b-in-Conditional.result.now c.args.at.length _ c.requires c.in-Conditional.is c.get-c.ensures c.get-a-in-Conditional.ensures c.get-b-in-Conditional.ensures c.own-in-Conditional.ensures.width c.own-in-Conditional.ensures.length)

pub size-size-requires-in-Conditional-2 : goal.size-size-requires-in-Conditional-2
size-size-requires-in-Conditional-2 t c =
    (grind (the_lemmas, arith, common_steps), one_part c.args.signals.now c.args.starts.now c.args.words.now c.args.terms.now c.size-in-Conditional.new.terms c.args.e.now _ c.get-c.result.now _ c.get-a-in-Conditional.result.now _ c.get-b-in-Conditional.result.now c.args.at.length _ _ _ c.requires c.in-Conditional.is c.get-c.ensures c.get-a-in-Conditional.ensures c.get-b-in-Conditional.ensures c.own-in-Conditional.ensures.length c.in_ok-test-in-Conditional.ensures)

pub size-size-requires-in-Conditional-3 : goal.size-size-requires-in-Conditional-3
size-size-requires-in-Conditional-3 t c =
    (grind (the_lemmas, arith, common_steps), other_part c.args.signals.now c.args.starts.now c.args.words.now c.args.terms.now c.size-in-Conditional.new.terms c.size-in-Conditional-2.new.terms c.args.e.now _ c.get-c.result.now _ c.get-a-in-Conditional.result.now _ c.get-b-in-Conditional.result.now c.args.at.length _ _ _ _ _ c.requires c.in-Conditional.is c.get-c.ensures c.get-a-in-Conditional.ensures c.get-b-in-Conditional.ensures c.own-in-Conditional.ensures.length c.in_ok-test-in-Conditional.ensures c.in_ok-x-in-Conditional.ensures)

pub size-branch-terms-requires-clause-test : goal.size-branch-terms-requires-clause-test
size-branch-terms-requires-clause-test t c =
    (three_there _ _ _ _ _ _ _ _ _ _ (c.in_ok-test-in-Conditional.ensures 0 (omega arith)).typed (c.in_ok-x-in-Conditional.ensures 0 (omega arith)).typed (c.in_ok-y-in-Conditional.ensures 0 (omega arith)).typed).0

pub size-branch-terms-requires-clause-a : goal.size-branch-terms-requires-clause-a
size-branch-terms-requires-clause-a t c =
    (three_there _ _ _ _ _ _ _ _ _ _ (c.in_ok-test-in-Conditional.ensures 0 (omega arith)).typed (c.in_ok-x-in-Conditional.ensures 0 (omega arith)).typed (c.in_ok-y-in-Conditional.ensures 0 (omega arith)).typed).1

pub size-branch-terms-requires-clause-b : goal.size-branch-terms-requires-clause-b
size-branch-terms-requires-clause-b t c = (c.in_ok-y-in-Conditional.ensures 0 (omega arith)).typed.there

pub size-branch-terms-requires-clause-width : goal.size-branch-terms-requires-clause-width
size-branch-terms-requires-clause-width t c =
    let a = three_there _ _ _ _ _ _ _ _ _ _ (c.in_ok-test-in-Conditional.ensures 0 (omega arith)).typed (c.in_ok-x-in-Conditional.ensures 0 (omega arith)).typed (c.in_ok-y-in-Conditional.ensures 0 (omega arith)).typed in
    a.5 ∙ sym a.4

pub size-branch-terms-requires-clause-room : goal.size-branch-terms-requires-clause-room
size-branch-terms-requires-clause-room t c =
    let r = branch_room c.args.signals.now c.args.starts.now c.args.words.now c.args.terms.now c.size-in-Conditional.new.terms c.size-in-Conditional-2.new.terms c.size-in-Conditional-3.new.terms c.args.e.now _ c.get-c.result.now _ c.get-a-in-Conditional.result.now _ c.get-b-in-Conditional.result.now c.args.at.length _ _ _ _ _ _ c.requires c.in-Conditional.is c.get-c.ensures c.get-a-in-Conditional.ensures c.get-b-in-Conditional.ensures
    c.in_ok-test-in-Conditional.ensures c.in_ok-x-in-Conditional.ensures c.in_ok-y-in-Conditional.ensures in
    omega (arith, r)

pub size-returns-in_ok-t-in-Conditional : goal.size-returns-in_ok-t-in-Conditional
size-returns-in_ok-t-in-Conditional t c =
    conditional_done c.args.signals.now c.args.starts.now c.args.words.now c.args.e.now _ c.get-c.result.now _ c.get-a-in-Conditional.result.now _ c.get-b-in-Conditional.result.now c.args.at.length _ c.args.at.signed _ c.args.terms.now c.size-in-Conditional.new.terms c.size-in-Conditional-2.new.terms c.size-in-Conditional-3.new.terms c.branch-terms.new.terms c.in_ok-test-in-Conditional.test.0 c.in_ok-x-in-Conditional.x.0 c.in_ok-y-in-Conditional.y.0 c.in_ok-t-in-Conditional.t.0
    c.in-Conditional.is c.get-c.ensures c.get-a-in-Conditional.ensures c.get-b-in-Conditional.ensures c.own-in-Conditional.ensures.length c.own-in-Conditional.ensures.signed c.in_ok-test-in-Conditional.ensures c.in_ok-x-in-Conditional.ensures c.in_ok-y-in-Conditional.ensures c.in_ok-t-in-Conditional.ensures.adds

pub size-size-requires-in-Parentheses : goal.size-size-requires-in-Parentheses
size-size-requires-in-Parentheses t c =
    (grind (the_lemmas, arith, common_steps), parentheses_part c.args.signals.now c.args.starts.now c.args.words.now c.args.terms.now c.args.e.now _ c.get-a-in-Parentheses.result.now _ c.args.at.length c.requires c.in-Parentheses.is c.get-a-in-Parentheses.ensures)

pub size-returns-in_ok-t-in-Parentheses : goal.size-returns-in_ok-t-in-Parentheses
size-returns-in_ok-t-in-Parentheses t c =
    parentheses_done c.args.signals.now c.args.starts.now c.args.words.now c.args.e.now _ c.get-a-in-Parentheses.result.now _ c.args.at.length c.args.at.signed c.args.terms.now _ c.in_ok-t-in-Parentheses.t.0 c.in-Parentheses.is c.get-a-in-Parentheses.ensures c.in_ok-t-in-Parentheses.ensures

pub size-own-requires-in-Signed : goal.size-own-requires-in-Signed
size-own-requires-in-Signed t c = taken c.args.signals.now c.args.starts.now c.args.words.now c.args.terms.now c.get-a-in-Signed.result.now (signed_ready c.args.signals.now c.args.starts.now c.args.words.now c.args.terms.now c.args.e.now _ c.get-a-in-Signed.result.now _ c.args.at.length c.requires c.in-Signed.is c.get-a-in-Signed.ensures)

pub size-size-requires-in-Signed : goal.size-size-requires-in-Signed
size-size-requires-in-Signed t c =
    (grind (the_lemmas, arith, common_steps), signed_part c.args.signals.now c.args.starts.now c.args.words.now c.args.terms.now c.args.e.now _ c.get-a-in-Signed.result.now _ c.args.at.length _ c.requires c.in-Signed.is c.get-a-in-Signed.ensures c.own-in-Signed.ensures.width c.own-in-Signed.ensures.length)

pub size-resize-requires-in-Signed-clause-a : goal.size-resize-requires-in-Signed-clause-a
size-resize-requires-in-Signed-clause-a t c = (c.in_ok-x-in-Signed.ensures 0 (omega arith)).typed.there

pub size-resize-requires-in-Signed-clause-room : goal.size-resize-requires-in-Signed-clause-room
size-resize-requires-in-Signed-clause-room t c =
    let r = signed_room c.args.signals.now c.args.starts.now c.args.words.now c.args.terms.now c.size-in-Signed.new.terms c.args.e.now _ c.get-a-in-Signed.result.now _ c.args.at.length _ _ _ c.requires c.in-Signed.is c.get-a-in-Signed.ensures c.in_ok-x-in-Signed.ensures in
    omega (arith, r)

pub size-returns-in_ok-t-in-Signed : goal.size-returns-in_ok-t-in-Signed
size-returns-in_ok-t-in-Signed t c =
    signed_done c.args.signals.now c.args.starts.now c.args.words.now c.args.e.now _ c.get-a-in-Signed.result.now _ c.args.at.length _ c.args.at.signed _ c.args.terms.now c.size-in-Signed.new.terms c.resize-in-Signed.new.terms c.in_ok-x-in-Signed.x.0 c.in_ok-t-in-Signed.t.0 c.in-Signed.is c.get-a-in-Signed.ensures c.own-in-Signed.ensures.length c.own-in-Signed.ensures.signed c.in_ok-x-in-Signed.ensures c.in_ok-t-in-Signed.ensures.adds

pub size-own-requires-in-Unsigned : goal.size-own-requires-in-Unsigned
size-own-requires-in-Unsigned t c = taken c.args.signals.now c.args.starts.now c.args.words.now c.args.terms.now c.get-a-in-Unsigned.result.now (unsigned_ready c.args.signals.now c.args.starts.now c.args.words.now c.args.terms.now c.args.e.now _ c.get-a-in-Unsigned.result.now _ c.args.at.length c.requires c.in-Unsigned.is c.get-a-in-Unsigned.ensures)

pub size-size-requires-in-Unsigned : goal.size-size-requires-in-Unsigned
size-size-requires-in-Unsigned t c =
    (grind (the_lemmas, arith, common_steps), unsigned_part c.args.signals.now c.args.starts.now c.args.words.now c.args.terms.now c.args.e.now _ c.get-a-in-Unsigned.result.now _ c.args.at.length _ c.requires c.in-Unsigned.is c.get-a-in-Unsigned.ensures c.own-in-Unsigned.ensures.width c.own-in-Unsigned.ensures.length)

pub size-resize-requires-in-Unsigned-clause-a : goal.size-resize-requires-in-Unsigned-clause-a
size-resize-requires-in-Unsigned-clause-a t c = (c.in_ok-x-in-Unsigned.ensures 0 (omega arith)).typed.there

pub size-resize-requires-in-Unsigned-clause-room : goal.size-resize-requires-in-Unsigned-clause-room
size-resize-requires-in-Unsigned-clause-room t c =
    let r = unsigned_room c.args.signals.now c.args.starts.now c.args.words.now c.args.terms.now c.size-in-Unsigned.new.terms c.args.e.now _ c.get-a-in-Unsigned.result.now _ c.args.at.length _ _ _ c.requires c.in-Unsigned.is c.get-a-in-Unsigned.ensures c.in_ok-x-in-Unsigned.ensures in
    omega (arith, r)

pub size-returns-in_ok-t-in-Unsigned : goal.size-returns-in_ok-t-in-Unsigned
size-returns-in_ok-t-in-Unsigned t c =
    unsigned_done c.args.signals.now c.args.starts.now c.args.words.now c.args.e.now _ c.get-a-in-Unsigned.result.now _ c.args.at.length _ c.args.at.signed _ c.args.terms.now c.size-in-Unsigned.new.terms c.resize-in-Unsigned.new.terms c.in_ok-x-in-Unsigned.x.0 c.in_ok-t-in-Unsigned.t.0 c.in-Unsigned.is c.get-a-in-Unsigned.ensures c.own-in-Unsigned.ensures.length c.own-in-Unsigned.ensures.signed c.in_ok-x-in-Unsigned.ensures c.in_ok-t-in-Unsigned.ensures.adds

pub size-returns-in_ok-t-in-Literal : goal.size-returns-in_ok-t-in-Literal
size-returns-in_ok-t-in-Literal t c = number_done c.args.signals.now c.args.starts.now c.args.words.now c.args.e.now c.in-Literal.n c.args.at.length c.args.at.signed c.args.terms.now _ c.in_ok-t-in-Literal.t.0 c.in-Literal.is c.in_ok-t-in-Literal.ensures

pub size-returns-in_ok-t-in-Signal : goal.size-returns-in_ok-t-in-Signal
size-returns-in_ok-t-in-Signal t c =
    let k = name_known c.args.signals.now c.args.starts.now c.args.words.now c.args.terms.now c.args.e.now _ c.in-Signal.g c.args.at.length c.in-Signal.is c.requires in
    name_done c.args.signals.now c.args.starts.now c.args.words.now c.args.e.now _ c.in-Signal.g c.args.at.length c.args.at.signed c.args.terms.now _ c.word_at-x.result.0 c.in_ok-t-in-Signal.t.0 c.in-Signal.is c.word_at-x.ensures (k.width 0 (first_word _)) c.in_ok-t-in-Signal.ensures.adds

pub size-returns-in_ok-t-in-Select : goal.size-returns-in_ok-t-in-Select
size-returns-in_ok-t-in-Select t c = select_done c.args.signals.now c.args.starts.now c.args.words.now c.args.e.now _ c.in-Select.g c.in-Select.s c.args.at.length c.args.at.signed c.args.terms.now _ c.in_ok-t-in-Select.t.0 c.in-Select.is c.in_ok-t-in-Select.ensures

pub size-returns-in_ok-t-in-SelectNumber : goal.size-returns-in_ok-t-in-SelectNumber
size-returns-in_ok-t-in-SelectNumber t c =
    select_number_done c.args.signals.now c.args.starts.now c.args.words.now c.args.e.now _ c.in-SelectNumber.c c.in-SelectNumber.low c.in-SelectNumber.s c.args.at.length c.args.at.signed c.args.terms.now _ c.in_ok-t-in-SelectNumber.t.0 c.in-SelectNumber.is c.in_ok-t-in-SelectNumber.ensures

pub row-own-requires : goal.row-own-requires
row-own-requires t c =
    let f = subst (AreReady c.args.signals.now c.args.starts.now c.args.words.now c.loop-e.terms) (part_is c.args.parts.now c.loop-e.e-index c.e-item.result c.loop-e-test.true c.e-item.is) c.loop-e.invariant.fits in
    taken c.args.signals.now c.args.starts.now c.args.words.now c.loop-e.terms c.e-item.result f.0

pub row-size-requires : goal.row-size-requires
row-size-requires t c =
    let s = subst (Sofar (shapes_of c.args.signals.now) (world_in c.args.starts.now c.args.words.now) c.loop-e.sofar c.args.terms.now c.loop-e.terms c.args.parts.now) (part_is c.args.parts.now c.loop-e.e-index c.e-item.result c.loop-e-test.true c.e-item.is) c.loop-e.invariant.walked in
    let f = subst (AreReady c.args.signals.now c.args.starts.now c.args.words.now c.loop-e.terms) (part_is c.args.parts.now c.loop-e.e-index c.e-item.result c.loop-e-test.true c.e-item.is) c.loop-e.invariant.fits in
    (grind (the_lemmas, arith, common_steps), next_part c.args.signals.now c.args.starts.now c.args.words.now c.loop-e.sofar c.args.terms.now c.loop-e.terms c.args.parts.now (drop (c.loop-e.e-index + 1) c.args.parts.now) c.e-item.result c.own.result.length s f c.requires c.own.ensures.width c.own.ensures.length)

pub row-beside-requires-clause-left : goal.row-beside-requires-clause-left
row-beside-requires-clause-left t c =
    let s = subst (Sofar (shapes_of c.args.signals.now) (world_in c.args.starts.now c.args.words.now) c.loop-e.sofar c.args.terms.now c.loop-e.terms c.args.parts.now) (part_is c.args.parts.now c.loop-e.e-index c.e-item.result c.loop-e-test.true c.e-item.is) c.loop-e.invariant.walked in
    let x = at_context c.args.signals.now c.args.starts.now c.args.words.now c.e-item.result _ _ _ _ c.loop-e.terms c.size.new.terms c.in_ok-x.x.0 c.own.ensures.length c.own.ensures.signed c.in_ok-x.ensures in
    may_stand c.args.signals.now c.args.starts.now c.args.words.now c.loop-e.sofar c.args.terms.now c.loop-e.terms c.size.new.terms c.args.parts.now (drop (c.loop-e.e-index + 1) c.args.parts.now) c.e-item.result c.in_ok-x.x.0 s c.requires x

pub row-beside-requires-clause-room : goal.row-beside-requires-clause-room
row-beside-requires-clause-room t c =
    let s = subst (Sofar (shapes_of c.args.signals.now) (world_in c.args.starts.now c.args.words.now) c.loop-e.sofar c.args.terms.now c.loop-e.terms c.args.parts.now) (part_is c.args.parts.now c.loop-e.e-index c.e-item.result c.loop-e-test.true c.e-item.is) c.loop-e.invariant.walked in
    let x = at_context c.args.signals.now c.args.starts.now c.args.words.now c.e-item.result _ _ _ _ c.loop-e.terms c.size.new.terms c.in_ok-x.x.0 c.own.ensures.length c.own.ensures.signed c.in_ok-x.ensures in
    beside_room c.args.signals.now c.args.starts.now c.args.words.now c.loop-e.sofar c.args.terms.now c.loop-e.terms c.size.new.terms c.args.parts.now (drop (c.loop-e.e-index + 1) c.args.parts.now) c.e-item.result c.in_ok-x.x.0 s c.requires x

pub row-loop-e-preserved : goal.row-loop-e-preserved
row-loop-e-preserved t c =
    let s = subst (Sofar (shapes_of c.args.signals.now) (world_in c.args.starts.now c.args.words.now) c.loop-e.sofar c.args.terms.now c.loop-e.terms c.args.parts.now) (part_is c.args.parts.now c.loop-e.e-index c.e-item.result c.loop-e-test.true c.e-item.is) c.loop-e.invariant.walked in
    let f = subst (AreReady c.args.signals.now c.args.starts.now c.args.words.now c.loop-e.terms) (part_is c.args.parts.now c.loop-e.e-index c.e-item.result c.loop-e-test.true c.e-item.is) c.loop-e.invariant.fits in
    let x = at_context c.args.signals.now c.args.starts.now c.args.words.now c.e-item.result _ _ _ _ c.loop-e.terms c.size.new.terms c.in_ok-x.x.0 c.own.ensures.length c.own.ensures.signed c.in_ok-x.ensures in
    record {
      walked = one_walked c.args.signals.now c.args.starts.now c.args.words.now c.loop-e.sofar c.args.terms.now c.loop-e.terms c.size.new.terms c.beside.new.terms c.args.parts.now (drop (c.loop-e.e-index + 1) c.args.parts.now) c.e-item.result c.in_ok-x.x.0 c.in_ok-t.t.0 s x c.len.ensures.proper c.in_ok-t.ensures;
      fits = rest_ready c.args.signals.now c.args.starts.now c.args.words.now c.loop-e.sofar c.loop-e.terms c.size.new.terms c.beside.new.terms (drop (c.loop-e.e-index + 1) c.args.parts.now) c.e-item.result c.in_ok-x.x.0 c.in_ok-t.t.0 x c.in_ok-t.ensures f;
    }

pub row-returns-in-Some : goal.row-returns-in-Some
row-returns-in-Some t c =
    let s = subst (λ o. Sofar (shapes_of c.args.signals.now) (world_in c.args.starts.now c.args.words.now) o c.args.terms.now c.loop-e.terms c.args.parts.now (drop c.loop-e.e-index c.args.parts.now)) c.in-Some.is c.loop-e.invariant.walked in
    all_walked c.args.signals.now c.args.starts.now c.args.words.now c.args.terms.now c.loop-e.terms c.args.parts.now (drop c.loop-e.e-index c.args.parts.now) c.in-Some.t.0 (none_left c.args.parts.now c.loop-e.e-index c.loop-e-test.false) s

pub size-row-requires : goal.size-row-requires
size-row-requires t c = (grind (the_lemmas, arith, common_steps), concatenation_part c.args.signals.now c.args.starts.now c.args.words.now c.args.terms.now c.args.e.now _ c.in-Concatenation.parts c.as_slice.result.now c.args.at.length c.requires c.in-Concatenation.is c.as_slice.ensures)

pub size-resize-requires-in-Concatenation-clause-room : goal.size-resize-requires-in-Concatenation-clause-room
size-resize-requires-in-Concatenation-clause-room t c =
    let r = concatenation_room c.args.signals.now c.args.starts.now c.args.words.now c.args.terms.now c.row.new.terms c.args.e.now _ c.in-Concatenation.parts c.as_slice.result.now c.args.at.length _ c.requires c.in-Concatenation.is c.as_slice.ensures c.in_ok-x-in-Concatenation.ensures in
    omega (arith, r)

pub size-returns-in_ok-t-in-Concatenation : goal.size-returns-in_ok-t-in-Concatenation
size-returns-in_ok-t-in-Concatenation t c =
    concatenation_done c.args.signals.now c.args.starts.now c.args.words.now c.args.e.now _ c.in-Concatenation.parts c.as_slice.result.now c.args.at.length c.args.at.signed c.args.terms.now c.row.new.terms c.resize-in-Concatenation.new.terms c.in_ok-x-in-Concatenation.x.0 c.in_ok-t-in-Concatenation.t.0 c.in-Concatenation.is c.as_slice.ensures c.in_ok-x-in-Concatenation.ensures c.in_ok-t-in-Concatenation.ensures.adds

pub size-row-requires-in-Replication : goal.size-row-requires-in-Replication
size-row-requires-in-Replication t c =
    (grind (the_lemmas, arith, common_steps), (replication_part c.args.signals.now c.args.starts.now c.args.words.now c.args.terms.now c.args.e.now _ c.in-Replication.c c.in-Replication.parts c.as_slice-in-Replication.result.now c.args.at.length c.requires c.in-Replication.is c.as_slice-in-Replication.ensures).0)

pub size-copies-requires-clause-within : goal.size-copies-requires-clause-within
size-copies-requires-clause-within t c =
    let w = (replication_part c.args.signals.now c.args.starts.now c.args.words.now c.args.terms.now c.args.e.now _ c.in-Replication.c c.in-Replication.parts c.as_slice-in-Replication.result.now c.args.at.length c.requires c.in-Replication.is c.as_slice-in-Replication.ensures).1 in
    subst (λ k. c.in-Replication.c * k ≤ 128) (sym (c.in_ok-x-in-Replication.ensures 0 (omega arith)).typed.width) w.1

pub size-copies-requires-clause-room : goal.size-copies-requires-clause-room
size-copies-requires-clause-room t c =
    let r = replication_room c.args.signals.now c.args.starts.now c.args.words.now c.args.terms.now c.row-in-Replication.new.terms c.args.e.now _ c.in-Replication.c c.in-Replication.parts c.as_slice-in-Replication.result.now c.args.at.length _ c.requires c.in-Replication.is c.as_slice-in-Replication.ensures c.in_ok-x-in-Replication.ensures in
    omega (arith, r)

pub size-resize-requires-in-Replication-clause-room : goal.size-resize-requires-in-Replication-clause-room
size-resize-requires-in-Replication-clause-room t c =
    let r = replication_room c.args.signals.now c.args.starts.now c.args.words.now c.args.terms.now c.row-in-Replication.new.terms c.args.e.now _ c.in-Replication.c c.in-Replication.parts c.as_slice-in-Replication.result.now c.args.at.length _ c.requires c.in-Replication.is c.as_slice-in-Replication.ensures c.in_ok-x-in-Replication.ensures in
    let n = c.in_ok-y-in-Replication.ensures.count in
    omega (arith, r, n)

pub size-returns-in_ok-t-in-Replication : goal.size-returns-in_ok-t-in-Replication
size-returns-in_ok-t-in-Replication t c =
    replication_done c.args.signals.now c.args.starts.now c.args.words.now c.args.e.now _ c.in-Replication.c c.in-Replication.parts c.as_slice-in-Replication.result.now c.args.at.length c.args.at.signed c.args.terms.now c.row-in-Replication.new.terms c.copies.new.terms c.resize-in-Replication.new.terms c.in_ok-x-in-Replication.x.0 c.in_ok-y-in-Replication.y.0 c.in_ok-t-in-Replication.t.0 c.in-Replication.is c.as_slice-in-Replication.ensures
    c.in_ok-x-in-Replication.ensures c.len.ensures.proper c.in_ok-y-in-Replication.ensures c.in_ok-t-in-Replication.ensures.adds
