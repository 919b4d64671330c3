use Rattle.std.proofs.Common.{arith, refl, sym, ◌∙◌, subst, ◌*◌, true, false, ◌≤◌, length}
use Rattle.std.proofs.lemmas.Grind.{common_steps}
use Rattle.flat_tree.specs.declared.expr.FlatExpr.{the_lemmas}
use Rattle.flat_tree.specs.Values.{Meant, meant}
use Rattle.flat_values.specs.Fits.{IsOwn, IsSignal, shapes_of, list_meant}
use Rattle.flat_values.proofs.Nodes.{meant-unary, fits-unary, meant-parentheses, fits-parentheses, meant-signed, fits-signed, meant-unsigned, fits-unsigned, meant-binary, fits-binary, meant-conditional, fits-conditional, meant-concatenation, fits-concatenation, meant-replication, fits-replication, meant-select, fits-select, meant-number, fits-number}
use Rattle.flat_values.proofs.Forms.{binary_own, unary_own, conditional_own, select_width, select_own, number_width, number_own, part_at, parts_done, replicated_own, plain_own, cast_own, list_unsigned}
use Rattle.flat_values.proofs.lengths.+own.Goals as goal

pub joined_length-loop-e-init : goal.joined_length-loop-e-init
joined_length-loop-e-init t c =
    record { sum = omega arith; fits = c.requires.fits }

pub joined_length-own-one-requires : goal.joined_length-own-one-requires
joined_length-own-one-requires t c =
    let k = length c.args.signals.now in
    let m = shapes_of c.args.signals.now in
    let p = part_at k m c.args.parts.now c.loop-e.e-index c.e-item.result c.loop-e-test.true c.e-item.is in
    (grind (the_lemmas, arith, common_steps), (p.1 c.loop-e.invariant.fits).0)

pub joined_length-overflow_add-sum : goal.joined_length-overflow_add-sum
joined_length-overflow_add-sum t c =
    let k = length c.args.signals.now in
    let m = shapes_of c.args.signals.now in
    let p = part_at k m c.args.parts.now c.loop-e.e-index c.e-item.result c.loop-e-test.true c.e-item.is in
    let x = c.own-one.ensures.length in
    let y = p.0 in
    let z = c.loop-e.invariant.sum in
    let w = c.requires.within in
    omega arith

pub joined_length-loop-e-preserved : goal.joined_length-loop-e-preserved
joined_length-loop-e-preserved t c =
    let k = length c.args.signals.now in
    let m = shapes_of c.args.signals.now in
    let p = part_at k m c.args.parts.now c.loop-e.e-index c.e-item.result c.loop-e-test.true c.e-item.is in
    let x = c.own-one.ensures.length in
    let y = p.0 in
    let z = c.loop-e.invariant.sum in
    record { sum = omega (arith, x, y, z); fits = (p.1 c.loop-e.invariant.fits).1 }

pub joined_length-returns : goal.joined_length-returns
joined_length-returns t c =
    let k = length c.args.signals.now in
    let m = shapes_of c.args.signals.now in
    let x = parts_done k m c.args.parts.now c.loop-e.e-index c.loop-e-test.false in
    let z = c.loop-e.invariant.sum in
    omega (arith, x, z)

pub own-of_select-requires-clause-within : goal.own-of_select-requires-clause-within
own-of_select-requires-clause-within t c =
    let k = length c.args.signals.now in
    let m = shapes_of c.args.signals.now in
    let f = fits-select (IsSignal k m) (Unit {0}) (Unit {0}) m _ c.in-Select.g c.in-Select.s c.in-Select.is c.requires in
    (select_width k m c.in-Select.g c.in-Select.s f.0 f.1).1

pub own-number_length-requires-clause-within : goal.own-number_length-requires-clause-within
own-number_length-requires-clause-within t c =
    let k = length c.args.signals.now in
    let m = shapes_of c.args.signals.now in
    let f = fits-number (IsSignal k m) (Unit {0}) (Unit {0}) m _ _ _ c.in-SelectNumber.s c.in-SelectNumber.is c.requires in
    (number_width k m _ _ c.in-SelectNumber.s f.0.within f.1).1

pub own-own-requires : goal.own-own-requires
own-own-requires t c =
    let k = length c.args.signals.now in
    let m = shapes_of c.args.signals.now in
    (grind (the_lemmas, arith, common_steps), fits-unary (IsSignal k m) (Unit {0}) (Unit {0}) m _ _ _ c.in-Unary.is c.get.ensures c.requires)

pub own-own-x-requires : goal.own-own-x-requires
own-own-x-requires t c =
    let k = length c.args.signals.now in
    let m = shapes_of c.args.signals.now in
    (grind (the_lemmas, arith, common_steps), (fits-binary (IsSignal k m) (Unit {0}) (Unit {0}) m _ _ _ _ _ c.in-Binary.is c.get-in-Binary.ensures refl c.requires).0)

pub own-own-y-requires : goal.own-own-y-requires
own-own-y-requires t c =
    let k = length c.args.signals.now in
    let m = shapes_of c.args.signals.now in
    (grind (the_lemmas, arith, common_steps), (fits-binary (IsSignal k m) (Unit {0}) (Unit {0}) m _ _ _ _ _ c.in-Binary.is refl c.get-in-Binary-2.ensures c.requires).1)

pub own-own-x-requires-in-Conditional : goal.own-own-x-requires-in-Conditional
own-own-x-requires-in-Conditional t c =
    let k = length c.args.signals.now in
    let m = shapes_of c.args.signals.now in
    (grind (the_lemmas, arith, common_steps), (fits-conditional (IsSignal k m) (Unit {0}) (Unit {0}) m _ _ _ _ _ _ c.in-Conditional.is refl c.get-in-Conditional.ensures refl c.requires).1)

pub own-own-y-requires-in-Conditional : goal.own-own-y-requires-in-Conditional
own-own-y-requires-in-Conditional t c =
    let k = length c.args.signals.now in
    let m = shapes_of c.args.signals.now in
    (grind (the_lemmas, arith, common_steps), (fits-conditional (IsSignal k m) (Unit {0}) (Unit {0}) m _ _ _ _ _ _ c.in-Conditional.is refl refl c.get-in-Conditional-2.ensures c.requires).2)

pub own-own-requires-in-Parentheses : goal.own-own-requires-in-Parentheses
own-own-requires-in-Parentheses t c =
    let k = length c.args.signals.now in
    let m = shapes_of c.args.signals.now in
    (grind (the_lemmas, arith, common_steps), fits-parentheses (IsSignal k m) (Unit {0}) (Unit {0}) m _ _ _ c.in-Parentheses.is c.get-in-Parentheses.ensures c.requires)

pub own-joined_length-requires : goal.own-joined_length-requires
own-joined_length-requires t c =
    let k = length c.args.signals.now in
    let m = shapes_of c.args.signals.now in
    let f = fits-concatenation (IsSignal k m) (Unit {0}) (Unit {0}) m _ _ _ c.in-Concatenation.is c.as_slice.ensures c.requires in
    (grind (the_lemmas, arith, common_steps), (f.0, f.1.1))

pub own-joined_length-one-requires : goal.own-joined_length-one-requires
own-joined_length-one-requires t c =
    let k = length c.args.signals.now in
    let m = shapes_of c.args.signals.now in
    let f = fits-replication (IsSignal k m) (Unit {0}) (Unit {0}) m _ _ _ _ c.in-Replication.is c.as_slice-in-Replication.ensures c.requires in
    (grind (the_lemmas, arith, common_steps), (f.0, f.1.1))

pub own-overflow_mul-c : goal.own-overflow_mul-c
own-overflow_mul-c t c =
    let k = length c.args.signals.now in
    let m = shapes_of c.args.signals.now in
    let f = fits-replication (IsSignal k m) (Unit {0}) (Unit {0}) m _ _ _ _ c.in-Replication.is c.as_slice-in-Replication.ensures c.requires in
    let w = f.2.1 in
    let e : c.in-Replication.c * c.joined_length-one.result ≤ 128 = subst (λ n. c.in-Replication.c * n ≤ 128) (sym c.joined_length-one.ensures) w in
    omega (arith, e)

pub own-own-requires-in-Signed : goal.own-own-requires-in-Signed
own-own-requires-in-Signed t c =
    let k = length c.args.signals.now in
    let m = shapes_of c.args.signals.now in
    (grind (the_lemmas, arith, common_steps), fits-signed (IsSignal k m) (Unit {0}) (Unit {0}) m _ _ _ c.in-Signed.is c.get-in-Signed.ensures c.requires)

pub own-own-requires-in-Unsigned : goal.own-own-requires-in-Unsigned
own-own-requires-in-Unsigned t c =
    let k = length c.args.signals.now in
    let m = shapes_of c.args.signals.now in
    (grind (the_lemmas, arith, common_steps), fits-unsigned (IsSignal k m) (Unit {0}) (Unit {0}) m _ _ _ c.in-Unsigned.is c.get-in-Unsigned.ensures c.requires)

pub own-returns-in-Select : goal.own-returns-in-Select
own-returns-in-Select t c =
    let k = length c.args.signals.now in
    let m = shapes_of c.args.signals.now in
    let f = fits-select (IsSignal k m) (Unit {0}) (Unit {0}) m _ c.in-Select.g c.in-Select.s c.in-Select.is c.requires in
    subst (λ (x : Meant). IsOwn x c.of_select.result.length c.of_select.result.signed) (sym (meant-select (IsSignal k m) (Unit {0}) (Unit {0}) m _ c.in-Select.g c.in-Select.s c.in-Select.is))
    (select_own k m _ c.in-Select.g c.in-Select.s _ _ f.0 f.1 c.of_select.ensures.length c.of_select.ensures.signed)

pub own-returns-in-SelectNumber : goal.own-returns-in-SelectNumber
own-returns-in-SelectNumber t c =
    let k = length c.args.signals.now in
    let m = shapes_of c.args.signals.now in
    let f = fits-number (IsSignal k m) (Unit {0}) (Unit {0}) m _ _ _ c.in-SelectNumber.s c.in-SelectNumber.is c.requires in
    subst (λ (x : Meant). IsOwn x c.without_sign.result.length c.without_sign.result.signed) (sym (meant-number (IsSignal k m) (Unit {0}) (Unit {0}) m _ _ _ c.in-SelectNumber.s c.in-SelectNumber.is))
    (number_own k m _ _ _ c.in-SelectNumber.s _ _ f.0.within f.1 (c.without_sign.ensures.length ∙ c.number_length.ensures) c.without_sign.ensures.signed)

pub own-returns-in-Unary : goal.own-returns-in-Unary
own-returns-in-Unary t c =
    let k = length c.args.signals.now in
    let m = shapes_of c.args.signals.now in
    subst (λ (x : Meant). IsOwn x c.unary.result.length c.unary.result.signed) (sym (meant-unary (IsSignal k m) (Unit {0}) (Unit {0}) m _ _ _ c.in-Unary.is c.get.ensures))
    (unary_own c.in-Unary.operator.op _ _ _ _ _ c.own.ensures c.unary.ensures.length c.unary.ensures.signed)

pub own-returns-in-Binary : goal.own-returns-in-Binary
own-returns-in-Binary t c =
    let k = length c.args.signals.now in
    let m = shapes_of c.args.signals.now in
    subst (λ (x : Meant). IsOwn x c.binary.result.length c.binary.result.signed) (sym (meant-binary (IsSignal k m) (Unit {0}) (Unit {0}) m _ _ _ _ _ c.in-Binary.is c.get-in-Binary.ensures c.get-in-Binary-2.ensures))
    (binary_own _ c.in-Binary.operator.op _ _ _ _ _ _ _ _ c.own-x.ensures c.own-y.ensures c.binary.ensures.length c.binary.ensures.signed)

pub own-returns-in-Conditional : goal.own-returns-in-Conditional
own-returns-in-Conditional t c =
    let k = length c.args.signals.now in
    let m = shapes_of c.args.signals.now in
    subst (λ (x : Meant). IsOwn x c.of_both.result.length c.of_both.result.signed) (sym (meant-conditional (IsSignal k m) (Unit {0}) (Unit {0}) m _ c.in-Conditional.field-0 _ _ _ _ c.in-Conditional.is refl c.get-in-Conditional.ensures c.get-in-Conditional-2.ensures))
    (conditional_own (meant m c.in-Conditional.field-0) _ _ _ _ _ _ _ _ c.own-x-in-Conditional.ensures c.own-y-in-Conditional.ensures c.of_both.ensures.length c.of_both.ensures.signed)

pub own-returns-in-Parentheses : goal.own-returns-in-Parentheses
own-returns-in-Parentheses t c =
    let k = length c.args.signals.now in
    let m = shapes_of c.args.signals.now in
    subst (λ (x : Meant). IsOwn x c.own-in-Parentheses.result.length c.own-in-Parentheses.result.signed) (sym (meant-parentheses (IsSignal k m) (Unit {0}) (Unit {0}) m _ _ _ c.in-Parentheses.is c.get-in-Parentheses.ensures)) c.own-in-Parentheses.ensures

pub own-returns-in-Concatenation : goal.own-returns-in-Concatenation
own-returns-in-Concatenation t c =
    let k = length c.args.signals.now in
    let m = shapes_of c.args.signals.now in
    let f = fits-concatenation (IsSignal k m) (Unit {0}) (Unit {0}) m _ _ _ c.in-Concatenation.is c.as_slice.ensures c.requires in
    subst (λ (x : Meant). IsOwn x c.without_sign-in-Concatenation.result.length c.without_sign-in-Concatenation.result.signed) (sym (meant-concatenation (IsSignal k m) (Unit {0}) (Unit {0}) m _ _ _ c.in-Concatenation.is c.as_slice.ensures))
    (plain_own _ _ _ f.1 (c.without_sign-in-Concatenation.ensures.length ∙ c.joined_length.ensures) (list_unsigned m c.as_slice.result.now) c.without_sign-in-Concatenation.ensures.signed)

pub own-returns-in-Replication : goal.own-returns-in-Replication
own-returns-in-Replication t c =
    let k = length c.args.signals.now in
    let m = shapes_of c.args.signals.now in
    let f = fits-replication (IsSignal k m) (Unit {0}) (Unit {0}) m _ _ _ _ c.in-Replication.is c.as_slice-in-Replication.ensures c.requires in
    subst (λ (x : Meant). IsOwn x c.without_sign-in-Replication.result.length c.without_sign-in-Replication.result.signed) (sym (meant-replication (IsSignal k m) (Unit {0}) (Unit {0}) m _ _ _ _ c.in-Replication.is c.as_slice-in-Replication.ensures))
    (replicated_own _ (list_meant m c.as_slice-in-Replication.result.now) _ _ _ c.joined_length-one.ensures f.2 c.without_sign-in-Replication.ensures.length c.without_sign-in-Replication.ensures.signed)

pub own-returns-in-Signed : goal.own-returns-in-Signed
own-returns-in-Signed t c =
    let k = length c.args.signals.now in
    let m = shapes_of c.args.signals.now in
    subst (λ (x : Meant). IsOwn x c.cast.result.length c.cast.result.signed) (sym (meant-signed (IsSignal k m) (Unit {0}) (Unit {0}) m _ _ _ c.in-Signed.is c.get-in-Signed.ensures))
    (cast_own true _ _ _ _ _ c.own-in-Signed.ensures c.cast.ensures.length c.cast.ensures.signed)

pub own-returns-in-Unsigned : goal.own-returns-in-Unsigned
own-returns-in-Unsigned t c =
    let k = length c.args.signals.now in
    let m = shapes_of c.args.signals.now in
    subst (λ (x : Meant). IsOwn x c.cast-in-Unsigned.result.length c.cast-in-Unsigned.result.signed) (sym (meant-unsigned (IsSignal k m) (Unit {0}) (Unit {0}) m _ _ _ c.in-Unsigned.is c.get-in-Unsigned.ensures))
    (cast_own false _ _ _ _ _ c.own-in-Unsigned.ensures c.cast-in-Unsigned.ensures.length c.cast-in-Unsigned.ensures.signed)
