use Rattle.std.proofs.Common.{◌≡◌, ◌<◌, length, refl, sym, ap, ◌∙◌, arith}
use Rattle.std.specs.Prelude.{Some}
use Rattle.joint_ir.specs.Statements.{is_case, is_default}
use Rattle.joint_lists.specs.Lists.{case_with, or_else}
use Rattle.switch_guards.specs.Entries.{number_of}
use Rattle.switch_guards.proofs.Placing.{default_below, placed_default, placed_get}
use Rattle.switch_guards.proofs.entries.enter_groups.Goals as goal

pub index-old-requires : goal.index-old-requires
index-old-requires c =
    let h = default_below c.args.groups.now c.in-Some.i (sym c.default_of.ensures ∙ c.in-Some.is) in
    let n = c.in_ok-found.ensures.count in
    let o = c.in_ok-found.found.groups.ok in
    omega (arith, h, n, o)

pub or-requires-clause-first : goal.or-requires-clause-first
or-requires-clause-first c =
    let h = default_below c.args.groups.now c.in-Some.i (sym c.default_of.ensures ∙ c.in-Some.is) in
    let n = c.in_ok-found.ensures.count in
    let few : c.in-Some.i < length c.in_ok-found.found.groups.items = omega (arith, h, n) in
    c.in_ok-found.ensures.has c.in-Some.i c.index-old.result.now (placed_get c.in_ok-found.found.groups.items c.in-Some.i c.index-old.result.now few c.index-old.ensures)

pub index_mut-requires : goal.index_mut-requires
index_mut-requires c =
    let h = default_below c.args.groups.now c.in-Some.i (sym c.default_of.ensures ∙ c.in-Some.is) in
    let n = c.in_ok-found.ensures.count in
    let o = c.in_ok-found.found.groups.ok in
    omega (arith, h, n, o)

pub returns : goal.returns
returns c =
    let groups = c.args.groups.now in
    let h = default_below groups c.in-Some.i (sym c.default_of.ensures ∙ c.in-Some.is) in
    let n = c.in_ok-found.ensures.count in
    let few : c.in-Some.i < length c.in_ok-found.found.groups.items = omega (arith, h, n) in
    placed_default c.args.net.now c.hits.new.net c.or.new.net c.args.guard (length groups) c.in_ok-found.found.groups.items c.in_ok-found.found.past c.index-old.result.now c.in_ok-found-2.field-0 c.in-Some.i (λ v. case_with (is_case (number_of c.args.ty v c.args.value)) groups) _
    c.in_ok-found.ensures (placed_get c.in_ok-found.found.groups.items c.in-Some.i c.index-old.result.now few c.index-old.ensures) c.in_ok-found-2.ensures c.requires.guard
    (λ v. ap (or_else (case_with (is_case (number_of c.args.ty v c.args.value)) groups)) (sym c.default_of.ensures ∙ c.in-Some.is))
