use Rattle.std.proofs.Common.{◌≡◌, length, sym, ◌∙◌, arith}
use Rattle.std.proofs.lemmas.Grind.{common_steps}
use Rattle.c_names.proofs.Scopes.{lookup_turn, find_here, find_start}
use Rattle.c_names.proofs.scope.Scopes.find.Goals as goal

pub returns-in-Some : goal.returns-in-Some
returns-in-Some c = find_here c.args.self.now c.args.name.now _ c.in-Some.ensures

pub returns-in-Some-get : goal.returns-in-Some-get
returns-in-Some-get c =
    sym (c.loop-at.invariant.1 ∙ lookup_turn _ _ _ _ _ _ c.loop-at-test.true c.loop-at.invariant.0 c.index.ensures c.text.ensures c.in-Some-get.ensures.value)

pub loop-at-init : goal.loop-at-init
loop-at-init c =
    let k : c.len-at.result ≡ length c.self.inside.outer.items = grind (arith, common_steps) in
    (omega arith, find_start _ _ _ _ _ c.self.view_is c.in_default.ensures k)

pub loop-at-preserved : goal.loop-at-preserved
loop-at-preserved c = (
  omega arith,
  c.loop-at.invariant.1 ∙ lookup_turn _ _ _ _ _ _ c.loop-at-test.true c.loop-at.invariant.0 c.index.ensures c.text.ensures c.in_default-get.ensures.value,
)
