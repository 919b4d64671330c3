use Rattle.std.proofs.Common.{false, get_or, take, sym, ◌∙◌, subst}
use Rattle.std.specs.List.{IsDistinct}
use Rattle.std.proofs.lemmas.List.{take_more}
use Rattle.std.proofs.lemmas.Map.Keys.{IsDistinct-push}
use Rattle.clause_arena.specs.declared.Lit.{Lit}
use Rattle.clause_arena.specs.Clause.{IsEachOnce}
use Rattle.res_log.proofs.Keying.{lit_eq-equiv}
use Rattle.show_log.proofs.making.is_each_once.Goals as goal

pub loop-i-init : goal.loop-i-init
unfolding IsDistinct
loop-i-init c = tt

pub loop-i-preserved : goal.loop-i-preserved
loop-i-preserved c =
    let x : Lit = get_or c.args.lits.now c.loop-i.i (record { var = 0; negative = false }) in
    subst IsEachOnce (sym (take_more c.args.lits.now c.loop-i.i (record { var = 0; negative = false }) c.loop-i-test.true))
    (IsDistinct-push lit_eq-equiv (take c.loop-i.i c.args.lits.now) x c.loop-i.invariant (sym c.has_lit.ensures ∙ c.if-has_lit.false))
