use Rattle.std.proofs.Common.{◌≡◌, ◌∙◌, ◌+◌, ◌-◌, ◌<◌, ◌≤◌, length, ℕ, true, List, [], ◌∷◌, ◌++◌, drop, refl, sym, ap, subst, eqb, rules, arith}
use Rattle.std.specs.Prelude.{ℤ, Option, Some, None, All, map}
use Rattle.std.proofs.lemmas.Grind.{common_steps}
use Rattle.std.proofs.lemmas.Int.{to_z-of_z}
use Rattle.std.proofs.lemmas.Result.{err_from_is_err_and}
use mir.Val.{SFits, to_z, of_z}
use mir.Syntax.{w128}
use Rattle.joint_ir.specs.declared.stmt.SNode.{SNode, Return, the_lemmas}
use Rattle.joint_ir.specs.declared.stmt.TLoop.{out-TLoop}
use Rattle.joint_ir.specs.declared.stmt.TStmt.{TStmt}
use Rattle.joint_ir.specs.declared.stmt.Group.{Group, out-Group}
use Rattle.joint_ir.specs.Effects.{Effect, Onward, nothing, Goes}
use Rattle.joint_ir.specs.Steps.{rows_in, limit_of}
use Rattle.joint_ir.specs.Statements.{after, calls_at}
use Rattle.joint_machine.specs.Moments.{Passes, Finds, Halts, Stands, from_here, setting_of}
use Rattle.joint_machine.proofs.Flow.{nothing_done}
use Rattle.joint_lists.specs.Lists.{after_items, after_option, after_cases, entered_case}
use Rattle.joint_step.specs.Walks.{calls_in}
use Rattle.joint_value.specs.Elements.{part_of, replaced}
use Rattle.joint_step.proofs.Restored.{own_from, call_room, call_restored, ok_ready}
use Rattle.joint_step.proofs.Flows.{goes_both, does_as, if_zero, if_other, if_halts, switch_none, switch_some, returned_gone, kept_then, items_step, items_leave, items_halt, items_done, cases_step, cases_leave, cases_halt, cases_done}
use Rattle.joint_step.proofs.Loops.{heads_leave, heads_halt, loop_begins, loop_stops, loop_unbegun, body_halts, body_leaves, step_halts, step_leaves, turn_done, turn_stops, test_halts, turns_over}
use Rattle.joint_step.proofs.Standing.{stands_as, stands-block, stands-test, stands-then, stands-else, stands-cases, stands_rest, stands_heads, stands_cond, stands_step, stands_body}
use Rattle.joint_step.proofs.Calls.{stands_left, calls_none, calls_bodiless, calls_entered, going_halts, going_done}
use Rattle.joint_step.proofs.Inits.{placed, store_valued, store_halts, declares_object, declares_array, stands_object, stands_args, args_taken, few_params, stands_callee, here_typed, stands_result, stands_value}
use Rattle.joint_step.proofs.Turns.{loop_turns}
use Rattle.joint_step.proofs.Falls.{enter_falls}
use Rattle.joint_step.specs.Parts.{IsTaken, other_way, turn_left, may_stand}
use Rattle.joint_value.proofs.Nodes.{moved}
use Rattle.joint_value.proofs.Numbers.{width_of, converted_in, small_of}
use Rattle.joint_value.specs.Answers.{IsSmall}
use Rattle.joint_value.proofs.Stores.{slot_typed}
use Rattle.joint_machine.proofs.Flow.{passes_after, then_passes, then_halts}
use Rattle.joint_ir.specs.declared.expr.TExpr.{TExpr}
use Rattle.joint_ir.specs.declared.expr.Slot.TheVariants.{Local}
use Rattle.joint_ir.specs.declared.program.Var.{Var}
use Rattle.joint_ir.specs.declared.ctype.IntType.{IntType}
use Rattle.joint_ir.specs.declared.stmt.TInit.{TInit}
use Rattle.joint_ir.specs.Types.{InRange, IsType, converted}
use Rattle.joint_ir.specs.Effects.{with_value, with_values}
use Rattle.joint_ir.specs.declared.way.Way.TheVariants.{Returning}
use Rattle.joint_ir.specs.Steps.{slot_type, var_type, with_init, store_at, store_effect, declare_effect, call_effect, first_value, returning}
use Rattle.joint_ir.specs.Statements.{after_body, any_result, is_below_limit}
use Rattle.joint_ir.specs.WellFormed.{FitsStmt, FitsExpr, FitsInit}
use Rattle.joint_machine.specs.Moments.{InTypes}
use Rattle.joint_lists.proofs.Rows.{after-block, after-if, after-switch}
use Rattle.joint_step.proofs.walk.+walk.Goals as goal

pub block-returns-in_err-way-clause-does : goal.block-returns-in_err-way-clause-does
block-returns-in_err-way-clause-does t c =
    let a = c.args.at.now in
    let k = setting_of a in
    let items = c.args.items.now in
    let i = c.loop-s.s-index in
    let x = c.s-item.result in
    let old = c.args.machine.now in
    let m = c.loop-s.machine in
    let p = err_from_is_err_and c.from_residual.result c.from_residual.ensures.1 in
    rw (p.1, p.2) (λ st is. items_halt k (calls_in a st) items i x old m c.loop-s-test.true c.s-item.is (c.loop-s.invariant.does st is) c.in_err-way.field-0.0 c.statement.new.machine (c.in_err-way.ensures.does st (c.loop-s.invariant.kept.standing ∙ is)))

pub block-returns-in-Some-clause-does : goal.block-returns-in-Some-clause-does
block-returns-in-Some-clause-does t c =
    let a = c.args.at.now in
    let k = setting_of a in
    let items = c.args.items.now in
    let i = c.loop-s.s-index in
    let x = c.s-item.result in
    let old = c.args.machine.now in
    let m = c.loop-s.machine in
    λ st is. items_leave k (calls_in a st) items i x old m c.loop-s-test.true c.s-item.is (c.loop-s.invariant.does st is) c.in_ok-way.way c.in-Some.way c.statement.new.machine (sym c.elsewhere.ensures ∙ c.in-Some.is) (c.in_ok-way.ensures.does st (c.loop-s.invariant.kept.standing ∙ is))

pub block-loop-s-preserved : goal.block-loop-s-preserved
block-loop-s-preserved t c =
    let a = c.args.at.now in
    let k = setting_of a in
    let items = c.args.items.now in
    let i = c.loop-s.s-index in
    let x = c.s-item.result in
    let old = c.args.machine.now in
    let m = c.loop-s.machine in
    let stays : other_way c.in_ok-way.way ≡ None = search rules in
    record {
      does = λ st is. items_step k (calls_in a st) items i x old m c.loop-s-test.true c.s-item.is (c.loop-s.invariant.does st is) c.in_ok-way.way c.statement.new.machine stays (c.in_ok-way.ensures.does st (c.loop-s.invariant.kept.standing ∙ is));
      kept = kept_then c.args.machine.now c.loop-s.machine c.statement.new.machine c.loop-s.invariant.kept c.in_ok-way.ensures.goes.0;
      ready = c.in_ok-way.ensures.goes.1;
      fits = stands_rest a.pair.now a.here items i x c.loop-s-test.true c.s-item.is c.loop-s.invariant.fits;
    }

pub block-returns-clause-does : goal.block-returns-clause-does
block-returns-clause-does t c =
    let a = c.args.at.now in
    let k = setting_of a in
    let items = c.args.items.now in
    λ st is. items_done k (calls_in a st) items c.loop-s.s-index c.args.machine.now c.loop-s.machine c.loop-s-test.false (c.loop-s.invariant.does st is)

pub run_cases-returns-in_err-way-clause-does : goal.run_cases-returns-in_err-way-clause-does
run_cases-returns-in_err-way-clause-does t c =
    let a = c.args.at.now in
    let k = setting_of a in
    let gs = c.args.groups.now in
    let from = c.args.from in
    let i = c.loop-k.k in
    let g = c.index-groups-k.result in
    let body = c.as_slice.result.now in
    let its = c.as_slice.ensures ∙ ap (λ (y : Group). (out-Group y).body) (sym c.index-groups-k.is) in
    let old = c.args.machine.now in
    let m = c.loop-k.machine in
    let p = err_from_is_err_and c.from_residual.result c.from_residual.ensures.1 in
    rw (p.1, p.2) (λ st is. cases_halt k (calls_in a st) gs from i g body old m c.loop-k-test.true c.index-groups-k.is its (c.loop-k.invariant.does st is) c.in_err-way.field-0.0 c.block.new.machine (c.in_err-way.ensures.does st (c.loop-k.invariant.kept.standing ∙ is)))

pub run_cases-returns-in-Some-clause-does : goal.run_cases-returns-in-Some-clause-does
run_cases-returns-in-Some-clause-does t c =
    let a = c.args.at.now in
    let k = setting_of a in
    let gs = c.args.groups.now in
    let from = c.args.from in
    let i = c.loop-k.k in
    let g = c.index-groups-k.result in
    let body = c.as_slice.result.now in
    let its = c.as_slice.ensures ∙ ap (λ (y : Group). (out-Group y).body) (sym c.index-groups-k.is) in
    let old = c.args.machine.now in
    let m = c.loop-k.machine in
    λ st is. cases_leave k (calls_in a st) gs from i g body old m c.loop-k-test.true c.index-groups-k.is its (c.loop-k.invariant.does st is) c.in_ok-way.way c.in-Some.way c.block.new.machine (sym c.elsewhere.ensures ∙ c.in-Some.is) (c.in_ok-way.ensures.does st (c.loop-k.invariant.kept.standing ∙ is))

pub run_cases-loop-k-preserved : goal.run_cases-loop-k-preserved
run_cases-loop-k-preserved t c =
    let a = c.args.at.now in
    let k = setting_of a in
    let gs = c.args.groups.now in
    let from = c.args.from in
    let i = c.loop-k.k in
    let g = c.index-groups-k.result in
    let body = c.as_slice.result.now in
    let its = c.as_slice.ensures ∙ ap (λ (y : Group). (out-Group y).body) (sym c.index-groups-k.is) in
    let old = c.args.machine.now in
    let m = c.loop-k.machine in
    let stays : other_way c.in_ok-way.way ≡ None = search rules in
    record {
      does = λ st is. cases_step k (calls_in a st) gs from i g body old m c.loop-k-test.true c.index-groups-k.is its (c.loop-k.invariant.does st is) c.in_ok-way.way c.block.new.machine stays (c.in_ok-way.ensures.does st (c.loop-k.invariant.kept.standing ∙ is));
      kept = kept_then c.args.machine.now c.loop-k.machine c.block.new.machine c.loop-k.invariant.kept c.in_ok-way.ensures.goes.0;
      ready = c.in_ok-way.ensures.goes.1;
    }

pub run_cases-returns-clause-does : goal.run_cases-returns-clause-does
run_cases-returns-clause-does t c =
    let a = c.args.at.now in
    let k = setting_of a in
    λ st is. cases_done k (calls_in a st) c.args.groups.now c.args.from c.loop-k.k c.args.machine.now c.loop-k.machine c.loop-k-test.false (c.loop-k.invariant.does st is)

pub optional-returns-in-Some-clause-does : goal.optional-returns-in-Some-clause-does
optional-returns-in-Some-clause-does t c =
    let a = c.args.at.now in
    let k = setting_of a in
    λ st is.
    does_as c.statement.result c.args.machine.now c.statement.new.machine (after_option k (calls_in a st) c.args.other.now) (after k (calls_in a st) c.get.result.now.place c.get.result.now.node)
    (ap (after_option k (calls_in a st)) (c.in-Some.is ∙ ap Some (sym c.get.ensures))) (c.statement.ensures.does st is)

pub repeat-block-requires : goal.repeat-block-requires
repeat-block-requires t c =
    let a = c.args.at.now in
    let k = setting_of a in
    (grind (the_lemmas, arith, common_steps), (c.requires.well, (c.requires.ready, stands_heads a.pair.now a.here c.args.one.now c.requires.fits c.as_slice.result.now c.as_slice.ensures)))

pub repeat-returns-in_err-way-clause-does : goal.repeat-returns-in_err-way-clause-does
repeat-returns-in_err-way-clause-does t c =
    let a = c.args.at.now in
    let k = setting_of a in
    let l = c.args.one.now in
    let old = c.args.machine.now in
    let mid = c.block.new.machine in
    let p = err_from_is_err_and c.from_residual.result c.from_residual.ensures.1 in
    rw (p.1, p.2) (λ st is. heads_halt k (calls_in a st) l old mid c.in_err-way.field-0.0
    (subst (λ (xs : List TStmt). Halts c.in_err-way.field-0.0 mid (from_here old (after_items k (calls_in a st) xs))) c.as_slice.ensures (c.in_err-way.ensures.does st is)))

pub repeat-returns-in-Some-clause-does : goal.repeat-returns-in-Some-clause-does
repeat-returns-in-Some-clause-does t c =
    let a = c.args.at.now in
    let k = setting_of a in
    let l = c.args.one.now in
    let old = c.args.machine.now in
    let mid = c.block.new.machine in
    λ st is. heads_leave k (calls_in a st) l old mid c.in_ok-way.way c.in-Some.way (sym c.elsewhere.ensures ∙ c.in-Some.is) (ap (λ (xs : List TStmt). from_here old (after_items k (calls_in a st) xs)) (sym c.as_slice.ensures) ∙ c.in_ok-way.ensures.does st is)

pub repeat-first_stops-requires-clause-fits : goal.repeat-first_stops-requires-clause-fits
repeat-first_stops-requires-clause-fits t c =
    let a = c.args.at.now in
    let k = setting_of a in
    stands_cond a.pair.now a.here c.args.one.now c.requires.fits

pub repeat-returns-in_err-first_stops-clause-does : goal.repeat-returns-in_err-first_stops-clause-does
repeat-returns-in_err-first_stops-clause-does t c =
    let a = c.args.at.now in
    let k = setting_of a in
    let l = c.args.one.now in
    let old = c.args.machine.now in
    let mid = c.block.new.machine in
    let stays : other_way c.in_ok-way.way ≡ None = search rules in
    let p = err_from_is_err_and c.from_residual-in_err-first_stops.result c.from_residual-in_err-first_stops.ensures.1 in
    rw (p.1, p.2) (λ st is. loop_unbegun k (calls_in a st) l old mid c.in_ok-way.way stays (ap (λ (xs : List TStmt). from_here old (after_items k (calls_in a st) xs)) (sym c.as_slice.ensures) ∙ c.in_ok-way.ensures.does st is) c.in_err-first_stops.field-0.0 c.in_err-first_stops.ensures.finds)

pub repeat-returns-then-branch-clause-does : goal.repeat-returns-then-branch-clause-does
repeat-returns-then-branch-clause-does t c =
    let a = c.args.at.now in
    let k = setting_of a in
    let l = c.args.one.now in
    let old = c.args.machine.now in
    let mid = c.block.new.machine in
    let stays : other_way c.in_ok-way.way ≡ None = search rules in
    λ st is. loop_stops k (calls_in a st) l old mid c.in_ok-way.way stays (ap (λ (xs : List TStmt). from_here old (after_items k (calls_in a st) xs)) (sym c.as_slice.ensures) ∙ c.in_ok-way.ensures.does st is) c.in_ok-first_stops.field-0 c.if-branch.true c.in_ok-first_stops.ensures.finds

pub repeat-loop-turn-init : goal.repeat-loop-turn-init
repeat-loop-turn-init t c =
    let a = c.args.at.now in
    let k = setting_of a in
    let l = c.args.one.now in
    let old = c.args.machine.now in
    let mid = c.block.new.machine in
    let stays : other_way c.in_ok-way.way ≡ None = search rules in
    let n = limit_of a.bounds.now (out-TLoop l).unwind in
    let whole : n ≡ n - 0 = omega arith in
    record {
      does = λ st is. loop_begins k (calls_in a st) l old mid c.in_ok-way.way stays (ap (λ (xs : List TStmt). from_here old (after_items k (calls_in a st) xs)) (sym c.as_slice.ensures) ∙ c.in_ok-way.ensures.does st is) c.in_ok-first_stops.field-0 c.if-branch.false c.in_ok-first_stops.ensures.finds ∙ ap (λ (j : ℕ). from_here mid (loop_turns k (calls_in a st) l j)) whole;
      kept = c.in_ok-way.ensures.goes.0;
      ready = c.in_ok-way.ensures.goes.1;
    }

pub repeat-statement-requires : goal.repeat-statement-requires
repeat-statement-requires t c =
    let a = c.args.at.now in
    let k = setting_of a in
    (grind (the_lemmas, arith, common_steps), (c.requires.well, (c.loop-turn.invariant.ready, stands_body a.pair.now a.here c.args.one.now c.requires.fits c.get.result.now c.get.ensures)))

pub repeat-returns-in_err-way-2-clause-does : goal.repeat-returns-in_err-way-2-clause-does
repeat-returns-in_err-way-2-clause-does t c =
    let a = c.args.at.now in
    let k = setting_of a in
    let l = c.args.one.now in
    let old = c.args.machine.now in
    let m = c.loop-turn.machine in
    let mid = c.statement.new.machine in
    let n = limit_of a.bounds.now (out-TLoop l).unwind in
    let i = c.loop-turn.turn in
    let lt : i < n = omega (arith, c.loop-turn-test.true, c.limit-limit.ensures) in
    let p = err_from_is_err_and c.from_residual-in_err-way-2.result c.from_residual-in_err-way-2.ensures.1 in
    rw (p.1, p.2) (λ st is. body_halts k (calls_in a st) l old m n i lt (c.loop-turn.invariant.does st is) c.in_err-way-2.field-0.0 mid
    (subst (λ (x : TStmt). Halts c.in_err-way-2.field-0.0 mid (from_here m (after k (calls_in a st) x.place x.node))) c.get.ensures (c.in_err-way-2.ensures.does st (c.loop-turn.invariant.kept.standing ∙ is))))

pub repeat-returns-in-Some-leaves-clause-does : goal.repeat-returns-in-Some-leaves-clause-does
repeat-returns-in-Some-leaves-clause-does t c =
    let a = c.args.at.now in
    let k = setting_of a in
    let l = c.args.one.now in
    let old = c.args.machine.now in
    let m = c.loop-turn.machine in
    let mid = c.statement.new.machine in
    let n = limit_of a.bounds.now (out-TLoop l).unwind in
    let i = c.loop-turn.turn in
    let lt : i < n = omega (arith, c.loop-turn-test.true, c.limit-limit.ensures) in
    λ st is. body_leaves k (calls_in a st) l old m n i lt (c.loop-turn.invariant.does st is) c.in_ok-way-2.way c.in-Some-leaves.way mid (sym c.leaves.ensures ∙ c.in-Some-leaves.is) (ap (λ (x : TStmt). from_here m (after k (calls_in a st) x.place x.node)) (sym c.get.ensures) ∙ c.in_ok-way-2.ensures.does st (c.loop-turn.invariant.kept.standing ∙ is))

pub repeat-optional-requires : goal.repeat-optional-requires
repeat-optional-requires t c =
    let a = c.args.at.now in
    let k = setting_of a in
    (grind (the_lemmas, arith, common_steps), (c.requires.well, (c.in_ok-way-2.ensures.goes.1, stands_step a.pair.now a.here c.args.one.now c.requires.fits)))

pub repeat-returns-in_err-way-3-clause-does : goal.repeat-returns-in_err-way-3-clause-does
repeat-returns-in_err-way-3-clause-does t c =
    let a = c.args.at.now in
    let k = setting_of a in
    let l = c.args.one.now in
    let old = c.args.machine.now in
    let m = c.loop-turn.machine in
    let mid = c.statement.new.machine in
    let n = limit_of a.bounds.now (out-TLoop l).unwind in
    let i = c.loop-turn.turn in
    let lt : i < n = omega (arith, c.loop-turn-test.true, c.limit-limit.ensures) in
    let new = c.optional.new.machine in
    let going : turn_left c.in_ok-way-2.way ≡ None = search rules in
    let p = err_from_is_err_and c.from_residual-in_err-way-3.result c.from_residual-in_err-way-3.ensures.1 in
    rw (p.1, p.2) (λ st is. step_halts k (calls_in a st) l old m n i lt (c.loop-turn.invariant.does st is) c.in_ok-way-2.way mid going (ap (λ (x : TStmt). from_here m (after k (calls_in a st) x.place x.node)) (sym c.get.ensures) ∙ c.in_ok-way-2.ensures.does st (c.loop-turn.invariant.kept.standing ∙ is)) c.in_err-way-3.field-0.0 new (c.in_err-way-3.ensures.does st (c.in_ok-way-2.ensures.goes.0.standing ∙ c.loop-turn.invariant.kept.standing ∙ is)))

pub repeat-returns-in-Some-elsewhere-clause-does : goal.repeat-returns-in-Some-elsewhere-clause-does
repeat-returns-in-Some-elsewhere-clause-does t c =
    let a = c.args.at.now in
    let k = setting_of a in
    let l = c.args.one.now in
    let old = c.args.machine.now in
    let m = c.loop-turn.machine in
    let mid = c.statement.new.machine in
    let n = limit_of a.bounds.now (out-TLoop l).unwind in
    let i = c.loop-turn.turn in
    let lt : i < n = omega (arith, c.loop-turn-test.true, c.limit-limit.ensures) in
    let new = c.optional.new.machine in
    let going : turn_left c.in_ok-way-2.way ≡ None = search rules in
    λ st is. step_leaves k (calls_in a st) l old m n i lt (c.loop-turn.invariant.does st is) c.in_ok-way-2.way mid going (ap (λ (x : TStmt). from_here m (after k (calls_in a st) x.place x.node)) (sym c.get.ensures) ∙ c.in_ok-way-2.ensures.does st (c.loop-turn.invariant.kept.standing ∙ is)) c.in_ok-way-3.way c.in-Some-elsewhere.way new (sym c.elsewhere-in-loop-turn.ensures ∙ c.in-Some-elsewhere.is) (c.in_ok-way-3.ensures.does st (c.in_ok-way-2.ensures.goes.0.standing ∙ c.loop-turn.invariant.kept.standing ∙ is))

pub repeat-stops-requires-clause-fits : goal.repeat-stops-requires-clause-fits
repeat-stops-requires-clause-fits t c =
    let a = c.args.at.now in
    let k = setting_of a in
    stands_cond a.pair.now a.here c.args.one.now c.requires.fits

pub repeat-returns-in_err-stops-clause-does : goal.repeat-returns-in_err-stops-clause-does
repeat-returns-in_err-stops-clause-does t c =
    let a = c.args.at.now in
    let k = setting_of a in
    let l = c.args.one.now in
    let old = c.args.machine.now in
    let m = c.loop-turn.machine in
    let mid = c.statement.new.machine in
    let n = limit_of a.bounds.now (out-TLoop l).unwind in
    let i = c.loop-turn.turn in
    let lt : i < n = omega (arith, c.loop-turn-test.true, c.limit-limit.ensures) in
    let new = c.optional.new.machine in
    let going : turn_left c.in_ok-way-2.way ≡ None = search rules in
    let staying : other_way c.in_ok-way-3.way ≡ None = search rules in
    let p = err_from_is_err_and c.from_residual-in_err-stops.result c.from_residual-in_err-stops.ensures.1 in
    rw (p.1, p.2) (λ st is. test_halts k (calls_in a st) l old m n i lt (c.loop-turn.invariant.does st is) c.in_ok-way-2.way mid going (ap (λ (x : TStmt). from_here m (after k (calls_in a st) x.place x.node)) (sym c.get.ensures) ∙ c.in_ok-way-2.ensures.does st (c.loop-turn.invariant.kept.standing ∙ is)) c.in_ok-way-3.way new staying (c.in_ok-way-3.ensures.does st (c.in_ok-way-2.ensures.goes.0.standing ∙ c.loop-turn.invariant.kept.standing ∙ is)) c.in_err-stops.field-0.0 c.in_err-stops.ensures.finds)

pub repeat-returns-then-branch-2-clause-does : goal.repeat-returns-then-branch-2-clause-does
repeat-returns-then-branch-2-clause-does t c =
    let a = c.args.at.now in
    let k = setting_of a in
    let l = c.args.one.now in
    let old = c.args.machine.now in
    let m = c.loop-turn.machine in
    let mid = c.statement.new.machine in
    let n = limit_of a.bounds.now (out-TLoop l).unwind in
    let i = c.loop-turn.turn in
    let lt : i < n = omega (arith, c.loop-turn-test.true, c.limit-limit.ensures) in
    let new = c.optional.new.machine in
    let going : turn_left c.in_ok-way-2.way ≡ None = search rules in
    let staying : other_way c.in_ok-way-3.way ≡ None = search rules in
    λ st is. turn_stops k (calls_in a st) l old m n i lt (c.loop-turn.invariant.does st is) c.in_ok-way-2.way mid going (ap (λ (x : TStmt). from_here m (after k (calls_in a st) x.place x.node)) (sym c.get.ensures) ∙ c.in_ok-way-2.ensures.does st (c.loop-turn.invariant.kept.standing ∙ is)) c.in_ok-way-3.way new staying (c.in_ok-way-3.ensures.does st (c.in_ok-way-2.ensures.goes.0.standing ∙ c.loop-turn.invariant.kept.standing ∙ is)) c.in_ok-stops.field-0 c.if-branch-2.true c.in_ok-stops.ensures.finds

pub repeat-loop-turn-preserved : goal.repeat-loop-turn-preserved
repeat-loop-turn-preserved t c =
    let a = c.args.at.now in
    let k = setting_of a in
    let l = c.args.one.now in
    let old = c.args.machine.now in
    let m = c.loop-turn.machine in
    let mid = c.statement.new.machine in
    let n = limit_of a.bounds.now (out-TLoop l).unwind in
    let i = c.loop-turn.turn in
    let lt : i < n = omega (arith, c.loop-turn-test.true, c.limit-limit.ensures) in
    let new = c.optional.new.machine in
    let going : turn_left c.in_ok-way-2.way ≡ None = search rules in
    let staying : other_way c.in_ok-way-3.way ≡ None = search rules in
    record {
      does = λ st is. turn_done k (calls_in a st) l old m n i lt (c.loop-turn.invariant.does st is) c.in_ok-way-2.way mid going (ap (λ (x : TStmt). from_here m (after k (calls_in a st) x.place x.node)) (sym c.get.ensures) ∙ c.in_ok-way-2.ensures.does st (c.loop-turn.invariant.kept.standing ∙ is)) c.in_ok-way-3.way new staying (c.in_ok-way-3.ensures.does st (c.in_ok-way-2.ensures.goes.0.standing ∙ c.loop-turn.invariant.kept.standing ∙ is)) c.in_ok-stops.field-0 c.if-branch-2.false c.in_ok-stops.ensures.finds;
      kept = kept_then c.args.machine.now c.statement.new.machine c.optional.new.machine (kept_then c.args.machine.now c.loop-turn.machine c.statement.new.machine c.loop-turn.invariant.kept c.in_ok-way-2.ensures.goes.0) c.in_ok-way-3.ensures.goes.0;
      ready = c.in_ok-way-3.ensures.goes.1;
    }

pub repeat-returns-clause-does : goal.repeat-returns-clause-does
repeat-returns-clause-does t c =
    let a = c.args.at.now in
    let k = setting_of a in
    let l = c.args.one.now in
    let n = limit_of a.bounds.now (out-TLoop l).unwind in
    λ st is. turns_over k (calls_in a st) l c.args.machine.now c.loop-turn.machine n c.loop-turn.turn (omega (arith, c.loop-turn-test.false, c.limit-limit.ensures)) (c.loop-turn.invariant.does st is)

pub store-returns-in_err-index-clause-does : goal.store-returns-in_err-index-clause-does
store-returns-in_err-index-clause-does t c =
    let a = c.args.at.now in
    let k = setting_of a in
    let target = c.args.target.now in
    let init = c.args.init.now in
    let old = c.args.machine.now in
    let p = err_from_is_err_and c.from_residual.result c.from_residual.ensures.1 in
    rw (p.1, p.2) (λ st is. c.in_err-index.ensures.finds (λ j s c'. with_init k (calls_in a st) (slot_type a.pair.now.program target.slot) init s c' (placed k (calls_in a st) target init old j)))

pub store-initial-requires : goal.store-initial-requires
store-initial-requires t c =
    let a = c.args.at.now in
    let k = setting_of a in
    (omega arith, (c.requires.well, (c.requires.ready, (subst IsType (sym c.slot_type-ty.ensures) (slot_typed a.pair.now.program c.args.target.now.slot c.requires.well.program), subst (λ (t : IntType). Stands a.pair.now a.here (λ s. FitsInit s true t c.args.init.now)) (sym c.slot_type-ty.ensures) c.requires.value))))

pub store-returns-in_err-n-clause-does : goal.store-returns-in_err-n-clause-does
store-returns-in_err-n-clause-does t c =
    let a = c.args.at.now in
    let k = setting_of a in
    let target = c.args.target.now in
    let init = c.args.init.now in
    let old = c.args.machine.now in
    let ty = c.slot_type-ty.result in
    let i = c.in_ok-index.index in
    let p = err_from_is_err_and c.from_residual-in_err-n.result c.from_residual-in_err-n.ensures.1 in
    rw (p.1, p.2) (λ st is. store_halts k (calls_in a st) target init old i c.in_ok-index.ensures.finds ty c.slot_type-ty.ensures c.in_err-n.field-0.0 c.initial.new.machine (c.in_err-n.ensures.finds st is))

pub store-returns-clause-does : goal.store-returns-clause-does
store-returns-clause-does t c =
    let a = c.args.at.now in
    let k = setting_of a in
    let target = c.args.target.now in
    let init = c.args.init.now in
    let old = c.args.machine.now in
    let ty = c.slot_type-ty.result in
    let i = c.in_ok-index.index in
    let f : SFits w128 c.in_ok-n.n = search rules in
    let stored = simp to_z-of_z at c.store_into.ensures.does in
    λ st is. passes_after c.store_into.result old c.initial.new.machine c.store_into.new.self (store_effect k (calls_in a st) target init) (placed k (calls_in a st) target init old i c.in_ok-n.n) (store_valued k (calls_in a st) target init old i c.in_ok-index.ensures.finds ty c.slot_type-ty.ensures c.initial.new.machine c.in_ok-n.n (c.in_ok-n.ensures.finds st is)) stored

pub declare-returns-then-var-gt0-clause-does : goal.declare-returns-then-var-gt0-clause-does
declare-returns-then-var-gt0-clause-does t c =
    let a = c.args.at.now in
    let k = setting_of a in
    let var = c.in-Some.var.now in
    let some = sym c.in-Some.ensures.value in
    λ st is. passes_after c.declare_array.result c.args.machine.now c.args.machine.now c.declare_array.new.machine (declare_effect k (calls_in a st) c.args.line c.args.x c.args.init.now) _ (ap (from_here c.args.machine.now) (declares_array k (calls_in a st) c.args.line c.args.x c.args.init.now var some c.if-var-gt0.true)) (c.declare_array.ensures.does (calls_in a st))

pub declare-initial-requires : goal.declare-initial-requires
declare-initial-requires t c =
    let a = c.args.at.now in
    let k = setting_of a in
    let var = c.in-Some.var.now in
    let some = sym c.in-Some.ensures.value in
    (omega arith, (c.requires.well, (c.requires.ready, (subst IsType (ap (λ (o : Option Var). var_type o) some) (slot_typed a.pair.now.program (Local c.args.x) c.requires.well.program), stands_object a.pair.now a.here c.args.x c.args.init.now var some c.requires.fits c.if-var-gt0.false))))

pub declare-returns-in_err-n-in-Some-clause-does : goal.declare-returns-in_err-n-in-Some-clause-does
declare-returns-in_err-n-in-Some-clause-does t c =
    let a = c.args.at.now in
    let k = setting_of a in
    let var = c.in-Some.var.now in
    let some = sym c.in-Some.ensures.value in
    let p = err_from_is_err_and c.from_residual.result c.from_residual.ensures.1 in
    rw (p.1, p.2) (λ st is. subst (λ (x : Effect). Halts c.in_err-n-in-Some.field-0.0 c.initial.new.machine x) (sym (ap (from_here c.args.machine.now) (declares_object k (calls_in a st) c.args.line c.args.x c.args.init.now var some c.if-var-gt0.false))) (c.in_err-n-in-Some.ensures.finds st is (store_at c.args.line (Local c.args.x) None)))

pub declare-returns-in_ok-n-in-Some-clause-does : goal.declare-returns-in_ok-n-in-Some-clause-does
declare-returns-in_ok-n-in-Some-clause-does t c =
    let a = c.args.at.now in
    let k = setting_of a in
    let var = c.in-Some.var.now in
    let some = sym c.in-Some.ensures.value in
    let f : SFits w128 c.in_ok-n-in-Some.n = search rules in
    let stored = simp to_z-of_z at c.put.ensures.does in
    λ st is. passes_after c.put.result c.args.machine.now c.initial.new.machine c.put.new.self (declare_effect k (calls_in a st) c.args.line c.args.x c.args.init.now) (store_at c.args.line (Local c.args.x) None c.in_ok-n-in-Some.n) ((ap (from_here c.args.machine.now) (declares_object k (calls_in a st) c.args.line c.args.x c.args.init.now var some c.if-var-gt0.false)) ∙ c.in_ok-n-in-Some.ensures.finds st is (store_at c.args.line (Local c.args.x) None)) stored

pub initial-returns-in-Free-clause-finds : goal.initial-returns-in-Free-clause-finds
initial-returns-in-Free-clause-finds t c =
    rw c.in-Free.is (λ st is. c.any_number.ensures.finds)

pub initial-returns-in-Values-clause-finds : goal.initial-returns-in-Values-clause-finds
initial-returns-in-Values-clause-finds t c =
    let a = c.args.at.now in
    let k = setting_of a in
    let m = c.args.machine.now in
    rw c.in-Values.is (λ st is. subst (λ (l : List TExpr). Finds c.value_or_zero.result m m (λ go s c'. with_value (first_value (rows_in k s) l) c' (λ n. go n s c'))) c.as_slice.ensures c.value_or_zero.ensures.finds)

pub initial-converted-requires : goal.initial-converted-requires
initial-converted-requires t c =
    width_of c.args.ty c.requires.typed

pub initial-returns-in_err-call-in-Called-clause-finds : goal.initial-returns-in_err-call-in-Called-clause-finds
initial-returns-in_err-call-in-Called-clause-finds t c =
    let a = c.args.at.now in
    let k = setting_of a in
    let p = err_from_is_err_and c.from_residual.result c.from_residual.ensures.1 in
    rw (p.1, p.2, c.in-Called.is) (λ st is go. then_halts c.in_err-call-in-Called.field-0.0 c.args.machine.now c.call.new.machine (call_effect k (calls_in a st) c.in-Called.one) (λ s' rest. go (converted c.args.ty s'.returned) s' rest) (c.in_err-call-in-Called.ensures.does st is))

pub initial-returns-in_ok-call-in-Called-clause-finds : goal.initial-returns-in_ok-call-in-Called-clause-finds
initial-returns-in_ok-call-in-Called-clause-finds t c =
    let a = c.args.at.now in
    let k = setting_of a in
    let mid = c.call.new.machine in
    let h : SFits w128 c.converted.result = search rules in
    let g : SFits w128 mid.returned = search rules in
    let number = simp to_z-of_z at c.converted.ensures in
    rw c.in-Called.is (λ st is go. then_passes c.args.machine.now mid (call_effect k (calls_in a st) c.in-Called.one) (λ s' rest. go (converted c.args.ty s'.returned) s' rest) (c.in_ok-call-in-Called.ensures.does st is) ∙ ap (λ (v : ℤ). from_here mid (go v)) (sym (to_z-of_z w128 _ h ∙ number)))

pub initial-returns-in_ok-call-in-Called-clause-range : goal.initial-returns-in_ok-call-in-Called-clause-range
initial-returns-in_ok-call-in-Called-clause-range t c =
    let h : SFits w128 c.converted.result = search rules in
    moved (λ (v : ℤ). InRange c.args.ty v) _ h (subst (λ (v : ℤ). InRange c.args.ty v) (sym c.converted.ensures) (converted_in c.args.ty _ c.requires.typed))

pub call-arguments-requires-clause-fits : goal.call-arguments-requires-clause-fits
call-arguments-requires-clause-fits t c =
    let a = c.args.at.now in
    let k = setting_of a in
    subst (λ (l : List TExpr). Stands a.pair.now a.here (λ s. All (FitsExpr s) l)) (sym c.as_slice.ensures) (stands_args a.pair.now a.here c.args.one.now c.requires.fits)

pub call-returns-in_err-args-clause-does : goal.call-returns-in_err-args-clause-does
call-returns-in_err-args-clause-does t c =
    let a = c.args.at.now in
    let k = setting_of a in
    let m = c.args.machine.now in
    let p = err_from_is_err_and c.from_residual.result c.from_residual.ensures.1 in
    rw (p.1, p.2) (λ st is.
    subst (λ (l : List TExpr). Halts c.in_err-args.field-0.0 m (from_here m (λ s c'. with_values (rows_in k s) l c' (λ ns. calls_in a st c.args.one.now.place c.args.one.now.function ns s c')))) c.as_slice.ensures
    (c.in_err-args.ensures.finds (λ ns s c'. calls_in a st c.args.one.now.place c.args.one.now.function ns s c')))

pub call-enter-requires : goal.call-enter-requires
call-enter-requires t c =
    let a = c.args.at.now in
    let k = setting_of a in
    (omega arith, (c.requires.well, (c.requires.ready, subst (IsTaken a.pair.now.program c.args.one.now.function) (sym c.as_slice-2.ensures) (args_taken a.pair.now a.here c.args.one.now c.requires.fits c.in_ok-args.args (subst (λ (l : List TExpr). InTypes (map (λ (e : TExpr). e.ty) l) c.in_ok-args.args) c.as_slice.ensures c.in_ok-args.ensures.ranges)))))

pub call-returns-clause-does : goal.call-returns-clause-does
call-returns-clause-does t c =
    let a = c.args.at.now in
    let k = setting_of a in
    let m = c.args.machine.now in
    let one = c.args.one.now in
    λ st is. passes_after c.enter.result m m c.enter.new.machine (call_effect k (calls_in a st) one) (calls_in a st one.place one.function c.in_ok-args.args) ((λ (go : List ℤ → Onward). ap (λ (l : List TExpr). from_here m (λ s c'. with_values (rows_in k s) l c' (λ ns. go ns s c'))) (sym c.as_slice.ensures) ∙ c.in_ok-args.ensures.finds go) (λ ns s c'. calls_in a st one.place one.function ns s c')) (subst (λ (ns : List ℤ). Passes c.enter.result m c.enter.new.machine (calls_in a st one.place one.function ns)) c.as_slice-2.ensures (c.enter.ensures.does st is))

pub enter-returns-in-None-clause-does : goal.enter-returns-in-None-clause-does
enter-returns-in-None-clause-does t c =
    let a = c.args.at.now in
    let k = setting_of a in
    λ st is. ap (from_here c.args.machine.now) (calls_none a.pair.now a.bounds.now c.args.function c.args.place c.args.args.now a.left st (sym c.in-None.ensures.value)) ∙ nothing_done c.args.machine.now

pub enter-returns-in-None-body-clause-does : goal.enter-returns-in-None-body-clause-does
enter-returns-in-None-body-clause-does t c =
    let a = c.args.at.now in
    let k = setting_of a in
    let p = a.pair.now in
    let f = c.args.function in
    let fn = c.in-Some.callee.now in
    let some = sym c.in-Some.ensures.value in
    let old = c.args.machine.now in
    λ st is. passes_after c.any_result.result old old c.any_result.new.self _ (any_result fn.result) (ap (from_here old) (calls_bodiless p a.bounds.now f c.args.place c.args.args.now fn a.left st some c.in-None-body.is)) c.any_result.ensures.does

pub enter-begin-requires-clause-few : goal.enter-begin-requires-clause-few
enter-begin-requires-clause-few t c =
    let a = c.args.at.now in
    let k = setting_of a in
    let p = a.pair.now in
    let f = c.args.function in
    let fn = c.in-Some.callee.now in
    let some = sym c.in-Some.ensures.value in
    let old = c.args.machine.now in
    let body = c.in-Some-body.body in
    let b = a.bounds.now in
    few_params p f fn c.requires.well some body c.in-Some-body.is c.args.args.now (c.requires.args fn some)

pub enter-statement-requires : goal.enter-statement-requires
enter-statement-requires t c =
    let a = c.args.at.now in
    let k = setting_of a in
    let p = a.pair.now in
    let f = c.args.function in
    let fn = c.in-Some.callee.now in
    let some = sym c.in-Some.ensures.value in
    let old = c.args.machine.now in
    let body = c.in-Some-body.body in
    let b = a.bounds.now in
    let lt = stands_left a.left _ (sym c.may_begin.ensures ∙ c.if-not-may_begin.false) in
    let falls = enter_falls p.program.functions a.left f fn body lt some c.in-Some-body.is in
    let now = c.decreases in
    (omega arith, (c.requires.well, (c.in_ok-saved-in-Some-body.ensures.ready p (c.requires.args fn some).typed c.requires.ready, stands_callee p f fn c.requires.well some body c.in-Some-body.is)))

pub enter-returns-in_err-way-in-Some-body-clause-does : goal.enter-returns-in_err-way-in-Some-body-clause-does
enter-returns-in_err-way-in-Some-body-clause-does t c =
    let a = c.args.at.now in
    let k = setting_of a in
    let p = a.pair.now in
    let f = c.args.function in
    let fn = c.in-Some.callee.now in
    let some = sym c.in-Some.ensures.value in
    let old = c.args.machine.now in
    let body = c.in-Some-body.body in
    let b = a.bounds.now in
    let p' = err_from_is_err_and c.from_residual-in_err-way-in-Some-body.result c.from_residual-in_err-way-in-Some-body.ensures.1 in
    rw (p'.1, p'.2) (λ st is. subst (λ (x : Effect). Halts c.in_err-way-in-Some-body.field-0.0 c.statement.new.machine x) (sym (ap (from_here old) (calls_entered p b f c.args.place c.args.args.now fn a.left st some body c.in-Some-body.is (ap (λ (l : List ℕ). may_stand a.left (is_below_limit p b l f fn)) (sym is) ∙ sym c.may_begin.ensures ∙ c.if-not-may_begin.false)))) (going_halts p b (calls_at p b (a.left - 1) (st ++ f ∷ [])) f fn body c.args.place c.args.args.now old c.begin.new.self c.in_ok-saved-in-Some-body.ensures.does c.in_err-way-in-Some-body.field-0.0 c.statement.new.machine (c.in_err-way-in-Some-body.ensures.does (st ++ f ∷ []) (c.in_ok-saved-in-Some-body.ensures.standing ∙ ap (λ (l : List ℕ). l ++ f ∷ []) is))))

pub enter-begin-requires-clause-from : goal.enter-begin-requires-clause-from
enter-begin-requires-clause-from t c =
    subst (λ (n : ℕ). c.in-Some.callee.now.first ≤ n) (sym c.own_end-end.ensures)
    (own_from c.args.at.now.pair.now c.args.at.now.bounds.now c.requires.well c.args.function c.in-Some.callee.now (sym c.in-Some.ensures.value) c.in-Some-body.body c.in-Some-body.is)

pub enter-leave-requires-clause-room : goal.enter-leave-requires-clause-room
enter-leave-requires-clause-room t c =
    let a = c.args.at.now in
    let p = a.pair.now in
    let f = c.args.function in
    let fn = c.in-Some.callee.now in
    let some = sym c.in-Some.ensures.value in
    let old = c.args.machine.now in
    let body = c.in-Some-body.body in
    let b = a.bounds.now in
    let new = c.statement.new.machine in
    let mid = c.begin.new.self in
    let w = c.in_ok-way-in-Some-body.way in
    let first = c.in_ok-saved-in-Some-body.ensures in
    let ended_at = c.own_end-end.ensures in
    let st = old.standing.items in
    let done = c.in_ok-way-in-Some-body.ensures.does (st ++ f ∷ []) first.standing in
    subst (λ (rows : List (List ℤ)). fn.first + length rows ≤ length new.store.locals) (sym (first.saved ∙ ap (λ (n : ℕ). part_of fn.first n old.store.locals) ended_at))
    (call_room p b c.requires.well f fn some body c.in-Some-body.is c.args.place.line c.args.args.now (c.requires.args fn some) old mid new c.requires.ready first.does (a.left - 1) (st ++ f ∷ []) w done)

pub enter-returns-in_ok-way-in-Some-body-clause-goes : goal.enter-returns-in_ok-way-in-Some-body-clause-goes
enter-returns-in_ok-way-in-Some-body-clause-goes t c =
    let a = c.args.at.now in
    let p = a.pair.now in
    let f = c.args.function in
    let fn = c.in-Some.callee.now in
    let some = sym c.in-Some.ensures.value in
    let old = c.args.machine.now in
    let body = c.in-Some-body.body in
    let b = a.bounds.now in
    let new = c.statement.new.machine in
    let mid = c.begin.new.self in
    let w = c.in_ok-way-in-Some-body.way in
    let first = c.in_ok-saved-in-Some-body.ensures in
    let ended_at = c.own_end-end.ensures in
    let st = old.standing.items in
    let done = c.in_ok-way-in-Some-body.ensures.does (st ++ f ∷ []) first.standing in
    let same : replaced fn.first c.in_ok-saved-in-Some-body.saved new.store.locals ≡ old.store.locals =
    ap (λ (rows : List (List ℤ)). replaced fn.first rows new.store.locals) (first.saved ∙ ap (λ (n : ℕ). part_of fn.first n old.store.locals) ended_at)
    ∙ call_restored p b c.requires.well f fn some body c.in-Some-body.is c.args.place.line c.args.args.now (c.requires.args fn some) old mid new c.requires.ready first.does (a.left - 1) (st ++ f ∷ []) w done in
    let body_kept = c.in_ok-way-in-Some-body.ensures.goes in
    goes_both c.leave.result p old c.leave.new.self
    (record {
      choices = c.leave.ensures.choices ∙ body_kept.0.choices ∙ first.choices;
      standing = c.leave.ensures.standing st f (body_kept.0.standing ∙ first.standing);
    })
    (ok_ready c.leave.result p fn.first c.in_ok-saved-in-Some-body.saved new c.leave.new.self old c.leave.ensures.ready body_kept.1 c.requires.ready same)

pub enter-returns-in_ok-way-in-Some-body-clause-does : goal.enter-returns-in_ok-way-in-Some-body-clause-does
enter-returns-in_ok-way-in-Some-body-clause-does t c =
    let a = c.args.at.now in
    let k = setting_of a in
    let p = a.pair.now in
    let f = c.args.function in
    let fn = c.in-Some.callee.now in
    let some = sym c.in-Some.ensures.value in
    let old = c.args.machine.now in
    let body = c.in-Some-body.body in
    let b = a.bounds.now in
    let new = c.statement.new.machine in
    let w = c.in_ok-way-in-Some-body.way in
    let saved = c.in_ok-saved-in-Some-body.saved in
    let mid = c.begin.new.self in
    let first = c.in_ok-saved-in-Some-body.ensures in
    let st' = old.standing.items in
    let same : replaced fn.first saved new.store.locals ≡ old.store.locals =
    ap (λ (rows : List (List ℤ)). replaced fn.first rows new.store.locals) (first.saved ∙ ap (λ (n : ℕ). part_of fn.first n old.store.locals) c.own_end-end.ensures)
    ∙ call_restored p b c.requires.well f fn some body c.in-Some-body.is c.args.place.line c.args.args.now (c.requires.args fn some) old mid new c.requires.ready first.does (a.left - 1) (st' ++ f ∷ []) w (c.in_ok-way-in-Some-body.ensures.does (st' ++ f ∷ []) first.standing) in
    λ st is. passes_after c.leave.result old new c.leave.new.self (calls_at p b a.left st c.args.place f c.args.args.now)
    (λ s c'. after_body (eqb f p.program.main) fn.result (replaced fn.first saved new.store.locals) (Goes w s nothing c'))
    (ap (from_here old) (calls_entered p b f c.args.place c.args.args.now fn a.left st some body c.in-Some-body.is (ap (λ (l : List ℕ). may_stand a.left (is_below_limit p b l f fn)) (sym is) ∙ sym c.may_begin.ensures ∙ c.if-not-may_begin.false))
    ∙ going_done p b (calls_at p b (a.left - 1) (st ++ f ∷ [])) f fn body c.args.place c.args.args.now old c.begin.new.self c.in_ok-saved-in-Some-body.ensures.does w new (c.in_ok-way-in-Some-body.ensures.does (st ++ f ∷ []) (c.in_ok-saved-in-Some-body.ensures.standing ∙ ap (λ (l : List ℕ). l ++ f ∷ []) is))
    ∙ ap (λ (rows : List (List ℤ)). from_here new (λ s c'. after_body (eqb f p.program.main) fn.result rows (Goes w s nothing c'))) (sym same))
    c.leave.ensures.does

pub statement-block-requires : goal.statement-block-requires
statement-block-requires t c =
    let a = c.args.at.now in
    let k = setting_of a in
    let m = c.args.machine.now in
    let s0 = c.args.s.now in
    let node = c.args.s.now.node in
    (grind (the_lemmas, arith, common_steps), (c.requires.well, (c.requires.ready, stands-block a.pair.now a.here node _ _ c.in-Block.is c.as_slice.ensures c.requires.fits)))

pub statement-returns-in-Block-clause-does : goal.statement-returns-in-Block-clause-does
statement-returns-in-Block-clause-does t c =
    let a = c.args.at.now in
    let k = setting_of a in
    let m = c.args.machine.now in
    let s0 = c.args.s.now in
    let node = c.args.s.now.node in
    λ st is. does_as c.block.result m c.block.new.machine (after k (calls_in a st) s0.place node) (after_items k (calls_in a st) c.as_slice.result.now) (after-block k (calls_in a st) s0.place node _ _ c.in-Block.is c.as_slice.ensures) (c.block.ensures.does st is)

pub statement-returns-in-Declare-clause-does : goal.statement-returns-in-Declare-clause-does
statement-returns-in-Declare-clause-does t c =
    let a = c.args.at.now in
    let k = setting_of a in
    let m = c.args.machine.now in
    let s0 = c.args.s.now in
    let node = c.args.s.now.node in
    rw c.in-Declare.is (λ st is. c.past.ensures.does m c.declare.new.machine _ (c.declare.ensures.does st is))

pub statement-store-requires : goal.statement-store-requires
statement-store-requires t c =
    let a = c.args.at.now in
    let k = setting_of a in
    let m = c.args.machine.now in
    let s0 = c.args.s.now in
    let node = c.args.s.now.node in
    (grind (the_lemmas, arith, common_steps), (c.requires.well, (c.requires.ready, (stands_as a.pair.now a.here _ _ (λ s h. h.0) (subst (λ (n : SNode). Stands a.pair.now a.here (λ s. FitsStmt s n)) c.in-Store.is c.requires.fits), stands_value a.pair.now a.here _ _ (subst (λ (n : SNode). Stands a.pair.now a.here (λ s. FitsStmt s n)) c.in-Store.is c.requires.fits)))))

pub statement-returns-in-Store-clause-does : goal.statement-returns-in-Store-clause-does
statement-returns-in-Store-clause-does t c =
    let a = c.args.at.now in
    let k = setting_of a in
    let m = c.args.machine.now in
    let s0 = c.args.s.now in
    let node = c.args.s.now.node in
    rw c.in-Store.is (λ st is. c.past-in-Store.ensures.does m c.store.new.machine _ (c.store.ensures.does st is))

pub statement-returns-in-Call-clause-does : goal.statement-returns-in-Call-clause-does
statement-returns-in-Call-clause-does t c =
    let a = c.args.at.now in
    let k = setting_of a in
    let m = c.args.machine.now in
    let s0 = c.args.s.now in
    let node = c.args.s.now.node in
    rw c.in-Call.is (λ st is. c.past-in-Call.ensures.does m c.call.new.machine _ (c.call.ensures.does st is))

pub statement-value-requires-clause-fits : goal.statement-value-requires-clause-fits
statement-value-requires-clause-fits t c =
    let a = c.args.at.now in
    let k = setting_of a in
    let m = c.args.machine.now in
    let s0 = c.args.s.now in
    let node = c.args.s.now.node in
    stands-test a.pair.now a.here node _ c.get.result.now _ s0 _ c.in-If.is c.requires.fits c.get.ensures

pub statement-optional-requires : goal.statement-optional-requires
statement-optional-requires t c =
    let a = c.args.at.now in
    let k = setting_of a in
    let m = c.args.machine.now in
    let s0 = c.args.s.now in
    let node = c.args.s.now.node in
    (grind (the_lemmas, arith, common_steps), (c.requires.well, (c.requires.ready, stands-else a.pair.now a.here node _ c.get.result.now _ s0 _ c.in-If.is c.requires.fits)))

pub statement-statement-requires : goal.statement-statement-requires
statement-statement-requires t c =
    let a = c.args.at.now in
    let k = setting_of a in
    let m = c.args.machine.now in
    let s0 = c.args.s.now in
    let node = c.args.s.now.node in
    (grind (the_lemmas, arith, common_steps), (c.requires.well, (c.requires.ready, stands-then a.pair.now a.here node _ c.get.result.now _ c.get-else-n-eq0.result.now _ c.in-If.is c.requires.fits c.get-else-n-eq0.ensures)))

pub statement-returns-in_err-n-in-If-clause-does : goal.statement-returns-in_err-n-in-If-clause-does
statement-returns-in_err-n-in-If-clause-does t c =
    let a = c.args.at.now in
    let k = setting_of a in
    let m = c.args.machine.now in
    let s0 = c.args.s.now in
    let node = c.args.s.now.node in
    let test = c.get.result.now in
    let v = c.in_err-n-in-If.ensures.value in
    let p = err_from_is_err_and c.from_residual.result c.from_residual.ensures.1 in
    rw (p.1, p.2) (λ st is. subst (λ (x : Effect). Halts c.in_err-n-in-If.field-0.0 m x) (sym (ap (from_here m) (after-if k (calls_in a st) s0.place node _ test _ _ _ c.in-If.is c.get.ensures refl))) (if_halts k (calls_in a st) m test c.in-If.body c.in-If.other c.in_err-n-in-If.field-0.0 v.0 v.1 v.2))

pub statement-returns-then-n-eq0-clause-does : goal.statement-returns-then-n-eq0-clause-does
statement-returns-then-n-eq0-clause-does t c =
    let a = c.args.at.now in
    let k = setting_of a in
    let m = c.args.machine.now in
    let s0 = c.args.s.now in
    let node = c.args.s.now.node in
    let test = c.get.result.now in
    let f : SFits w128 c.in_ok-n-in-If.n = search rules in
    λ st is. does_as c.optional.result m c.optional.new.machine (after k (calls_in a st) s0.place node) _ (after-if k (calls_in a st) s0.place node _ test _ _ _ c.in-If.is c.get.ensures refl) (if_zero k (calls_in a st) m test c.in-If.body c.in-If.other c.optional.result c.optional.new.machine c.in_ok-n-in-If.n c.in_ok-n-in-If.ensures.value (sym (to_z-of_z w128 _ f) ∙ ap (to_z w128) c.if-n-eq0.true) (c.optional.ensures.does st is))

pub statement-returns-else-n-eq0-clause-does : goal.statement-returns-else-n-eq0-clause-does
statement-returns-else-n-eq0-clause-does t c =
    let a = c.args.at.now in
    let k = setting_of a in
    let m = c.args.machine.now in
    let s0 = c.args.s.now in
    let node = c.args.s.now.node in
    let test = c.get.result.now in
    λ st is. does_as c.statement.result m c.statement.new.machine (after k (calls_in a st) s0.place node) _ (after-if k (calls_in a st) s0.place node _ test _ _ _ c.in-If.is c.get.ensures c.get-else-n-eq0.ensures) (if_other k (calls_in a st) m test c.get-else-n-eq0.result.now c.in-If.other c.statement.result c.statement.new.machine c.in_ok-n-in-If.n c.in_ok-n-in-If.ensures.value (λ e. c.if-n-eq0.false (ap (of_z w128) e)) (c.statement.ensures.does st is))

pub statement-returns-in-Loop-clause-does : goal.statement-returns-in-Loop-clause-does
statement-returns-in-Loop-clause-does t c =
    rw c.in-Loop.is (λ st is. c.repeat.ensures.does st is)

pub statement-returns-in-None-clause-does : goal.statement-returns-in-None-clause-does
statement-returns-in-None-clause-does t c =
    let a = c.args.at.now in
    let k = setting_of a in
    let m = c.args.machine.now in
    let s0 = c.args.s.now in
    let node = c.args.s.now.node in
    let test = c.get-in-Switch.result.now in
    let n = c.in_ok-n-in-Switch.n in
    let f : SFits w128 c.in_ok-n-in-Switch.n = search rules in
    let entered = simp to_z-of_z at c.entry.ensures in
    λ st is. ap (from_here m) (after-switch k (calls_in a st) s0.place node _ test _ c.as_slice-in-Switch.result.now c.in-Switch.is c.get-in-Switch.ensures c.as_slice-in-Switch.ensures)
    ∙ switch_none k (calls_in a st) m test c.as_slice-in-Switch.result.now n c.in_ok-n-in-Switch.ensures.value (sym entered ∙ c.in-None.is)

pub statement-returns-in-Some-clause-does : goal.statement-returns-in-Some-clause-does
statement-returns-in-Some-clause-does t c =
    let a = c.args.at.now in
    let k = setting_of a in
    let m = c.args.machine.now in
    let s0 = c.args.s.now in
    let node = c.args.s.now.node in
    let test = c.get-in-Switch.result.now in
    let n = c.in_ok-n-in-Switch.n in
    let f : SFits w128 c.in_ok-n-in-Switch.n = search rules in
    let entered = simp to_z-of_z at c.entry.ensures in
    let got = c.as_slice-in-Some.result.now in
    λ st is. does_as c.left.result m c.run_cases.new.machine (after k (calls_in a st) s0.place node) _
    (after-switch k (calls_in a st) s0.place node _ test _ got c.in-Switch.is c.get-in-Switch.ensures c.as_slice-in-Some.ensures)
    (switch_some k (calls_in a st) m test got c.left.result c.run_cases.new.machine n c.in-Some.from c.in_ok-n-in-Switch.ensures.value
    (ap (entered_case n) (c.as_slice-in-Some.ensures ∙ sym c.as_slice-in-Switch.ensures) ∙ sym entered ∙ c.in-Some.is)
    (c.left.ensures.does m c.run_cases.new.machine (after_cases k (calls_in a st) (drop c.in-Some.from got)) (c.run_cases.ensures.does st is)))

pub statement-run_cases-requires : goal.statement-run_cases-requires
statement-run_cases-requires t c =
    let a = c.args.at.now in
    let k = setting_of a in
    let m = c.args.machine.now in
    let s0 = c.args.s.now in
    let node = c.args.s.now.node in
    (grind (the_lemmas, arith, common_steps), (c.requires.well, (c.requires.ready, stands-cases a.pair.now a.here node _ c.get-in-Switch.result.now _ c.as_slice-in-Some.result.now c.in-Switch.is c.requires.fits c.as_slice-in-Some.ensures)))

pub statement-give_back-requires : goal.statement-give_back-requires
statement-give_back-requires t c =
    let a = c.args.at.now in
    let k = setting_of a in
    let m = c.args.machine.now in
    let s0 = c.args.s.now in
    let node = c.args.s.now.node in
    (grind (the_lemmas, arith, common_steps), (c.requires.well, (c.requires.ready, (subst (λ (n : SNode). Stands a.pair.now a.here (λ s. FitsStmt s n)) c.in-Return.is c.requires.fits))))

pub statement-returns-in-Return-clause-does : goal.statement-returns-in-Return-clause-does
statement-returns-in-Return-clause-does t c =
    rw c.in-Return.is (λ st is. c.give_back.ensures.does st is)

pub give_back-initial-requires : goal.give_back-initial-requires
give_back-initial-requires t c =
    let a = c.args.at.now in
    let k = setting_of a in
    let m = c.args.machine.now in
    let init = c.in-Some.init in
    let ty = c.result_type-ty.result in
    (grind (the_lemmas, arith, common_steps), (c.requires.well, (c.requires.ready, (subst IsType (sym c.result_type-ty.ensures) (here_typed a.pair.now a.here c.requires.well), subst (λ (t : IntType). Stands a.pair.now a.here (λ s. FitsInit s true t init)) (sym c.result_type-ty.ensures) (stands_result a.pair.now a.here init (subst (λ (o : Option TInit). Stands a.pair.now a.here (λ s. FitsStmt s (Return o))) c.in-Some.is c.requires.fits))))))

pub give_back-returns-in_err-machine-in-Some-clause-does : goal.give_back-returns-in_err-machine-in-Some-clause-does
give_back-returns-in_err-machine-in-Some-clause-does t c =
    let a = c.args.at.now in
    let k = setting_of a in
    let m = c.args.machine.now in
    let init = c.in-Some.init in
    let ty = c.result_type-ty.result in
    let p = err_from_is_err_and c.from_residual.result c.from_residual.ensures.1 in
    rw (p.1, p.2, c.in-Some.is) (λ st is.
    subst (λ (t : IntType). Halts c.in_err-machine-in-Some.field-0.0 c.initial.new.machine (from_here m (λ s c'. with_init k (calls_in a st) t init s c' (λ n s c'. Goes Returning (returning s n) nothing c')))) c.result_type-ty.ensures
    (c.in_err-machine-in-Some.ensures.finds st is (λ n s c'. Goes Returning (returning s n) nothing c')))

pub give_back-returns-in_ok-machine-in-Some-clause-does : goal.give_back-returns-in_ok-machine-in-Some-clause-does
give_back-returns-in_ok-machine-in-Some-clause-does t c =
    let a = c.args.at.now in
    let k = setting_of a in
    let m = c.args.machine.now in
    let init = c.in-Some.init in
    let ty = c.result_type-ty.result in
    let f : SFits w128 c.in_ok-machine-in-Some.field-0 = search rules in
    rw c.in-Some.is (λ st is.
    ap (λ (t : IntType). from_here m (λ s c'. with_init k (calls_in a st) t init s c' (λ n s c'. Goes Returning (returning s n) nothing c'))) (sym c.result_type-ty.ensures)
    ∙ c.in_ok-machine-in-Some.ensures.finds st is (λ n s c'. Goes Returning (returning s n) nothing c')
    ∙ returned_gone c.initial.new.machine c.in_ok-machine-in-Some.field-0 _ (sym (to_z-of_z w128 _ f)))

pub give_back-returns-in_ok-machine-in-Some-clause-goes : goal.give_back-returns-in_ok-machine-in-Some-clause-goes
give_back-returns-in_ok-machine-in-Some-clause-goes t c =
    let a = c.args.at.now in
    let k = setting_of a in
    let g = c.in_ok-machine-in-Some.ensures.goes in
    let f : SFits w128 c.in_ok-machine-in-Some.field-0 = search rules in (
      record { choices = g.0.choices; standing = g.0.standing },
      record {
        held = g.1.held;
        view = g.1.view;
        small = moved IsSmall _ f (small_of c.result_type-ty.result c.in_ok-machine-in-Some.field-0
            (subst IsType (sym c.result_type-ty.ensures) (here_typed a.pair.now a.here c.requires.well)) c.in_ok-machine-in-Some.ensures.range);
      },
    )
