use Rattle.std.proofs.Common.{◌≡◌, ◌<◌, length, false, suc, ◌+◌, ◌-◌, [], ◌∷◌, take, drop, refl, sym, ap, ◌∙◌, subst, arith}
use Rattle.std.specs.Prelude.{All, Option, Some, ℕ, List, slice_get}
use Rattle.std.proofs.lemmas.Grind.{common_steps}
use Rattle.std.proofs.lemmas.List.{drop_more}
use Rattle.std.proofs.Math.ListN.{drop_of_length-le}
use Rattle.joint_ir.specs.declared.expr.TExpr.{TExpr}
use Rattle.joint_ir.specs.declared.stmt.SNode.{the_lemmas, Block, Store, Update, Call, If, Loop, Switch, Break, Continue, Return, Assert, Assume, SetInputs, NextFrame}
use Rattle.joint_ir.specs.declared.stmt.Group.{Group, out-Group}
use Rattle.joint_ir.specs.declared.stmt.TLoop.{out-TLoop}
use Rattle.joint_ir.specs.declared.stmt.TStmt.{TStmt}
use Rattle.joint_ir.specs.declared.way.Way.TheVariants.{Next, Breaking, Continuing}
use Rattle.joint_ir.specs.Statements.{after, after_loop, calls_at}
use Rattle.joint_ir.specs.declared.program.Function.{Function}
use Rattle.unwind_state.specs.Images.{IsState, IsSettled, IsBehind}
use Rattle.unwind_state.specs.Unwinding.{Unwinds}
use Rattle.unwind_state.specs.Writing.{HasResult, with_objects}
use Rattle.unwind_blocks.proofs.Strides.{enter_falls}
use Rattle.joint_ir.specs.declared.program.CProgram.{CProgram}
use Rattle.joint_ir.specs.Steps.{call_effect, declare_effect, next_frame, result_of, return_effect, set_inputs, slot_type, store_effect, update_effect}
use Rattle.joint_ir.specs.WellFormed.{Scope, FitsDeclare, FitsExpr, FitsInit, FitsStmt, FitsTarget, declared_behind, in_a_switch, scope_of}
use Rattle.joint_lists.specs.Lists.{after_items, after_option, entered_case, FitsOptional}
use Rattle.joint_lists.proofs.Rows.{after-block, after-if, after-switch}
use Rattle.joint_lists.proofs.Shapes.{fits-block, fits-if, fits-switch}
use Rattle.trails.specs.Following.{goes}
use Rattle.joint_ir.specs.declared.ctype.IntType.{IntType}
use Rattle.joint_ir.specs.declared.expr.Slot.TheVariants.{Local}
use Rattle.joint_ir.specs.declared.stmt.TInit.{TInit}
use Rattle.unwind_simple.specs.Simple.{setting_of, calls_in, stored_type, asserted_as, assumed_as, IsDone, MayRun}
use Rattle.unwind_simple.proofs.Returning.{own_typed, with_result}
use Rattle.unwind_simple.proofs.Statements.{grown_result, there_in}
use Rattle.unwind_simple.proofs.Storing.{store_typed}
use Rattle.unwind_stores.proofs.Bounds.{index_fits}
use Rattle.unwind_stores.proofs.Declared.{local_there}
use Rattle.unwind_stores.proofs.Storing.{bounded_grows, array_terms}
use Rattle.unwind_stores.proofs.Rows.{some_terms, old_has}
use Rattle.unwind_state.proofs.Gates.{guard_below, guard_kept}
use Rattle.switch_guards.specs.Entries.{number_of}
use Rattle.switch_guards.proofs.Placing.{placed_get}
use Rattle.unwind_blocks.proofs.Cases.{CasesLeft, cases_first, cases_more, cases_last, done_switch, switch_labels, group_fits, group_here}
use Rattle.unwind_blocks.proofs.Orders.{Sofar, scope_behind, next_fits, declares, stays}
use Rattle.unwind_blocks.proofs.Branches.{grows_adds, grows_then, guard_grows, flow_grows, objects_grow, tested_grows, done_if, done_as, done_at, done_declared, done_block, done_fewer, done_way, unwound, unwound_at, breaks, continues, sofar_first, sofar_more, sofar_last}
use Rattle.unwind_blocks.proofs.Turns.{left_first, left_more, left_over, done_loop, inner_of, fits_heads, fits_turns, fits_last, last_simple, turn_made}
use Rattle.unwind_state.specs.declared.state.Flow.{Flow}
use Rattle.unwind_calls.specs.Arguments.{AreArguments}
use Rattle.unwind_calls.proofs.Beginning.{body_fits, begun_objects, begun_result, begun_guard, left_room, body_called}
use Rattle.unwind_calls.proofs.Joining.{refused_called}
use Rattle.unwind_calls.specs.Calls.{IsCalled, IsReceived}
use Rattle.unwind_calls.proofs.Uses.{called_done, received}
use Rattle.unwind_blocks.proofs.Uses.{returned_fits, done_returned, done_stored, done_stored_at, done_set}
use Rattle.unwind_blocks.proofs.Calling.{some_left, next_left, below_limit, args_may, args_count, args_params}
use Rattle.unwind_blocks.specs.Blocks.{IsUnwound}
use Rattle.unwind_blocks.proofs.blocks.+blocks.Goals as goal

pub block-loop-s-init : goal.block-loop-s-init
block-loop-s-init t c =
    sofar_first c.args.at.now c.args.net.now c.args.state.now c.args.items.now c.args.guard c.only-ways.result c.len.ensures.proper c.requires.objects c.requires.guard c.only-ways.ensures

pub block-stmt-requires : goal.block-stmt-requires
block-stmt-requires t c =
    let items = c.args.items.now in
    let i = c.loop-s.s-index in
    let x = c.s-item.result in
    let k : i + 1 ≡ suc i = omega arith in
    let here : drop i items ≡ x ∷ drop (suc i) items = subst (λ j. drop i items ≡ x ∷ drop j items) k (drop_more items i x c.loop-s-test.true ∙ ap (λ y. y ∷ drop (i + 1) items) (sym c.s-item.is)) in
    let d : Scope = scope_behind c.requires.scope (take i items) in
    let fits : FitsStmt d x.node = next_fits items i x c.requires.scope here c.requires.fits in
    (grind (the_lemmas, arith, common_steps), record { well = c.requires.well; scope = d; program = c.requires.program; fits = fits; objects = c.loop-s.invariant.objects; result = c.loop-s.invariant.result c.requires.result; guard = c.loop-s.invariant.flow Next })

pub block-merged-requires-clause-first : goal.block-merged-requires-clause-first
block-merged-requires-clause-first t c =
    let items = c.args.items.now in
    let i = c.loop-s.s-index in
    let x = c.s-item.result in
    let k : i + 1 ≡ suc i = omega arith in
    let here : drop i items ≡ x ∷ drop (suc i) items = subst (λ j. drop i items ≡ x ∷ drop j items) k (drop_more items i x c.loop-s-test.true ∙ ap (λ y. y ∷ drop (i + 1) items) (sym c.s-item.is)) in
    let d : Scope = scope_behind c.requires.scope (take i items) in
    let fits : FitsStmt d x.node = next_fits items i x c.requires.scope here c.requires.fits in
    flow_grows c.loop-s.net.terms c.stmt.new.net.terms c.loop-s.ways (c.in_ok-f.ensures d c.requires.program fits).grows c.loop-s.invariant.flow

pub block-merged-requires-clause-second : goal.block-merged-requires-clause-second
block-merged-requires-clause-second t c =
    let items = c.args.items.now in
    let i = c.loop-s.s-index in
    let x = c.s-item.result in
    let k : i + 1 ≡ suc i = omega arith in
    let here : drop i items ≡ x ∷ drop (suc i) items = subst (λ j. drop i items ≡ x ∷ drop j items) k (drop_more items i x c.loop-s-test.true ∙ ap (λ y. y ∷ drop (i + 1) items) (sym c.s-item.is)) in
    let d : Scope = scope_behind c.requires.scope (take i items) in
    let fits : FitsStmt d x.node = next_fits items i x c.requires.scope here c.requires.fits in
    (c.in_ok-f.ensures d c.requires.program fits).flow

pub block-loop-s-preserved : goal.block-loop-s-preserved
block-loop-s-preserved t c =
    let items = c.args.items.now in
    let i = c.loop-s.s-index in
    let x = c.s-item.result in
    let k : i + 1 ≡ suc i = omega arith in
    let here : drop i items ≡ x ∷ drop (suc i) items = subst (λ j. drop i items ≡ x ∷ drop j items) k (drop_more items i x c.loop-s-test.true ∙ ap (λ y. y ∷ drop (i + 1) items) (sym c.s-item.is)) in
    let d : Scope = scope_behind c.requires.scope (take i items) in
    let fits : FitsStmt d x.node = next_fits items i x c.requires.scope here c.requires.fits in
    subst (λ j. Sofar c.args.at.now c.args.net.now c.merged.new.net c.args.state.now c.stmt.new.state items j c.args.guard c.in_ok-ways.ways) (sym k)
    (sofar_more c.args.at.now c.args.net.now c.loop-s.net c.stmt.new.net c.merged.new.net c.args.state.now c.loop-s.state c.stmt.new.state items i x c.args.guard c.loop-s.ways c.in_ok-f.f c.in_ok-ways.ways here d c.requires.program fits
    c.loop-s.invariant c.in_ok-f.ensures c.in_ok-ways.ensures)

pub block-returns : goal.block-returns
block-returns t c =
    let over : drop c.loop-s.s-index c.args.items.now ≡ [] = drop_of_length-le c.args.items.now c.loop-s-test.false in
    λ d inside fits. sofar_last c.args.at.now c.args.net.now c.loop-s.net c.args.state.now c.loop-s.state c.args.items.now c.loop-s.s-index c.args.guard c.loop-s.ways over c.loop-s.invariant d inside fits

pub optional-returns-in-None : goal.optional-returns-in-None
optional-returns-in-None t c =
    let a = c.args.at.now in
    let k = setting_of a in
    λ d inside fits.
    done_as a c.args.net.now c.args.net.now c.args.state.now c.args.state.now c.args.guard c.only.result d.locals d.locals (goes Next) (after_option k (calls_in a) c.args.other.now) (ap (after_option k (calls_in a)) (sym c.in-None.is))
    (done_way a c.args.net.now c.args.state.now Next c.args.guard c.only.result d.locals (stays a d.locals) c.len.ensures.proper c.requires.objects c.requires.guard c.only.ensures)

pub optional-returns-in_ok-f-in-Some : goal.optional-returns-in_ok-f-in-Some
optional-returns-in_ok-f-in-Some t c =
    let a = c.args.at.now in
    let k = setting_of a in
    let got = c.get.result.now in
    let is : c.args.other.now ≡ Some got = c.in-Some.is ∙ ap Some (sym c.get.ensures) in
    λ d inside fits.
    done_as a c.args.net.now c.stmt.new.net c.args.state.now c.stmt.new.state c.args.guard c.in_ok-f-in-Some.f d.locals d.locals (after k (calls_in a) got.place got.node) (after_option k (calls_in a) c.args.other.now) (ap (after_option k (calls_in a)) (sym is))
    (done_fewer a c.args.net.now c.stmt.new.net c.args.state.now c.stmt.new.state c.args.guard c.in_ok-f-in-Some.f d.locals (declared_behind got.node d.locals) (after k (calls_in a) got.place got.node) (declares got.node d.locals)
    (c.in_ok-f-in-Some.ensures d inside (subst (FitsOptional d) is fits)))

pub stmt-block-requires : goal.stmt-block-requires
stmt-block-requires t c =
    (grind (the_lemmas, arith, common_steps), record { well = c.requires.well; scope = c.requires.scope; program = c.requires.program; fits = fits-block c.requires.scope c.args.s.now.node c.in-Block.items c.as_slice.result.now c.in-Block.is c.as_slice.ensures c.requires.fits; objects = c.requires.objects; result = c.requires.result; guard = c.requires.guard })

pub stmt-tested-requires : goal.stmt-tested-requires
stmt-tested-requires t c =
    record { scope = c.requires.scope; program = c.requires.program; fits = (fits-if c.requires.scope c.args.s.now.node c.in-If.e c.get.result.now c.in-If.body c.in-If.body c.in-If.other c.in-If.is c.get.ensures refl c.requires.fits).0; objects = c.requires.objects; guard = c.requires.guard }

pub stmt-stmt-requires : goal.stmt-stmt-requires
stmt-stmt-requires t c =
    let grows = tested_grows c.args.at.now c.args.net.now c.tested.new.net c.args.state.now c.get.result.now c.args.guard c.in_ok-sides-in-If.sides c.in_ok-sides-in-If.ensures in
    (grind (the_lemmas, arith, common_steps), record { well = c.requires.well; scope = c.requires.scope; program = c.requires.program; fits = (fits-if c.requires.scope c.args.s.now.node c.in-If.e c.get.result.now c.in-If.body c.get-in-If.result.now c.in-If.other c.in-If.is c.get.ensures c.get-in-If.ensures c.requires.fits).1; objects = objects_grow c.args.at.now c.args.net.now.terms c.tested.new.net.terms c.args.state.now.objects grows c.requires.objects; result = grown_result c.args.at.now c.args.net.now.terms c.tested.new.net.terms c.args.state.now.result grows c.requires.result; guard = c.in_ok-sides-in-If.ensures.split.has_taken })

pub stmt-optional-requires : goal.stmt-optional-requires
stmt-optional-requires t c =
    let grows = tested_grows c.args.at.now c.args.net.now c.tested.new.net c.args.state.now c.get.result.now c.args.guard c.in_ok-sides-in-If.sides c.in_ok-sides-in-If.ensures in
    let a = c.in_ok-a-in-If.ensures c.requires.scope c.requires.program (fits-if c.requires.scope c.args.s.now.node c.in-If.e c.get.result.now c.in-If.body c.get-in-If.result.now c.in-If.other c.in-If.is c.get.ensures c.get-in-If.ensures c.requires.fits).1 in
    (grind (the_lemmas, arith, common_steps), record { well = c.requires.well; scope = c.requires.scope; program = c.requires.program; fits = (fits-if c.requires.scope c.args.s.now.node c.in-If.e c.get.result.now c.in-If.body c.get-in-If.result.now c.in-If.other c.in-If.is c.get.ensures c.get-in-If.ensures c.requires.fits).2; objects = a.objects; result = a.result (grown_result c.args.at.now c.args.net.now.terms c.tested.new.net.terms c.args.state.now.result grows c.requires.result); guard = guard_grows c.tested.new.net.terms c.stmt.new.net.terms c.in_ok-sides-in-If.sides.other a.grows c.in_ok-sides-in-If.ensures.split.has_other })

pub stmt-joined-requires-clause-first : goal.stmt-joined-requires-clause-first
stmt-joined-requires-clause-first t c =
    let a = c.in_ok-a-in-If.ensures c.requires.scope c.requires.program (fits-if c.requires.scope c.args.s.now.node c.in-If.e c.get.result.now c.in-If.body c.get-in-If.result.now c.in-If.other c.in-If.is c.get.ensures c.get-in-If.ensures c.requires.fits).1 in
    let b = c.in_ok-b-in-If.ensures c.requires.scope c.requires.program (fits-if c.requires.scope c.args.s.now.node c.in-If.e c.get.result.now c.in-If.body c.get-in-If.result.now c.in-If.other c.in-If.is c.get.ensures c.get-in-If.ensures c.requires.fits).2 in
    flow_grows c.stmt.new.net.terms c.optional.new.net.terms c.in_ok-a-in-If.a b.grows a.flow

pub stmt-joined-requires-clause-second : goal.stmt-joined-requires-clause-second
stmt-joined-requires-clause-second t c =
    let b = c.in_ok-b-in-If.ensures c.requires.scope c.requires.program (fits-if c.requires.scope c.args.s.now.node c.in-If.e c.get.result.now c.in-If.body c.get-in-If.result.now c.in-If.other c.in-If.is c.get.ensures c.get-in-If.ensures c.requires.fits).2 in
    b.flow

pub stmt-returns-in_ok-f-in-Block : goal.stmt-returns-in_ok-f-in-Block
stmt-returns-in_ok-f-in-Block t c =
    let at = c.args.at.now in
    let k = setting_of at in
    let s = c.args.s.now in
    λ d inside fits.
    unwound_at at c.args.net.now c.block.new.net c.args.state.now c.block.new.state c.args.guard c.in_ok-f-in-Block.f d.locals s (Block c.in-Block.items) (after_items k (calls_in at) c.as_slice.result.now) c.in-Block.is refl
    (sym (after-block k (calls_in at) s.place s.node c.in-Block.items c.as_slice.result.now c.in-Block.is c.as_slice.ensures))
    (done_block at c.args.net.now c.block.new.net c.args.state.now c.block.new.state c.as_slice.result.now c.args.guard c.in_ok-f-in-Block.f d.locals (after_items k (calls_in at) c.as_slice.result.now)
    (c.in_ok-f-in-Block.ensures d inside (fits-block d s.node c.in-Block.items c.as_slice.result.now c.in-Block.is c.as_slice.ensures fits)))

pub stmt-stored-requires : goal.stmt-stored-requires
stmt-stored-requires t c =
    let d = c.requires.scope in
    let F = subst (FitsStmt d) c.in-Store.is c.requires.fits in
    (omega arith, record { well = c.requires.well; scope = d; program = c.requires.program; fits = (F.0, subst (λ (p : CProgram). FitsInit d false (slot_type p c.in-Store.target.slot) c.in-Store.init) c.requires.program.0 F.1); objects = c.requires.objects; result = c.requires.result; guard = c.requires.guard })

pub stmt-declared-requires : goal.stmt-declared-requires
stmt-declared-requires t c =
    (omega arith, record { well = c.requires.well; scope = c.requires.scope; program = c.requires.program; fits = subst (FitsStmt c.requires.scope) c.in-Declare.is c.requires.fits; objects = c.requires.objects; result = c.requires.result; guard = c.requires.guard })

pub stmt-returns-in_ok-f-in-Declare : goal.stmt-returns-in_ok-f-in-Declare
stmt-returns-in_ok-f-in-Declare t c =
    let at = c.args.at.now in
    let k = setting_of at in
    let s = c.args.s.now in
    λ d inside fits.
    done_declared at c.args.net.now c.declared.new.net c.args.state.now c.declared.new.state c.args.guard c.in_ok-f-in-Declare.f d.locals s c.in-Declare.local c.in-Declare.init c.in-Declare.is
    (c.in_ok-f-in-Declare.ensures s.place.line d inside (subst (FitsStmt d) c.in-Declare.is fits))

pub stmt-update-requires : goal.stmt-update-requires
stmt-update-requires t c =
    let F = subst (FitsStmt c.requires.scope) c.in-Update.is c.requires.fits in
    record { well = c.requires.well; scope = c.requires.scope; program = c.requires.program; fits = record { target_fits = F.0; update_fits = F.1 }; objects = c.requires.objects; result = c.requires.result; guard = c.requires.guard }

pub stmt-returns-in_ok-f-in-Update : goal.stmt-returns-in_ok-f-in-Update
stmt-returns-in_ok-f-in-Update t c =
    let at = c.args.at.now in
    let k = setting_of at in
    let s = c.args.s.now in
    λ d inside fits.
    let F = subst (FitsStmt d) c.in-Update.is fits in
    done_at at c.args.net.now c.update.new.net c.args.state.now c.update.new.state c.args.guard c.in_ok-f-in-Update.f d.locals s (Update c.in-Update.target c.in-Update.u) (update_effect k c.in-Update.target c.in-Update.u) c.in-Update.is refl
    (ap (after k (calls_in at) s.place) (sym c.in-Update.is)) (c.in_ok-f-in-Update.ensures d inside F.0 F.1)

pub stmt-call_made-requires : goal.stmt-call_made-requires
stmt-call_made-requires t c =
    (omega arith, record { well = c.requires.well; scope = c.requires.scope; program = c.requires.program; fits = subst (FitsStmt c.requires.scope) c.in-Call.is c.requires.fits; objects = c.requires.objects; result = c.requires.result; guard = c.requires.guard })

pub stmt-returns-in_ok-f-in-Call : goal.stmt-returns-in_ok-f-in-Call
stmt-returns-in_ok-f-in-Call t c =
    let at = c.args.at.now in
    let k = setting_of at in
    let s = c.args.s.now in
    λ d inside fits.
    unwound_at at c.args.net.now c.call_made.new.net c.args.state.now c.call_made.new.state c.args.guard c.in_ok-f-in-Call.f d.locals s (Call c.in-Call.call) (call_effect k (calls_in at) c.in-Call.call) c.in-Call.is refl
    (ap (after k (calls_in at) s.place) (sym c.in-Call.is)) (c.in_ok-f-in-Call.ensures d inside (subst (FitsStmt d) c.in-Call.is fits))

pub call_made-returns-in_ok-f-in-None : goal.call_made-returns-in_ok-f-in-None
call_made-returns-in_ok-f-in-None t c =
    λ d inside fits. unwound c.args.at.now c.args.net.now c.called.new.net c.args.state.now c.args.state.now c.args.guard c.in_ok-f-in-None.f d.locals d.locals (call_effect (setting_of c.args.at.now) (calls_in c.args.at.now) c.args.call.now) (c.in_ok-f-in-None.ensures d inside)

pub call_made-returns-in_ok-call_value-in-Some-body : goal.call_made-returns-in_ok-call_value-in-Some-body
call_made-returns-in_ok-call_value-in-Some-body t c =
    let a = c.args.at.now in
    λ d inside fits.
    subst (λ (f : Flow). IsUnwound a c.args.net.now c.call_value.new.net c.args.state.now c.call_value.new.state c.args.guard f d.locals d.locals (call_effect (setting_of a) (calls_in a) c.args.call.now)) (sym c.only.ensures)
    (unwound a c.args.net.now c.call_value.new.net c.args.state.now c.call_value.new.state c.args.guard _ d.locals d.locals (call_effect (setting_of a) (calls_in a) c.args.call.now)
    (called_done a c.args.net.now c.call_value.new.net c.args.state.now c.call_value.new.state c.args.call.now _ c.args.guard c.in_ok-call_value-in-Some-body.field-0 d inside fits c.requires.guard c.in_ok-call_value-in-Some-body.ensures))

pub call_value-arguments-requires : goal.call_value-arguments-requires
call_value-arguments-requires t c =
    let M = c.requires.run in
    record { well = M.well; scope = M.scope; program = M.program; fits = subst (λ es. All (FitsExpr M.scope) es) (sym c.as_slice.ensures) (args_may c.args.at.now c.args.call.now c.args.callee.now c.args.body.now M.well c.requires.found c.requires.some M.scope M.program M.fits); objects = M.objects; result = M.result; guard = M.guard }

pub call_value-returns-then-not-may_enter : goal.call_value-returns-then-not-may_enter
call_value-returns-then-not-may_enter t c =
    let M = c.requires.run in
    let a = c.args.at.now in
    let A = subst (λ es. AreArguments a c.args.net.now c.arguments.new.net c.args.state.now es c.args.guard c.in_ok-args.args.items) c.as_slice.ensures c.in_ok-args.ensures in
    refused_called a c.args.call.now c.args.callee.now c.args.body.now c.requires.found c.requires.some c.args.net.now c.arguments.new.net c.refuse.new.net c.args.state.now c.args.guard c.in_ok-args.args.items c.in_ok-t.t (sym c.may_enter.ensures ∙ c.if-not-may_enter.true) M.objects A c.in_ok-t.ensures

pub call_value-body_value-requires : goal.call_value-body_value-requires
call_value-body_value-requires t c =
    let a = c.args.at.now in
    let call = c.args.call.now in
    let fn = c.args.callee.now in
    let body = c.args.body.now in
    let R = c.requires in
    let M = R.run in
    let now = c.decreases in
    let A : AreArguments a c.args.net.now c.arguments.new.net c.args.state.now call.args c.args.guard c.as_slice-args.result.now =
    subst (λ ts. AreArguments a c.args.net.now c.arguments.new.net c.args.state.now call.args c.args.guard ts) (sym c.as_slice-args.ensures.value)
    (subst (λ es. AreArguments a c.args.net.now c.arguments.new.net c.args.state.now es c.args.guard c.in_ok-args.args.items) c.as_slice.ensures c.in_ok-args.ensures) in (
      omega arith,
      (
        M.well,
        (
          R.found,
          (
            R.some,
            (
              sym c.may_enter.ensures ∙ c.if-not-may_enter.false,
              (
                objects_grow a c.args.net.now.terms c.arguments.new.net.terms c.args.state.now.objects A.grows M.objects,
                (
                  guard_grows c.args.net.now.terms c.arguments.new.net.terms c.args.guard A.grows M.guard,
                  (
                    A.has,
                    (args_params a call fn body M.well R.found R.some M.scope M.program M.fits c.as_slice-args.result.now A.widths, args_count a call fn body M.well R.found R.some M.scope M.program M.fits c.as_slice-args.result.now A.widths),
                  ),
                ),
              ),
            ),
          ),
        ),
      ),
    )

pub call_value-returns : goal.call_value-returns
call_value-returns t c =
    let a = c.args.at.now in
    let M = c.requires.run in
    let A = subst (λ es. AreArguments a c.args.net.now c.arguments.new.net c.args.state.now es c.args.guard c.in_ok-args.args.items) c.as_slice.ensures c.in_ok-args.ensures in
    c.in_ok-t-2.ensures c.args.net.now M.objects (subst (λ ts. AreArguments a c.args.net.now c.arguments.new.net c.args.state.now c.args.call.now.args c.args.guard ts) (sym c.as_slice-args.ensures.value) A)

pub body_value-stmt-requires : goal.body_value-stmt-requires
body_value-stmt-requires t c =
    let a = c.args.at.now in
    let p = a.pair.now in
    let call = c.args.call.now in
    let fn = c.args.callee.now in
    let body = c.args.body.now in
    let R = c.requires in
    let left = some_left a call.function fn R.may in
    let falls = enter_falls p.program.functions a.left call.function fn body left R.found R.some in
    let now = c.decreases in
    (omega arith, record { well = R.well; scope = scope_of p.program call.function fn; program = (refl, refl); fits = (body_fits p call.function fn body R.well R.found R.some).2; objects = begun_objects a call fn body R.well R.found R.some c.args.net.now c.begin.new.net c.args.state.now c.begin.new.state c.args.args.now c.args.guard c.in_ok-caller.caller c.in_ok-caller.ensures; result = begun_result a call fn body R.well R.found R.some c.args.net.now c.begin.new.net c.args.state.now c.begin.new.state c.args.args.now c.args.guard c.in_ok-caller.caller c.in_ok-caller.ensures; guard = begun_guard a call fn body R.well R.found R.some c.args.net.now c.begin.new.net c.args.state.now c.begin.new.state c.args.args.now c.args.guard c.in_ok-caller.caller c.in_ok-caller.ensures R.guard })

pub body_value-leave-requires-clause-room : goal.body_value-leave-requires-clause-room
body_value-leave-requires-clause-room t c =
    let a = c.args.at.now in
    let p = a.pair.now in
    let call = c.args.call.now in
    let fn = c.args.callee.now in
    let body = c.args.body.now in
    let R = c.requires in
    let fits = (body_fits p call.function fn body R.well R.found R.some).2 in
    left_room a call fn body R.well R.found R.some c.args.net.now c.begin.new.net c.args.state.now c.begin.new.state c.args.args.now c.args.guard c.in_ok-caller.caller c.in_ok-caller.ensures c.stmt.new.net c.stmt.new.state.objects (c.in_ok-ways.ensures (scope_of p.program call.function fn) (refl, refl) fits).objects

pub body_value-leave-requires-clause-ways : goal.body_value-leave-requires-clause-ways
body_value-leave-requires-clause-ways t c =
    let a = c.args.at.now in
    let p = a.pair.now in
    let call = c.args.call.now in
    let fn = c.args.callee.now in
    let body = c.args.body.now in
    let R = c.requires in
    let fits = (body_fits p call.function fn body R.well R.found R.some).2 in
    (c.in_ok-ways.ensures (scope_of p.program call.function fn) (refl, refl) fits).flow

pub body_value-leave-requires-clause-returned : goal.body_value-leave-requires-clause-returned
body_value-leave-requires-clause-returned t c =
    let a = c.args.at.now in
    let p = a.pair.now in
    let call = c.args.call.now in
    let fn = c.args.callee.now in
    let body = c.args.body.now in
    let R = c.requires in
    let fits = (body_fits p call.function fn body R.well R.found R.some).2 in
    subst (λ (o : Option Function). HasResult (result_of o) c.stmt.new.net.terms c.stmt.new.state.result) R.found ((c.in_ok-ways.ensures (scope_of p.program call.function fn) (refl, refl) fits).result (begun_result a call fn body R.well R.found R.some c.args.net.now c.begin.new.net c.args.state.now c.begin.new.state c.args.args.now c.args.guard c.in_ok-caller.caller c.in_ok-caller.ensures))

pub body_value-returns : goal.body_value-returns
body_value-returns t c =
    let a = c.args.at.now in
    let p = a.pair.now in
    let call = c.args.call.now in
    let fn = c.args.callee.now in
    let body = c.args.body.now in
    let R = c.requires in
    let fits = (body_fits p call.function fn body R.well R.found R.some).2 in
    let S = c.in_ok-ways.ensures (scope_of p.program call.function fn) (refl, refl) fits in
    let standing = c.as_slice.ensures.value ∙ c.in_ok-caller.ensures.standing in
    λ n H A.
    body_called a call fn body R.well R.found R.some c.args.net.now c.begin.new.net c.args.state.now c.begin.new.state c.args.args.now c.args.guard c.in_ok-caller.caller c.in_ok-caller.ensures (a.left - 1) (next_left a call.function fn R.may) (below_limit a call.function fn R.may) n c.stmt.new.net c.leave.new.net c.stmt.new.state c.leave.new.state c.in_ok-ways.ways c.in_ok-t.t H A S.grows S.objects
    (λ d inside h. subst (λ (l : List ℕ). Unwinds (IsSettled p) c.begin.new.net c.stmt.new.net c.begin.new.state c.stmt.new.state (λ v. after (record { pair = p; bounds = a.bounds.now; here = call.function }) (calls_at p a.bounds.now (a.left - 1) l) body.place body.node) c.args.guard c.in_ok-ways.ways (IsState p d.locals) (IsBehind p (declared_behind body.node d.locals) (result_of (slice_get p.program.functions call.function))) goes) standing
    (c.in_ok-ways.ensures d inside h).does) c.in_ok-t.ensures

pub stmt-returned-requires : goal.stmt-returned-requires
stmt-returned-requires t c =
    (omega arith, record { well = c.requires.well; scope = c.requires.scope; program = c.requires.program; fits = subst (FitsStmt c.requires.scope) c.in-Return.is c.requires.fits; objects = c.requires.objects; result = c.requires.result; guard = c.requires.guard })

pub stmt-returns-in_ok-f-in-Return : goal.stmt-returns-in_ok-f-in-Return
stmt-returns-in_ok-f-in-Return t c =
    let at = c.args.at.now in
    let k = setting_of at in
    let s = c.args.s.now in
    λ d inside fits.
    done_at at c.args.net.now c.returned.new.net c.args.state.now c.returned.new.state c.args.guard c.in_ok-f-in-Return.f d.locals s (Return c.in-Return.init) (return_effect k (calls_in at) c.in-Return.init) c.in-Return.is refl
    (ap (after k (calls_in at) s.place) (sym c.in-Return.is)) (c.in_ok-f-in-Return.ensures d inside (subst (FitsStmt d) c.in-Return.is fits))

pub stmt-returns-in_ok-f-in-Store : goal.stmt-returns-in_ok-f-in-Store
stmt-returns-in_ok-f-in-Store t c =
    let at = c.args.at.now in
    let k = setting_of at in
    let s = c.args.s.now in
    λ d inside fits.
    let F = subst (FitsStmt d) c.in-Store.is fits in
    done_at at c.args.net.now c.stored.new.net c.args.state.now c.stored.new.state c.args.guard c.in_ok-f-in-Store.f d.locals s (Store c.in-Store.target c.in-Store.init) (store_effect k (calls_in at) c.in-Store.target c.in-Store.init) c.in-Store.is refl
    (ap (after k (calls_in at) s.place) (sym c.in-Store.is)) (c.in_ok-f-in-Store.ensures d inside F.0 (subst (λ (p : CProgram). FitsInit d false (slot_type p c.in-Store.target.slot) c.in-Store.init) inside.0 F.1))

pub stmt-returns-in_ok-f-in-If : goal.stmt-returns-in_ok-f-in-If
stmt-returns-in_ok-f-in-If t c =
    let at = c.args.at.now in
    let k = setting_of at in
    let s = c.args.s.now in
    λ d inside fits.
    let body = c.get-in-If.result.now in
    let F = (fits-if d c.args.s.now.node c.in-If.e c.get.result.now c.in-If.body c.get-in-If.result.now c.in-If.other c.in-If.is c.get.ensures c.get-in-If.ensures fits) in
    unwound_at at c.args.net.now c.joined.new.net c.args.state.now c.optional.new.state c.args.guard c.in_ok-f-in-If.f d.locals s (If c.in-If.e c.in-If.body c.in-If.other) _ c.in-If.is refl
    (sym (after-if k (calls_in at) s.place s.node c.in-If.e c.get.result.now c.in-If.body body c.in-If.other c.in-If.is c.get.ensures c.get-in-If.ensures))
    (done_if at c.args.net.now c.tested.new.net c.stmt.new.net c.optional.new.net c.joined.new.net c.args.state.now c.stmt.new.state c.optional.new.state c.get.result.now c.args.guard c.in_ok-sides-in-If.sides c.in_ok-a-in-If.a c.in_ok-b-in-If.b c.in_ok-f-in-If.f d
    (declared_behind body.node d.locals) d.locals (after k (calls_in at) body.place body.node) (after_option k (calls_in at) c.in-If.other) c.in_ok-sides-in-If.ensures (c.in_ok-a-in-If.ensures d inside F.1) (c.in_ok-b-in-If.ensures d inside F.2) c.in_ok-f-in-If.ensures
    (declares body.node d.locals) (λ j h. h) inside F.0)

pub stmt-returns-in-Break : goal.stmt-returns-in-Break
stmt-returns-in-Break t c =
    let at = c.args.at.now in
    let k = setting_of at in
    let s = c.args.s.now in
    λ d inside fits.
    unwound_at at c.args.net.now c.args.net.now c.args.state.now c.args.state.now c.args.guard c.only.result d.locals s Break (goes Breaking) c.in-Break.is refl (ap (after k (calls_in at) s.place) (sym c.in-Break.is))
    (done_way at c.args.net.now c.args.state.now Breaking c.args.guard c.only.result d.locals (breaks at d.locals) c.len.ensures.proper c.requires.objects c.requires.guard c.only.ensures)

pub stmt-returns-in-Continue : goal.stmt-returns-in-Continue
stmt-returns-in-Continue t c =
    let at = c.args.at.now in
    let k = setting_of at in
    let s = c.args.s.now in
    λ d inside fits.
    unwound_at at c.args.net.now c.args.net.now c.args.state.now c.args.state.now c.args.guard c.only-in-Continue.result d.locals s Continue (goes Continuing) c.in-Continue.is refl (ap (after k (calls_in at) s.place) (sym c.in-Continue.is))
    (done_way at c.args.net.now c.args.state.now Continuing c.args.guard c.only-in-Continue.result d.locals (continues at d.locals) c.len.ensures.proper c.requires.objects c.requires.guard c.only-in-Continue.ensures)

pub stmt-returns-in_ok-f-in-Assert : goal.stmt-returns-in_ok-f-in-Assert
stmt-returns-in_ok-f-in-Assert t c =
    let at = c.args.at.now in
    let k = setting_of at in
    let s = c.args.s.now in
    λ d inside fits.
    let F = subst (FitsStmt d) c.in-Assert.is fits in
    let e_is = c.get-in-Assert.ensures in
    done_at at c.args.net.now c.assert.new.net c.args.state.now c.args.state.now c.args.guard c.in_ok-f-in-Assert.f d.locals s (Assert c.in-Assert.e c.in-Assert.broken) (asserted_as k c.get-in-Assert.result.now c.in-Assert.broken) c.in-Assert.is refl
    (ap (λ (e : TExpr). asserted_as k e c.in-Assert.broken) e_is ∙ ap (after k (calls_in at) s.place) (sym c.in-Assert.is)) (c.in_ok-f-in-Assert.ensures d inside (subst (FitsExpr d) (sym e_is) F.0))

pub stmt-returns-in_ok-f-in-Assume : goal.stmt-returns-in_ok-f-in-Assume
stmt-returns-in_ok-f-in-Assume t c =
    let at = c.args.at.now in
    let k = setting_of at in
    let s = c.args.s.now in
    λ d inside fits.
    let F = subst (FitsStmt d) c.in-Assume.is fits in
    let e_is = c.get-in-Assume.ensures in
    done_at at c.args.net.now c.assume.new.net c.args.state.now c.args.state.now c.args.guard c.in_ok-f-in-Assume.f d.locals s (Assume c.in-Assume.e) (assumed_as k c.get-in-Assume.result.now) c.in-Assume.is refl
    (ap (λ (e : TExpr). assumed_as k e) e_is ∙ ap (after k (calls_in at) s.place) (sym c.in-Assume.is)) (c.in_ok-f-in-Assume.ensures d inside (subst (FitsExpr d) (sym e_is) F))

pub stmt-inputs_set-requires : goal.stmt-inputs_set-requires
stmt-inputs_set-requires t c =
    record { well = c.requires.well; scope = c.requires.scope; program = c.requires.program; fits = subst (FitsStmt c.requires.scope) c.in-SetInputs.is c.requires.fits; objects = c.requires.objects; result = c.requires.result; guard = c.requires.guard }

pub stmt-returns-in_ok-f-in-SetInputs : goal.stmt-returns-in_ok-f-in-SetInputs
stmt-returns-in_ok-f-in-SetInputs t c =
    let at = c.args.at.now in
    let k = setting_of at in
    let s = c.args.s.now in
    λ d inside fits.
    done_at at c.args.net.now c.inputs_set.new.net c.args.state.now c.inputs_set.new.state c.args.guard c.in_ok-f-in-SetInputs.f d.locals s SetInputs (set_inputs k) c.in-SetInputs.is refl
    (ap (after k (calls_in at) s.place) (sym c.in-SetInputs.is)) (c.in_ok-f-in-SetInputs.ensures d inside)

pub stmt-frame_taken-requires : goal.stmt-frame_taken-requires
stmt-frame_taken-requires t c =
    record { well = c.requires.well; scope = c.requires.scope; program = c.requires.program; fits = subst (FitsStmt c.requires.scope) c.in-NextFrame.is c.requires.fits; objects = c.requires.objects; result = c.requires.result; guard = c.requires.guard }

pub stmt-returns-in_ok-f-in-NextFrame : goal.stmt-returns-in_ok-f-in-NextFrame
stmt-returns-in_ok-f-in-NextFrame t c =
    let at = c.args.at.now in
    let k = setting_of at in
    let s = c.args.s.now in
    λ d inside fits.
    done_at at c.args.net.now c.frame_taken.new.net c.args.state.now c.frame_taken.new.state c.args.guard c.in_ok-f-in-NextFrame.f d.locals s (NextFrame c.in-NextFrame.broken) (next_frame k c.in-NextFrame.broken) c.in-NextFrame.is refl
    (ap (after k (calls_in at) s.place) (sym c.in-NextFrame.is)) (c.in_ok-f-in-NextFrame.ensures d inside)

pub stmt-repeat-requires : goal.stmt-repeat-requires
stmt-repeat-requires t c =
    (grind (the_lemmas, arith, common_steps), record { well = c.requires.well; scope = c.requires.scope; program = c.requires.program; fits = subst (FitsStmt c.requires.scope) c.in-Loop.is c.requires.fits; objects = c.requires.objects; result = c.requires.result; guard = c.requires.guard })

pub stmt-returns-in_ok-f-in-Loop : goal.stmt-returns-in_ok-f-in-Loop
stmt-returns-in_ok-f-in-Loop t c =
    let at = c.args.at.now in
    let k = setting_of at in
    let s = c.args.s.now in
    λ d inside fits.
    unwound_at at c.args.net.now c.repeat.new.net c.args.state.now c.repeat.new.state c.args.guard c.in_ok-f-in-Loop.f d.locals s (Loop c.in-Loop.one) (after_loop k (calls_in at) c.in-Loop.one) c.in-Loop.is refl (ap (after k (calls_in at) s.place) (sym c.in-Loop.is))
    (c.in_ok-f-in-Loop.ensures d inside (subst (FitsStmt d) c.in-Loop.is fits))

-- a loop

pub repeat-block-requires : goal.repeat-block-requires
repeat-block-requires t c =
    (grind (the_lemmas, arith, common_steps), record { well = c.requires.well; scope = c.requires.scope; program = c.requires.program; fits = fits_heads c.requires.scope c.args.one.now c.as_slice.result.now c.as_slice.ensures c.requires.fits; objects = c.requires.objects; result = c.requires.result; guard = c.requires.guard })

pub repeat-turns-requires : goal.repeat-turns-requires
repeat-turns-requires t c =
    let d = c.requires.scope in
    let l = c.args.one.now in
    let A = c.in_ok-heads.ensures d c.requires.program (fits_heads d l c.as_slice.result.now c.as_slice.ensures c.requires.fits) in
    (grind (the_lemmas, arith, common_steps), record { well = c.requires.well; scope = inner_of d l; program = c.requires.program; fits = fits_turns d l c.requires.fits; objects = A.objects; result = A.result c.requires.result; guard = A.flow Next })

pub repeat-merged-requires-clause-first : goal.repeat-merged-requires-clause-first
repeat-merged-requires-clause-first t c =
    let d = c.requires.scope in
    let l = c.args.one.now in
    let A = c.in_ok-heads.ensures d c.requires.program (fits_heads d l c.as_slice.result.now c.as_slice.ensures c.requires.fits) in
    let B = c.in_ok-rest.ensures (inner_of d l) c.requires.program (fits_turns d l c.requires.fits) in
    flow_grows c.block.new.net.terms c.turns.new.net.terms c.in_ok-heads.heads B.grows A.flow

pub repeat-merged-requires-clause-second : goal.repeat-merged-requires-clause-second
repeat-merged-requires-clause-second t c =
    (c.in_ok-rest.ensures (inner_of c.requires.scope c.args.one.now) c.requires.program (fits_turns c.requires.scope c.args.one.now c.requires.fits)).flow

pub repeat-returns : goal.repeat-returns
repeat-returns t c =
    λ d inside fits.
    done_loop c.args.at.now c.args.net.now c.block.new.net c.turns.new.net c.merged.new.net c.args.state.now c.block.new.state c.turns.new.state c.args.one.now c.as_slice.result.now c.args.guard c.in_ok-heads.heads c.in_ok-rest.rest c.in_ok-f.f d inside fits c.as_slice.ensures
    c.in_ok-heads.ensures c.in_ok-rest.ensures c.in_ok-f.ensures

pub turns-begun-requires : goal.turns-begun-requires
turns-begun-requires t c = record { well = c.requires.well; scope = c.requires.scope; program = c.requires.program; fits = c.requires.fits.cond; objects = c.requires.objects; result = c.requires.result; guard = c.requires.guard }

pub turns-loop-turn-init : goal.turns-loop-turn-init
turns-loop-turn-init t c =
    let h = c.limit-limit.ensures in
    left_first c.args.at.now c.args.net.now c.begun.new.net c.args.state.now c.args.state.now c.args.one.now c.args.guard c.in_ok-ways.ways (c.limit-limit.result - 0) c.requires.scope c.requires.program c.requires.fits (omega (arith, h)) c.in_ok-ways.ensures

pub turns-round-requires : goal.turns-round-requires
turns-round-requires t c =
    (grind (the_lemmas, arith, common_steps), record { well = c.requires.well; scope = c.requires.scope; program = c.requires.program; fits = c.requires.fits; objects = c.loop-turn.invariant.objects; result = c.loop-turn.invariant.result c.requires.result; guard = c.loop-turn.invariant.flow Next })

pub turns-merged-requires-clause-first : goal.turns-merged-requires-clause-first
turns-merged-requires-clause-first t c =
    flow_grows c.loop-turn.net.terms c.round.new.net.terms c.loop-turn.ways (c.in_ok-f.ensures c.requires.scope c.requires.program c.requires.fits (goes Next)).grows c.loop-turn.invariant.flow

pub turns-merged-requires-clause-second : goal.turns-merged-requires-clause-second
turns-merged-requires-clause-second t c = (c.in_ok-f.ensures c.requires.scope c.requires.program c.requires.fits (goes Next)).flow

pub turns-loop-turn-preserved : goal.turns-loop-turn-preserved
turns-loop-turn-preserved t c =
    let m = c.limit-limit.result - c.loop-turn.turn in
    let n = c.limit-limit.result - (c.loop-turn.turn + 1) in
    let more : m ≡ suc n = let h = c.loop-turn-test.true in omega (arith, h) in
    left_more c.args.at.now c.args.net.now c.loop-turn.net c.round.new.net c.merged.new.net c.args.state.now c.loop-turn.state c.round.new.state c.args.one.now c.args.guard c.loop-turn.ways c.in_ok-f.f c.in_ok-ways-2.ways m n c.requires.scope c.requires.program c.requires.fits more
    c.loop-turn.invariant c.in_ok-f.ensures c.in_ok-ways-2.ensures

pub turns-returns : goal.turns-returns
turns-returns t c =
    let m = c.limit-limit.result - c.loop-turn.turn in
    let over : m ≡ 0 = let h = c.loop-turn-test.false in omega (arith, h) in
    λ d inside fits. left_over c.args.at.now c.args.net.now c.loop-turn.net c.ended.new.net c.args.state.now c.loop-turn.state c.args.one.now c.args.guard c.loop-turn.ways c.in_ok-f-2.f m d inside fits over c.loop-turn.invariant c.in_ok-f-2.ensures

-- a turn of a loop

pub round-stmt-requires : goal.round-stmt-requires
round-stmt-requires t c =
    (grind (the_lemmas, arith, common_steps), record { well = c.requires.well; scope = c.requires.scope; program = c.requires.program; fits = subst (λ (x : TStmt). FitsStmt c.requires.scope x.node) (sym c.get.ensures) c.requires.fits.body; objects = c.requires.objects; result = c.requires.result; guard = c.requires.guard })

pub round-turned-requires : goal.round-turned-requires
round-turned-requires t c =
    (c.in_ok-a.ensures c.requires.scope c.requires.program (subst (λ (x : TStmt). FitsStmt c.requires.scope x.node) (sym c.get.ensures) c.requires.fits.body)).flow

pub round-optional-requires : goal.round-optional-requires
round-optional-requires t c =
    let A = c.in_ok-a.ensures c.requires.scope c.requires.program (subst (λ (x : TStmt). FitsStmt c.requires.scope x.node) (sym c.get.ensures) c.requires.fits.body) in
    let T = c.in_ok-body.ensures in (
      grind (the_lemmas, arith, common_steps),
      record {
        well = c.requires.well;
        scope = c.requires.scope;
        program = c.requires.program;
        fits = fits_last c.requires.scope (out-TLoop c.args.one.now).step c.requires.fits.last;
        objects = objects_grow c.args.at.now c.stmt.new.net.terms c.turned.new.net.terms c.stmt.new.state.objects (grows_adds c.stmt.new.net c.turned.new.net T.adds) A.objects;
        result = grown_result c.args.at.now c.stmt.new.net.terms c.turned.new.net.terms c.stmt.new.state.result (grows_adds c.stmt.new.net c.turned.new.net T.adds) (A.result c.requires.result);
        guard = T.has Next;
      },
    )

pub round-test-requires : goal.round-test-requires
round-test-requires t c =
    let A = c.in_ok-a.ensures c.requires.scope c.requires.program (subst (λ (x : TStmt). FitsStmt c.requires.scope x.node) (sym c.get.ensures) c.requires.fits.body) in
    let T = c.in_ok-body.ensures in
    let S = c.in_ok-last.ensures c.requires.scope c.requires.program (fits_last c.requires.scope (out-TLoop c.args.one.now).step c.requires.fits.last) in
    record { well = c.requires.well; scope = c.requires.scope; program = c.requires.program; fits = c.requires.fits.cond; objects = S.objects; result = S.result (grown_result c.args.at.now c.stmt.new.net.terms c.turned.new.net.terms c.stmt.new.state.result (grows_adds c.stmt.new.net c.turned.new.net T.adds) (A.result c.requires.result)); guard = S.flow Next }

pub round-merged-requires-clause-first : goal.round-merged-requires-clause-first
round-merged-requires-clause-first t c =
    let S = c.in_ok-last.ensures c.requires.scope c.requires.program (fits_last c.requires.scope (out-TLoop c.args.one.now).step c.requires.fits.last) in
    flow_grows c.optional.new.net.terms c.test.new.net.terms c.in_ok-last.last (c.in_ok-next.ensures c.requires.scope c.requires.program c.requires.fits.cond (goes Next)).grows S.flow

pub round-merged-requires-clause-second : goal.round-merged-requires-clause-second
round-merged-requires-clause-second t c = (c.in_ok-next.ensures c.requires.scope c.requires.program c.requires.fits.cond (goes Next)).flow

pub round-merged-requires-2-clause-first : goal.round-merged-requires-2-clause-first
round-merged-requires-2-clause-first t c =
    let S = c.in_ok-last.ensures c.requires.scope c.requires.program (fits_last c.requires.scope (out-TLoop c.args.one.now).step c.requires.fits.last) in
    let T = c.in_ok-next.ensures c.requires.scope c.requires.program c.requires.fits.cond (goes Next) in
    flow_grows c.turned.new.net.terms c.merged.new.net.terms c.in_ok-body.body
    (grows_then c.turned.new.net.terms c.optional.new.net.terms c.merged.new.net.terms S.grows (grows_then c.optional.new.net.terms c.test.new.net.terms c.merged.new.net.terms T.grows (grows_adds c.test.new.net c.merged.new.net c.in_ok-rest.ensures.adds))) c.in_ok-body.ensures.has

pub round-merged-requires-2-clause-second : goal.round-merged-requires-2-clause-second
round-merged-requires-2-clause-second t c = c.in_ok-rest.ensures.has

pub round-returns : goal.round-returns
round-returns t c =
    let a = c.args.at.now in
    let k = setting_of a in
    let l = c.args.one.now in
    λ d inside fits.
    let body = c.get.result.now in
    let A = c.in_ok-a.ensures d inside (subst (λ (x : TStmt). FitsStmt d x.node) (sym c.get.ensures) fits.body) in
    turn_made a c.args.net.now c.stmt.new.net c.turned.new.net c.optional.new.net c.test.new.net c.merged.new.net c.merged-2.new.net c.args.state.now c.stmt.new.state c.optional.new.state l c.args.guard c.in_ok-a.a c.in_ok-body.body c.in_ok-last.last c.in_ok-next.next c.in_ok-rest.rest c.in_ok-f.f d.locals
    (declared_behind body.node d.locals) (declares body.node d.locals) (last_simple d (out-TLoop l).step fits.last)
    (subst (λ (x : TStmt). IsUnwound a c.args.net.now c.stmt.new.net c.args.state.now c.stmt.new.state c.args.guard c.in_ok-a.a d.locals (declared_behind body.node d.locals) (after k (calls_in a) x.place x.node)) c.get.ensures A) c.in_ok-body.ensures
    (c.in_ok-last.ensures d inside (fits_last d (out-TLoop l).step fits.last)) (c.in_ok-next.ensures d inside fits.cond) c.in_ok-rest.ensures c.in_ok-f.ensures

-- a switch

pub stmt-value-requires : goal.stmt-value-requires
stmt-value-requires t c =
    record { scope = c.requires.scope; program = c.requires.program; fits = (fits-switch c.requires.scope c.args.s.now.node c.in-Switch.e c.get-e.result.now c.in-Switch.groups c.in-Switch.groups c.in-Switch.is c.get-e.ensures refl c.requires.fits).0; objects = c.requires.objects; guard = c.requires.guard }

pub stmt-cases-requires : goal.stmt-cases-requires
stmt-cases-requires t c =
    let d = c.requires.scope in
    let node = c.args.s.now.node in
    let V = c.in_ok-t-in-Switch.ensures in
    let F = fits-switch d node c.in-Switch.e c.get-e.result.now c.in-Switch.groups c.as_slice-in-Switch.result.now c.in-Switch.is c.get-e.ensures c.as_slice-in-Switch.ensures c.requires.fits in
    let L = switch_labels d node c.in-Switch.e c.get-e.result.now c.in-Switch.groups c.as_slice-in-Switch.result.now c.in-Switch.is c.get-e.ensures c.as_slice-in-Switch.ensures c.requires.fits in (
      grind (the_lemmas, arith, common_steps),
      (
        record {
          well = c.requires.well;
          scope = in_a_switch d;
          program = c.requires.program;
          fits = F.1;
          objects = objects_grow c.args.at.now c.args.net.now.terms c.value.new.net.terms c.args.state.now.objects V.grows c.requires.objects;
          result = grown_result c.args.at.now c.args.net.now.terms c.value.new.net.terms c.args.state.now.result V.grows c.requires.result;
          guard = guard_grows c.args.net.now.terms c.value.new.net.terms c.args.guard V.grows c.requires.guard;
        },
        (V.has, (V.width, (L.0, L.1))),
      ),
    )

pub stmt-returns-in_ok-f-in-Switch : goal.stmt-returns-in_ok-f-in-Switch
stmt-returns-in_ok-f-in-Switch t c =
    let at = c.args.at.now in
    let k = setting_of at in
    let s = c.args.s.now in
    let e = c.get-e.result.now in
    let groups = c.as_slice-in-Switch.result.now in
    λ d inside fits.
    let F = fits-switch d s.node c.in-Switch.e e c.in-Switch.groups groups c.in-Switch.is c.get-e.ensures c.as_slice-in-Switch.ensures fits in
    unwound_at at c.args.net.now c.cases.new.net c.args.state.now c.cases.new.state c.args.guard c.in_ok-f-in-Switch.f d.locals s (Switch c.in-Switch.e c.in-Switch.groups) _ c.in-Switch.is refl
    (sym (after-switch k (calls_in at) s.place s.node c.in-Switch.e e c.in-Switch.groups groups c.in-Switch.is c.get-e.ensures c.as_slice-in-Switch.ensures))
    (done_switch at c.args.net.now c.value.new.net c.cases.new.net c.args.state.now c.cases.new.state e groups c.args.guard c.in_ok-t-in-Switch.t c.in_ok-f-in-Switch.f d c.in_ok-t-in-Switch.ensures (c.in_ok-f-in-Switch.ensures (in_a_switch d) inside F.1) inside F.0)

pub cases-loop-i-init : goal.cases-loop-i-init
cases-loop-i-init t c =
    let a = c.args.at.now in
    let N = c.in_ok-entries.ensures in
    cases_first a c.enter_groups.new.net c.args.state.now c.args.groups.now c.args.guard (λ v. entered_case (number_of c.args.ty v c.args.value) c.args.groups.now) c.only-ways.result c.only-ways.ensures N.adds.proper
    (objects_grow a c.args.net.now.terms c.enter_groups.new.net.terms c.args.state.now.objects (grows_adds c.args.net.now c.enter_groups.new.net N.adds) c.requires.run.objects) (guard_kept c.args.net.now c.enter_groups.new.net c.args.guard N.adds c.requires.run.guard)

pub cases-index-entry-requires : goal.cases-index-entry-requires
cases-index-entry-requires t c =
    let h = c.loop-i-test.true in
    let n = c.in_ok-entries.ensures.count in
    let o = c.in_ok-entries.entries.groups.ok in
    omega (arith, h, n, o)

pub cases-entered-requires-clause-ways : goal.cases-entered-requires-clause-ways
cases-entered-requires-clause-ways t c = c.loop-i.invariant.flow

pub cases-entered-requires-clause-entry : goal.cases-entered-requires-clause-entry
cases-entered-requires-clause-entry t c =
    let h = c.loop-i-test.true in
    let n = c.in_ok-entries.ensures.count in
    let few : c.loop-i.i < length c.in_ok-entries.entries.groups.items = omega (arith, h, n) in
    guard_grows c.enter_groups.new.net.terms c.loop-i.net.terms c.index-entry.result.now c.loop-i.invariant.grows
    (c.in_ok-entries.ensures.has c.loop-i.i c.index-entry.result.now (placed_get c.in_ok-entries.entries.groups.items c.loop-i.i c.index-entry.result.now few c.index-entry.ensures))

pub cases-block-requires : goal.cases-block-requires
cases-block-requires t c =
    let a = c.args.at.now in
    let E = c.in_ok-here.ensures in
    let S = c.loop-i.invariant in
    let N = c.in_ok-entries.ensures in (
      grind (the_lemmas, arith, common_steps),
      record {
        well = c.requires.run.well;
        scope = c.requires.run.scope;
        program = c.requires.run.program;
        fits = group_fits c.requires.run.scope c.args.groups.now c.loop-i.i c.index-groups-i.result c.as_slice.result.now c.loop-i-test.true c.index-groups-i.is (c.as_slice.ensures ∙ ap (λ (y : Group). (out-Group y).body) (sym c.index-groups-i.is)) c.requires.run.fits;
        objects = objects_grow a c.loop-i.net.terms c.entered.new.net.terms c.loop-i.state.objects (grows_adds c.loop-i.net c.entered.new.net E.adds) S.objects;
        result = grown_result a c.loop-i.net.terms c.entered.new.net.terms c.loop-i.state.result (grows_adds c.loop-i.net c.entered.new.net E.adds)
            (S.result (grown_result a c.args.net.now.terms c.enter_groups.new.net.terms c.args.state.now.result (grows_adds c.args.net.now c.enter_groups.new.net N.adds) c.requires.run.result));
        guard = E.has Next;
      },
    )

pub cases-merged-requires-clause-first : goal.cases-merged-requires-clause-first
cases-merged-requires-clause-first t c =
    let fits = group_fits c.requires.run.scope c.args.groups.now c.loop-i.i c.index-groups-i.result c.as_slice.result.now c.loop-i-test.true c.index-groups-i.is (c.as_slice.ensures ∙ ap (λ (y : Group). (out-Group y).body) (sym c.index-groups-i.is)) c.requires.run.fits in
    flow_grows c.entered.new.net.terms c.block.new.net.terms c.in_ok-here.here (c.in_ok-f.ensures c.requires.run.scope c.requires.run.program fits).grows c.in_ok-here.ensures.has

pub cases-merged-requires-clause-second : goal.cases-merged-requires-clause-second
cases-merged-requires-clause-second t c =
    let fits = group_fits c.requires.run.scope c.args.groups.now c.loop-i.i c.index-groups-i.result c.as_slice.result.now c.loop-i-test.true c.index-groups-i.is (c.as_slice.ensures ∙ ap (λ (y : Group). (out-Group y).body) (sym c.index-groups-i.is)) c.requires.run.fits in
    (c.in_ok-f.ensures c.requires.run.scope c.requires.run.program fits).flow

pub cases-loop-i-preserved : goal.cases-loop-i-preserved
cases-loop-i-preserved t c =
    let a = c.args.at.now in
    let groups = c.args.groups.now in
    let i = c.loop-i.i in
    let x = c.index-groups-i.result in
    let N = c.in_ok-entries.ensures in
    let h = c.loop-i-test.true in
    let n = N.count in
    let few : i < length c.in_ok-entries.entries.groups.items = omega (arith, h, n) in
    let at_i = placed_get c.in_ok-entries.entries.groups.items i c.index-entry.result.now few c.index-entry.ensures in
    let k : suc i ≡ i + 1 = omega arith in
    let fits = group_fits c.requires.run.scope groups i x c.as_slice.result.now h c.index-groups-i.is (c.as_slice.ensures ∙ ap (λ (y : Group). (out-Group y).body) (sym c.index-groups-i.is)) c.requires.run.fits in
    subst (λ j. CasesLeft a c.enter_groups.new.net c.merged.new.net c.args.state.now c.block.new.state groups j c.args.guard (λ v. entered_case (number_of c.args.ty v c.args.value) groups) c.in_ok-ways.ways) k
    (cases_more a c.enter_groups.new.net c.loop-i.net c.entered.new.net c.block.new.net c.merged.new.net c.args.state.now c.loop-i.state c.block.new.state groups i x c.as_slice.result.now c.args.guard c.index-entry.result.now (λ v. entered_case (number_of c.args.ty v c.args.value) groups)
    c.loop-i.ways c.in_ok-here.here c.in_ok-f.f c.in_ok-ways.ways (group_here groups i x h c.index-groups-i.is) (c.as_slice.ensures ∙ ap (λ (y : Group). (out-Group y).body) (sym c.index-groups-i.is)) c.loop-i.invariant (λ v r. N.enters v r i c.index-entry.result.now at_i)
    (λ v r. guard_below v c.enter_groups.new.net.terms c.args.guard N.adds.proper r (guard_kept c.args.net.now c.enter_groups.new.net c.args.guard N.adds c.requires.run.guard)) c.in_ok-here.ensures c.requires.run.scope c.requires.run.program fits c.in_ok-f.ensures
    (λ d f. group_fits d groups i x c.as_slice.result.now h c.index-groups-i.is (c.as_slice.ensures ∙ ap (λ (y : Group). (out-Group y).body) (sym c.index-groups-i.is)) f) c.in_ok-ways.ensures)

pub cases-entered-requires-2-clause-ways : goal.cases-entered-requires-2-clause-ways
cases-entered-requires-2-clause-ways t c = c.loop-i.invariant.flow

pub cases-entered-requires-2-clause-entry : goal.cases-entered-requires-2-clause-entry
cases-entered-requires-2-clause-entry t c = guard_grows c.enter_groups.new.net.terms c.loop-i.net.terms c.in_ok-entries.entries.past c.loop-i.invariant.grows c.in_ok-entries.ensures.has_past

pub cases-switched-requires : goal.cases-switched-requires
cases-switched-requires t c = c.in_ok-last.ensures.has

pub cases-returns : goal.cases-returns
cases-returns t c =
    let groups = c.args.groups.now in
    let i = c.loop-i.i in
    let h = c.loop-i-test.false in
    let over : drop i groups ≡ [] = drop_of_length-le groups (omega (arith, h)) in
    λ d inside fits.
    cases_last c.args.at.now c.args.net.now c.enter_groups.new.net c.loop-i.net c.entered-2.new.net c.switched.new.net c.args.state.now c.loop-i.state groups i c.args.guard c.in_ok-entries.entries.past c.in_ok-entries.entries.groups.items c.args.ty c.args.value c.loop-i.ways c.in_ok-last.last c.in_ok-f-2.f
    over (omega (arith, h)) c.requires.run.guard c.in_ok-entries.ensures c.loop-i.invariant c.in_ok-last.ensures c.in_ok-f-2.ensures d inside fits

pub received-returns : goal.received-returns
received-returns t c =
    let a = c.args.at.now in
    let K = subst (λ (o : Option IntType). IsCalled a c.args.net.now c.call_value.new.net c.args.state.now c.call_value.new.state c.args.call.now o c.args.guard c.in_ok-handed.handed) c.in-Some-result.is c.in_ok-handed.ensures in
    let T = c.in_ok-t.ensures in
    received a c.args.net.now c.call_value.new.net c.as_type.new.net c.args.state.now c.call_value.new.state c.in-Some-result.from c.args.ty c.args.call.now c.args.guard c.in_ok-handed.handed c.in_ok-t.t K T.adds T.has T.width T.value

pub result_declared-put-requires-clause-there : goal.result_declared-put-requires-clause-there
result_declared-put-requires-clause-there t c =
    let a = c.args.at.now in
    let M = c.requires.may in
    some_terms a.pair.now.program c.received.new.net.terms c.received.new.state.objects (Local c.args.local) c.in_ok-t.ensures.objects (local_there a M.scope c.args.local c.args.init.now M.program M.fits)

pub result_declared-put-requires-clause-old : goal.result_declared-put-requires-clause-old
result_declared-put-requires-clause-old t c =
    let a = c.args.at.now in
    let M = c.requires.may in
    let V = c.in_ok-t.ensures in
    old_has a.pair.now.program c.received.new.net.terms c.received.new.net.terms c.received.new.state.objects (Local c.args.local) 0 c.in_ok-t.t.width (local_there a M.scope c.args.local c.args.init.now M.program M.fits)
    (V.width ∙ ap (λ (u : IntType). u.bits) c.slot_type-ty.ensures) (λ x k. k) V.objects

pub result_declared-returns : goal.result_declared-returns
result_declared-returns t c =
    let a = c.args.at.now in
    let x = c.args.local in
    let call = c.in-Called.call in
    let M = subst (λ (i : TInit). MayRun a c.args.net.now c.args.state.now c.args.guard (λ d. FitsDeclare d x i)) c.in-Called.is c.requires.may in
    let V = subst (λ (u : IntType). IsReceived a c.args.net.now c.received.new.net c.args.state.now c.received.new.state u call c.args.guard c.in_ok-t.t) c.slot_type-ty.ensures c.in_ok-t.ensures in
    λ line d inside fits.
    subst (λ (i : TInit). IsDone a c.args.net.now c.put.new.net c.args.state.now (with_objects c.received.new.state c.put.new.objects) c.args.guard c.only.result d.locals (x ∷ d.locals) (declare_effect (setting_of a) (calls_in a) line x i)) (sym c.in-Called.is)
    (done_set a c.args.net.now c.received.new.net c.put.new.net c.args.state.now c.received.new.state c.put.new.objects x call c.args.guard c.in_ok-t.t c.only.result c.only.ensures c.requires.plain M V c.in_ok-put.ensures line d inside
    (subst (FitsDeclare d x) c.in-Called.is fits))

pub result_returned-received-requires : goal.result_returned-received-requires
result_returned-received-requires t c =
    let a = c.args.at.now in
    let R = c.requires in
    let own = sym c.own_result.ensures ∙ c.in-Some.is in
    let fits = subst (λ (i : TInit). FitsStmt R.scope (Return (Some i))) c.in-Called.is R.fits in (
      omega arith,
      (
        record { well = R.well; scope = R.scope; program = R.program; fits = returned_fits a c.in-Some.ty c.in-Called.call own R.scope R.program fits; objects = R.objects; result = R.result; guard = R.guard },
        own_typed a c.in-Some.ty R.well own,
      ),
    )

pub result_returned-returns : goal.result_returned-returns
result_returned-returns t c =
    let a = c.args.at.now in
    let own = sym c.own_result.ensures ∙ c.in-Some.is in
    let M = subst (λ (i : TInit). MayRun a c.args.net.now c.args.state.now c.args.guard (λ d. FitsStmt d (Return (Some i)))) c.in-Called.is c.requires in
    λ d inside fits.
    subst (λ (i : TInit). IsDone a c.args.net.now c.chosen.new.net c.args.state.now (with_result c.received.new.state c.in_ok-state.field-0) c.args.guard c.only.result d.locals d.locals (return_effect (setting_of a) (calls_in a) (Some i))) (sym c.in-Called.is)
    (done_returned a c.args.net.now c.received.new.net c.chosen.new.net c.args.state.now c.received.new.state c.in-Some.ty c.in-Called.call c.args.guard c.in_ok-t.t c.in_ok-state.field-0 c.only.result c.only.ensures own M c.in_ok-t.ensures c.in_ok-state.ensures d inside
    (subst (λ (i : TInit). FitsStmt d (Return (Some i))) c.in-Called.is fits))

pub result_stored-put-requires-clause-old : goal.result_stored-put-requires-clause-old
result_stored-put-requires-clause-old t c =
    let a = c.args.at.now in
    let M = c.requires.may in
    let V = c.in_ok-t.ensures in
    let slot = c.args.target.now.slot in
    old_has a.pair.now.program c.received.new.net.terms c.received.new.net.terms c.received.new.state.objects slot 0 c.in_ok-t.t.width (there_in a M.scope slot M.program M.fits.0.object.visible M.fits.0.stored)
    (V.width ∙ ap (λ (u : IntType). u.bits) c.slot_type-ty.ensures) (λ x k. k) V.objects

pub result_stored-returns : goal.result_stored-returns
result_stored-returns t c =
    let a = c.args.at.now in
    let target = c.args.target.now in
    let call = c.in-Called.call in
    let M = subst (λ (i : TInit). MayRun a c.args.net.now c.args.state.now c.args.guard (λ d. FitsTarget d target × FitsInit d false (stored_type a target) i)) c.in-Called.is c.requires.may in
    let V = subst (λ (u : IntType). IsReceived a c.args.net.now c.received.new.net c.args.state.now c.received.new.state u call c.args.guard c.in_ok-t.t) c.slot_type-ty.ensures c.in_ok-t.ensures in
    λ d inside fits_target fits.
    subst (λ (i : TInit). IsDone a c.args.net.now c.put.new.net c.args.state.now (with_objects c.received.new.state c.put.new.objects) c.args.guard c.only.result d.locals d.locals (store_effect (setting_of a) (calls_in a) target i)) (sym c.in-Called.is)
    (done_stored a c.args.net.now c.received.new.net c.put.new.net c.args.state.now c.received.new.state c.put.new.objects target call c.args.guard c.in_ok-t.t c.only.result c.only.ensures M c.requires.plain V c.in_ok-put.ensures d inside fits_target
    (subst (FitsInit d false (stored_type a target)) c.in-Called.is fits))

pub returned-returns : goal.returned-returns
returned-returns t c =
    let a = c.args.at.now in
    let is = c.in-Some.is in
    λ d inside fits.
    subst (λ (i : Option TInit). IsDone a c.args.net.now c.result_returned.new.net c.args.state.now c.result_returned.new.state c.args.guard c.in_ok-f-3.f d.locals d.locals (return_effect (setting_of a) (calls_in a) i)) (sym is)
    (c.in_ok-f-3.ensures d inside (subst (λ (i : Option TInit). FitsStmt d (Return i)) is fits))

pub result_stored_at-value-requires : goal.result_stored_at-value-requires
result_stored_at-value-requires t c =
    let M = c.requires.may in
    record { scope = M.scope; program = M.program; fits = (index_fits M.scope c.args.target.now c.args.index.now c.requires.index M.fits.0).0; objects = M.objects; guard = M.guard }

pub result_stored_at-received-requires : goal.result_stored_at-received-requires
result_stored_at-received-requires t c =
    let a = c.args.at.now in
    let M = c.requires.may in
    let target = c.args.target.now in
    let slot = target.slot in
    let G = c.in_ok-i.ensures.grows in
    let fits = subst (FitsInit M.scope false (stored_type a target)) c.in-Called.is M.fits.1 in (
      omega arith,
      (
        record { well = M.well; scope = M.scope; program = M.program; fits = fits.0; objects = objects_grow a c.args.net.now.terms c.value.new.net.terms c.args.state.now.objects G M.objects; result = grown_result a c.args.net.now.terms c.value.new.net.terms c.args.state.now.result G M.result; guard = guard_grows c.args.net.now.terms c.value.new.net.terms c.args.guard G M.guard },
        store_typed a c.args.net.now c.args.state.now target c.args.init.now c.args.guard c.slot_type-ty.result c.slot_type-ty.ensures M,
      ),
    )

pub result_stored_at-bounded-requires-clause-guard : goal.result_stored_at-bounded-requires-clause-guard
result_stored_at-bounded-requires-clause-guard t c = guard_grows c.args.net.now.terms c.received.new.net.terms c.args.guard (grows_then c.args.net.now.terms c.value.new.net.terms c.received.new.net.terms c.in_ok-i.ensures.grows c.in_ok-t.ensures.grows) c.requires.may.guard

pub result_stored_at-bounded-requires-clause-has : goal.result_stored_at-bounded-requires-clause-has
result_stored_at-bounded-requires-clause-has t c = c.in_ok-t.ensures.grows.kept c.in_ok-i.i c.in_ok-i.ensures.has

pub result_stored_at-put_at-requires-clause-guard : goal.result_stored_at-put_at-requires-clause-guard
result_stored_at-put_at-requires-clause-guard t c =
    let target = c.args.target.now in
    let tests = bounded_grows c.received.new.net c.bounded.new.net target.bounds c.in_ok-i.i c.args.index.now.ty c.slot_length-count.result c.args.guard c.in_ok-bounded.ensures in
    guard_grows c.args.net.now.terms c.bounded.new.net.terms c.args.guard (grows_then c.args.net.now.terms c.received.new.net.terms c.bounded.new.net.terms (grows_then c.args.net.now.terms c.value.new.net.terms c.received.new.net.terms c.in_ok-i.ensures.grows c.in_ok-t.ensures.grows) tests) c.requires.may.guard

pub result_stored_at-put_at-requires-clause-has : goal.result_stored_at-put_at-requires-clause-has
result_stored_at-put_at-requires-clause-has t c =
    let target = c.args.target.now in
    let tests = bounded_grows c.received.new.net c.bounded.new.net target.bounds c.in_ok-i.i c.args.index.now.ty c.slot_length-count.result c.args.guard c.in_ok-bounded.ensures in
    tests.kept c.in_ok-i.i (c.in_ok-t.ensures.grows.kept c.in_ok-i.i c.in_ok-i.ensures.has)

pub result_stored_at-put_at-requires-clause-value : goal.result_stored_at-put_at-requires-clause-value
result_stored_at-put_at-requires-clause-value t c =
    let target = c.args.target.now in
    let tests = bounded_grows c.received.new.net c.bounded.new.net target.bounds c.in_ok-i.i c.args.index.now.ty c.slot_length-count.result c.args.guard c.in_ok-bounded.ensures in
    tests.kept c.in_ok-t.t c.in_ok-t.ensures.has

pub result_stored_at-put_at-requires-clause-count : goal.result_stored_at-put_at-requires-clause-count
result_stored_at-put_at-requires-clause-count t c =
    let a = c.args.at.now in
    let M = c.requires.may in
    let target = c.args.target.now in
    let slot = target.slot in
    array_terms a M.scope target c.args.index.now c.received.new.net c.received.new.state.objects M.program M.fits.0 c.requires.index c.in_ok-t.ensures.objects ∙ sym c.slot_length-count.ensures

pub result_stored_at-put_at-requires-clause-may : goal.result_stored_at-put_at-requires-clause-may
result_stored_at-put_at-requires-clause-may t c =
    let a = c.args.at.now in
    let M = c.requires.may in
    let target = c.args.target.now in
    let slot = target.slot in
    let tests = bounded_grows c.received.new.net c.bounded.new.net target.bounds c.in_ok-i.i c.args.index.now.ty c.slot_length-count.result c.args.guard c.in_ok-bounded.ensures in
    record {
      program = a.pair.now.program;
      stored = M.fits.0.stored;
      there = there_in a M.scope slot M.program M.fits.0.object.visible M.fits.0.stored;
      width = c.in_ok-t.ensures.width ∙ ap (λ (u : IntType). u.bits) c.slot_type-ty.ensures;
      objects = objects_grow a c.received.new.net.terms c.bounded.new.net.terms c.received.new.state.objects tests c.in_ok-t.ensures.objects;
    }

pub result_stored_at-returns : goal.result_stored_at-returns
result_stored_at-returns t c =
    let a = c.args.at.now in
    let target = c.args.target.now in
    let call = c.in-Called.call in
    let M = subst (λ (i : TInit). MayRun a c.args.net.now c.args.state.now c.args.guard (λ d. FitsTarget d target × FitsInit d false (stored_type a target) i)) c.in-Called.is c.requires.may in
    let V = subst (λ (u : IntType). IsReceived a c.value.new.net c.received.new.net c.args.state.now c.received.new.state u call c.args.guard c.in_ok-t.t) c.slot_type-ty.ensures c.in_ok-t.ensures in
    λ d inside fits_target fits.
    subst (λ (i : TInit). IsDone a c.args.net.now c.put_at.new.net c.args.state.now (with_objects c.received.new.state c.put_at.new.objects) c.args.guard c.only.result d.locals d.locals (store_effect (setting_of a) (calls_in a) target i)) (sym c.in-Called.is)
    (done_stored_at a c.args.net.now c.value.new.net c.received.new.net c.bounded.new.net c.put_at.new.net c.args.state.now c.received.new.state c.put_at.new.objects target c.args.index.now call c.args.guard c.in_ok-i.i c.in_ok-t.t c.slot_length-count.result c.only.result c.only.ensures c.slot_length-count.ensures c.requires.index M
    c.in_ok-i.ensures V c.in_ok-bounded.ensures c.in_ok-put_at.ensures d inside fits_target (subst (FitsInit d false (stored_type a target)) c.in-Called.is fits))
