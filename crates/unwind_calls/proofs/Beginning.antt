-- What is known of a body that begins, and of one that was left.
use Rattle.std.proofs.Common.{◌≡◌, ℕ, suc, ◌+◌, ◌-◌, ◌≤◌, List, Option, Some, None, true, length, min, take, drop, sym, ap, ◌∙◌, subst, arith}
use Rattle.std.specs.Prelude.{slice_get}
use Rattle.std.proofs.lemmas.List.{length-drop, length-take}
use Rattle.word_eqs.specs.declared.term.TermId.{TermId}
use Rattle.word_eqs.specs.Graph.{Graph}
use Rattle.joint_ir.specs.declared.ctype.IntType.{IntType}
use Rattle.joint_ir.specs.declared.pair.Pair.{Pair}
use Rattle.joint_ir.specs.declared.program.Function.{Function}
use Rattle.joint_ir.specs.declared.stmt.TCall.{TCall}
use Rattle.joint_ir.specs.declared.stmt.TStmt.{TStmt}
use Rattle.joint_ir.specs.Statements.{after, is_below_limit}
use Rattle.joint_ir.specs.Steps.{result_of, type_or_int}
use Rattle.joint_ir.specs.WellFormed.{Scope, FitsBody, FitsStmt, IsWellFormed, declared_behind}
use Rattle.joint_lists.specs.Own.{own_end}
use Rattle.joint_lists.proofs.Keeping.{params_before}
use Rattle.sized_terms.specs.declared.SizedTerm.{SizedTerm}
use Rattle.trails.specs.Following.{goes}
use Rattle.unrolled.specs.declared.Objects.{Objects}
use Rattle.unrolled.specs.declared.Unrolled.{Unrolled}
use Rattle.unwind_state.specs.declared.state.Flow.{Flow}
use Rattle.unwind_state.specs.declared.state.Guard.{Guard}
use Rattle.unwind_state.specs.declared.state.State.{State}
use Rattle.unwind_state.specs.Guards.{HasGuard}
use Rattle.unwind_state.specs.Images.{IsState, IsSettled, IsBehind}
use Rattle.unwind_state.specs.Unwinding.{Grows, Unwinds}
use Rattle.unwind_state.specs.Writing.{HasObjects, HasResult}
use Rattle.unwind_state.proofs.Gates.{guard_kept}
use Rattle.unwind_simple.specs.declared.simple.Activation.{Activation}
use Rattle.unwind_calls.specs.Arguments.{AreArguments}
use Rattle.unwind_calls.specs.Bodies.{HasBegun, HasLeft}
use Rattle.unwind_calls.specs.Calls.{IsCalled, IsNought}
use Rattle.unwind_calls.specs.declared.bodies.Caller.{Caller}
use Rattle.unwind_calls.specs.Rows.{rows_back, rows_part}
use Rattle.unwind_calls.proofs.Declared.{own_within}
use Rattle.unwind_calls.proofs.Entering.{rows_there}
use Rattle.unwind_calls.proofs.Joining.{call_entered, within_body, calls_within}

module _ (p : Pair) (f : ℕ) (fn : Function) (body : TStmt) (well : IsWellFormed p) (found : slice_get p.program.functions f ≡ Some fn) (some : fn.body ≡ Some body) where
  pub body_fits : FitsBody p.program f fn (Some body)
  body_fits = subst (FitsBody p.program f fn) some (well.program.functions f fn found).body

  -- a function's own objects have rows
  pub own_from : fn.first ≤ own_end fn body
  own_from = let before = params_before fn body body_fits.3 in omega (arith, before)

  pub own_there : (g : Graph) (o : Objects) → HasObjects p.program g o → own_end fn body ≤ length o.locals.items
  own_there g o H =
      let there = rows_there p.program g o H in
      let within = own_within p.program f fn body body_fits in
      omega (arith, there, within)

-- so many rows are kept
part_fits : {A : Type 0} (first end : ℕ) (xs : List A) (n : ℕ) → first ≤ end → end ≤ n → first + length (rows_part first end xs) ≤ n
part_fits first end xs n order le =
    let dropped : length (drop first (take end xs)) ≡ length (take end xs) - first = length-drop first (take end xs) in
    let taken : length (take end xs) ≡ min end (length xs) = length-take end xs in
    omega (arith, dropped, taken)

module _ (a : Activation) (call : TCall) (fn : Function) (body : TStmt) (well : IsWellFormed a.pair.now) (found : slice_get a.pair.now.program.functions call.function ≡ Some fn) (some : fn.body ≡ Some body)
    (n1 n2 : Unrolled) (s0 s1 : State) (ts : List SizedTerm) (g : Guard) (c : Caller) (B : HasBegun a n1 n2 s0 s1 call.function fn body ts g c) where
  -- the body may be unwound
  pub begun_objects : HasObjects a.pair.now.program n2.terms s1.objects
  begun_objects = record { count = B.set.objects.count; has = λ slot there k t at. B.nought.adds.kept _ (B.set.objects.has slot there k t at) }

  pub begun_result : HasResult (result_of (slice_get a.pair.now.program.functions call.function)) n2.terms s1.result
  begun_result = subst (λ o. HasResult (result_of o) n2.terms s1.result) (sym found) (by_type fn.result B.nought)
    where
      by_type : (o : Option IntType) → IsNought B.mid n2 (type_or_int o) s1.result → HasResult o n2.terms s1.result
      by_type None N = tt
      by_type (Some t) N = (N.has, N.width)

  pub begun_guard : HasGuard n1.terms g → HasGuard n2.terms g
  begun_guard h = guard_kept B.mid n2 g B.nought.adds (guard_kept n1 B.mid g B.set.adds h)

  -- there is room for the rows behind it
  pub left_room : (n : Unrolled) (o : Objects) → HasObjects a.pair.now.program n.terms o → fn.first + length c.rows.items ≤ length o.locals.items
  left_room n o H =
      subst (λ (l : List (List TermId)). fn.first + length l ≤ length o.locals.items) (sym B.rows)
      (part_fits fn.first (own_end fn body) s0.objects.locals.items (length o.locals.items) (own_from a.pair.now call.function fn body well found some) (own_there a.pair.now call.function fn body well found some n.terms o H))

  -- a call of these parts
  pub body_called : (left : ℕ) (left_is : a.left ≡ suc left) (may : is_below_limit a.pair.now a.bounds.now a.standing.now call.function fn ≡ true) (n0 n3 n4 : Unrolled) (s2 s3 : State) (ways : Flow) (x : SizedTerm) → HasObjects a.pair.now.program n0.terms s0.objects →
      AreArguments a n0 n1 s0 call.args g ts → Grows n2.terms n3.terms → HasObjects a.pair.now.program n3.terms s2.objects →
      ((d : Scope) → (d.program ≡ a.pair.now.program) × (d.here ≡ call.function) → FitsStmt d body.node →
      Unwinds (IsSettled a.pair.now) n2 n3 s1 s2 (λ v. after (within_body a call fn body found some left left_is may) (calls_within a call fn body found some left left_is may) body.place body.node) g ways (IsState a.pair.now d.locals) (IsBehind a.pair.now (declared_behind body.node d.locals) (result_of (slice_get a.pair.now.program.functions call.function))) goes) →
      HasLeft a n3 n4 s2 s3 call.function fn c ways x → IsCalled a n0 n4 s0 s3 call fn.result g x
  body_called left left_is may n0 n3 n4 s2 s3 ways x H A grows H2 unwound L =
      call_entered a call fn body found some left left_is may n0 n1 B.mid n2 n3 n4 s0 s2 s3 s1.objects g ts s1.result ways x well H A B.set B.nought.adds grows H2
      (λ d inside fits. subst (λ s. Unwinds (IsSettled a.pair.now) n2 n3 s s2 (λ v. after (within_body a call fn body found some left left_is may) (calls_within a call fn body found some left left_is may) body.place body.node) g ways (IsState a.pair.now d.locals) (IsBehind a.pair.now (declared_behind body.node d.locals) (result_of (slice_get a.pair.now.program.functions call.function))) goes) B.state (unwound d inside fits))
      (record {
        globals = L.globals;
        locals = L.locals ∙ ap (λ (l : List (List TermId)). rows_back fn.first l s2.objects.locals.items) B.rows;
        members = L.members;
        registers = L.registers;
        inputs = L.inputs;
        unknown = L.unknown;
        wires = L.wires;
        edges = L.edges;
        result = L.result ∙ B.result;
      })
      L.closing
