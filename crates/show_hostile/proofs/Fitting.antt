-- Nests fit, and so do the programs that have one as the body of `f`.
use Rattle.std.proofs.Common.{◌≡◌, ℕ, ◌<◌, ◌∙◌, List, [], ◌∷◌, ◌++◌, length, inl, refl, sym, ap, subst, arith}
use Rattle.std.specs.Prelude.{Bool, true, false, nat_lt, Option, Some, None, IsSome, slice_get, count_by, eqb}
use denote.Hole.Carrier.{hidden, roll}
use Rattle.joint_ir.specs.declared.expr.BinaryOp.TheVariants as binary
use Rattle.joint_ir.specs.declared.expr.Slot.TheVariants.{Local}
use Rattle.joint_ir.specs.declared.expr.TExpr.{TExpr}
use Rattle.joint_ir.specs.declared.expr.TNode.{Binary}
use Rattle.joint_ir.specs.declared.expr.TNode.TheBlock.{hidden-the_row-TExpr-0}
use Rattle.joint_ir.specs.declared.pair.Pair.{Pair}
use Rattle.joint_ir.specs.declared.program.CProgram.{CProgram}
use Rattle.joint_ir.specs.declared.stmt.Group.{Group, roll-Group}
use Rattle.joint_ir.specs.declared.stmt.Label.{Label}
use Rattle.joint_ir.specs.declared.stmt.Label.TheVariants.{Default}
use Rattle.joint_ir.specs.declared.stmt.SNode.{Block, If, Loop, Switch, Call, Return, Store}
use Rattle.joint_ir.specs.declared.stmt.SNode.TheBlock.{hidden-the_row-TStmt-0, hidden-the_row-TStmt-1, hidden-the_row-Group-2}
use Rattle.joint_ir.specs.declared.stmt.TCall.{TCall}
use Rattle.joint_ir.specs.declared.stmt.TInit.TheVariants.{Called}
use Rattle.joint_ir.specs.declared.stmt.TLoop.{roll-TLoop}
use Rattle.joint_ir.specs.declared.stmt.TStmt.{TStmt}
use Rattle.joint_ir.specs.Types.{Single, int}
use Rattle.joint_ir.specs.Steps.{slot_type}
use Rattle.joint_ir.specs.Weights.{slot_length}
use Rattle.joint_ir.specs.WellFormed.{Scope, in_a_loop, in_a_switch, FitsCall, FitsResult, FitsReturn, FitsLabel, same_label, FitsFunction, FitsVar, FitsModule, IsWellFormed, links_of, declared_by, places_from}
use Rattle.joint_laws.proofs.Lists.{all_none, all_one, among_none, among_two, below_one}
use Rattle.joint_laws.proofs.Counting.{in_int}
use Rattle.joint_laws.proofs.Parts.{int_promoted, program_fits}
use Rattle.show_hostile.specs.Nests.{here, expr_of, number_of, stmt_of, prop, call_of, CanCall, IsNest, IsNumber, program_of, no_module_of, pair_of}

pub number_fits : IsNumber (number_of 1)
number_fits k = (refl, (int_promoted, in_int 1 (omega arith)))

pub deeper_fits : (e : TExpr) → IsNumber e → IsNumber (expr_of (Binary binary.Xor (number_of 1) e None None))
unfolding hidden-the_row-TExpr-0 hidden
deeper_fits e h k = (refl, ((int_promoted, refl, (h k).0, refl, refl), (number_fits k).1, (h k).1))

pub block_nest : (s : TStmt) → IsNest s → IsNest (stmt_of (Block (s ∷ [])))
unfolding hidden-the_row-TStmt-0 hidden
block_nest s h = record { fits = λ k can. (h.fits k can, tt); declares = ap (λ xs. xs ++ []) h.declares }

pub if_nest : (s : TStmt) → IsNest s → IsNest (stmt_of (If (number_of 1) s None))
unfolding hidden-the_row-TStmt-0 hidden-the_row-TStmt-1 hidden
if_nest s h = record { fits = λ k can. ((number_fits k).1, h.fits k can, tt); declares = ap (λ xs. xs ++ []) h.declares }

pub loop_nest : (tests_first : Bool) (s : TStmt) → IsNest s →
    IsNest (stmt_of (Loop (roll-TLoop (record { tests_first = tests_first; heads = []; cond = Some (number_of 1); step = None; body = s; unwind = prop 2 }))))
unfolding roll-TLoop roll hidden-the_row-TStmt-0 hidden-the_row-TStmt-1 hidden
loop_nest true s h = record { fits = λ k can. (tt, refl, (number_fits k).1, tt, h.fits (in_a_loop k) can, can.unwind); declares = h.declares }
loop_nest false s h = record { fits = λ k can. (tt, refl, (number_fits k).1, tt, h.fits (in_a_loop k) can, can.unwind); declares = h.declares }

pub for_nest : (s : TStmt) → IsNest s →
    IsNest (stmt_of (Loop (roll-TLoop (record { tests_first = true; heads = []; cond = None; step = None; body = s; unwind = prop 2 }))))
unfolding roll-TLoop roll hidden-the_row-TStmt-0 hidden-the_row-TStmt-1 hidden
for_nest s h = record { fits = λ k can. (tt, refl, tt, tt, h.fits (in_a_loop k) can, can.unwind); declares = h.declares }

pub switch_nest : (s : TStmt) → IsNest s → IsNest (stmt_of (Switch (number_of 1) ((roll-Group (record { labels = Default ∷ []; body = s ∷ [] })) ∷ [])))
unfolding roll-Group roll hidden-the_row-TStmt-0 hidden-the_row-Group-2 hidden
switch_nest s h = record {
  fits = λ k can. ((number_fits k).1, int_promoted, ((omega arith, all_one (FitsLabel int) Default tt, (h.fits (in_a_switch k) can, tt)), tt), all_one (λ a. count_by (same_label a) (Default ∷ []) ≡ 1) Default refl);
  declares = ap (λ xs. (xs ++ []) ++ []) h.declares;
}

call_fits : (e : TExpr) → IsNumber e → (k : Scope) → CanCall k.program k.here k.locals → FitsCall k (call_of e)
call_fits e h k can =
    let f = can.callee in (
      f.0,
      f.1,
      (
        sym f.3,
        (((h k).0 ∙ sym can.type ∙ ap (λ (x : ℕ). slot_type k.program (Local x)) (sym f.2), (h k).1), tt),
        inl f.4,
      ),
    )

result_fits : (e : TExpr) → IsNumber e → (k : Scope) → CanCall k.program k.here k.locals → FitsResult k (call_of e)
result_fits e h k can = let f = can.callee in (call_fits e h k can, (f.0, f.1, subst IsSome (sym f.5) refl))

pub call_nest : (e : TExpr) → IsNumber e → IsNest (stmt_of (Call (call_of e)))
call_nest e h = record { fits = λ k can. call_fits e h k can; declares = refl }

pub return_nest : (e : TExpr) → IsNumber e → IsNest (stmt_of (Return (Some (Called (call_of e)))))
return_nest e h = record {
  fits = λ k can.
      let f = can.callee in (
        f.0,
        ap (slice_get k.program.functions) can.own ∙ f.1,
        subst (λ r. FitsReturn k r (Some (Called (call_of e)))) (sym f.5) (result_fits e h k can),
      );
  declares = refl;
}

pub store_nest : (e : TExpr) → IsNumber e →
    IsNest (stmt_of (Store (record { place = here; slot = Local 0; index = None; bounds = None }) (Called (call_of e))))
store_nest e h = record {
  fits = λ k can. (
    record { object = record { visible = (can.there, can.visible); shape = ap (nat_lt 0) can.scalar }; stored = refl; index = refl },
    result_fits e h k can,
  );
  declares = refl;
}

pub no_module_fits : FitsModule no_module_of
no_module_fits = record {
  signals = all_none _;
  settle_sites = all_none _;
  edge_sites = all_none _;
  firsts = tt;
  settle_vars = refl;
  settled = record { there = all_none _; sized = refl };
  edge_vars = refl;
  next = record { there = all_none _; sized = refl };
  settle_weight = record { gates = omega arith; terms = omega arith };
  edge_weight = record { gates = omega arith; terms = omega arith };
  few_signals = omega arith;
}

-- the same, of what is made from parts that equal these
pub number_as : {e : TExpr} → e ≡ number_of 1 → IsNumber e
number_as is = subst IsNumber (sym is) number_fits

pub deeper_as : {e left right out : TExpr} → IsNumber e → left ≡ number_of 1 → right ≡ e → out ≡ expr_of (Binary binary.Xor left right None None) → IsNumber out
deeper_as {e} {left} {right} h is_left is_right is =
    subst IsNumber (sym (is ∙ ap (λ (x : TExpr). expr_of (Binary binary.Xor x right None None)) is_left ∙ ap (λ (x : TExpr). expr_of (Binary binary.Xor (number_of 1) x None None)) is_right)) (deeper_fits e h)

pub block_as : {s out : TStmt} {items : List TStmt} → IsNest s → items ≡ s ∷ [] → out ≡ stmt_of (Block items) → IsNest out
block_as {s} h is_items is = subst IsNest (sym (is ∙ ap (λ x. stmt_of (Block x)) is_items)) (block_nest s h)

pub if_as : {s body out : TStmt} {test : TExpr} → IsNest s → test ≡ number_of 1 → body ≡ s → out ≡ stmt_of (If test body None) → IsNest out
if_as {s} {body} h is_test is_body is =
    subst IsNest (sym (is ∙ ap (λ (x : TExpr). stmt_of (If x body None)) is_test ∙ ap (λ (x : TStmt). stmt_of (If (number_of 1) x None)) is_body)) (if_nest s h)

abbrev turn : Bool → List TStmt → Option TExpr → TStmt → TStmt
turn tests_first heads cond body = stmt_of (Loop (roll-TLoop (record { tests_first = tests_first; heads = heads; cond = cond; step = None; body = body; unwind = prop 2 })))

pub loop_as : (tests_first : Bool) {s body out : TStmt} {heads : List TStmt} {test : TExpr} → IsNest s → heads ≡ [] → test ≡ number_of 1 → body ≡ s →
    out ≡ turn tests_first heads (Some test) body → IsNest out
loop_as t {s} {body} {out} {heads} {test} h is_heads is_test is_body is =
    subst IsNest (sym (is ∙ ap (λ (x : List TStmt). turn t x (Some test) body) is_heads ∙ ap (λ (x : TExpr). turn t [] (Some x) body) is_test ∙ ap (λ (x : TStmt). turn t [] (Some (number_of 1)) x) is_body)) (loop_nest t s h)

pub for_as : {s body out : TStmt} {heads : List TStmt} → IsNest s → heads ≡ [] → body ≡ s → out ≡ turn true heads None body → IsNest out
for_as {s} {body} h is_heads is_body is =
    subst IsNest (sym (is ∙ ap (λ (x : List TStmt). turn true x None body) is_heads ∙ ap (λ (x : TStmt). turn true [] None x) is_body)) (for_nest s h)

abbrev chosen : TExpr → List Label → List TStmt → TStmt
chosen value labels body = stmt_of (Switch value ((roll-Group (record { labels = labels; body = body })) ∷ []))

pub switch_as : {s out : TStmt} {labels : List Label} {body : List TStmt} {value : TExpr} {groups : List Group} → IsNest s → labels ≡ Default ∷ [] → body ≡ s ∷ [] → value ≡ number_of 1 →
    groups ≡ (roll-Group (record { labels = labels; body = body })) ∷ [] → out ≡ stmt_of (Switch value groups) → IsNest out
switch_as {s} {out} {labels} {body} {value} h is_labels is_body is_value is_groups is =
    subst IsNest (sym (is ∙ ap (λ (x : List Group). stmt_of (Switch value x)) is_groups ∙ ap (λ (x : TExpr). chosen x labels body) is_value ∙ ap (λ (x : List Label). chosen (number_of 1) x body) is_labels ∙ ap (λ (x : List TStmt). chosen (number_of 1) (Default ∷ []) x) is_body)) (switch_nest s h)

pub call_as : {e : TExpr} {call : TCall} {out : TStmt} → IsNumber e → call ≡ call_of e → out ≡ stmt_of (Call call) → IsNest out
call_as {e} h is_call is = subst IsNest (sym (is ∙ ap (λ x. stmt_of (Call x)) is_call)) (call_nest e h)

pub return_as : {e : TExpr} {call : TCall} {out : TStmt} → IsNumber e → call ≡ call_of e → out ≡ stmt_of (Return (Some (Called call))) → IsNest out
return_as {e} h is_call is = subst IsNest (sym (is ∙ ap (λ x. stmt_of (Return (Some (Called x)))) is_call)) (return_nest e h)

pub store_as : {e : TExpr} {call : TCall} {out : TStmt} → IsNumber e → call ≡ call_of e →
    out ≡ stmt_of (Store (record { place = here; slot = Local 0; index = None; bounds = None }) (Called call)) → IsNest out
store_as {e} h is_call is =
    subst IsNest (sym (is ∙ ap (λ x. stmt_of (Store (record { place = here; slot = Local 0; index = None; bounds = None }) (Called x))) is_call)) (store_nest e h)

module _ (body : TStmt) (h : IsNest body) where
  can_call : CanCall (program_of body) 1 (0 ∷ [])
  can_call = record {
    callee = (_, refl, refl, refl, refl, refl);
    own = refl;
    there = omega arith;
    type = refl;
    scalar = refl;
    visible = (0, omega arith, refl);
    unwind = (_, refl, refl);
  }

  functions_fit : (f : ℕ) (fn : _) → slice_get (program_of body).functions f ≡ Some fn → FitsFunction (program_of body) f fn
  functions_fit f fn is = among_two (FitsFunction (program_of body)) _ _ fn f is
      (record { result = Single true; body = (omega arith, all_none _, (_, refl, (refl, ((refl, (int_promoted, in_int 1 (omega arith))), tt), inl refl)), refl, refl, refl) })
      (record {
        result = Single true;
        body = (
          omega arith,
          all_one (λ x. slot_length (program_of body) (Local x) ≡ 0) _ refl,
          h.fits _ can_call,
          subst (λ (own : List ℕ). own ≡ places_from 1 (length own)) (sym h.declares) refl,
          refl,
          refl,
        );
      })

  once : (x : ℕ) → x < 1 → count_by (eqb x) (declared_by (program_of body).functions) ≡ 1
  once = below_one (λ x. count_by (eqb x) (declared_by (program_of body).functions) ≡ 1) (ap (λ (own : List ℕ). count_by (eqb 0) ((0 ∷ own) ++ [])) h.declares)

  pub nest_fits : IsWellFormed (pair_of (program_of body))
  nest_fits = record {
    program = program_fits (program_of body) functions_fit (all_none _) (all_one FitsVar _ (record { type = Single true; firsts = all_none _; few = omega arith })) (all_none _) once (_, refl, refl, refl) (omega arith);
    module_ = no_module_fits;
    binding = record {
      links = all_none _;
      members = λ i x is some. among_none (λ j _. links_of (pair_of (program_of body)) j ≡ 1) x i is;
      signals = all_none _;
    };
  }

pub nest_as : {body : TStmt} {p : CProgram} {pair : Pair} → IsNest body → p ≡ program_of body → pair ≡ pair_of p → IsWellFormed pair
nest_as {body} h is_p is = subst IsWellFormed (sym (is ∙ ap pair_of is_p)) (nest_fits body h)
