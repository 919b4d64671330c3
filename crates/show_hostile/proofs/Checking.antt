-- The program with the assertions is well-formed.
use Rattle.std.proofs.Common.{◌≡◌, ℕ, zero, suc, ◌+◌, ◌<◌, ◌≤◌, ◌∙◌, List, [], ◌∷◌, ◌++◌, length, inl, refl, sym, ap, subst, add-one, arith}
use Rattle.std.specs.Prelude.{true, ◌&&◌, bytes_eq, cond, Some, slice_get, count_by, eqb}
use Rattle.std.proofs.lemmas.List.Sums.{sum_by-append, sum_by-cons}
use denote.Hole.Carrier.{hidden}
use Rattle.joint_ir.specs.declared.expr.Slot.TheVariants.{Local}
use Rattle.joint_ir.specs.declared.pair.Pair.{Pair}
use Rattle.joint_ir.specs.declared.program.CProgram.{CProgram}
use Rattle.joint_ir.specs.declared.program.Prop.{Prop}
use Rattle.joint_ir.specs.declared.program.PropKind.TheVariants as kind
use Rattle.joint_ir.specs.declared.stmt.SNode.{Block}
use Rattle.joint_ir.specs.declared.stmt.SNode.TheBlock.{hidden-the_row-TStmt-0}
use Rattle.joint_ir.specs.declared.stmt.TStmt.{TStmt}
use Rattle.joint_ir.specs.Statements.{is_recursion}
use Rattle.joint_ir.specs.Types.{Single}
use Rattle.joint_ir.specs.Weights.{slot_length}
use Rattle.joint_ir.specs.WellFormed.{Scope, IsProp, with_scope_locals, FitsStmt, FitsFunction, FitsVar, FitsProgram, IsWellFormed, links_of, declared_by, declared_in, places_from, recursions}
use Rattle.joint_laws.proofs.Lists.{all_none, all_one, among_none, among_two, below_one}
use Rattle.joint_laws.proofs.Counting.{in_int}
use Rattle.joint_laws.proofs.Parts.{int_promoted}
use Rattle.show_hostile.specs.Nests.{number_of, prop, CanCall, IsNest, main_name, f_name, pair_of, properties_of}
use Rattle.show_hostile.specs.Checks.{assertion_of, assertions, check_of, checks, call_stmt, asserting_body, twice_of, asserting_of}
use Rattle.show_hostile.proofs.Fitting.{number_fits, call_nest, no_module_fits}

assertions_more : (first n : ℕ) → assertions first n ++ (assertion_of (first + n) ∷ []) ≡ assertions first (suc n)
assertions_more first zero = let e : first + 0 ≡ first = omega arith in ap (λ (x : ℕ). assertion_of x ∷ []) e
assertions_more first (suc n) =
    let e : first + suc n ≡ suc first + n = omega arith in
    ap (λ (x : ℕ). assertion_of first ∷ (assertions (suc first) n ++ (assertion_of x ∷ []))) e
    ∙ ap (λ xs. assertion_of first ∷ xs) (assertions_more (suc first) n)

checks_more : (first n : ℕ) → checks first n ++ (check_of (first + n) ∷ []) ≡ checks first (suc n)
checks_more first zero = let e : first + 0 ≡ first = omega arith in ap (λ (x : ℕ). check_of x ∷ []) e
checks_more first (suc n) =
    let e : first + suc n ≡ suc first + n = omega arith in
    ap (λ (x : ℕ). check_of first ∷ (checks (suc first) n ++ (check_of x ∷ []))) e
    ∙ ap (λ xs. check_of first ∷ xs) (checks_more (suc first) n)

pub assertion_step : (k : ℕ) {items new : List TStmt} {item : TStmt} → items ≡ assertions 3 k → item ≡ assertion_of (k + 3) → new ≡ items ++ (item ∷ []) → new ≡ assertions 3 (k + 1)
assertion_step k {items} {new} {item} h is e =
    let z : k + 3 ≡ 3 + k = omega arith in
    e ∙ ap (λ xs. xs ++ (item ∷ [])) h ∙ ap (λ y. assertions 3 k ++ (y ∷ [])) (is ∙ ap assertion_of z)
    ∙ assertions_more 3 k ∙ ap (assertions 3) (sym (add-one k))

pub check_step : (k : ℕ) {items new : List Prop} {item : Prop} → items ≡ properties_of ++ checks 1 k → item ≡ check_of (k + 1) → new ≡ items ++ (item ∷ []) →
    new ≡ properties_of ++ checks 1 (k + 1)
check_step k {items} {new} {item} h is e =
    let z : k + 1 ≡ 1 + k = omega arith in
    e ∙ ap (λ xs. xs ++ (item ∷ [])) h ∙ ap (λ y. (properties_of ++ checks 1 k) ++ (y ∷ [])) (is ∙ ap check_of z)
    ∙ ap (λ xs. properties_of ++ xs) (checks_more 1 k ∙ ap (checks 1) (sym (add-one k)))

checks_length : (first n : ℕ) → length (checks first n) ≡ n
checks_length first zero = refl
checks_length first (suc n) = ap suc (checks_length (suc first) n)

checks_get : (first n k : ℕ) → k < n → (x : Prop) × (slice_get (checks first n) k ≡ Some x) × (x.kind ≡ kind.Assertion)
checks_get first zero k lt = absurd (omega arith)
checks_get first (suc n) zero lt = (_, refl, refl)
checks_get first (suc n) (suc k) lt = checks_get (suc first) n k (omega arith)

check_there : (n k : ℕ) → k < n → IsProp (asserting_of n) kind.Assertion (prop (suc (suc (suc k))))
check_there n k lt = checks_get 1 n k lt

no_recursion : (name : List ℕ) (first n : ℕ) → count_by (λ (x : Prop). is_recursion x.kind && bytes_eq x.function name) (checks first n) ≡ 0
no_recursion name first zero = refl
no_recursion name first (suc n) =
    sum_by-cons (λ (x : Prop). cond (is_recursion x.kind && bytes_eq x.function name) 1 0) (check_of first) (checks (suc first) n)
    ∙ ap (λ (c : ℕ). 0 + c) (no_recursion name (suc first) n)

recursions_are : (name : List ℕ) (n : ℕ) → count_by (λ (x : Prop). is_recursion x.kind && bytes_eq x.function name) properties_of ≡ 1 → recursions (asserting_of n) name ≡ 1
recursions_are name n h = split properties_of h
  where
    split : (ps : List Prop) → count_by (λ (x : Prop). is_recursion x.kind && bytes_eq x.function name) ps ≡ 1 →
        count_by (λ (x : Prop). is_recursion x.kind && bytes_eq x.function name) (ps ++ checks 1 n) ≡ 1
    split ps is = sum_by-append (λ (x : Prop). cond (is_recursion x.kind && bytes_eq x.function name) 1 0) ps (checks 1 n) ∙ both is (no_recursion name 1 n)
      where
        both : {a b : ℕ} → a ≡ 1 → b ≡ 0 → a + b ≡ 1
        both ha hb = omega arith

assertions_fit : (n : ℕ) (k : Scope) → k.program ≡ asserting_of n → (j m : ℕ) → j + m ≤ n → (tail : List TStmt) →
    ((k' : Scope) → k'.program ≡ asserting_of n → FitsStmt k' (Block tail)) → FitsStmt k (Block (assertions (suc (suc (suc j))) m ++ tail))
unfolding hidden-the_row-TStmt-0 hidden
assertions_fit n k is j zero le tail h = h k is
assertions_fit n k is j (suc m) le tail h = (
  ((number_fits k).1, subst (λ (p : CProgram). IsProp p kind.Assertion (prop (suc (suc (suc j))))) (sym is) (check_there n j (omega arith))),
  assertions_fit n (with_scope_locals k k.locals) is (suc j) m (omega arith) tail h,
)

assertions_declare : (first m : ℕ) (tail : List TStmt) → declared_in (Block tail) ≡ [] → declared_in (Block (assertions first m ++ tail)) ≡ []
unfolding hidden-the_row-TStmt-0 hidden
assertions_declare first zero tail h = h
assertions_declare first (suc m) tail h = assertions_declare (suc first) m tail h

twice_nest : IsNest twice_of
unfolding hidden-the_row-TStmt-0 hidden
twice_nest = record {
  fits = λ k can. ((call_nest (number_of 1) number_fits).fits k can, ((call_nest (number_of 1) number_fits).fits k can, tt));
  declares = refl;
}

module _ (n : ℕ) (few : n ≤ 1000000) where
  can_call : CanCall (asserting_of n) 1 (0 ∷ [])
  can_call = record {
    callee = (_, refl, refl, refl, refl, refl);
    own = refl;
    there = omega arith;
    type = refl;
    scalar = refl;
    visible = (0, omega arith, refl);
    unwind = (_, refl, refl);
  }

  call_fits : (k : Scope) → k.program ≡ asserting_of n → FitsStmt k (Block (call_stmt ∷ []))
  unfolding hidden-the_row-TStmt-0 hidden
  call_fits k is = subst (λ (p : CProgram). FitsStmt (record { program = p; here = k.here; locals = k.locals; in_loop = k.in_loop; may_break = k.may_break }) (Block (call_stmt ∷ []))) (sym is)
      ((_, refl, (refl, ((refl, (int_promoted, in_int 1 (omega arith))), tt), inl refl)), tt)

  body_declares : declared_in (Block (asserting_body n)) ≡ []
  unfolding hidden-the_row-TStmt-0 hidden
  body_declares = assertions_declare 3 n (call_stmt ∷ []) refl

  functions_fit : (f : ℕ) (fn : _) → slice_get (asserting_of n).functions f ≡ Some fn → FitsFunction (asserting_of n) f fn
  functions_fit f fn is = among_two (FitsFunction (asserting_of n)) _ _ fn f is
      (record {
        result = Single true;
        body = (
          omega arith,
          all_none _,
          assertions_fit n _ refl 0 n (omega arith) (call_stmt ∷ []) call_fits,
          subst (λ (own : List ℕ). own ≡ places_from 0 (length own)) (sym body_declares) refl,
          recursions_are main_name n refl,
          refl,
        );
      })
      (record {
        result = Single true;
        body = (
          omega arith,
          all_one (λ x. slot_length (asserting_of n) (Local x) ≡ 0) _ refl,
          twice_nest.fits _ can_call,
          subst (λ (own : List ℕ). own ≡ places_from 1 (length own)) (sym twice_nest.declares) refl,
          recursions_are f_name n refl,
          refl,
        );
      })

  once : (x : ℕ) → x < 1 → count_by (eqb x) (declared_by (asserting_of n).functions) ≡ 1
  once = below_one (λ x. count_by (eqb x) (declared_by (asserting_of n).functions) ≡ 1)
      (ap (λ (own : List ℕ). count_by (eqb 0) (own ++ ((0 ∷ declared_in twice_of.node) ++ []))) body_declares
      ∙ ap (λ (own : List ℕ). count_by (eqb 0) ((0 ∷ own) ++ [])) twice_nest.declares)

  program_fits : FitsProgram (asserting_of n)
  program_fits = record {
    functions = functions_fit;
    globals = all_none _;
    locals = all_one FitsVar _ (record { type = Single true; firsts = all_none _; few = omega arith });
    members = all_none _;
    declared = once;
    main = (_, refl, refl, refl);
    few_locals = omega arith;
    few_globals = omega arith;
    few_members = omega arith;
    few_props = let e = checks_length 1 n in omega (arith, e, few);
    few_functions = omega arith;
  }

  pub asserting_fits : IsWellFormed (pair_of (asserting_of n))
  asserting_fits = record {
    program = program_fits;
    module_ = no_module_fits;
    binding = record {
      links = all_none _;
      members = λ i x is some. among_none (λ j _. links_of (pair_of (asserting_of n)) j ≡ 1) x i is;
      signals = all_none _;
    };
  }

pub asserting_as : (n : ℕ) {p : CProgram} {pair : Pair} → n ≤ 1000000 → p ≡ asserting_of n → pair ≡ pair_of p → IsWellFormed pair
asserting_as n few is_p is = subst IsWellFormed (sym (is ∙ ap pair_of is_p)) (asserting_fits n few)
