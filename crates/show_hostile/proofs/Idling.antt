-- The program with the arrays is well-formed.
use Rattle.std.proofs.Common.{◌≡◌, ℕ, zero, suc, ◌+◌, ◌<◌, ◌≤◌, ◌∙◌, List, [], ◌∷◌, ◌++◌, length, inl, refl, sym, ap, subst, ⊎_elim, add-one, arith}
use Rattle.std.specs.Prelude.{true, false, cond, Some, slice_get, count_by, eqb, All}
use Rattle.std.proofs.lemmas.Bool.{cases_lt, ne_eqb, eq-eqb}
use Rattle.std.proofs.lemmas.List.{append-nil}
use Rattle.std.proofs.lemmas.List.Sums.{sum_by-cons}
use denote.Hole.Carrier.{hidden}
use Rattle.joint_ir.specs.declared.pair.Pair.{Pair}
use Rattle.joint_ir.specs.declared.program.CProgram.{CProgram}
use Rattle.joint_ir.specs.declared.stmt.SNode.{Block, Declare}
use Rattle.joint_ir.specs.declared.stmt.SNode.TheBlock.{hidden-the_row-TStmt-0}
use Rattle.joint_ir.specs.declared.stmt.TInit.TheVariants.{Free}
use Rattle.joint_ir.specs.declared.stmt.TStmt.{TStmt}
use Rattle.joint_ir.specs.Types.{Single}
use Rattle.joint_ir.specs.WellFormed.{Scope, with_scope_locals, FitsStmt, FitsFunction, FitsVar, FitsProgram, IsWellFormed, links_of, declared_by, declared_in, places_from}
use Rattle.joint_laws.proofs.Lists.{all_none, among_none, among_three}
use Rattle.show_hostile.specs.Nests.{stmt_of, pair_of}
use Rattle.show_hostile.specs.Idle.{copies, empty_call, declares, array, idle_functions, idle_of}
use Rattle.show_hostile.proofs.Fitting.{no_module_fits}

pub copies_more : {X : Type 0} (n : ℕ) (x : X) → copies n x ++ (x ∷ []) ≡ copies (suc n) x
copies_more zero x = refl
copies_more (suc n) x = ap (λ xs. x ∷ xs) (copies_more n x)

pub declares_more : (first n : ℕ) → declares first n ++ (stmt_of (Declare (first + n) Free) ∷ []) ≡ declares first (suc n)
declares_more first zero =
    let e : first + 0 ≡ first = omega arith in ap (λ (x : ℕ). stmt_of (Declare x Free) ∷ []) e
declares_more first (suc n) =
    let e : first + suc n ≡ suc first + n = omega arith in
    ap (λ (x : ℕ). stmt_of (Declare first Free) ∷ (declares (suc first) n ++ (stmt_of (Declare x Free) ∷ []))) e
    ∙ ap (λ xs. stmt_of (Declare first Free) ∷ xs) (declares_more (suc first) n)

pub copy_step : {X : Type 0} (k : ℕ) {items new : List X} {item x : X} → items ≡ copies k x → item ≡ x → new ≡ items ++ (item ∷ []) → new ≡ copies (k + 1) x
copy_step {X} k {items} {new} {item} {x} h is e =
    e ∙ ap (λ xs. xs ++ (item ∷ [])) h ∙ ap (λ y. copies k x ++ (y ∷ [])) is ∙ copies_more k x ∙ ap (λ (n : ℕ). copies n x) (sym (add-one k))

pub declare_step : {items new : List TStmt} {item : TStmt} {k : ℕ} → items ≡ declares 0 k → item ≡ stmt_of (Declare k Free) → new ≡ items ++ (item ∷ []) → new ≡ declares 0 (k + 1)
declare_step {items} {new} {item} {k} h is e =
    let z : k ≡ 0 + k = omega arith in
    e ∙ ap (λ xs. xs ++ (item ∷ [])) h ∙ ap (λ y. declares 0 k ++ (y ∷ [])) (is ∙ ap (λ (n : ℕ). stmt_of (Declare n Free)) z)
    ∙ declares_more 0 k ∙ ap (declares 0) (sym (add-one k))

copies_length : {X : Type 0} (n : ℕ) (x : X) → length (copies n x) ≡ n
copies_length zero x = refl
copies_length (suc n) x = ap suc (copies_length n x)

copies_get : {X : Type 0} (n : ℕ) (x : X) (k : ℕ) → k < n → slice_get (copies n x) k ≡ Some x
copies_get zero x k lt = absurd (omega arith)
copies_get (suc n) x zero lt = refl
copies_get (suc n) x (suc k) lt = copies_get n x k (omega arith)

all_copies : {X : Type 0} (P : X → Type 0) (x : X) → P x → (n : ℕ) → All P (copies n x)
all_copies P x h zero k d lt = absurd (omega arith)
all_copies P x h (suc n) zero d lt = h
all_copies P x h (suc n) (suc k) d lt = all_copies P x h n k d (omega arith)

places_length : (first n : ℕ) → length (places_from first n) ≡ n
places_length first zero = refl
places_length first (suc n) = ap suc (places_length (suc first) n)

count_one : (x y : ℕ) (ys : List ℕ) → count_by (eqb x) (y ∷ ys) ≡ cond (eqb x y) 1 0 + count_by (eqb x) ys
count_one x y ys = sum_by-cons (λ z. cond (eqb x z) 1 0) y ys

not_among : (x first n : ℕ) → x < first → count_by (eqb x) (places_from first n) ≡ 0
not_among x first zero lt = refl
not_among x first (suc n) lt =
    let e : eqb x first ≡ false = ne_eqb x first (λ is. omega (arith, is, lt)) in
    count_one x first (places_from (suc first) n) ∙ ap (λ b. cond b 1 0 + count_by (eqb x) (places_from (suc first) n)) e
    ∙ ap (λ (c : ℕ). 0 + c) (not_among x (suc first) n (omega arith))

pub among_places : (x first n : ℕ) → first ≤ x → x < first + n → count_by (eqb x) (places_from first n) ≡ 1
among_places x first zero le lt = absurd (omega arith)
among_places x first (suc n) le lt = ⊎_elim
    (λ (more : first < x).
    let e : eqb x first ≡ false = ne_eqb x first (λ is. omega (arith, is, more)) in
    count_one x first (places_from (suc first) n) ∙ ap (λ b. cond b 1 0 + count_by (eqb x) (places_from (suc first) n)) e
    ∙ ap (λ (c : ℕ). 0 + c) (among_places x (suc first) n (omega arith) (omega arith)))
    (λ least.
    let is : x ≡ first = omega (arith, least, le) in
    let e : eqb x first ≡ true = eq-eqb x first is in
    count_one x first (places_from (suc first) n) ∙ ap (λ b. cond b 1 0 + count_by (eqb x) (places_from (suc first) n)) e
    ∙ ap (λ (c : ℕ). 1 + c) (not_among x (suc first) n (omega arith)))
    (cases_lt first x)

calls_fit : (n m : ℕ) (k : Scope) → k.program ≡ idle_of n m → (j : ℕ) → FitsStmt k (Block (copies j empty_call))
unfolding hidden-the_row-TStmt-0 hidden
calls_fit n m k is zero = tt
calls_fit n m k is (suc j) = ((_, ap (λ (p : CProgram). slice_get p.functions 1) is, (refl, tt, inl refl)), calls_fit n m (with_scope_locals k k.locals) is j)

declares_fit : (k : Scope) (m : ℕ) → ((x : ℕ) → x < m → slice_get k.program.locals x ≡ Some array) → (first n : ℕ) → first + n ≤ m → FitsStmt k (Block (declares first n))
unfolding hidden-the_row-TStmt-0 hidden
declares_fit k m there first zero le = tt
declares_fit k m there first (suc n) le =
    ((array, there first (omega arith), tt), declares_fit (with_scope_locals k (first ∷ k.locals)) m there (suc first) n (omega arith))

calls_declare : (j : ℕ) → declared_in (Block (copies j empty_call)) ≡ []
unfolding hidden-the_row-TStmt-0 hidden
calls_declare zero = refl
calls_declare (suc j) = calls_declare j

declares_places : (first n : ℕ) → declared_in (Block (declares first n)) ≡ places_from first n
unfolding hidden-the_row-TStmt-0 hidden
declares_places first zero = refl
declares_places first (suc n) = ap (λ xs. first ∷ xs) (declares_places (suc first) n)

module _ (n m : ℕ) (few : n ≤ 1000) where
  local_there : (x : ℕ) → x < n → slice_get (idle_of n m).locals x ≡ Some array
  local_there x lt = copies_get n array x lt

  functions_fit : (f : ℕ) (fn : _) → slice_get (idle_of n m).functions f ≡ Some fn → FitsFunction (idle_of n m) f fn
  unfolding hidden-the_row-TStmt-0 hidden
  functions_fit f fn is = among_three (FitsFunction (idle_of n m)) _ _ _ fn f is
      (record {
        result = Single true;
        body = (
          omega arith,
          all_none _,
          calls_fit n m _ refl m,
          subst (λ (own : List ℕ). own ≡ places_from 0 (length own)) (sym (calls_declare m)) refl,
          refl,
          refl,
        );
      })
      (record { result = tt; body = (omega arith, all_none _, tt, refl, refl, refl) })
      (record {
        result = tt;
        body = (
          omega arith,
          all_none _,
          declares_fit _ n local_there 0 n (omega arith),
          subst (λ (own : List ℕ). own ≡ places_from 0 (length own)) (sym (declares_places 0 n)) (ap (places_from 0) (sym (places_length 0 n))),
          refl,
          refl,
        );
      })

  own_places : declared_by (idle_functions n m) ≡ places_from 0 n
  unfolding hidden-the_row-TStmt-0 hidden
  own_places =
      ap (λ (xs : List ℕ). xs ++ (declared_in (Block []) ++ (declared_in (Block (declares 0 n)) ++ []))) (calls_declare m)
      ∙ ap (λ (xs : List ℕ). declared_in (Block []) ++ (xs ++ [])) (declares_places 0 n)
      ∙ append-nil (places_from 0 n)

  program_fits : FitsProgram (idle_of n m)
  program_fits = record {
    functions = functions_fit;
    globals = all_none _;
    locals = all_copies FitsVar array (record { type = Single true; firsts = all_none _; few = omega arith }) n;
    members = all_none _;
    declared = λ x lt.
        let within : x < 0 + n = omega (arith, lt, copies_length n array) in
        ap (count_by (eqb x)) own_places ∙ among_places x 0 n (omega arith) within;
    main = (_, refl, refl, refl);
    few_locals = let e = copies_length n array in omega (arith, e, few);
    few_globals = omega arith;
    few_members = omega arith;
    few_props = omega arith;
    few_functions = omega arith;
  }

  pub idle_fits : IsWellFormed (pair_of (idle_of n m))
  idle_fits = record {
    program = program_fits;
    module_ = no_module_fits;
    binding = record {
      links = all_none _;
      members = λ i x is some. among_none (λ j _. links_of (pair_of (idle_of n m)) j ≡ 1) x i is;
      signals = all_none _;
    };
  }

pub idle_as : (n m : ℕ) {p : CProgram} {pair : Pair} → n ≤ 1000 → p ≡ idle_of n m → pair ≡ pair_of p → IsWellFormed pair
idle_as n m few is_p is = subst IsWellFormed (sym (is ∙ ap pair_of is_p)) (idle_fits n m few)
