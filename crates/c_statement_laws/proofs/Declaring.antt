-- Declarations are well-formed where nothing in them is an offence.
use Rattle.std.proofs.Common.{◌≡◌, ℕ, zero, suc, ◌+◌, ◌^◌, ◌<◌, ◌≤◌, List, [], ◌∷◌, ◌++◌, length, drop, Bool, true, false, refl, sym, ap, subst, ◌∙◌, arith}
use Rattle.std.specs.Prelude.{Some, pos, negsuc, All, cond, nat_le, slice_get}
use Rattle.std.proofs.Math.Nat.{mod-eq_of_lt}
use Rattle.std.proofs.lemmas.List.{append_assoc, length-drop}
use Rattle.std.proofs.lemmas.List.Elements.{All-cons, All-head, All-nil, All-tail}
use Rattle.std.proofs.lemmas.Option.{slice_get_within}
use Rattle.src_text.specs.declared.refusal.Place.{Place}
use Rattle.src_text.specs.declared.kind.Kind.TheVariants.{CLength}
use Rattle.c_tree.specs.declared.declarations.Declarator.{Declarator}
use Rattle.c_tree.specs.declared.declarations.Declarator.TheVariants as declarator
use Rattle.c_tree.specs.declared.expressions.Expression.{Expression}
use Rattle.c_tree.specs.declared.expressions.Expression as expression
use Rattle.c_tree.specs.Starts.{expression_start}
use Rattle.joint_ir.specs.declared.ctype.IntType.{IntType}
use Rattle.joint_ir.specs.declared.expr.Slot.TheVariants.{Local}
use Rattle.joint_ir.specs.declared.stmt.TInit.{TInit}
use Rattle.joint_ir.specs.declared.stmt.TInit.TheVariants as init
use Rattle.joint_ir.specs.Types.{IsType}
use Rattle.joint_ir.specs.Steps.{var_type}
use Rattle.joint_ir.specs.Weights.{var_length}
use Rattle.joint_ir.specs.WellFormed as well
use Rattle.joint_ir.specs.WellFormed.{FitsAs, FitsDeclare, FitsElements, FitsInit, FitsObject, with_scope_locals}
use Rattle.offence_order.specs.Order.{at}
use Rattle.c_words.specs.declared.notes.Site.{Site}
use Rattle.c_words.specs.Marks.{number_of}
use Rattle.c_names.specs.declared.scope.Entry.TheVariants as entry
use Rattle.c_names.specs.declared.scope.Target.{Target}
use Rattle.c_names.specs.Scope.{Scope, declared_in}
use Rattle.c_expressions.specs.Expressions.{typed_of, offences_in, sites_in, converted_to}
use Rattle.c_expressions.specs.Values.{StandAt}
use Rattle.c_constants.specs.declared.Constant.{Constant}
use Rattle.c_constants.specs.declared.Constant.TheVariants.{Is, Never, Undefined}
use Rattle.c_constants.specs.Constants.{no_names, no_rows, holds_path, given, evaluated, constant_of, never_offences, constant_offences}
use Rattle.c_expressions.specs.Values.{CAnswer, c_value}
use Rattle.c_statements.specs.declared.calls.Signature.{Signature}
use Rattle.c_statements.specs.Calls.{args_sites}
use Rattle.c_statements.specs.Arrays.{is_length, length_in, array_length, declared_length, range_offences, array_offences, first_excess, excess_offences, length_offences, elements_typed}
use Rattle.c_statements.specs.Known.{Known}
use Rattle.c_statements.specs.Statements.{again_offences, declared_name, pending, var_of, local_entry, value_offences, value_sites, value_typed, declarator_known, declarator_offences, declarators_known, declarators_offences, declarators_typed}
use Rattle.c_meaning.specs.Sound.{AreThere, AreProps, IsThere}
use Rattle.c_meaning.proofs.Means.{stand_left, stand_right}
use Rattle.c_meaning.proofs.Fits.{converted_fits, expression_fits}
use Rattle.joint_lists.specs.Lists.{FitsItems}
use Rattle.c_statement_laws.specs.Agreeing.{AllBytes, DeclaratorBytes, IsPrefix, IsSetting, behind_items}
use Rattle.c_statement_laws.proofs.Inits.{none_left, none_right, init_fits}
use Rattle.c_statement_laws.proofs.Simples.{has_signature}
use Rattle.c_statement_laws.proofs.Names.{setting_with, setting_more, pending_fits, object_fits}

pub prefix_then : {A : Type 0} (xs ys zs : List A) → IsPrefix xs ys → IsPrefix ys zs → IsPrefix xs zs
prefix_then xs ys zs p q i x h = q i x (p i x h)

pub prefix_append : {A : Type 0} (xs ys : List A) → IsPrefix xs (xs ++ ys)
prefix_append [] ys i x h = absurd (cc)
prefix_append (z ∷ xs) ys zero x h = h
prefix_append (z ∷ xs) ys (suc i) x h = prefix_append xs ys i x h

pub get_end : {A : Type 0} (xs : List A) (x : A) (ys : List A) → slice_get (xs ++ x ∷ ys) (length xs) ≡ Some x
get_end [] x ys = refl
get_end (z ∷ xs) x ys = get_end xs x ys

pub length_end : {A : Type 0} (xs : List A) (x : A) → length (xs ++ x ∷ []) ≡ length xs + 1
length_end [] x = refl
length_end (z ∷ xs) x = ap suc (length_end xs x) ∙ (let e : suc (length xs + 1) ≡ suc (length xs) + 1 = omega arith in e)

-- properties that stand behind others stand from their place on
pub stand_behind : (all before behind : List Site) → length all ≤ 4294967296 → IsPrefix (before ++ behind) all → StandAt all (length before) behind
stand_behind all before [] few p = tt
stand_behind all before (s ∷ ss) few p =
    let here : slice_get all (length before) ≡ Some s = p (length before) s (get_end before s ss) in
    let within : length before < length all = slice_get_within all (length before) s here in
    let again : IsPrefix ((before ++ s ∷ []) ++ ss) all = subst (λ xs. IsPrefix xs all) (sym (append_assoc before (s ∷ []) ss)) p in
    (omega (arith, within, few), here, subst (λ n. StandAt all n ss) (length_end before s) (stand_behind all (before ++ s ∷ []) ss few again))

-- what may not be left open may stand where that is allowed
weaker : (c : well.Scope) (t : IntType) (i : TInit) → FitsInit c false t i → FitsInit c true t i
weaker c t init.Free h = absurd (cc)
weaker c t (init.Values es) h = h
weaker c t (init.Called call) h = h

-- an array has an element
pub some_length : (z : Constant) → (n : ℕ) × (array_length z ≡ suc n)
some_length Never = (0, refl)
some_length Undefined = (0, refl)
some_length (Is (negsuc n)) = (0, refl)
some_length (Is (pos zero)) = (0, refl)
some_length (Is (pos (suc n))) = pick (is_length (pos (suc n)))
  where
    pick : (q : Bool) → (m : ℕ) × (cond q (suc n) 1 ≡ suc m)
    pick true = (n, refl)
    pick false = (0, refl)

either_false : (p q : Bool) → cond p true q ≡ false → (p ≡ false) × (q ≡ false)
either_false true q h = absurd (cc)
either_false false q h = (refl, h)

-- an expression without names has its offences in all scopes
no_path_same : (env other : List Scope) (e : Expression) → holds_path e ≡ false → offences_in env e ≡ offences_in other e
no_path_same env other (expression.Integer p spelled) h = refl
no_path_same env other (expression.Character p value) h = refl
no_path_same env other (expression.True p) h = refl
no_path_same env other (expression.False p) h = refl
no_path_same env other (expression.Read x) h = absurd (cc)
no_path_same env other (expression.Parentheses' p _ (expression.more_of-Expression e _)) h = no_path_same env other e h
no_path_same env other (expression.Unary' mark _ (expression.more_of-Expression e _)) h = no_path_same env other e h
no_path_same env other (expression.Cast' p ty _ (expression.more_of-Expression e _)) h = no_path_same env other e h
no_path_same env other (expression.Binary' _ (expression.more_of-Expression left _) mark _ (expression.more_of-Expression right _)) h =
    let a = either_false (holds_path left) (holds_path right) h in
    ap (λ os. os ++ offences_in env right) (no_path_same env other left a.0) ∙ ap (λ os. offences_in other left ++ os) (no_path_same env other right a.1)
no_path_same env other (expression.Conditional' _ (expression.more_of-Expression condition _) p _ (expression.more_of-Expression first _) _ (expression.more_of-Expression second _)) h =
    let a = either_false (holds_path condition) (cond (holds_path first) true (holds_path second)) h in
    let b = either_false (holds_path first) (holds_path second) a.1 in
    ap (λ os. os ++ (offences_in env first ++ offences_in env second)) (no_path_same env other condition a.0)
    ∙ ap (λ os. offences_in other condition ++ (os ++ offences_in env second)) (no_path_same env other first b.0)
    ∙ ap (λ os. offences_in other condition ++ (offences_in other first ++ os)) (no_path_same env other second b.1)

-- what must be constant and has no offence has a value
pub has_value : (env : List Scope) (p : Place) (e : Expression) → constant_offences env p e ≡ [] → constant_of e ≡ Undefined → ⊥
has_value env p e none h = pick (holds_path e) refl h
  where
    clean : holds_path e ≡ false → offences_in no_names e ≡ []
    clean f = sym (no_path_same env no_names e f) ∙ none_left (offences_in env e) (never_offences p (constant_of e)) none

    answer : (few : Bool) (a : CAnswer) → given [] few a ≡ Undefined → ⊥
    answer true (CAnswer.Gives n) g = cc
    answer true (CAnswer.Breaks k q) g = cc
    answer false a g = cc

    pick : (q : Bool) → holds_path e ≡ q → cond q Never (evaluated e) ≡ Undefined → ⊥
    pick true f g = cc
    pick false f g = answer (nat_le (length (sites_in no_names e)) 4294967296) (c_value no_names no_rows e)
        (subst (λ os. given os (nat_le (length (sites_in no_names e)) 4294967296) (c_value no_names no_rows e) ≡ Undefined) (clean f) g)

no_excess : (es : List Expression) → first_excess es ≡ [] → es ≡ []
no_excess [] h = refl
no_excess (e ∷ es) h = absurd (cc)

-- an array has at least as many elements as are given to it
pub few_elements : (p : Place) (z : Constant) (es : List Expression) → (z ≡ Undefined → ⊥) → never_offences p z ≡ [] → range_offences p z ≡ [] → excess_offences z es ≡ [] → length es ≤ array_length z
few_elements p Undefined es known never range none = absurd (known refl)
few_elements p Never es known never range none = absurd (cc)
few_elements p (Is m) es known never range none = pick (is_length m) range none
  where
    pick : (q : Bool) → cond q [] (at p CLength) ≡ [] → cond q (first_excess (drop (length_in m) es)) [] ≡ [] → length es ≤ length_in m
    pick true r g =
        let gone : length (drop (length_in m) es) ≡ 0 = ap length (no_excess (drop (length_in m) es) g) in
        omega (arith, gone, length-drop (length_in m) es)
    pick false r g = absurd (cc)

elements_count : (env : List Scope) (base : ℕ) (t : IntType) (es : List Expression) → length (elements_typed env base t es) ≡ length es
elements_count env base t [] = refl
elements_count env base t (e ∷ es) = ap suc (elements_count env (base + length (sites_in env e)) t es)

elements_fit : (c : well.Scope) (all : List Site) → AreProps all c.program → (env : List Scope) → AreThere c env → (t : IntType) → IsType t → (base : ℕ) (es : List Expression) → AllBytes es →
    StandAt all base (args_sites env es) → All (λ x. FitsAs c t x) (elements_typed env base t es)
elements_fit c all props env names t is base [] v st = All-nil (λ x. FitsAs c t x)
elements_fit c all props env names t is base (e ∷ es) v st =
    let x = typed_of env base e in
    let fit = converted_fits c all props t x is (expression_fits c all props env names base e v.0 (stand_left all base (sites_in env e) (args_sites env es) st)) in
    All-cons (λ y. FitsAs c t y) (converted_to t x) (elements_typed env (base + length (sites_in env e)) t es) fit
    (elements_fit c all props env names t is (base + length (sites_in env e)) es v.1 (stand_right all base (sites_in env e) (args_sites env es) st))

array_fits : (c : well.Scope) (t : IntType) (n : ℕ) (i : TInit) → ((m : ℕ) → n ≡ suc m → FitsElements c t n i) → ((m : ℕ) × (n ≡ suc m)) → FitsObject c t n i
array_fits c t zero i h some = absurd (cc)
array_fits c t (suc n) i h some = h n refl

-- what a declarator sets its object to
value_fits : (c : well.Scope) (all : List Site) (fns : List Signature) (scopes env : List Scope) → IsSetting c all fns env → (t : IntType) → IsType t → (base : ℕ) (d : Declarator) →
    length_offences scopes d ≡ [] → value_offences fns env d ≡ [] → DeclaratorBytes d → StandAt all base (value_sites env d) → FitsObject c t (declared_length d) (value_typed fns env base t d)
value_fits c all fns scopes env k t is base (declarator.Plain x) lengths none v st = refl
value_fits c all fns scopes env k t is base (declarator.Initialized x i) lengths none v st =
    weaker c t _ (init_fits c all k.props env k.names fns k.agree t is base i (λ call e. has_signature fns env k.signed call) none v st)
value_fits c all fns scopes env k t is base (declarator.Array x n) lengths none v st =
    array_fits c t (array_length (constant_of n)) init.Free (λ m e. tt) (some_length (constant_of n))
value_fits c all fns scopes env k t is base (declarator.InitializedArray x n es) lengths none v st =
    let p = expression_start n in
    let z = constant_of n in
    let whole = none_left (array_offences scopes n) (excess_offences z es) lengths in
    let constant = none_left (constant_offences scopes p n) (range_offences p z) whole in
    let few = few_elements p z es (has_value scopes p n constant) (none_right (offences_in scopes n) (never_offences p z) constant) (none_right (constant_offences scopes p n) (range_offences p z) whole)
    (none_right (array_offences scopes n) (excess_offences z es) lengths) in
    array_fits c t (array_length z) (init.Values (elements_typed env base t es))
    (λ m e. (omega (arith, few, elements_count env base t es), elements_fit c all k.props env k.names t is base es v st)) (some_length z)

module _ (c : well.Scope) (all : List Site) (few_locals : length c.program.locals < 4294967296) (few : length all ≤ 4294967296) (t : IntType) (constant : Bool) (is : IsType t) where
  declarator_fits : (k : Known) (d : Declarator) → IsSetting c all k.fns k.scopes → IsPrefix (declarator_known t constant d k).locals c.program.locals → IsPrefix (declarator_known t constant d k).sites all →
      declarator_offences k d ≡ [] → DeclaratorBytes d →
      FitsDeclare c (number_of (length k.locals)) (value_typed k.fns (pending k (declared_name d)) (length k.sites) t d)
      × IsSetting (with_scope_locals c (number_of (length k.locals) ∷ c.locals)) all k.fns (declarator_known t constant d k).scopes
  declarator_fits k d s locals sites none v =
      let x = declared_name d in
      let n = declared_length d in
      let i = length k.locals in
      let o = var_of t n constant x in
      let env = pending k x in
      let lengths = length_offences k.scopes d in
      let again = again_offences x.place (declared_in k.scopes x.name) in
      let found : slice_get c.program.locals i ≡ Some o = locals i o (get_end k.locals o []) in
      let within : i < length c.program.locals = slice_get_within c.program.locals i o found in
      let small : number_of i ≡ i = mod-eq_of_lt (omega (arith, within, few_locals)) in
      let there : slice_get c.program.locals (number_of i) ≡ Some o = ap (slice_get c.program.locals) small ∙ found in
      let unnamed = setting_with c all k.fns k.scopes x.name entry.Pending s (pending_fits c k.fns) in
      let value = value_fits c all k.fns k.scopes env unnamed t is (length k.sites) d (none_left lengths (again ++ value_offences k.fns env d) none)
      (none_right again (value_offences k.fns env d) (none_right lengths (again ++ value_offences k.fns env d) none)) v (stand_behind all k.sites (value_sites env d) few sites) in
      let wide = with_scope_locals c (number_of i ∷ c.locals) in
      let target : Target = record { slot = Local (number_of i); ty = t; length = n; constant = constant } in
      let visible : IsThere wide target = record {
        visible = (omega (arith, within, small), (0, omega arith, refl));
        ty = sym (ap var_type there);
        length = ap var_length there;
        type = is;
      } in
      ((o, there, value), setting_with wide all k.fns env x.name (local_entry i t n constant) (setting_more c (number_of i) all k.fns env unnamed) (object_fits wide k.fns target visible (λ e. absurd (cc))))

pub locals_kept : (t : IntType) (constant : Bool) (ds : List Declarator) (k : Known) → IsPrefix k.locals (declarators_known t constant ds k).locals
locals_kept t constant [] k = λ i x h. h
locals_kept t constant (d ∷ ds) k =
    let next = declarator_known t constant d k in
    prefix_then k.locals next.locals (declarators_known t constant ds next).locals (prefix_append k.locals (var_of t (declared_length d) constant (declared_name d) ∷ [])) (locals_kept t constant ds next)

pub sites_kept : (t : IntType) (constant : Bool) (ds : List Declarator) (k : Known) → IsPrefix k.sites (declarators_known t constant ds k).sites
sites_kept t constant [] k = λ i x h. h
sites_kept t constant (d ∷ ds) k =
    let next = declarator_known t constant d k in
    prefix_then k.sites next.sites (declarators_known t constant ds next).sites (prefix_append k.sites (value_sites (pending k (declared_name d)) d)) (sites_kept t constant ds next)

pub declarators_fit : (c : well.Scope) (all : List Site) (k : Known) (t : IntType) (constant : Bool) (ds : List Declarator) → IsType t → IsSetting c all k.fns k.scopes →
    length c.program.locals < 2 ^ 32 → length all ≤ 2 ^ 32 →
    IsPrefix (declarators_known t constant ds k).locals c.program.locals → IsPrefix (declarators_known t constant ds k).sites all →
    declarators_offences t constant k ds ≡ [] → All DeclaratorBytes ds →
    FitsItems c (declarators_typed t constant k ds)
    × IsSetting (behind_items c (declarators_typed t constant k ds)) all k.fns (declarators_known t constant ds k).scopes
declarators_fit c all k t constant [] is s few_locals few locals sites none v = (tt, s)
declarators_fit c all k t constant (d ∷ ds) is s few_locals few locals sites none v =
    let next = declarator_known t constant d k in
    let last = declarators_known t constant ds next in
    let first = declarator_fits c all few_locals few t constant is k d s (prefix_then next.locals last.locals c.program.locals (locals_kept t constant ds next) locals)
    (prefix_then next.sites last.sites all (sites_kept t constant ds next) sites) (none_left (declarator_offences k d) (declarators_offences t constant next ds) none) (All-head DeclaratorBytes d ds v) in
    let rest = declarators_fit (with_scope_locals c (number_of (length k.locals) ∷ c.locals)) all next t constant ds is first.1 few_locals few locals sites
    (none_right (declarator_offences k d) (declarators_offences t constant next ds) none) (All-tail DeclaratorBytes d ds v) in
    ((first.0, rest.0), rest.1)
