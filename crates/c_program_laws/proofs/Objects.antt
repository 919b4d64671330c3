-- Objects of file scope are well-formed where nothing in their declarations is an offence.
use Rattle.std.proofs.Common.{◌≡◌, ℕ, zero, suc, ◌+◌, ◌≤◌, List, [], ◌∷◌, ◌++◌, length, map, Bool, refl, arith}
use Rattle.std.specs.Prelude.{All}
use Rattle.std.proofs.lemmas.List.Elements.{All-cons, All-nil}
use Rattle.std.proofs.lemmas.List.{length-map}
use Rattle.src_text.specs.declared.refusal.Place.{Place}
use Rattle.src_text.specs.declared.kind.Kind.TheVariants.{CConstant}
use Rattle.c_tree.specs.declared.declarations.Declarator.{Declarator}
use Rattle.c_tree.specs.declared.declarations.Declarator.TheVariants as declarator
use Rattle.c_tree.specs.declared.declarations.Globals.{Globals}
use Rattle.c_tree.specs.declared.declarations.Initializer.{Initializer}
use Rattle.c_tree.specs.declared.declarations.Initializer.TheVariants as initializer
use Rattle.c_tree.specs.declared.expressions.Expression.{Expression}
use Rattle.c_tree.specs.Starts.{expression_start}
use Rattle.joint_ir.specs.declared.ctype.IntType.{IntType}
use Rattle.joint_ir.specs.Types.{InRange, IsType}
use Rattle.joint_ir.specs.States.{element_count}
use Rattle.joint_ir.specs.WellFormed.{FitsVar}
use Rattle.joint_value.proofs.Numbers.{converted_in}
use Rattle.offence_order.specs.Order.{at}
use Rattle.c_words.specs.Types.{named}
use Rattle.c_names.specs.Scope.{Scope}
use Rattle.c_expressions.specs.Expressions.{offences_in}
use Rattle.c_constants.specs.declared.Constant.{Constant}
use Rattle.c_constants.specs.declared.Constant.TheVariants.{Is, Never, Undefined}
use Rattle.c_constants.specs.Constants.{constant_of, constant_offences, never_offences}
use Rattle.c_statements.specs.declared.calls.Signature.{Signature}
use Rattle.c_statements.specs.Arrays.{array_length, array_offences, excess_offences, range_offences}
use Rattle.c_statements.specs.Calls.{init_offences}
use Rattle.c_statements.specs.Known.{Known}
use Rattle.c_statements.specs.Statements.{is_some, pending}
use Rattle.c_meaning.proofs.Fits.{named_is}
use Rattle.c_statement_laws.proofs.Declaring.{few_elements, has_value, some_length}
use Rattle.c_statement_laws.proofs.Inits.{none_left, none_right}
use Rattle.c_objects.specs.Objects.{begun_offences, element_value, elements_offences, globals_offences, globals_vars, initial_offences, initial_value, object_known, object_offences, object_var, objects_offences, value_in}

-- a constant without offence is in the type that it is converted to
constant_in : (p : Place) (t : IntType) → IsType t → (z : Constant) → (z ≡ Undefined → ⊥) → never_offences p z ≡ [] → InRange t (value_in t z)
constant_in p t is (Is n) known never = converted_in t n is
constant_in p t is Never known never = absurd (cc)
constant_in p t is Undefined known never = absurd (known refl)

element_in : (env : List Scope) (t : IntType) → IsType t → (e : Expression) → constant_offences env (expression_start e) e ≡ [] → InRange t (element_value t e)
element_in env t is e none =
    constant_in (expression_start e) t is (constant_of e) (has_value env (expression_start e) e none) (none_right (offences_in env e) (never_offences (expression_start e) (constant_of e)) none)

no_call : (p : Place) → at p CConstant ≡ [] → ⊥
no_call p h = cc

initial_in : (fns : List Signature) (env : List Scope) (t : IntType) → IsType t → (i : Initializer) → initial_offences fns env i ≡ [] → InRange t (initial_value t i)
initial_in fns env t is (initializer.Value e) none = element_in env t is e none
initial_in fns env t is (initializer.Called call) none = absurd (no_call call.name.place (none_right (init_offences fns env (initializer.Called call)) (at call.name.place CConstant) none))

elements_in : (env : List Scope) (t : IntType) → IsType t → (es : List Expression) → elements_offences env es ≡ [] → All (InRange t) (map (element_value t) es)
elements_in env t is [] none = All-nil (InRange t)
elements_in env t is (e ∷ es) none =
    let own = constant_offences env (expression_start e) e in
    All-cons (InRange t) (element_value t e) (map (element_value t) es) (element_in env t is e (none_left own (elements_offences env es) none)) (elements_in env t is es (none_right own (elements_offences env es) none))

many_fit : (n : ℕ) → ((m : ℕ) × (n ≡ suc m)) → (l : ℕ) → l ≤ n → l ≤ element_count n
many_fit zero some l h = absurd (let none : zero ≡ suc some.0 = some.1 in cc)
many_fit (suc n) some l h = h

object_fits : (t : IntType) → IsType t → (constant : Bool) (d : Declarator) (k : Known) → object_offences d k ≡ [] → FitsVar (object_var t constant d)
object_fits t is constant (declarator.Plain x) k none = record { type = is; firsts = All-nil (InRange t); few = omega arith }
object_fits t is constant (declarator.Initialized x i) k none =
    let value = initial_in k.fns (pending k x) t is i (none_right (begun_offences x k) (initial_offences k.fns (pending k x) i) none) in
    record { type = is; firsts = All-cons (InRange t) (initial_value t i) [] value (All-nil (InRange t)); few = omega arith }
object_fits t is constant (declarator.Array x n) k none = record { type = is; firsts = All-nil (InRange t); few = omega arith }
object_fits t is constant (declarator.InitializedArray x n es) k none =
    let p = expression_start n in
    let z = constant_of n in
    let lengths = none_left (array_offences k.scopes n ++ excess_offences z es) (begun_offences x k ++ elements_offences (pending k x) es) none in
    let values = none_right (begun_offences x k) (elements_offences (pending k x) es) (none_right (array_offences k.scopes n ++ excess_offences z es) (begun_offences x k ++ elements_offences (pending k x) es) none) in
    let whole = none_left (array_offences k.scopes n) (excess_offences z es) lengths in
    let known = none_left (constant_offences k.scopes p n) (range_offences p z) whole in
    let few = few_elements p z es (has_value k.scopes p n known) (none_right (offences_in k.scopes n) (never_offences p z) known) (none_right (constant_offences k.scopes p n) (range_offences p z) whole)
    (none_right (array_offences k.scopes n) (excess_offences z es) lengths) in
    record { type = is; firsts = elements_in (pending k x) t is es values; few = many_fit (array_length z) (some_length z) (length (map (element_value t) es)) (let same = length-map es (element_value t) in omega (arith, same, few)) }

objects_fit : (before : ℕ) (t : IntType) → IsType t → (constant : Bool) (ds : List Declarator) (k : Known) → objects_offences before t constant ds k ≡ [] → All FitsVar (map (object_var t constant) ds)
objects_fit before t is constant [] k none = All-nil FitsVar
objects_fit before t is constant (d ∷ ds) k none =
    let next = object_known before t constant d k in
    All-cons FitsVar (object_var t constant d) (map (object_var t constant) ds) (object_fits t is constant d k (none_left (object_offences d k) (objects_offences (before + 1) t constant ds next) none))
    (objects_fit (before + 1) t is constant ds next (none_right (object_offences d k) (objects_offences (before + 1) t constant ds next) none))

pub globals_fit : (before : ℕ) (g : Globals) (k : Known) → globals_offences before g k ≡ [] → All FitsVar (globals_vars g)
globals_fit before g k none = objects_fit before (named g.type_name.integer) (named_is g.type_name.integer) (is_some g.constant) g.declarators k none
