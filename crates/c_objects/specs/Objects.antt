-- Objects of file scope: their offences, their first values, and what is known after them (C99 6.7.8 and 6.9.2).
use Rattle.std.specs.Prelude.{ℕ, ◌+◌, List, [], ◌∷◌, ◌++◌, map, Bool, ℤ, pos}
use Rattle.src_text.specs.declared.kind.Kind.TheVariants.{CConstant}
use Rattle.c_tree.specs.declared.names.Identifier.{Identifier}
use Rattle.c_tree.specs.declared.declarations.Declarator.{Declarator}
use Rattle.c_tree.specs.declared.declarations.Declarator.TheVariants as declarator
use Rattle.c_tree.specs.declared.declarations.Globals.{Globals}
use Rattle.c_tree.specs.declared.declarations.Initializer.{Initializer}
use Rattle.c_tree.specs.declared.declarations.Initializer.TheVariants as initializer
use Rattle.c_tree.specs.declared.expressions.Expression.{Expression}
use Rattle.c_tree.specs.Starts.{expression_start}
use Rattle.joint_ir.specs.declared.ctype.IntType.{IntType}
use Rattle.joint_ir.specs.declared.expr.Slot.TheVariants.{Global}
use Rattle.joint_ir.specs.declared.program.Var.{Var}
use Rattle.joint_ir.specs.Types.{converted}
use Rattle.offence_order.specs.declared.Offence.{Offence}
use Rattle.offence_order.specs.Order.{at}
use Rattle.c_words.specs.Types.{named}
use Rattle.c_words.specs.Marks.{number_of}
use Rattle.c_names.specs.declared.scope.Entry.{Entry}
use Rattle.c_names.specs.declared.scope.Entry.TheVariants as entry
use Rattle.c_names.specs.Scope.{Scope, declare, declared_in}
use Rattle.c_constants.specs.declared.Constant.{Constant}
use Rattle.c_constants.specs.declared.Constant.TheVariants.{Is, Never, Undefined}
use Rattle.c_constants.specs.Constants.{constant_of, constant_offences}
use Rattle.c_statements.specs.declared.calls.Signature.{Signature}
use Rattle.c_statements.specs.Known.{Known, with_scopes}
use Rattle.c_statements.specs.Arrays.{array_length, array_offences, excess_offences}
use Rattle.c_statements.specs.Calls.{init_offences}
use Rattle.c_statements.specs.Statements.{is_some, again_offences, declared_name, pending}

-- a constant, converted to the type of its object; 0 where it has no value
abbrev pub value_in : IntType → Constant → ℤ
value_in t (Is n) = converted t n
value_in t Never = pos 0
value_in t Undefined = pos 0

-- a constant expression as the value of an object of a type (C99 6.7.8p11)
abbrev pub element_value : IntType → Expression → ℤ
element_value t e = value_in t (constant_of e)

-- the value of an initializer; 0 for a call, which is an offence there
abbrev pub initial_value : IntType → Initializer → ℤ
initial_value t (initializer.Value e) = element_value t e
initial_value t (initializer.Called call) = pos 0

-- an initializer at file scope must be constant, and a call is none
abbrev pub initial_offences : List Signature → List Scope → Initializer → List Offence
initial_offences fns env (initializer.Value e) = constant_offences env (expression_start e) e
initial_offences fns env (initializer.Called call) = init_offences fns env (initializer.Called call) ++ at call.name.place CConstant

-- each element of an array is an initializer
abbrev pub elements_offences : List Scope → List Expression → List Offence
elements_offences env [] = []
elements_offences env (e ∷ es) = constant_offences env (expression_start e) e ++ elements_offences env es

-- the values that a declarator writes; elements behind them, and objects without any, begin as 0 (C99 6.7.8p10, p21)
abbrev pub first_values : IntType → Declarator → List ℤ
first_values t (declarator.Plain x) = []
first_values t (declarator.Initialized x i) = initial_value t i ∷ []
first_values t (declarator.Array x n) = []
first_values t (declarator.InitializedArray x n es) = map (element_value t) es

-- 0 for what is no array
abbrev pub object_length : Declarator → ℕ
object_length (declarator.Plain x) = 0
object_length (declarator.Initialized x i) = 0
object_length (declarator.Array x n) = array_length (constant_of n)
object_length (declarator.InitializedArray x n es) = array_length (constant_of n)

-- an object of file scope
abbrev pub global_var : IntType → (constant : Bool) → (length : ℕ) → List ℤ → Identifier → Var
global_var t constant n firsts x = record { name = x.name; ty = t; length = n; firsts = firsts; constant = constant }

-- the object that a declarator of file scope declares
abbrev pub object_var : IntType → (constant : Bool) → Declarator → Var
object_var t constant d = global_var t constant (object_length d) (first_values t d) (declared_name d)

-- an object, behind so many of the file
abbrev pub global_entry : (before : ℕ) → IntType → (constant : Bool) → (length : ℕ) → Entry
global_entry before t constant n = entry.Object (record { slot = Global (number_of before); ty = t; length = n; constant = constant })

-- with the name of an object of file scope
abbrev pub with_global : (before : ℕ) → IntType → (constant : Bool) → (length : ℕ) → Identifier → Known → Known
with_global before t constant n x k = with_scopes k (declare k.scopes x.name (global_entry before t constant n))

-- where a name is declared, and means nothing yet
abbrev pub begun : Identifier → Known → Known
begun x k = with_scopes k (pending k x)

-- a name may be declared once in its scope
abbrev pub begun_offences : Identifier → Known → List Offence
begun_offences x k = again_offences x.place (declared_in k.scopes x.name)

-- what is known behind a declarator of file scope
abbrev pub object_known : (before : ℕ) → IntType → (constant : Bool) → Declarator → Known → Known
object_known before t constant d k = with_global before t constant (object_length d) (declared_name d) (begun (declared_name d) k)

-- a length is looked at before the name is declared, and the initializer behind it
abbrev pub object_offences : Declarator → Known → List Offence
object_offences (declarator.Plain x) k = begun_offences x k
object_offences (declarator.Initialized x i) k = begun_offences x k ++ initial_offences k.fns (pending k x) i
object_offences (declarator.Array x n) k = array_offences k.scopes n ++ begun_offences x k
object_offences (declarator.InitializedArray x n es) k =
    (array_offences k.scopes n ++ excess_offences (constant_of n) es) ++ (begun_offences x k ++ elements_offences (pending k x) es)

-- what is known behind declarators of file scope
abbrev pub objects_known : (before : ℕ) → IntType → (constant : Bool) → List Declarator → Known → Known
objects_known before t constant [] k = k
objects_known before t constant (d ∷ ds) k = objects_known (before + 1) t constant ds (object_known before t constant d k)

-- what declarators of file scope offend, in order
abbrev pub objects_offences : (before : ℕ) → IntType → (constant : Bool) → List Declarator → Known → List Offence
objects_offences before t constant [] k = []
objects_offences before t constant (d ∷ ds) k = object_offences d k ++ objects_offences (before + 1) t constant ds (object_known before t constant d k)

-- a declaration at file scope, behind so many objects of the file
abbrev pub globals_known : (before : ℕ) → Globals → Known → Known
globals_known before g k = objects_known before (named g.type_name.integer) (is_some g.constant) g.declarators k

-- what a declaration at file scope offends
abbrev pub globals_offences : (before : ℕ) → Globals → Known → List Offence
globals_offences before g k = objects_offences before (named g.type_name.integer) (is_some g.constant) g.declarators k

-- the objects that a declaration at file scope declares
abbrev pub globals_vars : Globals → List Var
globals_vars g = map (object_var (named g.type_name.integer) (is_some g.constant)) g.declarators
