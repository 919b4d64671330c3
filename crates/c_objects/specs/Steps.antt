-- What a step over objects does.
use Rattle.std.specs.Prelude.{◌≡◌, ℕ, List, ◌∷◌, [], ◌++◌, length, map, drop, Bool, ℤ}
use Rattle.c_tree.specs.declared.declarations.Declarator.{Declarator}
use Rattle.c_tree.specs.declared.expressions.Expression.{Expression}
use Rattle.c_tree.specs.Starts.{expression_start}
use Rattle.joint_ir.specs.declared.ctype.IntType.{IntType}
use Rattle.joint_ir.specs.declared.program.Var.{Var}
use Rattle.offence_order.specs.Order.{first_of}
use Rattle.c_words.specs.declared.notes.Notes.{Notes}
use Rattle.c_names.specs.Scope.{Scope}
use Rattle.c_constants.specs.Constants.{constant_offences, told}
use Rattle.c_statements.specs.declared.walk.Typer.{Typer}
use Rattle.c_statements.specs.Moves.{known_of, Goes}
use Rattle.c_objects.specs.Objects.{element_value, elements_offences, object_offences, object_known, object_var, objects_offences, objects_known}

-- the value of a constant expression for a type, and the offences that come with it
pub record IsValue (env : List Scope) (old new : Notes) (t : IntType) (e : Expression) (n : ℤ) : Type 0 where
  pub value : n ≡ element_value t e
  pub notes : new ≡ told old (constant_offences env (expression_start e) e)

-- the values of an array's first elements, and the offences that come with them
pub record AreValues (env : List Scope) (old new : Notes) (t : IntType) (es : List Expression) (ns : List ℤ) : Type 0 where
  pub values : ns ≡ map (element_value t) es
  pub notes : new ≡ told old (elements_offences env es)

-- after some elements: what is left to do, from what is done
pub record ValuesSoFar (env : List Scope) (old now : Notes) (t : IntType) (es : List Expression) (i : ℕ) (done : List ℤ) : Type 0 where
  pub values_so : map (element_value t) es ≡ done ++ map (element_value t) (drop i es)
  pub notes_so : told old (elements_offences env es) ≡ told now (elements_offences env (drop i es))

-- an object was declared, behind those of the file before it
pub record IsObject (old new : Typer) (before after : List Var) (t : IntType) (constant : Bool) (d : Declarator) : Type 0 where
  pub goes : Goes old new (object_offences d (known_of old)) (object_known (length before) t constant d (known_of old))
  pub vars : after ≡ before ++ object_var t constant d ∷ []

-- the objects of declarators, and what the typer knows behind them
pub record AreObjects (old new : Typer) (before after : List Var) (t : IntType) (constant : Bool) (ds : List Declarator) : Type 0 where
  pub goes : Goes old new (objects_offences (length before) t constant ds (known_of old)) (objects_known (length before) t constant ds (known_of old))
  pub vars : after ≡ before ++ map (object_var t constant) ds

-- after i declarators: what is done and what is left make the whole
pub record ObjectsSoFar (old now : Typer) (before here : List Var) (t : IntType) (constant : Bool) (ds : List Declarator) (i : ℕ) : Type 0 where
  pub first_so : first_of old.notes.first (objects_offences (length before) t constant ds (known_of old)) ≡ first_of now.notes.first (objects_offences (length here) t constant (drop i ds) (known_of now))
  pub known_so : objects_known (length before) t constant ds (known_of old) ≡ objects_known (length here) t constant (drop i ds) (known_of now)
  pub vars_so : before ++ map (object_var t constant) ds ≡ here ++ map (object_var t constant) (drop i ds)
