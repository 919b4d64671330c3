-- What a run of statements is given, and what is declared at a place of the text.
use Rattle.std.specs.Prelude.{ℕ, ◌+◌, Bool, List, [], ◌∷◌, length, Option}
use Rattle.std.specs.Prelude.{ℤ}
use Rattle.src_text.specs.declared.refusal.Place.{Place}
use Rattle.c_tree.specs.declared.declarations.Declarator.{Declarator}
use Rattle.c_tree.specs.declared.declarations.Local.{Local}
use Rattle.c_tree.specs.declared.statements.BlockItem.{BlockItem}
use Rattle.c_tree.specs.declared.statements.BlockItem as block_item
use Rattle.c_tree.specs.declared.statements.ForFirst.{ForFirst}
use Rattle.c_tree.specs.declared.statements.ForFirst.TheVariants as for_first
use Rattle.c_tree.specs.declared.statements.Statement.{Statement}
use Rattle.c_tree.specs.declared.statements.Statement as statement
use Rattle.joint_ir.specs.declared.ctype.IntType.{IntType}
use Rattle.joint_ir.specs.declared.module.FlatModule.{FlatModule}
use Rattle.joint_ir.specs.declared.program.PropKind.{PropKind}
use Rattle.joint_ir.specs.States.{View}
use Rattle.c_words.specs.Types.{named}
use Rattle.c_names.specs.declared.scope.Entry.TheVariants as entry
use Rattle.c_names.specs.Scope.{Scope, declare}
use Rattle.c_statements.specs.Arrays.{declared_length}
use Rattle.c_statements.specs.Statements.{is_some, declared_name, local_entry}

-- a function of the text (C99 6.9.1)
pub record CFunction : Type 0 where
  -- the place at which its `recursion` property stands
  pub place : Place
  pub is_main : Bool
  -- none for `void`
  pub result : Option IntType
  pub params : List IntType
  -- what names mean where its body begins, the parameters among them
  pub scopes : List Scope
  -- the place of its first parameter among the automatic objects of the text
  pub first : ℕ
  -- none where it is only declared
  pub body : Option (List BlockItem)

-- what a run of statements is given: the functions, the limits of loops and functions, the bounds of the run, and the module
pub record Given : Type 0 where
  -- each by the number by which a scope names it
  pub functions : List CFunction
  -- the limit of the loop, or of the function, whose property stands at a place
  pub limit : PropKind → Place → ℕ
  -- the clock edges of a run, and whether one more breaks a property
  pub frames : ℕ
  pub check_bound : Bool
  pub design : FlatModule
  -- the members of the mirror, filled from a view
  pub filled : View → List (List ℤ)
  -- the inputs, driven by the members of the mirror
  pub driven : (members : List (List ℤ)) → (inputs : List ℕ) → List ℕ

-- a place of the text: what names mean there (C99 6.2.1), how many automatic objects are declared before it, and the type of
-- the result of the function that it stands in
pub record Here : Type 0 where
  pub scopes : List Scope
  pub objects : ℕ
  pub result : Option IntType

-- a block begins with no names of its own (C99 6.2.1p4)
abbrev pub in_block : Here → Here
in_block h = record { scopes = [] ∷ h.scopes; objects = h.objects; result = h.result }

-- behind so many more automatic objects, in the same scope
abbrev pub past : ℕ → Here → Here
past n h = record { scopes = h.scopes; objects = h.objects + n; result = h.result }

-- in its own initializer a name is declared and means nothing (C99 6.2.1p7)
abbrev pub in_initializer : Here → Declarator → Here
in_initializer h d = record { scopes = declare h.scopes (declared_name d).name entry.Pending; objects = h.objects; result = h.result }

-- behind a declared object, whose name means it from there on (C99 6.2.1p7)
abbrev pub past_declarator : IntType → (constant : Bool) → Declarator → Here → Here
past_declarator t constant d h = record {
  scopes = declare (in_initializer h d).scopes (declared_name d).name (local_entry h.objects t (declared_length d) constant);
  objects = h.objects + 1;
  result = h.result;
}

-- the place of the text behind all declarators of a declaration
abbrev pub past_declarators : IntType → (constant : Bool) → List Declarator → Here → Here
past_declarators t constant [] h = h
past_declarators t constant (d ∷ ds) h = past_declarators t constant ds (past_declarator t constant d h)

-- behind a declaration (C99 6.7)
abbrev pub past_local : Local → Here → Here
past_local l h = past_declarators (named l.type_name.integer) (is_some l.constant) l.declarators h

-- behind the first part of the head of a `for`, whose scope is the loop (C99 6.8.5p5)
abbrev pub past_first : ForFirst → Here → Here
past_first for_first.Nothing h = h
past_first (for_first.Local l) h = past_local l h
past_first (for_first.Simple s) h = h

-- how many objects the first part of a `for` declares
abbrev pub objects_in_first : ForFirst → ℕ
objects_in_first for_first.Nothing = 0
objects_in_first (for_first.Local l) = length l.declarators
objects_in_first (for_first.Simple s) = 0

abbrev mutual
  -- how many automatic objects a statement declares, in blocks inside it too
  pub objects_in : Statement → ℕ
  objects_in (statement.Compound' p _ items) = objects_in_items items
  objects_in (statement.Empty p) = 0
  objects_in (statement.Simple s) = 0
  objects_in (statement.If' p e _ (statement.more_of-Statement s _)) = objects_in s
  objects_in (statement.IfElse' p e _ (statement.more_of-Statement s _) _ (statement.more_of-Statement t _)) = objects_in s + objects_in t
  objects_in (statement.While' p e _ (statement.more_of-Statement s _)) = objects_in s
  objects_in (statement.Do' p _ (statement.more_of-Statement s _) e) = objects_in s
  objects_in (statement.For' p first e step _ (statement.more_of-Statement s _)) = objects_in_first first + objects_in s
  objects_in (statement.Switch' p e _ groups) = objects_in_groups groups
  objects_in (statement.Break p) = 0
  objects_in (statement.Continue p) = 0
  objects_in (statement.Return p i) = 0
  objects_in (statement.Assert p e) = 0
  objects_in (statement.CproverAssert p e) = 0
  objects_in (statement.CproverAssume p e) = 0

  -- those that the items of a block declare
  pub objects_in_items : {m : _} → statement.Row_of-BlockItem m → ℕ
  objects_in_items statement.end_of-BlockItem = 0
  objects_in_items (statement.more_of-BlockItem x row) = objects_in_item x + objects_in_items row

  -- those that a declaration declares, or a statement
  pub objects_in_item : BlockItem → ℕ
  objects_in_item (block_item.Local l) = length l.declarators
  objects_in_item (block_item.Statement s) = objects_in s

  -- those that the groups of a `switch` declare
  pub objects_in_groups : {m : _} → statement.Row_of-Group m → ℕ
  objects_in_groups statement.end_of-Group = 0
  objects_in_groups (statement.more_of-Group p labels _ body row) = objects_in_statements body + objects_in_groups row

  -- those that statements declare
  pub objects_in_statements : {m : _} → statement.Row_of-Statement m → ℕ
  objects_in_statements statement.end_of-Statement = 0
  objects_in_statements (statement.more_of-Statement s row) = objects_in s + objects_in_statements row

-- behind a part of a block: a declaration reaches to the end of its block, and a statement leaves names as they are
abbrev pub past_item : BlockItem → Here → Here
past_item (block_item.Local l) h = past_local l h
past_item (block_item.Statement s) h = past (objects_in s) h
