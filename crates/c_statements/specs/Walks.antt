-- Statements and lists of them, typed.
use Rattle.std.specs.Prelude.{◌≡◌, ℕ, Bool, List, [], ◌++◌, drop}
use Rattle.c_tree.specs.declared.declarations.Declarator.{Declarator}
use Rattle.c_tree.specs.declared.statements.BlockItem.{BlockItem}
use Rattle.c_tree.specs.declared.statements.Group.{Group}
use Rattle.c_tree.specs.declared.statements.Statement.{Statement}
use Rattle.joint_ir.specs.declared.ctype.IntType.{IntType}
use Rattle.joint_ir.specs.declared.stmt.Group.{Group as TGroup}
use Rattle.joint_ir.specs.declared.stmt.Label.{Label as TLabel}
use Rattle.joint_ir.specs.declared.stmt.TStmt.{TStmt}
use Rattle.offence_order.specs.Order.{first_of}
use Rattle.c_statements.specs.declared.walk.Around.{Around}
use Rattle.c_statements.specs.declared.walk.Typer.{Typer}
use Rattle.c_statements.specs.Statements.{declarators_typed, declarators_offences, declarators_known, stmt_typed, offences_of, known_after, item_typed, item_offences, known_after_item, items_typed, items_offences, items_known, statements_typed, statements_offences, statements_known, cases_typed, cases_offences, cases_known}
use Rattle.c_statements.specs.Moves.{known_of, Goes}

-- the typed declarations of declarators, and what the typer knows behind them
pub record AreDeclared (t : IntType) (constant : Bool) (old new : Typer) (ds : List Declarator) (ts : List TStmt) : Type 0 where
  pub typed : ts ≡ declarators_typed t constant (known_of old) ds
  pub goes : Goes old new (declarators_offences t constant (known_of old) ds) (declarators_known t constant ds (known_of old))

-- the typed statement, and what the typer knows behind it
pub record IsStmt (a : Around) (old new : Typer) (s : Statement) (t : TStmt) : Type 0 where
  pub typed : t ≡ stmt_typed a (known_of old) s
  pub goes : Goes old new (offences_of a (known_of old) s) (known_after s (known_of old))

-- the typed statements of an item of a block, and what the typer knows behind it
pub record IsItem (a : Around) (old new : Typer) (x : BlockItem) (ts : List TStmt) : Type 0 where
  pub typed : ts ≡ item_typed a (known_of old) x
  pub goes : Goes old new (item_offences a (known_of old) x) (known_after_item x (known_of old))

-- the typed statements of the items of a block, and what the typer knows behind them
pub record AreItems (a : Around) (old new : Typer) (xs : List BlockItem) (ts : List TStmt) : Type 0 where
  pub typed : ts ≡ items_typed a (known_of old) xs
  pub goes : Goes old new (items_offences a (known_of old) xs) (items_known xs (known_of old))

-- after some of a list: what is left to do, from what is done
pub record DeclaredSoFar (t : IntType) (constant : Bool) (old now : Typer) (ds : List Declarator) (i : ℕ) (done : List TStmt) : Type 0 where
  pub typed_so : declarators_typed t constant (known_of old) ds ≡ done ++ declarators_typed t constant (known_of now) (drop i ds)
  pub first_so : first_of old.notes.first (declarators_offences t constant (known_of old) ds) ≡ first_of now.notes.first (declarators_offences t constant (known_of now) (drop i ds))
  pub known_so : declarators_known t constant ds (known_of old) ≡ declarators_known t constant (drop i ds) (known_of now)

-- after i items of a block: what is done and what is left make the whole
pub record ItemsSoFar (a : Around) (old now : Typer) (xs : List BlockItem) (i : ℕ) (done : List TStmt) : Type 0 where
  pub typed_so : items_typed a (known_of old) xs ≡ done ++ items_typed a (known_of now) (drop i xs)
  pub first_so : first_of old.notes.first (items_offences a (known_of old) xs) ≡ first_of now.notes.first (items_offences a (known_of now) (drop i xs))
  pub known_so : items_known xs (known_of old) ≡ items_known (drop i xs) (known_of now)

-- the typed statements, and what the typer knows behind them
pub record AreStmts (a : Around) (old new : Typer) (xs : List Statement) (ts : List TStmt) : Type 0 where
  pub typed : ts ≡ statements_typed a (known_of old) xs
  pub goes : Goes old new (statements_offences a (known_of old) xs) (statements_known xs (known_of old))

-- the typed groups of a `switch`, and what the typer knows behind them
pub record AreCases (a : Around) (t : IntType) (old new : Typer) (gs : List Group) (ts : List TGroup) : Type 0 where
  pub typed : ts ≡ cases_typed a (known_of old) t gs
  pub goes : Goes old new (cases_offences a (known_of old) t [] gs) (cases_known gs (known_of old))

-- after i statements: what is done and what is left make the whole
pub record StmtsSoFar (a : Around) (old now : Typer) (xs : List Statement) (i : ℕ) (done : List TStmt) : Type 0 where
  pub typed_so : statements_typed a (known_of old) xs ≡ done ++ statements_typed a (known_of now) (drop i xs)
  pub first_so : first_of old.notes.first (statements_offences a (known_of old) xs) ≡ first_of now.notes.first (statements_offences a (known_of now) (drop i xs))
  pub known_so : statements_known xs (known_of old) ≡ statements_known (drop i xs) (known_of now)

-- after i groups of a `switch`: what is done and what is left make the whole
pub record CasesSoFar (a : Around) (t : IntType) (old now : Typer) (gs : List Group) (i : ℕ) (seen : List TLabel) (done : List TGroup) : Type 0 where
  pub typed_so : cases_typed a (known_of old) t gs ≡ done ++ cases_typed a (known_of now) t (drop i gs)
  pub first_so : first_of old.notes.first (cases_offences a (known_of old) t [] gs) ≡ first_of now.notes.first (cases_offences a (known_of now) t seen (drop i gs))
  pub known_so : cases_known gs (known_of old) ≡ cases_known (drop i gs) (known_of now)
