-- First values: what `initial` processes write (IEEE 1364-2005, 9.9.1), and the values of declarations (6.2.1 and 12.3.3).
use Rattle.std.specs.Prelude.{ℕ, List, [], ◌∷◌, ◌++◌, ◌==◌, ◌&&◌, flat_map, Option, Some, None, if◌then◌else◌}
use Rattle.std.specs.Option.{option_or}
use Rattle.v_tree.specs.declared.expr.Expr.{Expr}
use Rattle.v_tree.specs.declared.expr.Selection.{Selection}
use Rattle.v_tree.specs.declared.expr.Selection as selection
use Rattle.v_tree.specs.declared.expr.Expr as expr
use Rattle.v_tree.specs.declared.item.Declarator.{Declarator}
use Rattle.v_tree.specs.declared.item.Header.{Header}
use Rattle.v_tree.specs.declared.item.Header.TheVariants as header
use Rattle.v_tree.specs.declared.item.Item.{Item}
use Rattle.v_tree.specs.declared.item.Item.TheVariants as item
use Rattle.v_tree.specs.declared.item.Module.{Module}
use Rattle.v_tree.specs.declared.item.Port.{Port}
use Rattle.v_tree.specs.declared.item.Register.{Register}
use Rattle.v_tree.specs.declared.item.RegisterForm.{RegisterForm}
use Rattle.v_tree.specs.declared.item.RegisterForm.TheVariants as form
use Rattle.v_tree.specs.declared.name.Identifier.{Identifier}
use Rattle.v_tree.specs.declared.stmt.ForHead.{ForHead}
use Rattle.v_tree.specs.declared.stmt.Stmt.{Stmt}
use Rattle.v_tree.specs.declared.stmt.Stmt as stmt
use Rattle.v_tree.specs.declared.stmt.Target.{Target}
use Rattle.v_tree.specs.declared.stmt.Target as target
use Rattle.elab_names.specs.declared.constant.Worth.TheVariants.{Value}
use Rattle.elab_names.specs.declared.names.Turn.{Turn}
use Rattle.elab_names.specs.Names.{Scope, find_in}
use Rattle.elab_flat.specs.Flat.{known}
use Rattle.elab_loops.specs.Loops.{with_turn, taken_turns, integer_number}
use Rattle.elab_firsts.specs.declared.values.FirstWrite.{FirstWrite}
use Rattle.elab_firsts.specs.Values.{write_of}

module _ (names : Scope) where
  -- a word of a memory, by its index
  abbrev pub word_write : List Turn → Identifier → Expr → Selection → List FirstWrite
  word_write turns x e (selection.Index' _ (expr.more_of-Expr i _)) = write_of names turns (find_in names x.name) (known names turns 4095 i) e
  word_write turns x e s = []

  -- an assignment to a whole register or a word of a memory
  abbrev pub target_writes : List Turn → Target → Expr → List FirstWrite
  target_writes turns (target.Name x) e = write_of names turns (find_in names x.name) 0 e
  target_writes turns (target.Select x s) e = word_write turns x e s
  target_writes turns (target.Concatenation' place _ parts) e = []

  -- the copies of a loop's body, one for each value of its variable
  abbrev pub loop_writes : (List Turn → List FirstWrite) → List Turn → ForHead → List FirstWrite
  loop_writes body turns head =
      let integer = integer_number (find_in names head.start.name.name) in
      flat_map (λ v. body (with_turn turns integer (Value v))) (taken_turns names turns integer head)

  abbrev mutual
    -- a copy of a statement of an `initial`, in the order in which it would run
    pub stmt_writes : Stmt → List Turn → List FirstWrite
    stmt_writes (stmt.Block' place label _ body) turns = row_writes body turns
    stmt_writes (stmt.For' place head _ (stmt.more_of-Stmt s _)) turns = loop_writes (stmt_writes s) turns head
    stmt_writes (stmt.Assignment a) turns = target_writes turns a.target a.value
    stmt_writes (stmt.Empty place) turns = []
    stmt_writes (stmt.If' place condition _ body) turns = []
    stmt_writes (stmt.IfElse' place condition _ body _ other) turns = []
    stmt_writes (stmt.Case' place kind value _ items) turns = []

    -- statements one after another
    pub row_writes : {m : _} → stmt.Row_of-Stmt m → List Turn → List FirstWrite
    row_writes stmt.end_of-Stmt turns = []
    row_writes (stmt.more_of-Stmt s rest) turns = stmt_writes s turns ++ row_writes rest turns

  -- `reg x = e`
  abbrev pub form_writes : Identifier → RegisterForm → List FirstWrite
  form_writes x form.Plain = []
  form_writes x (form.Initialized e) = write_of names [] (find_in names x.name) 0 e
  form_writes x (form.Memory range) = []

  -- a register of a declaration
  abbrev pub register_writes : Register → List FirstWrite
  register_writes r = form_writes r.name r.form

  -- the value that an output has in its declaration, if it has one
  abbrev pub value_writes : Identifier → Option Expr → List FirstWrite
  value_writes x None = []
  value_writes x (Some e) = write_of names [] (find_in names x.name) 0 e

  -- `output reg x = e`
  abbrev pub declarator_writes : Declarator → List FirstWrite
  declarator_writes d = value_writes d.name d.value

  -- the names of one port declaration
  abbrev pub port_writes : Port → List FirstWrite
  port_writes p = flat_map declarator_writes p.names

  -- the ports of a module's head
  abbrev pub header_writes : Header → List FirstWrite
  header_writes header.Absent = []
  header_writes header.Empty = []
  header_writes (header.Names xs) = []
  header_writes (header.Ports ports) = flat_map port_writes ports

  -- the declarations of registers, and the `initial` statements; no other item writes a first value
  abbrev pub item_writes : Item → List FirstWrite
  item_writes (item.Reg d) = flat_map register_writes d.registers
  item_writes (item.Initial place body) = stmt_writes body []
  item_writes i = []

  -- those of a module, in the order of the text: the last one to a word holds
  abbrev pub module_writes : Module → List FirstWrite
  module_writes m = header_writes m.header ++ flat_map item_writes m.items

-- the value that a write gives to this word of this signal, if it is the one written
abbrev pub write_at : ℕ → ℕ → FirstWrite → Option ℕ
write_at signal at w = if w.signal == signal && w.word == at then Some w.value else None

-- the first value of a word: what the last write to it says
abbrev pub first_of : List FirstWrite → ℕ → ℕ → Option ℕ
first_of [] signal at = None
first_of (w ∷ ws) signal at = option_or (first_of ws signal at) (write_at signal at w)
