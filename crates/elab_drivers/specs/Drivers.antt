-- The drivers and the clocked processes of one instance of a module, in the order of its text, by the names in it (IEEE
-- 1364-2005, 6.1, 9.7 and 9.9.2).
use Rattle.std.specs.Prelude.{ℕ, List, [], ◌∷◌, map, flat_map, Option, Some, None}
use Rattle.src_text.specs.declared.refusal.Place.{Place}
use Rattle.v_tree.specs.Starts.{target_start}
use Rattle.v_tree.specs.declared.expr.Expr.{Expr}
use Rattle.v_tree.specs.declared.item.Declarator.{Declarator}
use Rattle.v_tree.specs.declared.item.Event.{Event}
use Rattle.v_tree.specs.declared.item.Event.TheVariants as event
use Rattle.v_tree.specs.declared.item.Item.{Item}
use Rattle.v_tree.specs.declared.item.Item.TheVariants as item
use Rattle.v_tree.specs.declared.item.Module.{Module}
use Rattle.v_tree.specs.declared.item.NetAssignment.{NetAssignment}
use Rattle.v_tree.specs.declared.name.Identifier.{Identifier}
use Rattle.v_tree.specs.declared.stmt.Stmt.{Stmt}
use Rattle.flat_tree.specs.declared.design.Clocked.{Clocked}
use Rattle.flat_tree.specs.declared.design.Driver.{Driver}
use Rattle.flat_tree.specs.declared.design.Sense.TheVariants as sense
use Rattle.flat_tree.specs.declared.design.Work.{Work}
use Rattle.flat_tree.specs.declared.design.Work.TheVariants as work
use Rattle.flat_tree.specs.declared.expr.FlatExpr.{FlatExpr}
use Rattle.v_views.specs.declared.Selection.TheVariants as which
use Rattle.v_views.specs.declared.Target.TheVariants as made
use Rattle.elab_names.specs.declared.names.Entry.{Entry}
use Rattle.elab_names.specs.declared.names.Entry.TheVariants.{Signal}
use Rattle.elab_names.specs.Names.{Scope, find_in}
use Rattle.elab_flat.specs.Numbers.{signal_number}
use Rattle.elab_flat.specs.Flat.{flat_expr, flat_target}
use Rattle.elab_statements.specs.Statements.{flat_stmt}

-- the signal that a name of a sensitivity list stands for; what is no signal never changes (9.7.4)
abbrev pub listed_entry : Option Entry → List ℕ
listed_entry (Some (Signal s)) = s.number ∷ []
listed_entry e = []

-- the signals that a name of a sensitivity list adds to it
abbrev pub listed : Scope → Identifier → List ℕ
listed names x = listed_entry (find_in names x.name)

-- a driver of an instance
abbrev pub driver : ℕ → Place → Work FlatExpr → Driver FlatExpr
driver instance place does = record { instance = instance; place = place; work = does }

module _ (names : Scope) (instance : ℕ) where
  -- `target = value` of an `assign`: a continuous assignment (6.1)
  abbrev pub assign_driver : NetAssignment → Driver FlatExpr
  assign_driver a = driver instance (target_start a.target) (work.Assign (flat_target names [] a.target) (flat_expr names [] a.value))

  -- `wire x = value` assigns to the whole wire (6.1.1)
  abbrev pub value_drivers : Identifier → Option Expr → List (Driver FlatExpr)
  value_drivers x None = []
  value_drivers x (Some e) =
      driver instance x.place (work.Assign (made.Signal x.place (signal_number (find_in names x.name)) which.Whole) (flat_expr names [] e)) ∷ []

  -- a wire of a declaration
  abbrev pub net_drivers : Declarator → List (Driver FlatExpr)
  net_drivers d = value_drivers d.name d.value

  -- a process without `posedge` is a driver, and waits for all that it reads or for the signals of its list (9.7.4, 9.7.5)
  abbrev pub process_drivers : Place → Stmt → Event → List (Driver FlatExpr)
  process_drivers place body event.All = driver instance place (work.Comb sense.All (flat_stmt names body [])) ∷ []
  process_drivers place body (event.Posedge x) = []
  process_drivers place body (event.Names xs) = driver instance place (work.Comb (sense.Listed (flat_map (listed names) xs)) (flat_stmt names body [])) ∷ []

  -- a process with `posedge` waits for it (9.7.1)
  abbrev pub process_clocked : Place → Stmt → Event → List (Clocked FlatExpr)
  process_clocked place body event.All = []
  process_clocked place body (event.Posedge x) =
      record { instance = instance; place = place; clock = signal_number (find_in names x.name); clock_place = x.place; body = flat_stmt names body [] } ∷ []
  process_clocked place body (event.Names xs) = []

  -- what an item drives by itself; instances are apart
  abbrev pub item_drivers : Item → List (Driver FlatExpr)
  item_drivers (item.Assign d) = map assign_driver d.assignments
  item_drivers (item.Net d) = flat_map net_drivers d.nets
  item_drivers (item.Always a) = process_drivers a.place a.body a.event
  item_drivers i = []

  -- the clocked process that an item is
  abbrev pub item_clocked : Item → List (Clocked FlatExpr)
  item_clocked (item.Always a) = process_clocked a.place a.body a.event
  item_clocked i = []

  -- all of a module's
  abbrev pub module_drivers : Module → List (Driver FlatExpr)
  module_drivers m = flat_map item_drivers m.items

  -- all clocked processes of a module
  abbrev pub module_clocked : Module → List (Clocked FlatExpr)
  module_clocked m = flat_map item_clocked m.items
