-- The drivers that connect the ports of an instance: each connection is a continuous assignment, to an input from the
-- expression, and from an output to it (IEEE 1364-2005, 12.3.9.2).
use Rattle.std.specs.Prelude.{ℕ, ◌+◌, List, [], ◌∷◌, ◌++◌, map, flat_map, slice_get, Option, Some, None, Bool, true, false}
use Rattle.src_text.specs.declared.refusal.Place.{Place}
use Rattle.v_tree.specs.Starts.{expr_start}
use Rattle.v_tree.specs.declared.expr.Expr.{Expr}
use Rattle.v_tree.specs.declared.expr.Expr as expr
use Rattle.v_tree.specs.declared.item.Connections.{Connections}
use Rattle.v_tree.specs.declared.item.Connections.TheVariants as connections
use Rattle.v_tree.specs.declared.item.DirectionKind.{DirectionKind}
use Rattle.v_tree.specs.declared.item.DirectionKind.TheVariants as direction
use Rattle.v_tree.specs.declared.item.NamedConnection.{NamedConnection}
use Rattle.v_views.specs.declared.Selection.TheVariants as which
use Rattle.v_views.specs.declared.Target.TheVariants as made
use Rattle.flat_tree.specs.declared.design.Driver.{Driver}
use Rattle.flat_tree.specs.declared.design.Work.{Work}
use Rattle.flat_tree.specs.declared.design.Work.TheVariants as work
use Rattle.flat_tree.specs.declared.expr.FlatExpr.{FlatExpr}
use Rattle.flat_tree.specs.declared.expr.FlatExpr.TheVariants as flat
use Rattle.elab_names.specs.Names.{Scope}
use Rattle.elab_flat.specs.Flat.{flat_expr}
use Rattle.elab_ports.specs.Ports.{direction_of, place_from}
use Rattle.elab_connections.specs.Targets.{output_target}

-- an expression that is a name, without parentheses
abbrev pub is_plain : Expr → Bool
is_plain (expr.Name x) = true
is_plain e = false

-- by the names in the module round the instance
module _ (names : Scope) where
  -- an input takes the value of what is connected; so is taken what goes neither way, which is an offence
  abbrev pub input_work : ℕ → Expr → Work FlatExpr
  input_work number e = work.Connect (made.Signal (expr_start e) number which.Whole) (flat_expr names [] e) (is_plain e)

  -- an output gives its value to what is connected
  abbrev pub output_work : ℕ → Expr → Work FlatExpr
  output_work number e = work.Connect (output_target names e) (flat.Signal (expr_start e) number) (is_plain e)

  -- what connects a port, by which way it goes and its number
  abbrev pub port_work : Option DirectionKind → ℕ → Expr → Work FlatExpr
  port_work (Some direction.Output) number e = output_work number e
  port_work (Some direction.Input) number e = input_work number e
  port_work None number e = input_work number e

  -- by that module's instance
  module _ (outer : ℕ) where
    -- the driver belongs to the instance in whose text it stands, and begins where the expression does
    abbrev pub port_driver : Option DirectionKind → ℕ → Expr → Driver FlatExpr
    port_driver direction number e = record { instance = outer; place = expr_start e; work = port_work direction number e }

    -- and the number of the instance's first signal
    module _ (first : ℕ) where
      -- an expression for the port at a place, if one is there: its number is so many after that of the first
      abbrev pub place_drivers : Option (Option DirectionKind) → ℕ → Expr → List (Driver FlatExpr)
      place_drivers None place e = []
      place_drivers (Some direction) place e = port_driver direction (first + place) e ∷ []

      -- by which way each port goes, in order
      module _ (directions : List (Option DirectionKind)) where
        -- by position, from a place on: ports are left out at the end (12.3.5)
        abbrev pub ordered_drivers : ℕ → List Expr → List (Driver FlatExpr)
        ordered_drivers place [] = []
        ordered_drivers place (e ∷ es) = place_drivers (slice_get directions place) place e ++ ordered_drivers (place + 1) es

        -- `.name( )` connects nothing (12.3.6)
        abbrev pub value_drivers : ℕ → Option Expr → List (Driver FlatExpr)
        value_drivers place None = []
        value_drivers place (Some e) = place_drivers (slice_get directions place) place e

        -- a port that is named, if the module has it
        abbrev pub found_drivers : Option ℕ → Option Expr → List (Driver FlatExpr)
        found_drivers None value = []
        found_drivers (Some place) value = value_drivers place value

        -- by name, where a name has this place among the ports
        abbrev pub named_drivers : (List ℕ → Option ℕ) → NamedConnection → List (Driver FlatExpr)
        named_drivers place_of c = found_drivers (place_of c.name.name) c.value

        -- all of a list
        abbrev pub joined_drivers : (List ℕ → Option ℕ) → Connections → List (Driver FlatExpr)
        joined_drivers place_of connections.Absent = []
        joined_drivers place_of (connections.Ordered es) = ordered_drivers 0 es
        joined_drivers place_of (connections.Named cs) = flat_map (named_drivers place_of) cs

      -- the connections of an instance of a module with these ports, in order
      abbrev pub connection_drivers : List (List ℕ × Option DirectionKind) → Connections → List (Driver FlatExpr)
      connection_drivers ports c = joined_drivers (map direction_of ports) (place_from 0 ports) c
