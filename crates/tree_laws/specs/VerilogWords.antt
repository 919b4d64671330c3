-- Words for the trees of small Verilog texts of one line. A number is the column where a part stands.
use Rattle.std.specs.Prelude.{ℕ, Bool, false, List, [], ◌∷◌, Option, Some, None, codes}
use Rattle.src_text.specs.declared.refusal.Place.{Place}
use Rattle.v_actions.specs.Reading.{IsVerilogSource}
use Rattle.v_tree.specs.declared.name.Identifier.{Identifier}
use Rattle.v_tree.specs.declared.expr.Base.{Base}
use Rattle.v_tree.specs.declared.expr.BasedNumber.{BasedNumber}
use Rattle.v_tree.specs.declared.expr.BinaryOp.{BinaryOp}
use Rattle.v_tree.specs.declared.expr.DecimalNumber.{DecimalNumber}
use Rattle.v_tree.specs.declared.expr.Expr.{Expr}
use Rattle.v_tree.specs.declared.expr.Expr.TheVariants as Expr
use Rattle.v_tree.specs.declared.expr.Literal.TheVariants as Literal
use Rattle.v_tree.specs.declared.expr.UnaryOp.{UnaryOp}
use Rattle.v_tree.specs.declared.stmt.AssignmentKind.TheVariants.{Blocking, Nonblocking}
use Rattle.v_tree.specs.declared.stmt.Stmt.{Stmt}
use Rattle.v_tree.specs.declared.stmt.Stmt.TheVariants as Stmt
use Rattle.v_tree.specs.declared.stmt.Target.{Target}
use Rattle.v_tree.specs.declared.item.Connections.{Connections}
use Rattle.v_tree.specs.declared.item.Declarator.{Declarator}
use Rattle.v_tree.specs.declared.item.Direction.{Direction}
use Rattle.v_tree.specs.declared.item.DirectionKind.{DirectionKind}
use Rattle.v_tree.specs.declared.item.Event.{Event}
use Rattle.v_tree.specs.declared.item.Header.{Header}
use Rattle.v_tree.specs.declared.item.Instance.{Instance}
use Rattle.v_tree.specs.declared.item.Item.{Item}
use Rattle.v_tree.specs.declared.item.NamedConnection.{NamedConnection}
use Rattle.v_tree.specs.declared.item.NetAssignment.{NetAssignment}
use Rattle.v_tree.specs.declared.item.NetKind.{NetKind}
use Rattle.v_tree.specs.declared.item.ParameterAssignment.{ParameterAssignment}
use Rattle.v_tree.specs.declared.item.ParameterDeclaration.{ParameterDeclaration}
use Rattle.v_tree.specs.declared.item.ParameterRange.{ParameterRange}
use Rattle.v_tree.specs.declared.item.Port.{Port}
use Rattle.v_tree.specs.declared.item.Range.{Range}
use Rattle.v_tree.specs.declared.item.Register.{Register}
use Rattle.v_tree.specs.declared.item.RegisterForm.{RegisterForm}

abbrev pub at : ℕ → Place
at column = record { line = 1; column = column }

abbrev pub named : ℕ → List ℕ → Identifier
named column text = record { place = at column; name = text }

-- names as expressions
abbrev pub a : ℕ → Expr
a column = Expr.Name (named column (codes "a"))

abbrev pub b : ℕ → Expr
b column = Expr.Name (named column (codes "b"))

abbrev pub c : ℕ → Expr
c column = Expr.Name (named column (codes "c"))

abbrev pub d : ℕ → Expr
d column = Expr.Name (named column (codes "d"))

abbrev pub e : ℕ → Expr
e column = Expr.Name (named column (codes "e"))

abbrev pub f : ℕ → Expr
f column = Expr.Name (named column (codes "f"))

abbrev pub i : ℕ → Expr
i column = Expr.Name (named column (codes "i"))

abbrev pub x : ℕ → Expr
x column = Expr.Name (named column (codes "x"))

abbrev pub y : ℕ → Expr
y column = Expr.Name (named column (codes "y"))

-- numbers
abbrev pub digits : ℕ → List ℕ → DecimalNumber
digits column text = record { place = at column; digits = text }

abbrev pub based : ℕ → (signed : Bool) → Base → List ℕ → BasedNumber
based column signed base text = record { place = at column; signed = signed; base = base; digits = text }

abbrev pub decimal : ℕ → List ℕ → Expr
decimal column text = Expr.Literal (Literal.Decimal (digits column text))

-- an operator stands at its column
abbrev pub unary : ℕ → UnaryOp → Expr → Expr
unary column op operand = Expr.Unary (record { place = at column; op = op }) operand

abbrev pub binary : Expr → ℕ → BinaryOp → Expr → Expr
binary left column op right = Expr.Binary left (record { place = at column; op = op }) right

-- statements
abbrev pub blocking : Target → Expr → Stmt
blocking target value = Stmt.Assignment (record { target = target; kind = Blocking; value = value })

-- a blocking assignment to a name
abbrev pub stored : ℕ → List ℕ → Expr → Stmt
stored column text value = blocking (Target.Name (named column text)) value

abbrev pub nonblocking : Target → Expr → Stmt
nonblocking target value = Stmt.Assignment (record { target = target; kind = Nonblocking; value = value })

-- `for (first = value; condition; next = step) body`
abbrev pub loop : ℕ → ℕ → List ℕ → Expr → Expr → ℕ → List ℕ → Expr → Stmt → Stmt
loop column first_column first value condition next_column next step body = Stmt.For (at column) (record {
  start = record { name = named first_column first; value = value };
  condition = condition;
  step = record { name = named next_column next; value = step };
}) body

-- declarations
abbrev pub range : ℕ → Expr → Expr → Range
range column high low = record { place = at column; high = high; low = low }

abbrev pub declared : ℕ → List ℕ → Declarator
declared column text = record { name = named column text; value = None }

abbrev pub given : ℕ → List ℕ → Expr → Declarator
given column text value = record { name = named column text; value = Some value }

abbrev pub wires : ℕ → (signed : Bool) → Option Range → List Declarator → Item
wires column signed range nets = Item.Net (record { place = at column; signed = signed; range = range; nets = nets })

abbrev pub register : ℕ → List ℕ → RegisterForm → Register
register column text form = record { name = named column text; form = form }

abbrev pub registers : ℕ → (signed : Bool) → Option Range → List Register → Item
registers column signed range listed = Item.Reg (record { place = at column; signed = signed; range = range; registers = listed })

abbrev pub integers : ℕ → List Identifier → Item
integers column names = Item.Integer (record { place = at column; names = names })

abbrev pub parameter : ℕ → List ℕ → Expr → ParameterAssignment
parameter column text value = record { name = named column text; value = value }

abbrev pub parameters : ℕ → Option ParameterRange → List ParameterAssignment → ParameterDeclaration
parameters column range listed = record { place = at column; range = range; parameters = listed }

abbrev pub direction : ℕ → DirectionKind → Direction
direction column kind = record { place = at column; kind = kind }

abbrev pub port : Direction → Option NetKind → (signed : Bool) → Option Range → List Declarator → Port
port direction net signed range names = record { direction = direction; net = net; signed = signed; range = range; names = names }

abbrev pub ports : Direction → Option NetKind → (signed : Bool) → Option Range → List Identifier → Item
ports direction net signed range names = Item.Port (record { direction = direction; net = net; signed = signed; range = range; names = names })

-- other items
abbrev pub assigned : Target → Expr → NetAssignment
assigned target value = record { target = target; value = value }

abbrev pub assigns : ℕ → List NetAssignment → Item
assigns column assignments = Item.Assign (record { place = at column; assignments = assignments })

abbrev pub always : ℕ → Event → Stmt → Item
always column event body = Item.Always (record { place = at column; event = event; body = body })

abbrev pub connection : ℕ → Identifier → Option Expr → NamedConnection
connection column name value = record { place = at column; name = name; value = value }

abbrev pub instance : ℕ → List ℕ → Connections → Instance
instance column text connections = record { name = named column text; connections = connections }

abbrev pub instances : Identifier → Option Connections → List Instance → Item
instances kind overrides listed = Item.Instances (record { «module» = kind; overrides = overrides; instances = listed })

-- The text is that of one module `m` with these parameters, this header and these items.
abbrev pub HasParts : List ℕ → List ParameterDeclaration → Header → List Item → Type 0
HasParts text groups header items = IsVerilogSource text (record {
  modules = (record { place = at 1; name = named 8 (codes "m"); parameters = groups; header = header; items = items }) ∷ [];
})

-- the same without parameters and header
abbrev pub HasItems : List ℕ → List Item → Type 0
HasItems text items = HasParts text [] Header.Absent items

-- the same of one item
abbrev pub HasItem : List ℕ → Item → Type 0
HasItem text item = HasItems text (item ∷ [])

-- the same of the item `initial ..`, with this statement
abbrev pub HasStatement : List ℕ → Stmt → Type 0
HasStatement text statement = HasItem text (Item.Initial (at 11) statement)

-- the same of the item `wire x = ..;`, with this value
abbrev pub HasValue : List ℕ → Expr → Type 0
HasValue text value = HasItem text (wires 11 false None (given 16 (codes "x") value ∷ []))
