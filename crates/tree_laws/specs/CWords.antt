-- Words for the trees of small C texts of one line. A number is the column where a part stands.
use Rattle.std.specs.Prelude.{ℕ, ◌+◌, List, [], ◌∷◌, length, Option, None, codes}
use Rattle.src_text.specs.declared.refusal.Place.{Place}
use Rattle.c_actions.specs.Reading.{IsCSource}
use Rattle.c_tree.specs.declared.names.Identifier.{Identifier}
use Rattle.c_tree.specs.declared.expressions.AssignmentMark.{AssignmentMark}
use Rattle.c_tree.specs.declared.expressions.AssignmentOperator.{AssignmentOperator}
use Rattle.c_tree.specs.declared.expressions.BinaryOperator.{BinaryOperator}
use Rattle.c_tree.specs.declared.expressions.Call.{Call}
use Rattle.c_tree.specs.declared.expressions.Expression.{Expression}
use Rattle.c_tree.specs.declared.expressions.Expression.TheVariants as Expression
use Rattle.c_tree.specs.declared.expressions.Object.{Object}
use Rattle.c_tree.specs.declared.expressions.Path.{Path}
use Rattle.c_tree.specs.declared.expressions.StepMark.{StepMark}
use Rattle.c_tree.specs.declared.expressions.StepOperator.{StepOperator}
use Rattle.c_tree.specs.declared.expressions.UnaryOperator.{UnaryOperator}
use Rattle.c_tree.specs.declared.declarations.Declarator.{Declarator}
use Rattle.c_tree.specs.declared.declarations.FunctionHead.{FunctionHead}
use Rattle.c_tree.specs.declared.declarations.Initializer.TheVariants as Initializer
use Rattle.c_tree.specs.declared.declarations.IntegerType.{IntegerType}
use Rattle.c_tree.specs.declared.declarations.IntegerType.TheVariants as Integer
use Rattle.c_tree.specs.declared.declarations.Local.{Local}
use Rattle.c_tree.specs.declared.declarations.Parameter.{Parameter}
use Rattle.c_tree.specs.declared.declarations.ResultType.{ResultType}
use Rattle.c_tree.specs.declared.declarations.Sign.TheVariants as Sign
use Rattle.c_tree.specs.declared.declarations.Storage.{Storage}
use Rattle.c_tree.specs.declared.declarations.TypeName.{TypeName}
use Rattle.c_tree.specs.declared.statements.Block.{Block}
use Rattle.c_tree.specs.declared.statements.BlockItem.{BlockItem}
use Rattle.c_tree.specs.declared.statements.Group.{Group}
use Rattle.c_tree.specs.declared.statements.Label.{Label}
use Rattle.c_tree.specs.declared.statements.Simple.{Simple}
use Rattle.c_tree.specs.declared.statements.Statement.{Statement}
use Rattle.c_tree.specs.declared.file.External.{External}

abbrev pub at : ℕ → Place
at column = record { line = 1; column = column }

abbrev pub named : ℕ → List ℕ → Identifier
named column text = record { place = at column; name = text }

-- objects and members
abbrev pub object : Identifier → List Identifier → Object
object name members = record { name = name; members = members }

abbrev pub variable : ℕ → List ℕ → Path
variable column text = Path.Object (object (named column text) [])

-- variables that are read
abbrev pub a : ℕ → Expression
a column = Expression.Read (variable column (codes "a"))

abbrev pub b : ℕ → Expression
b column = Expression.Read (variable column (codes "b"))

abbrev pub c : ℕ → Expression
c column = Expression.Read (variable column (codes "c"))

abbrev pub d : ℕ → Expression
d column = Expression.Read (variable column (codes "d"))

abbrev pub e : ℕ → Expression
e column = Expression.Read (variable column (codes "e"))

abbrev pub f : ℕ → Expression
f column = Expression.Read (variable column (codes "f"))

abbrev pub i : ℕ → Expression
i column = Expression.Read (variable column (codes "i"))

abbrev pub integer : ℕ → List ℕ → Expression
integer column text = Expression.Integer (at column) text

-- an operator stands at its column
abbrev pub unary : ℕ → UnaryOperator → Expression → Expression
unary column operator operand = Expression.Unary (record { place = at column; operator = operator }) operand

abbrev pub binary : Expression → ℕ → BinaryOperator → Expression → Expression
binary left column operator right = Expression.Binary left (record { place = at column; operator = operator }) right

abbrev pub updating : ℕ → AssignmentOperator → AssignmentMark
updating column operator = record { place = at column; operator = operator }

abbrev pub stepping : ℕ → StepOperator → StepMark
stepping column operator = record { place = at column; operator = operator }

-- statements
abbrev pub assigned : Path → Expression → Simple
assigned path value = Simple.Assign path (Initializer.Value value)

abbrev pub called : Identifier → List Expression → Call
called name arguments = record { name = name; arguments = arguments }

abbrev pub group : ℕ → List Label → List Statement → Group
group column labels body = record { place = at column; labels = labels; body = body }

abbrev pub block : ℕ → List BlockItem → Block
block column items = record { place = at column; items = items }

-- declarations
abbrev pub typed : ℕ → IntegerType → TypeName
typed column integer = record { place = at column; integer = integer }

abbrev pub local : Option Place → TypeName → List Declarator → Local
local constant type_name declarators = record { constant = constant; type_name = type_name; declarators = declarators }

abbrev pub objects : Storage → Option Place → TypeName → List Declarator → External
objects storage constant type_name declarators = External.Objects (record { storage = storage; constant = constant; type_name = type_name; declarators = declarators })

abbrev pub parameter : Option Place → TypeName → Option Identifier → Parameter
parameter constant type_name name = record { constant = constant; type_name = type_name; name = name }

abbrev pub head : Storage → ResultType → Identifier → List Parameter → FunctionHead
head storage result name parameters = record { storage = storage; result = result; name = name; parameters = parameters }

-- The text is that of a file with these external declarations.
abbrev pub HasExternals : List ℕ → List External → Type 0
HasExternals text externals = IsCSource text (record { externals = externals; end = at (length text + 1) })

-- the same of the one definition `void f(void) { .. }`, with these declarations and statements
abbrev pub HasItems : List ℕ → List BlockItem → Type 0
HasItems text items = HasExternals text (External.Definition (head Storage.Unspecified (ResultType.Void (at 1)) (named 6 (codes "f")) []) (block 14 items) ∷ [])

-- the same of one statement in its body
abbrev pub HasStatement : List ℕ → Statement → Type 0
HasStatement text statement = HasItems text (BlockItem.Statement statement ∷ [])

-- the same of the one declaration `int x = ..;`, with this value
abbrev pub HasValue : List ℕ → Expression → Type 0
HasValue text value =
    HasExternals text (objects Storage.Unspecified None (typed 1 (Integer.Int Sign.Signed)) (Declarator.Initialized (named 5 (codes "x")) (Initializer.Value value) ∷ []) ∷ [])
