-- The size of an expression: its nodes, and its weight, a measure of this project's own that bounds the gates of its terms.
use Rattle.std.specs.Prelude.{ℕ, ◌+◌, ◌-◌, ◌*◌, max, Bool, nat_lt, if◌then◌else◌, pos, ◌-ℤ◌}
use Rattle.v_tree.specs.declared.expr.BinaryOp.{BinaryOp}
use Rattle.v_tree.specs.declared.expr.BinaryOp.TheVariants as binary
use Rattle.v_tree.specs.declared.expr.UnaryOp.{UnaryOp}
use Rattle.v_tree.specs.declared.expr.UnaryOp.TheVariants as unary
use Rattle.flat_tree.specs.declared.expr.FlatExpr.{FlatExpr}
use Rattle.flat_tree.specs.declared.expr.FlatExpr as flat
use Rattle.flat_tree.specs.declared.expr.FlatSelection.{FlatSelection}
use Rattle.flat_tree.specs.declared.expr.FlatSelection as selection
use Rattle.flat_tree.specs.Operators.{Form, InContext, Dividing, Comparing, Logical, Shifting, form_of, is_reduction}
use Rattle.flat_tree.specs.Selects.{are_inside, is_word}
use Rattle.flat_tree.specs.Values.{Shape, Meant, own_fixed, is_sure, meant}

-- each node of an expression counts 4 besides its row
abbrev pub node : ℕ
node = 4

-- the row of a binary operator, by the width of its operands and that of the amount
abbrev pub binary_row : BinaryOp → ℕ → ℕ → ℕ
binary_row binary.LogicalOr w v = w + v + 4
binary_row binary.LogicalAnd w v = w + v + 4
binary_row binary.BitOr w v = w
binary_row binary.BitXor w v = 3 * w
binary_row binary.BitXnor w v = 3 * w
binary_row binary.BitAnd w v = w
binary_row binary.Equal w v = 4 * w
binary_row binary.NotEqual w v = 4 * w
binary_row binary.Less w v = 10 * w
binary_row binary.LessEqual w v = 10 * w
binary_row binary.Greater w v = 10 * w
binary_row binary.GreaterEqual w v = 10 * w
binary_row binary.ShiftLeft w v = 40 * max w v
binary_row binary.ShiftRight w v = 40 * max w v
binary_row binary.ArithmeticShiftLeft w v = 40 * max w v
binary_row binary.ArithmeticShiftRight w v = 40 * max w v
binary_row binary.Add w v = 10 * w
binary_row binary.Subtract w v = 10 * w
binary_row binary.Multiply w v = 11 * (w * w)
-- with its site
binary_row binary.Divide w v = 16 * (w * w) + 80 * w + 8 * w
binary_row binary.Remainder w v = 16 * (w * w) + 80 * w + 8 * w

-- the row of a unary operator, by the width of its operand; turning bits round costs no gate
abbrev pub unary_row : UnaryOp → ℕ → ℕ
unary_row unary.Plus w = 0
unary_row unary.Minus w = 10 * w
unary_row unary.BitNot w = 0
unary_row unary.LogicalNot w = w + 4
unary_row unary.ReduceAnd w = 3 * w
unary_row unary.ReduceNand w = 3 * w
unary_row unary.ReduceOr w = 3 * w
unary_row unary.ReduceNor w = 3 * w
unary_row unary.ReduceXor w = 3 * w
unary_row unary.ReduceXnor w = 3 * w

-- the widths at which the operands of a binary operator stand, by that of the whole
abbrev pub left_width : Form → ℕ → ℕ → ℕ → ℕ
left_width InContext w a b = w
left_width Dividing w a b = w
left_width Comparing w a b = max a b
left_width Logical w a b = a
left_width Shifting w a b = w

-- the same for the right operand
abbrev pub right_width : Form → ℕ → ℕ → ℕ → ℕ
right_width InContext w a b = w
right_width Dividing w a b = w
right_width Comparing w a b = max a b
right_width Logical w a b = b
right_width Shifting w a b = b

-- the greatest of three
abbrev pub greatest : ℕ → ℕ → ℕ → ℕ
greatest a b c = max a (max b c)

-- a select of n bits of w by an index of v bits: whether its index is constant, and whether it has a site
abbrev pub select_row : Bool → Bool → ℕ → ℕ → ℕ → ℕ
select_row fixed sure w v n = (if fixed then 0 else 40 * greatest w v n) + (if sure then 0 else 45 * greatest w v n + 8 * w)

-- a word of w bits of a memory of l words, by an index of v bits
abbrev pub word_row : Bool → ℕ → ℕ → ℕ → ℕ
word_row sure l w v = l * (v + 2 * w) + (if sure then 0 else 20 * v + 8 * w)

-- n bits of w from an index on
abbrev pub bits_row : ℕ → ℕ → ℕ → Meant → ℕ
bits_row n w lowest i = select_row (own_fixed i) (is_sure (λ at. are_inside n w (at -ℤ pos lowest)) i) w i.length n

-- a select by one index: a word of a memory, or a bit of a vector
abbrev pub index_row : Shape → Meant → ℕ
index_row s i = if nat_lt 0 s.words then word_row (is_sure (is_word s.words) i) s.words s.bits i.length else bits_row 1 s.bits s.low i

-- a word of a memory whose index isn't constant counts as many nodes as the memory has words
abbrev pub word_nodes : Shape → Meant → ℕ
word_nodes s i = if nat_lt 0 s.words then (if own_fixed i then 1 else s.words) else 1

module _ (shapes : ℕ → Shape) where
  abbrev mutual
    -- parentheses count as nodes, an expression that must be constant doesn't
    pub nodes_of : FlatExpr → ℕ
    nodes_of (flat.Literal n) = 1
    nodes_of (flat.Signal place g) = 1
    nodes_of (flat.Select place g s) = select_nodes g s
    nodes_of (flat.SelectNumber place c low s) = 1 + index_nodes s
    nodes_of (flat.Unary' operator _ (flat.more_of-FlatExpr a _)) = 1 + nodes_of a
    nodes_of (flat.Binary' _ (flat.more_of-FlatExpr a _) operator _ (flat.more_of-FlatExpr b _)) = 1 + (nodes_of a + nodes_of b)
    nodes_of (flat.Conditional' _ (flat.more_of-FlatExpr c _) _ (flat.more_of-FlatExpr a _) _ (flat.more_of-FlatExpr b _)) = 1 + (nodes_of c + (nodes_of a + nodes_of b))
    nodes_of (flat.Parentheses' place _ (flat.more_of-FlatExpr a _)) = 1 + nodes_of a
    nodes_of (flat.Concatenation' place _ parts) = 1 + parts_nodes parts
    nodes_of (flat.Replication' place c _ parts) = 1 + parts_nodes parts
    nodes_of (flat.Signed' place _ (flat.more_of-FlatExpr a _)) = 1 + nodes_of a
    nodes_of (flat.Unsigned' place _ (flat.more_of-FlatExpr a _)) = 1 + nodes_of a

    -- a select of a signal, with its index
    pub select_nodes : ℕ → FlatSelection → ℕ
    select_nodes g (selection.Bit' _ (flat.more_of-FlatExpr i _)) = word_nodes (shapes g) (meant shapes i) + nodes_of i
    select_nodes g (selection.Part high low) = 1
    select_nodes g (selection.Up' _ (flat.more_of-FlatExpr i _) n) = 1 + nodes_of i
    select_nodes g (selection.Down' _ (flat.more_of-FlatExpr i _) n) = 1 + nodes_of i

    -- the index of a select, if it has one
    pub index_nodes : FlatSelection → ℕ
    index_nodes (selection.Bit' _ (flat.more_of-FlatExpr i _)) = nodes_of i
    index_nodes (selection.Part high low) = 0
    index_nodes (selection.Up' _ (flat.more_of-FlatExpr i _) n) = nodes_of i
    index_nodes (selection.Down' _ (flat.more_of-FlatExpr i _) n) = nodes_of i

    -- the parts of a concatenation
    pub parts_nodes : {m : _} → flat.Row_of-FlatExpr m → ℕ
    parts_nodes flat.end_of-FlatExpr = 0
    parts_nodes (flat.more_of-FlatExpr a rest) = nodes_of a + parts_nodes rest

  abbrev mutual
    -- the weight at a width; parentheses have none
    pub weight_of : FlatExpr → ℕ → ℕ
    weight_of (flat.Literal n) w = node
    weight_of (flat.Signal place g) w = node
    weight_of (flat.Select place g s) w = select_weight g s + node
    weight_of (flat.SelectNumber place c low s) w = number_weight c.width low s + node
    weight_of (flat.Unary' operator _ (flat.more_of-FlatExpr a _)) w =
        let x = if is_reduction operator.op then (meant shapes a).length else w in
        weight_of a x + unary_row operator.op x + node
    weight_of (flat.Binary' _ (flat.more_of-FlatExpr a _) operator _ (flat.more_of-FlatExpr b _)) w =
        let m = (meant shapes a).length in
        let n = (meant shapes b).length in
        let x = left_width (form_of operator.op) w m n in
        let y = right_width (form_of operator.op) w m n in
        weight_of a x + weight_of b y + binary_row operator.op x y + node
    weight_of (flat.Conditional' _ (flat.more_of-FlatExpr c _) _ (flat.more_of-FlatExpr a _) _ (flat.more_of-FlatExpr b _)) w =
        let v = (meant shapes c).length in
        weight_of c v + (weight_of a w + weight_of b w) + (3 * w + v) + node
    weight_of (flat.Parentheses' place _ (flat.more_of-FlatExpr a _)) w = weight_of a w
    weight_of (flat.Concatenation' place _ parts) w = parts_weight parts + node
    weight_of (flat.Replication' place c _ parts) w = parts_weight parts + node
    weight_of (flat.Signed' place _ (flat.more_of-FlatExpr a _)) w = weight_of a (meant shapes a).length + node
    weight_of (flat.Unsigned' place _ (flat.more_of-FlatExpr a _)) w = weight_of a (meant shapes a).length + node

    -- a select of a signal: its index, and the choice by it
    pub select_weight : ℕ → FlatSelection → ℕ
    select_weight g (selection.Bit' _ (flat.more_of-FlatExpr i _)) = weight_of i (meant shapes i).length + index_row (shapes g) (meant shapes i)
    select_weight g (selection.Part high low) = 0
    select_weight g (selection.Up' _ (flat.more_of-FlatExpr i _) n) = weight_of i (meant shapes i).length + bits_row n (shapes g).bits (shapes g).low (meant shapes i)
    select_weight g (selection.Down' _ (flat.more_of-FlatExpr i _) n) =
        weight_of i (meant shapes i).length + bits_row n (shapes g).bits ((shapes g).low + (n - 1)) (meant shapes i)

    -- a select of a number: its index, and the choice by it
    pub number_weight : ℕ → ℕ → FlatSelection → ℕ
    number_weight w low (selection.Bit' _ (flat.more_of-FlatExpr i _)) = weight_of i (meant shapes i).length + bits_row 1 w low (meant shapes i)
    number_weight w low (selection.Part high from) = 0
    number_weight w low (selection.Up' _ (flat.more_of-FlatExpr i _) n) = weight_of i (meant shapes i).length + bits_row n w low (meant shapes i)
    number_weight w low (selection.Down' _ (flat.more_of-FlatExpr i _) n) = weight_of i (meant shapes i).length + bits_row n w (low + (n - 1)) (meant shapes i)

    -- each part at its own length
    pub parts_weight : {m : _} → flat.Row_of-FlatExpr m → ℕ
    parts_weight flat.end_of-FlatExpr = 0
    parts_weight (flat.more_of-FlatExpr a rest) = weight_of a (meant shapes a).length + parts_weight rest
