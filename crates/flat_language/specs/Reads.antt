-- Which bits a flat expression reads, and the words of a view by bits. What a select reads by an index that isn't constant
-- is judged from the text: all bits of the name and of the index.
use Rattle.std.specs.Prelude.{ℕ, zero, suc, ◌+◌, ◌-◌, ◌*◌, Bool, false, ◌&&◌, ◌||◌, nat_lt, nat_le, if◌then◌else◌, ℤ, pos, ◌-ℤ◌}
use Rattle.v_views.specs.Spots.{is_among, range_at, word_at, Spot, View, spot, is_bit_of}
use Rattle.v_views.specs.Spots as spots
use Rattle.flat_tree.specs.Values.{meant, own_fixed, index_of, blank, Shape, World}
use Rattle.flat_tree.specs.declared.expr.FlatExpr.{FlatExpr}
use Rattle.flat_tree.specs.declared.expr.FlatExpr as flat
use Rattle.flat_tree.specs.declared.expr.FlatSelection.{FlatSelection}
use Rattle.flat_tree.specs.declared.expr.FlatSelection as selection

-- the number of the first w bits
abbrev pub number : ℕ → (ℕ → Bool) → ℕ
number zero f = 0
number (suc w) f = (if f 0 then 1 else 0) + 2 * number w (λ k. f (suc k))

-- what a view needs to know of a signal
abbrev pub shape_of : Shape → spots.Shape
shape_of s = record { bits = s.bits; low = s.low; words = s.words }

module _ (shapes : ℕ → Shape) where
  -- the words of a view
  abbrev pub world : View → (ℕ → ℕ) → World
  world v u = record { word = λ g i. number (shapes g).bits (λ k. v (spot g i k)); unknown = u }

  -- the bits from a high end down to a low end
  abbrev pub is_part : ℕ → ℕ → ℕ → Spot → Bool
  is_part g high low x = is_bit_of (shape_of (shapes g)) g x && (nat_le (low - (shapes g).low) x.bit && nat_lt x.bit (low - (shapes g).low + (high - low + 1)))

  -- n bits of a vector by an index
  abbrev pub span_read : ℕ → ℕ → ℕ → ℤ → Spot → Bool
  span_read g n lowest at x = is_among (range_at (shape_of (shapes g)) g (at -ℤ pos lowest) n) x

  -- a bit of a vector, or a word of a memory
  abbrev pub at_read : ℕ → ℤ → Spot → Bool
  at_read g at x = if nat_lt 0 (shapes g).words then is_among (word_at (shape_of (shapes g)) g at) x else span_read g 1 (shapes g).low at x

  -- the value of an index that is constant
  abbrev pub index_at : FlatExpr → ℤ
  index_at i = index_of (meant shapes i) blank 0

  -- an index whose value no signal changes
  abbrev pub is_constant : FlatExpr → Bool
  is_constant i = own_fixed (meant shapes i)

  abbrev mutual
    -- whether the value of an expression is looked up from a bit: each operand counts, also one that isn't chosen
    pub reads : FlatExpr → Spot → Bool
    reads (flat.Literal n) x = false
    reads (flat.Signal place g) x = is_bit_of (shape_of (shapes g)) g x
    reads (flat.Select place g s) x = select_reads g s x
    reads (flat.SelectNumber place c low s) x = index_reads s x
    reads (flat.Unary' operator _ (flat.more_of-FlatExpr a _)) x = reads a x
    reads (flat.Binary' _ (flat.more_of-FlatExpr a _) operator _ (flat.more_of-FlatExpr b _)) x = reads a x || reads b x
    reads (flat.Conditional' _ (flat.more_of-FlatExpr c _) _ (flat.more_of-FlatExpr a _) _ (flat.more_of-FlatExpr b _)) x = reads c x || (reads a x || reads b x)
    reads (flat.Parentheses' place _ (flat.more_of-FlatExpr a _)) x = reads a x
    reads (flat.Concatenation' place _ parts) x = parts_read parts x
    reads (flat.Replication' place c _ parts) x = parts_read parts x
    reads (flat.Signed' place _ (flat.more_of-FlatExpr a _)) x = reads a x
    reads (flat.Unsigned' place _ (flat.more_of-FlatExpr a _)) x = reads a x

    -- a part or a constant index reads its bits; any other select all bits of the name and those of the index
    pub select_reads : ℕ → FlatSelection → Spot → Bool
    select_reads g (selection.Part high low) x = is_part g high low x
    select_reads g (selection.Bit' _ (flat.more_of-FlatExpr i _)) x = if is_constant i then at_read g (index_at i) x else is_bit_of (shape_of (shapes g)) g x || reads i x
    select_reads g (selection.Up' _ (flat.more_of-FlatExpr i _) n) x = if is_constant i then span_read g n (shapes g).low (index_at i) x else is_bit_of (shape_of (shapes g)) g x || reads i x
    select_reads g (selection.Down' _ (flat.more_of-FlatExpr i _) n) x = if is_constant i then span_read g n ((shapes g).low + (n - 1)) (index_at i) x else is_bit_of (shape_of (shapes g)) g x || reads i x

    -- a select of a number reads what its index reads
    pub index_reads : FlatSelection → Spot → Bool
    index_reads (selection.Part high low) x = false
    index_reads (selection.Bit' _ (flat.more_of-FlatExpr i _)) x = reads i x
    index_reads (selection.Up' _ (flat.more_of-FlatExpr i _) n) x = reads i x
    index_reads (selection.Down' _ (flat.more_of-FlatExpr i _) n) x = reads i x

    -- the parts of a concatenation
    pub parts_read : {m : _} → flat.Row_of-FlatExpr m → Spot → Bool
    parts_read flat.end_of-FlatExpr x = false
    parts_read (flat.more_of-FlatExpr a rest) x = reads a x || parts_read rest x
