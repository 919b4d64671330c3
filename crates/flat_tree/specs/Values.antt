-- Flat expressions (IEEE 1364-2005, 5.4 and 5.5): the length and the sign that they have by themselves, and their value at
-- a width and a sign that are handed down. What the standard calls unknown is a number of its site, which may be any.
-- Sites are numbered in the order of the text.
use Rattle.std.specs.Prelude.{ℕ, ◌+◌, ◌-◌, ◌*◌, ◌/◌, ◌%◌, ◌^◌, max, List, [], ◌∷◌, ◌++◌, length, Bool, true, false, ◌&&◌, not, nat_eq, nat_lt, if◌then◌else◌, ℤ, pos, ◌-ℤ◌}
use Rattle.bits_core.specs.Word.{Word, resized, number, at_zero}
use Rattle.src_text.specs.declared.refusal.Place.{Place}
use Rattle.v_tree.specs.declared.expr.BinaryOp.{BinaryOp}
use Rattle.v_tree.specs.declared.expr.UnaryOp.{UnaryOp}
use Rattle.flat_tree.specs.declared.expr.FlatExpr.{FlatExpr}
use Rattle.flat_tree.specs.declared.expr.FlatExpr as flat
use Rattle.flat_tree.specs.declared.expr.FlatSelection.{FlatSelection}
use Rattle.flat_tree.specs.declared.expr.FlatSelection as selection
use Rattle.flat_tree.specs.declared.expr.PlacedSite.{PlacedSite}
use Rattle.flat_tree.specs.Operators.{Form, InContext, Dividing, Comparing, Logical, Shifting, form_of, truth, binary_value, is_reduction, unary_value, repeated}
use Rattle.flat_tree.specs.Selects.{bits_read, word_read, are_inside, is_word}

-- what is known of a signal; `words` is 0 for what is no memory
pub record Shape : Type 0 where
  pub bits : ℕ
  pub signed : Bool
  pub low : ℕ
  pub words : ℕ

-- the words of the signals, and the numbers of the sites
pub record World : Type 0 where
  pub word : (signal index : ℕ) → ℕ
  pub unknown : ℕ → ℕ

-- one in which all is 0: it serves for what is constant
abbrev pub blank : World
blank = record { word = λ g i. 0; unknown = λ k. 0 }

-- a site's numbers: one of over 64 bits takes two, the low 64 bits first
abbrev pub site_at : Place → ℕ → List PlacedSite
site_at place w =
    if nat_lt 64 w
    then (record { place = place; bits = 64 }) ∷ (record { place = place; bits = w - 64 }) ∷ []
    else (record { place = place; bits = w }) ∷ []

-- how many numbers a site of so many bits takes
abbrev pub numbers_of : ℕ → ℕ
numbers_of w = if nat_lt 64 w then 2 else 1

-- the number of w bits that they make, from the k-th on
abbrev pub site_number : (ℕ → ℕ) → ℕ → ℕ → ℕ
site_number u w k = if nat_lt 64 w then (u (k + 1) % 2 ^ (w - 64)) * 2 ^ 64 + u k % 2 ^ 64 else u k % 2 ^ w

-- an expression: its length and sign by itself; its sites, whether it is constant, and its value, at a width and a sign.
-- It is constant where it names no signal and holds no division by 0 and no read out of range. The numbers of its
-- sites are those from one on.
pub record Meant : Type 0 where
  pub length : ℕ
  pub signed : Bool
  pub sites : ℕ → List PlacedSite
  pub fixed : ℕ → Bool → Bool
  pub value : World → ℕ → Bool → ℕ → ℕ

-- how many numbers the sites of an expression take, at a width
abbrev pub count : Meant → ℕ → ℕ
count m w = length (m.sites w)

-- an expression by itself
abbrev pub own_sites : Meant → List PlacedSite
own_sites m = m.sites m.length

-- and how many at its own length
abbrev pub own_count : Meant → ℕ
own_count m = length (own_sites m)

-- whether it is constant, at its own length and sign
abbrev pub own_fixed : Meant → Bool
own_fixed m = m.fixed m.length m.signed

-- its value at its own length and sign, its sites' numbers from one on (5.4, 5.5)
abbrev pub own_value : Meant → World → ℕ → ℕ
own_value m x k = m.value x m.length m.signed k

-- a part whose operands get no context: it has its value at its own length, and is then extended by the sign that is
-- handed down, or cut
abbrev pub standing : ℕ → Bool → List PlacedSite → Bool → (World → ℕ → ℕ) → Meant
standing l s sites fixed v = record {
  length = l;
  signed = s;
  sites = λ w. sites;
  fixed = λ w t. fixed;
  value = λ x w t k. resized w t l (v x k);
}

-- a literal of a length, a sign and a number (3.5.1)
abbrev pub literal : ℕ → Bool → ℕ → Meant
literal l s n = standing l s [] true (λ x k. n)

-- both operands at the width and sign of the whole
abbrev pub both_at : (ℕ → Bool → ℕ → ℕ → ℕ) → Meant → Meant → Meant
both_at f a b = record {
  length = max a.length b.length;
  signed = a.signed && b.signed;
  sites = λ w. a.sites w ++ b.sites w;
  fixed = λ w s. a.fixed w s && b.fixed w s;
  value = λ x w s k. f w s (a.value x w s k) (b.value x w s (k + count a w));
}

-- so too, with a site at the operator, whose number is what a division by 0 gives
abbrev pub divided_at : Place → (ℕ → Bool → ℕ → ℕ → ℕ) → Meant → Meant → Meant
divided_at place f a b = record {
  length = max a.length b.length;
  signed = a.signed && b.signed;
  sites = λ w. a.sites w ++ (site_at place w ++ b.sites w);
  fixed = λ w s. a.fixed w s && (b.fixed w s && not (nat_eq (b.value blank w s 0) 0));
  value = λ x w s k.
      let at = k + count a w in
      let right = b.value x w s (at + numbers_of w) in
      at_zero right (site_number x.unknown w at) (f w s (a.value x w s k) right);
}

-- both operands at the greater of their lengths, signed if both are
abbrev pub compared : (ℕ → Bool → ℕ → ℕ → ℕ) → Meant → Meant → Meant
compared f a b =
    let w = max a.length b.length in
    let s = a.signed && b.signed in
    standing 1 false (a.sites w ++ b.sites w) (a.fixed w s && b.fixed w s) (λ x k. f w s (a.value x w s k) (b.value x w s (k + count a w)))

-- each operand by itself
abbrev pub joined_by : (ℕ → ℕ → ℕ) → ℕ → Meant → Meant → Meant
joined_by f l a b =
    standing l false (own_sites a ++ own_sites b) (own_fixed a && own_fixed b) (λ x k. f (own_value a x k) (own_value b x (k + own_count a)))

-- the left operand at the width and sign of the whole, the amount by itself
abbrev pub shifted : (ℕ → Bool → ℕ → ℕ → ℕ) → Meant → Meant → Meant
shifted f a b = record {
  length = a.length;
  signed = a.signed;
  sites = λ w. a.sites w ++ own_sites b;
  fixed = λ w s. a.fixed w s && own_fixed b;
  value = λ x w s k. f w s (a.value x w s k) (own_value b x (k + count a w));
}

-- a binary operator, by what its form does with the width and the sign of its operands (5.4.1, 5.5.2)
abbrev pub binary_by : Form → Place → (ℕ → Bool → ℕ → ℕ → ℕ) → Meant → Meant → Meant
binary_by InContext place f a b = both_at f a b
binary_by Dividing place f a b = divided_at place f a b
binary_by Comparing place f a b = compared f a b
binary_by Logical place f a b = joined_by (f 1 false) 1 a b
binary_by Shifting place f a b = shifted f a b

-- a binary operator between two operands
abbrev pub binary_meant : Place → BinaryOp → Meant → Meant → Meant
binary_meant place op a b = binary_by (form_of op) place (binary_value op) a b

-- an operand at the width and sign of the whole
abbrev pub kept_by : (ℕ → ℕ → ℕ) → Meant → Meant
kept_by f a = record { length = a.length; signed = a.signed; sites = a.sites; fixed = a.fixed; value = λ x w s k. f w (a.value x w s k) }

-- an operand by itself, of which one bit is made
abbrev pub reduced_by : (ℕ → ℕ → ℕ) → Meant → Meant
reduced_by f a = standing 1 false (own_sites a) (own_fixed a) (λ x k. f a.length (own_value a x k))

-- a unary operator: a reduction, or one that keeps its operand's width (5.1.10, 5.1.11)
abbrev pub unary_meant : UnaryOp → Meant → Meant
unary_meant op a = if is_reduction op then reduced_by (unary_value op) a else kept_by (unary_value op) a

-- the condition by itself, the branches at the width and sign of the whole (5.1.13)
abbrev pub conditional : Meant → Meant → Meant → Meant
conditional c a b = record {
  length = max a.length b.length;
  signed = a.signed && b.signed;
  sites = λ w. own_sites c ++ (a.sites w ++ b.sites w);
  fixed = λ w s. own_fixed c && (a.fixed w s && b.fixed w s);
  value = λ x w s k.
      let first = k + own_count c in
      if truth (own_value c x k) then a.value x w s first else b.value x w s (first + count a w);
}

-- the left one has the high bits (5.1.14)
abbrev pub beside : Meant → Meant → Meant
beside a b = joined_by (λ m n. m * 2 ^ b.length + n) (a.length + b.length) a b

-- an expression of no bits, by which concatenations begin
abbrev pub nothing : Meant
nothing = literal 0 false 0

-- so many copies of one value, whose sites stand once
abbrev pub replicated : ℕ → Meant → Meant
replicated c m = standing (c * m.length) false (own_sites m) (own_fixed m) (λ x k. repeated c m.length (own_value m x k))

-- `$signed` and `$unsigned` (5.5)
abbrev pub cast : Bool → Meant → Meant
cast s m = standing m.length s (own_sites m) (own_fixed m) (own_value m)

-- an index is read by its own sign
abbrev pub index_of : Meant → World → ℕ → ℤ
index_of i x k = number i.signed i.length (own_value i x k)

-- whether an index is constant, and all that is read by it is in range
abbrev pub is_sure : (ℤ → Bool) → Meant → Bool
is_sure inside i = own_fixed i && inside (index_of i blank 0)

-- a select of so many bits by an index, what is read being given by the index and the site's number: the site comes
-- before those of the index, and there is none where nothing is read out of range
abbrev pub indexed : Bool → Place → ℕ → Bool → Bool → Meant → (World → ℤ → ℕ → ℕ) → Meant
indexed sure place n signed fixed i read =
    standing n signed (if sure then own_sites i else site_at place n ++ own_sites i) (sure && fixed)
    (λ x k. if sure then read x (index_of i x k) 0 else read x (index_of i x (k + numbers_of n)) (site_number x.unknown n k))

-- n bits of a word of w bits, whose lowest bit is named by an index
abbrev pub bits_by : Place → ℕ → ℕ → ℕ → Bool → (World → ℕ) → Meant → Meant
bits_by place n w lowest fixed word i =
    indexed (is_sure (λ at. are_inside n w (at -ℤ pos lowest)) i) place n false fixed i (λ x at site. bits_read n w (word x) site (at -ℤ pos lowest))

-- a word of a memory by its index (4.9, 5.2.2)
abbrev pub word_by : Place → Shape → ℕ → Meant → Meant
word_by place s g i = indexed (is_sure (is_word s.words) i) place s.bits s.signed false i (λ x at site. word_read (x.word g) s.words site at)

-- `[index]` of a signal: a word of a memory, or a bit
abbrev pub by_index : Place → Shape → ℕ → Meant → Meant
by_index place s g i = if nat_lt 0 s.words then word_by place s g i else bits_by place 1 s.bits s.low false (λ x. x.word g 0) i

-- `[high : low]` of a word whose range begins at a low end
abbrev pub part_of : ℕ → ℕ → ℕ → ℕ → ℕ
part_of n high low begin = n / 2 ^ (low - begin) % 2 ^ (high - low + 1)

module _ (shapes : ℕ → Shape) where
  abbrev mutual
    -- what an expression means, by what is known of the signals
    pub meant : FlatExpr → Meant
    meant (flat.Literal n) = literal n.word.width n.signed n.word.value
    meant (flat.Signal place g) = standing (shapes g).bits (shapes g).signed [] false (λ x k. x.word g 0)
    meant (flat.Select place g s) = select_meant place g s
    meant (flat.SelectNumber place c low s) = number_meant place c low s
    meant (flat.Unary' operator _ (flat.more_of-FlatExpr a _)) = unary_meant operator.op (meant a)
    meant (flat.Binary' _ (flat.more_of-FlatExpr a _) operator _ (flat.more_of-FlatExpr b _)) = binary_meant operator.place operator.op (meant a) (meant b)
    meant (flat.Conditional' _ (flat.more_of-FlatExpr c _) _ (flat.more_of-FlatExpr a _) _ (flat.more_of-FlatExpr b _)) = conditional (meant c) (meant a) (meant b)
    meant (flat.Parentheses' place _ (flat.more_of-FlatExpr a _)) = meant a
    meant (flat.Concatenation' place _ parts) = parts_meant parts
    meant (flat.Replication' place c _ parts) = replicated c (parts_meant parts)
    meant (flat.Signed' place _ (flat.more_of-FlatExpr a _)) = cast true (meant a)
    meant (flat.Unsigned' place _ (flat.more_of-FlatExpr a _)) = cast false (meant a)

    -- a select of a signal
    pub select_meant : Place → ℕ → FlatSelection → Meant
    select_meant place g (selection.Bit' _ (flat.more_of-FlatExpr i _)) = by_index place (shapes g) g (meant i)
    select_meant place g (selection.Part high low) = standing (high - low + 1) false [] false (λ x k. part_of (x.word g 0) high low (shapes g).low)
    select_meant place g (selection.Up' _ (flat.more_of-FlatExpr i _) n) = bits_by place n (shapes g).bits (shapes g).low false (λ x. x.word g 0) (meant i)
    select_meant place g (selection.Down' _ (flat.more_of-FlatExpr i _) n) =
        bits_by place n (shapes g).bits ((shapes g).low + (n - 1)) false (λ x. x.word g 0) (meant i)

    -- a select of a number that is known
    pub number_meant : Place → Word → ℕ → FlatSelection → Meant
    number_meant place c low (selection.Bit' _ (flat.more_of-FlatExpr i _)) = bits_by place 1 c.width low true (λ x. c.value) (meant i)
    number_meant place c low (selection.Part high from) = literal (high - from + 1) false (part_of c.value high from low)
    number_meant place c low (selection.Up' _ (flat.more_of-FlatExpr i _) n) = bits_by place n c.width low true (λ x. c.value) (meant i)
    number_meant place c low (selection.Down' _ (flat.more_of-FlatExpr i _) n) = bits_by place n c.width (low + (n - 1)) true (λ x. c.value) (meant i)

    -- parts side by side, the first on the left (5.1.14)
    pub parts_meant : {m : _} → flat.Row_of-FlatExpr m → Meant
    parts_meant flat.end_of-FlatExpr = nothing
    parts_meant (flat.more_of-FlatExpr a rest) = beside (meant a) (parts_meant rest)

  -- the length and the sign that an expression has by itself (5.4.1, 5.5.1)
  abbrev pub length_of : FlatExpr → ℕ
  length_of e = let m = meant e in m.length

  -- whether it is signed by itself
  abbrev pub is_signed : FlatExpr → Bool
  is_signed e = let m = meant e in m.signed

  -- its sites at a width
  abbrev pub sites_of : FlatExpr → ℕ → List PlacedSite
  sites_of e w = let m = meant e in m.sites w

  -- whether it is constant at a width and a sign
  abbrev pub is_fixed : FlatExpr → ℕ → Bool → Bool
  is_fixed e w s = let m = meant e in m.fixed w s

  -- its value at a width and a sign (5.4.2, 5.5.2), its first site having a number
  abbrev pub value_in : FlatExpr → World → ℕ → Bool → ℕ → ℕ
  value_in e x w s k = let m = meant e in m.value x w s k
