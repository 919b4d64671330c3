-- Worked rows, over expressions that are numbers or whole names.
use Rattle.std.proofs.Common.{◌≡◌, ℕ, zero, suc, ◌+◌, ◌^◌, List, [], ◌∷◌, Bool, true, false, eqb, refl, ap, ◌∙◌}
use Rattle.std.specs.Prelude.{◌&&◌, ◌||◌, if◌then◌else◌}
use Rattle.src_text.specs.declared.refusal.Place.{Place}
use Rattle.v_tree.specs.declared.stmt.AssignmentKind.TheVariants.{Blocking, Nonblocking}
use Rattle.v_views.specs.declared.Selection.TheVariants as selection
use Rattle.v_views.specs.declared.Target.{Target}
use Rattle.v_views.specs.declared.Target as target
use Rattle.v_views.specs.declared.Pattern.{Pattern}
use Rattle.v_views.specs.declared.Stmt.{Stmt}
use Rattle.v_views.specs.declared.Stmt as stmt
use Rattle.v_views.specs.declared.CaseItem.{CaseItem}
use Rattle.v_views.specs.declared.CaseItem as item
use Rattle.v_views.specs.Spots.{Spot, View, Shape, spot}
use Rattle.v_views.specs.Language.{Language}
use Rattle.v_views.specs.Run.{run}
use Rattle.v_views.specs.Names.{blank, no_sites, certain, outside}
use Rattle.v_views.specs.Frames.{at_rest, updated}
use Rattle.v_views.proofs.Bools.{both, or_left, or_right}
use Rattle.std.proofs.lemmas.Bool.Decides.{Decides-eqb}

data Toy : Type 0 where
  Number : ℕ → ℕ → Toy
  Name : ℕ → Toy

-- bits of word 0 of a signal, the highest first
abbrev word_of : View → ℕ → ℕ → ℕ
word_of v g zero = 0
word_of v g (suc n) = (if v (spot g 0 n) then 2 ^ n else 0) + word_of v g n

abbrev reads_name : ℕ → ℕ → Spot → Bool
reads_name g zero x = false
reads_name g (suc n) x = (eqb g x.signal && (eqb 0 x.word && eqb n x.bit)) || reads_name g n x

word_local : (v w : View) (g n : ℕ) → ((x : Spot) → reads_name g n x ≡ true → v x ≡ w x) → word_of v g n ≡ word_of w g n
word_local v w g zero h = refl
word_local v w g (suc n) h =
    ap (λ b. (if b then 2 ^ n else 0) + word_of v g n) (h (spot g 0 n) (or_left _ (reads_name g n (spot g 0 n)) (both (eqb g g) (eqb 0 0 && eqb n n) (eqb_same g) (both (eqb 0 0) (eqb n n) refl (eqb_same n)))))
    ∙ ap (λ m. (if w (spot g 0 n) then 2 ^ n else 0) + m) (word_local v w g n (λ x r. h x (or_right (eqb g x.signal && (eqb 0 x.word && eqb n x.bit)) (reads_name g n x) r)))
  where
    eqb_same : (n : ℕ) → eqb n n ≡ true
    eqb_same n = (Decides-eqb n n).1 refl

-- signal 7 is a memory of 2 words, signal 8 has the range [5:2], all others have the range [3:0]
abbrev shape_of : ℕ → Shape
shape_of g = if eqb g 7 then record { bits = 4; low = 0; words = 2 } else if eqb g 8 then record { bits = 4; low = 2; words = 0 } else record { bits = 4; low = 0; words = 0 }

abbrev toy_length : Toy → ℕ
toy_length (Number w n) = w
toy_length (Name g) = 4

abbrev toy_fixed : Toy → ℕ → Bool → Bool
toy_fixed (Number a n) w sign = true
toy_fixed (Name g) w sign = false

abbrev toy_reads : Toy → Spot → Bool
toy_reads (Number w n) x = false
toy_reads (Name g) x = reads_name g 4 x

abbrev toy_value : Toy → View → (ℕ → ℕ) → ℕ → Bool → ℕ → ℕ
toy_value (Number w n) v u width s k = n
toy_value (Name g) v u width s k = word_of v g 4

toy_local : (e : Toy) (v w : View) (u : ℕ → ℕ) (width : ℕ) (s : Bool) (k : ℕ) → ((x : Spot) → toy_reads e x ≡ true → v x ≡ w x) → toy_value e v u width s k ≡ toy_value e w u width s k
toy_local (Number a n) v w u width s k h = refl
toy_local (Name g) v w u width s k h = word_local v w g 4 h

toy_steady : (e : Toy) (v w : View) (u t : ℕ → ℕ) (width : ℕ) (s : Bool) (j k : ℕ) → toy_fixed e width s ≡ true → toy_value e v u width s j ≡ toy_value e w t width s k
toy_steady (Number a n) v w u t width s j k h = refl
toy_steady (Name g) v w u t width s j k h = cc

abbrev toy : Language Toy
toy = record {
  shape = shape_of;
  length = toy_length;
  signed = λ e. false;
  sites = λ e w. 0;
  fixed = toy_fixed;
  reads = toy_reads;
  value = toy_value;
  local = toy_local;
  steady = toy_steady;
}

abbrev here : Place
here = record { line = 1; column = 1 }

abbrev whole : ℕ → Target Toy
whole g = target.Signal here g selection.Whole

abbrev bit_of_name : ℕ → Toy → Target Toy
bit_of_name g i = target.Signal here g (selection.Bit i)

abbrev pair : Target Toy → Target Toy → Target Toy
pair a b = target.Concatenation' here (tt ∷ tt ∷ []) (target.more_of-Target a (target.more_of-Target b target.end_of-Target))

abbrev set : Target Toy → Toy → Stmt Toy
set t e = stmt.Assignment here Blocking t e

abbrev later : Target Toy → Toy → Stmt Toy
later t e = stmt.Assignment here Nonblocking t e

abbrev two : Stmt Toy → Stmt Toy → Stmt Toy
two a b = stmt.Block' here (tt ∷ tt ∷ []) (stmt.more_of-Stmt a (stmt.more_of-Stmt b stmt.end_of-Stmt))

abbrev after : Stmt Toy → View → View
after s v = (run toy no_sites s 0 (at_rest v)).view

abbrev after_all : Stmt Toy → View → View
after_all s v = updated (run toy no_sites s 0 (at_rest v))

-- `{a, b} = 8'h21`: the leftmost part takes the highest bits
left_is_high : word_of (after (set (pair (whole 0) (whole 1)) (Number 8 33)) blank) 0 4 ≡ 2
left_is_high = refl

right_is_low : word_of (after (set (pair (whole 0) (whole 1)) (Number 8 33)) blank) 1 4 ≡ 1
right_is_low = refl

-- `{i, a[i]} = 5'b00111`, i being 0: the index is evaluated before i is written
index_before : word_of (after (set (pair (whole 2) (bit_of_name 0 (Name 2))) (Number 5 7)) blank) 0 4 ≡ 1
index_before = refl

-- `a = 1; a <= 2;` and `a <= 2; a = 1;` both end with 2
later_wins : word_of (after_all (two (later (whole 0) (Number 4 2)) (set (whole 0) (Number 4 1))) blank) 0 4 ≡ 2
later_wins = refl

-- `x[1 +: 3] = 7` of `[5:2]`: the bit below the range is ignored
partly_out : word_of (after (set (target.Signal here 8 (selection.Up (Number 32 1) 3)) (Number 3 7)) blank) 8 4 ≡ 3
partly_out = refl

-- a word of a memory out of range
word_out : after (set (bit_of_name 7 (Number 32 2)) (Number 4 15)) blank (spot 7 1 0) ≡ false
word_out = refl

word_in : after (set (bit_of_name 7 (Number 32 1)) (Number 4 15)) blank (spot 7 1 3) ≡ true
word_in = refl

-- a value of a case item; the bits of `loose` don't count
abbrev value : ℕ → ℕ → ℕ → Pattern Toy
value bits n loose = record { value = Number bits n; loose = record { width = 128; value = loose } }

abbrev one_item : List (Pattern Toy) → Stmt Toy → CaseItem Toy
one_item ps s = item.Values' ps tt (stmt.more_of-Stmt s stmt.end_of-Stmt)

-- `casez (n) default: a = 1; 4'b1???: a = 2; 4'b11??, 4'b01??: a = 3; endcase`
abbrev choose : ℕ → Stmt Toy
choose n = stmt.Case' here (Number 4 n) (tt ∷ tt ∷ tt ∷ [])
    (stmt.more_of-CaseItem (item.Default' here tt (stmt.more_of-Stmt (set (whole 0) (Number 4 1)) stmt.end_of-Stmt))
    (stmt.more_of-CaseItem (one_item (value 4 8 7 ∷ []) (set (whole 0) (Number 4 2)))
    (stmt.more_of-CaseItem (one_item (value 4 12 3 ∷ value 4 4 3 ∷ []) (set (whole 0) (Number 4 3)))
    stmt.end_of-CaseItem)))

-- the first match runs, though a later item matches too
first_runs : word_of (after (choose 13) blank) 0 4 ≡ 2
first_runs = refl

second_runs : word_of (after (choose 5) blank) 0 4 ≡ 3
second_runs = refl

-- the default runs where none matches, though it stands first
default_runs : word_of (after (choose 2) blank) 0 4 ≡ 1
default_runs = refl

-- each branch of a case with a default assigns the whole name
full_by_default : certain toy (choose 0) (spot 0 0 3) ≡ true
full_by_default = refl

-- `case (e) w'd0: a = 1; w'd1: a = 2; endcase`
abbrev small : ℕ → Stmt Toy
small w = stmt.Case' here (Number w 0) (tt ∷ tt ∷ [])
    (stmt.more_of-CaseItem (one_item (value w 0 0 ∷ []) (set (whole 0) (Number 4 1)))
    (stmt.more_of-CaseItem (one_item (value w 1 0 ∷ []) (set (whole 0) (Number 4 2)))
    stmt.end_of-CaseItem))

-- complete at one bit, and not at two
complete_at_one : certain toy (small 1) (spot 0 0 3) ≡ true
complete_at_one = refl

open_at_two : certain toy (small 2) (spot 0 0 3) ≡ false
open_at_two = refl

-- a write by an index that isn't constant assigns no bit for certain; one by a constant assigns its bit
variable_index : certain toy (set (bit_of_name 0 (Name 2)) (Number 1 1)) (spot 0 0 0) ≡ false
variable_index = refl

constant_index : certain toy (set (bit_of_name 0 (Number 32 0)) (Number 1 1)) (spot 0 0 0) ≡ true
constant_index = refl

-- `a = 1; b = a;` reads nothing from outside, `b = a; a = 1;` reads a
inside : outside toy (two (set (whole 0) (Number 4 1)) (set (whole 1) (Name 0))) (spot 0 0 2) ≡ false
inside = refl

outside_first : outside toy (two (set (whole 1) (Name 0)) (set (whole 0) (Number 4 1))) (spot 0 0 2) ≡ true
outside_first = refl
