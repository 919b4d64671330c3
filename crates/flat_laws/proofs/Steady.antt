-- A constant has one value, in every world and whatever the numbers of its sites.
use Rattle.std.proofs.Common.{◌≡◌, ℕ, zero, suc, ◌+◌, ◌-◌, ◌*◌, ◌^◌, List, [], ◌++◌, Bool, true, false, refl, ap, ◌∙◌}
use Rattle.std.specs.Prelude.{max, not, ◌&&◌, nat_eq, nat_lt, if◌then◌else◌, ℤ, pos, ◌-ℤ◌}
use Rattle.bits_core.specs.Word.{Word, resized, number, at_zero}
use Rattle.src_text.specs.declared.refusal.Place.{Place}
use Rattle.v_tree.specs.declared.expr.UnaryOp.{UnaryOp}
use Rattle.flat_tree.specs.declared.expr.FlatExpr.{FlatExpr}
use Rattle.flat_tree.specs.declared.expr.FlatExpr as flat
use Rattle.flat_tree.specs.declared.expr.FlatSelection.{FlatSelection}
use Rattle.flat_tree.specs.declared.expr.FlatSelection as selection
use Rattle.flat_tree.specs.declared.expr.PlacedSite.{PlacedSite}
use Rattle.flat_tree.specs.Operators.{Form, InContext, Dividing, Comparing, Logical, Shifting, form_of, truth, binary_value, is_reduction, unary_value, repeated}
use Rattle.flat_tree.specs.Selects.{bits_read, are_inside, word_read, is_word}
use Rattle.flat_tree.specs.Values.{Shape, World, Meant, blank, count, own_sites, own_count, own_fixed, own_value, site_number, numbers_of, standing, both_at, divided_at, compared, joined_by, shifted, binary_by, kept_by, reduced_by, unary_meant, conditional, replicated, cast, index_of, is_sure, indexed, bits_by, word_by, by_index, part_of, meant, select_meant, number_meant, parts_meant}

abbrev pub Steady : Meant → Type 0
Steady m = (w : ℕ) (s : Bool) → m.fixed w s ≡ true → (x y : World) (j k : ℕ) → m.value x w s j ≡ m.value y w s k

pub and_both : (a b : Bool) → (a && b) ≡ true → (a ≡ true) × (b ≡ true)
and_both true true h = (refl, refl)
and_both true false h = absurd cc
and_both false b h = absurd cc

standing_steady : (l : ℕ) (s : Bool) (sites : List PlacedSite) (fixed : Bool) (f : World → ℕ → ℕ) → (fixed ≡ true → (x y : World) (j k : ℕ) → f x j ≡ f y k) → Steady (standing l s sites fixed f)
standing_steady l s sites fixed f h w t c x y j k = ap (resized w t l) (h c x y j k)

both_steady : (f : ℕ → Bool → ℕ → ℕ → ℕ) (a b : Meant) → Steady a → Steady b → Steady (both_at f a b)
both_steady f a b p q w s c x y j k =
    let d = and_both (a.fixed w s) (b.fixed w s) c in
    ap (λ m. f w s m (b.value x w s (j + count a w))) (p w s d.0 x y j k) ∙ ap (f w s (a.value y w s k)) (q w s d.1 x y (j + count a w) (k + count a w))

-- a divisor that isn't 0 asks for no site
not_zero : (n u v q : ℕ) → not (nat_eq n 0) ≡ true → at_zero n u q ≡ at_zero n v q
not_zero zero u v q h = absurd cc
not_zero (suc n) u v q h = refl

divided_steady : (place : Place) (f : ℕ → Bool → ℕ → ℕ → ℕ) (a b : Meant) → Steady a → Steady b → Steady (divided_at place f a b)
divided_steady place f a b p q w s c x y j k =
    let d = and_both (a.fixed w s) (b.fixed w s && not (nat_eq (b.value blank w s 0) 0)) c in
    let e = and_both (b.fixed w s) (not (nat_eq (b.value blank w s 0) 0)) d.1 in
    let at = j + count a w in
    let to = k + count a w in
    let n = b.value blank w s 0 in
    ap (λ m. at_zero m (site_number x.unknown w at) (f w s (a.value x w s j) m)) (q w s e.0 x blank (at + numbers_of w) 0)
    ∙ ap (λ m. at_zero n (site_number x.unknown w at) (f w s m n)) (p w s d.0 x y j k)
    ∙ not_zero n (site_number x.unknown w at) (site_number y.unknown w to) (f w s (a.value y w s k) n) e.1
    ∙ ap (λ m. at_zero m (site_number y.unknown w to) (f w s (a.value y w s k) m)) (q w s e.0 blank y 0 (to + numbers_of w))

compared_steady : (f : ℕ → Bool → ℕ → ℕ → ℕ) (a b : Meant) → Steady a → Steady b → Steady (compared f a b)
compared_steady f a b p q =
    let w = max a.length b.length in
    let s = a.signed && b.signed in
    standing_steady 1 false (a.sites w ++ b.sites w) (a.fixed w s && b.fixed w s) (λ z k. f w s (a.value z w s k) (b.value z w s (k + count a w)))
    (λ c x y j k. both_steady f a b p q w s c x y j k)

joined_steady : (f : ℕ → ℕ → ℕ) (l : ℕ) (a b : Meant) → Steady a → Steady b → Steady (joined_by f l a b)
joined_steady f l a b p q =
    standing_steady l false (own_sites a ++ own_sites b) (own_fixed a && own_fixed b) (λ z k. f (own_value a z k) (own_value b z (k + own_count a)))
    (λ c x y j k.
    let d = and_both (own_fixed a) (own_fixed b) c in
    ap (λ m. f m (own_value b x (j + own_count a))) (p a.length a.signed d.0 x y j k) ∙ ap (f (own_value a y k)) (q b.length b.signed d.1 x y (j + own_count a) (k + own_count a)))

shifted_steady : (f : ℕ → Bool → ℕ → ℕ → ℕ) (a b : Meant) → Steady a → Steady b → Steady (shifted f a b)
shifted_steady f a b p q w s c x y j k =
    let d = and_both (a.fixed w s) (own_fixed b) c in
    ap (λ m. f w s m (own_value b x (j + count a w))) (p w s d.0 x y j k) ∙ ap (f w s (a.value y w s k)) (q b.length b.signed d.1 x y (j + count a w) (k + count a w))

kept_steady : (f : ℕ → ℕ → ℕ) (a : Meant) → Steady a → Steady (kept_by f a)
kept_steady f a p w s c x y j k = ap (f w) (p w s c x y j k)

reduced_steady : (f : ℕ → ℕ → ℕ) (a : Meant) → Steady a → Steady (reduced_by f a)
reduced_steady f a p = standing_steady 1 false (own_sites a) (own_fixed a) (λ z k. f a.length (own_value a z k)) (λ c x y j k. ap (f a.length) (p a.length a.signed c x y j k))

conditional_steady : (c a b : Meant) → Steady c → Steady a → Steady b → Steady (conditional c a b)
conditional_steady c a b r p q w s t x y j k =
    let d = and_both (own_fixed c) (a.fixed w s && b.fixed w s) t in
    let e = and_both (a.fixed w s) (b.fixed w s) d.1 in
    let m = j + own_count c in
    let n = k + own_count c in
    ap (λ i. if truth i then a.value x w s m else b.value x w s (m + count a w)) (r c.length c.signed d.0 x y j k)
    ∙ ap (λ i. if truth (own_value c y k) then i else b.value x w s (m + count a w)) (p w s e.0 x y m n)
    ∙ ap (λ i. if truth (own_value c y k) then a.value y w s n else i) (q w s e.1 x y (m + count a w) (n + count a w))

by_steady : (form : Form) (place : Place) (f : ℕ → Bool → ℕ → ℕ → ℕ) (a b : Meant) → Steady a → Steady b → Steady (binary_by form place f a b)
by_steady InContext place f a b p q = both_steady f a b p q
by_steady Dividing place f a b p q = divided_steady place f a b p q
by_steady Comparing place f a b p q = compared_steady f a b p q
by_steady Logical place f a b p q = joined_steady (f 1 false) 1 a b p q
by_steady Shifting place f a b p q = shifted_steady f a b p q

unary_steady : (op : UnaryOp) (a : Meant) → Steady a → Steady (unary_meant op a)
unary_steady op a p = pick (is_reduction op)
  where
    pick : (c : Bool) → Steady (if c then reduced_by (unary_value op) a else kept_by (unary_value op) a)
    pick true = reduced_steady (unary_value op) a p
    pick false = kept_steady (unary_value op) a p

replicated_steady : (c : ℕ) (m : Meant) → Steady m → Steady (replicated c m)
replicated_steady c m p = standing_steady (c * m.length) false (own_sites m) (own_fixed m) (λ z k. repeated c m.length (own_value m z k)) (λ f x y j k. ap (repeated c m.length) (p m.length m.signed f x y j k))

cast_steady : (s : Bool) (m : Meant) → Steady m → Steady (cast s m)
cast_steady s m p = standing_steady m.length s (own_sites m) (own_fixed m) (own_value m) (λ f x y j k. p m.length m.signed f x y j k)

pub index_steady : (i : Meant) → Steady i → own_fixed i ≡ true → (x y : World) (j k : ℕ) → index_of i x j ≡ index_of i y k
index_steady i p f x y j k = ap (number i.signed i.length) (p i.length i.signed f x y j k)

-- a select of a signal isn't constant
signal_steady : (sure : Bool) (place : Place) (n : ℕ) (signed : Bool) (i : Meant) (read : World → ℤ → ℕ → ℕ) → Steady (indexed sure place n signed false i read)
signal_steady true place n signed i read w s c x y j k = absurd cc
signal_steady false place n signed i read w s c x y j k = absurd cc

by_index_steady : (place : Place) (s : Shape) (g : ℕ) (i : Meant) → Steady (by_index place s g i)
by_index_steady place s g i = pick (nat_lt 0 s.words)
  where
    pick : (c : Bool) → Steady (if c then word_by place s g i else bits_by place 1 s.bits s.low false (λ x. x.word g 0) i)
    pick true = signal_steady (is_sure (is_word s.words) i) place s.bits s.signed i (λ x at site. word_read (x.word g) s.words site at)
    pick false = signal_steady (is_sure (λ at. are_inside 1 s.bits (at -ℤ pos s.low)) i) place 1 false i (λ x at site. bits_read 1 s.bits (x.word g 0) site (at -ℤ pos s.low))

-- a select of a number that is known
number_steady : (place : Place) (n w lowest : ℕ) (word : ℕ) (i : Meant) → Steady i → Steady (bits_by place n w lowest true (λ x. word) i)
number_steady place n w lowest word i p = pick (is_sure (λ at. are_inside n w (at -ℤ pos lowest)) i) refl
  where
    pick : (sure : Bool) → is_sure (λ at. are_inside n w (at -ℤ pos lowest)) i ≡ sure → Steady (indexed sure place n false true i (λ x at site. bits_read n w word site (at -ℤ pos lowest)))
    pick true e =
        standing_steady n false (own_sites i) true (λ z k. bits_read n w word 0 (index_of i z k -ℤ pos lowest))
        (λ c x y j k. ap (λ at. bits_read n w word 0 (at -ℤ pos lowest)) (index_steady i p (and_both (own_fixed i) (are_inside n w (index_of i blank 0 -ℤ pos lowest)) e).0 x y j k))
    pick false e = λ w s c x y j k. absurd cc

module _ (shapes : ℕ → Shape) where
  mutual
    pub steady : (e : FlatExpr) → Steady (meant shapes e)
    steady (flat.Literal n) = standing_steady n.word.width n.signed [] true (λ x k. n.word.value) (λ c x y j k. refl)
    steady (flat.Signal place g) = λ w s c x y j k. absurd cc
    steady (flat.Select place g s) = select_steady place g s
    steady (flat.SelectNumber place c low s) = number_is_steady place c low s
    steady (flat.Unary' operator _ (flat.more_of-FlatExpr a _)) = unary_steady operator.op (meant shapes a) (steady a)
    steady (flat.Binary' _ (flat.more_of-FlatExpr a _) operator _ (flat.more_of-FlatExpr b _)) = by_steady (form_of operator.op) operator.place (binary_value operator.op) (meant shapes a) (meant shapes b) (steady a) (steady b)
    steady (flat.Conditional' _ (flat.more_of-FlatExpr c _) _ (flat.more_of-FlatExpr a _) _ (flat.more_of-FlatExpr b _)) = conditional_steady (meant shapes c) (meant shapes a) (meant shapes b) (steady c) (steady a) (steady b)
    steady (flat.Parentheses' place _ (flat.more_of-FlatExpr a _)) = steady a
    steady (flat.Concatenation' place _ parts) = parts_steady parts
    steady (flat.Replication' place c _ parts) = replicated_steady c (parts_meant shapes parts) (parts_steady parts)
    steady (flat.Signed' place _ (flat.more_of-FlatExpr a _)) = cast_steady true (meant shapes a) (steady a)
    steady (flat.Unsigned' place _ (flat.more_of-FlatExpr a _)) = cast_steady false (meant shapes a) (steady a)

    select_steady : (place : Place) (g : ℕ) (s : FlatSelection) → Steady (select_meant shapes place g s)
    select_steady place g (selection.Bit' _ (flat.more_of-FlatExpr i _)) = by_index_steady place (shapes g) g (meant shapes i)
    select_steady place g (selection.Part high low) = λ w s c x y j k. absurd cc
    select_steady place g (selection.Up' _ (flat.more_of-FlatExpr i _) n) =
        signal_steady (is_sure (λ at. are_inside n (shapes g).bits (at -ℤ pos (shapes g).low)) (meant shapes i)) place n false (meant shapes i) (λ x at site. bits_read n (shapes g).bits (x.word g 0) site (at -ℤ pos (shapes g).low))
    select_steady place g (selection.Down' _ (flat.more_of-FlatExpr i _) n) =
        signal_steady (is_sure (λ at. are_inside n (shapes g).bits (at -ℤ pos ((shapes g).low + (n - 1)))) (meant shapes i)) place n false (meant shapes i) (λ x at site. bits_read n (shapes g).bits (x.word g 0) site (at -ℤ pos ((shapes g).low + (n - 1))))

    number_is_steady : (place : Place) (c : Word) (low : ℕ) (s : FlatSelection) → Steady (number_meant shapes place c low s)
    number_is_steady place c low (selection.Bit' _ (flat.more_of-FlatExpr i _)) = number_steady place 1 c.width low c.value (meant shapes i) (steady i)
    number_is_steady place c low (selection.Part high from) = standing_steady (high - from + 1) false [] true (λ x k. part_of c.value high from low) (λ f x y j k. refl)
    number_is_steady place c low (selection.Up' _ (flat.more_of-FlatExpr i _) n) = number_steady place n c.width low c.value (meant shapes i) (steady i)
    number_is_steady place c low (selection.Down' _ (flat.more_of-FlatExpr i _) n) = number_steady place n c.width (low + (n - 1)) c.value (meant shapes i) (steady i)

    parts_steady : {m : _} (parts : flat.Row_of-FlatExpr m) → Steady (parts_meant shapes parts)
    parts_steady flat.end_of-FlatExpr = standing_steady 0 false [] true (λ x k. 0) (λ c x y j k. refl)
    parts_steady (flat.more_of-FlatExpr a rest) =
        let n = parts_meant shapes rest in
        joined_steady (λ i j. i * 2 ^ n.length + j) ((meant shapes a).length + n.length) (meant shapes a) n (steady a) (parts_steady rest)
