-- The keys of one kind below a key are those of the properties of that kind that stand before.
use Rattle.std.proofs.Common.{◌++◌, length, take, get_or, ◌≡◌, ℕ, ◌+◌, ◌-◌, ◌*◌, ◌<◌, ◌≤◌, List, [], ◌∷◌, map, refl, sym, ap, ◌∙◌, arith, false}
use Rattle.std.specs.Prelude.{cond, nat_lt, eqb, not, ◌&&◌, All}
use Rattle.std.specs.List.{count_by}
use Rattle.std.specs.List.Sorted.{IsPermutation}
use Rattle.std.proofs.lemmas.Bool.Decides.{nat_tests}
use Rattle.std.proofs.lemmas.List.Elements.{All-head, All-tail, All-get_or}
use Rattle.std.proofs.lemmas.List.Sums.{sum_by-cons}
use Rattle.joint_ir.specs.declared.program.Prop.{Prop}
use Rattle.joint_ir.specs.WellFormed.{kind_number}
use Rattle.c_words.specs.declared.notes.Site.{Site}
use Rattle.c_words.specs.Marks.{number_of}
use Rattle.c_numbers.specs.Ranks.{is_between}
use Rattle.c_numbers.proofs.Between.{between}
use Rattle.c_numbers.proofs.Counting.{count_same, map_one_more}
use Rattle.c_properties.specs.Keys.{key_of, floor_of, IsPlaced}
use Rattle.c_properties.specs.Properties.{is_counted, number_among, prop_numbered, prop_of}

in_order : (k l c k' l' c' : ℕ) → l < 4294967296 → c < 4294967296 → l' < 4294967296 → c' < 4294967296 →
    (not (nat_lt (k' * 18446744073709551616 + l' * 4294967296 + c') (k * 18446744073709551616)) && nat_lt (k' * 18446744073709551616 + l' * 4294967296 + c') (k * 18446744073709551616 + l * 4294967296 + c))
    ≡ (eqb k' k && cond (eqb l' l) (cond (eqb c' c) false (nat_lt c' c)) (nat_lt l' l))
in_order k l c k' l' c' hl hc hl' hc' = grind (arith, nat_tests)

floor-le : (s : Site) → floor_of s.kind ≤ key_of s
floor-le s = above (floor_of s.kind) (s.place.line * 4294967296) s.place.column
  where
    above : (a b c : ℕ) → a ≤ a + b + c
    above a b c = omega arith

-- the numbers of keys below a key and below the least one of its kind
pub less : (s : Site) (ks : List ℕ) (a b : ℕ) → a ≡ count_by (λ k. nat_lt k (key_of s)) ks → b ≡ count_by (λ k. nat_lt k (floor_of s.kind)) ks → b ≤ a
less s ks a b is_a is_b = enough _ _ _ _ _ is_a is_b (between (floor_of s.kind) (key_of s) (floor-le s) ks)
  where
    enough : (a b x y z : ℕ) → a ≡ x → b ≡ y → x ≡ y + z → b ≤ a
    enough a b x y z e f g = omega (arith, e, f, g)

pub counted_between : (s : Site) (ks : List ℕ) (a b n : ℕ) → a ≡ count_by (λ k. nat_lt k (key_of s)) ks → b ≡ count_by (λ k. nat_lt k (floor_of s.kind)) ks →
    n ≡ number_of (1 + (a - b)) → n ≡ number_of (1 + count_by (is_between (floor_of s.kind) (key_of s)) ks)
counted_between s ks a b n is_a is_b is_n =
    is_n ∙ ap (λ m. number_of (1 + m)) (rest _ _ _ _ _ is_a is_b (between (floor_of s.kind) (key_of s) (floor-le s) ks))
  where
    rest : (a b x y z : ℕ) → a ≡ x → b ≡ y → x ≡ y + z → a - b ≡ z
    rest a b x y z e f g = omega (arith, e, f, g)

count_keys : (s : Site) (ts : List Site) → IsPlaced s → All IsPlaced ts → count_by (is_between (floor_of s.kind) (key_of s)) (map key_of ts) ≡ count_by (is_counted s) ts
count_keys s [] h hs = refl
count_keys s (t ∷ ts) h hs =
    let g : IsPlaced t = All-head IsPlaced t ts hs in
    let e = in_order (kind_number s.kind) s.place.line s.place.column (kind_number t.kind) t.place.line t.place.column h.line h.column g.line g.column in
    sum_by-cons (λ k. cond (is_between (floor_of s.kind) (key_of s) k) 1 0) (key_of t) (map key_of ts)
    ∙ ap (λ b. cond b 1 0 + count_by (is_between (floor_of s.kind) (key_of s)) (map key_of ts)) e
    ∙ ap (λ n. cond (is_counted s t) 1 0 + n) (count_keys s ts h (All-tail IsPlaced t ts hs))
    ∙ sym (sum_by-cons (λ u. cond (is_counted s u) 1 0) t ts)

-- a number, by the sorted keys
pub numbered : (s : Site) (ts : List Site) (unsorted keys slice : List ℕ) (n : ℕ) → All IsPlaced ts → IsPlaced s → unsorted ≡ map key_of ts → IsPermutation unsorted keys → slice ≡ keys →
    n ≡ number_of (1 + count_by (is_between (floor_of s.kind) (key_of s)) slice) → n ≡ number_among ts s
numbered s ts unsorted keys slice n placed here is_keys same is_slice is_n =
    let count = count_by (is_between (floor_of s.kind) (key_of s)) in
    is_n
    ∙ ap (λ m. number_of (1 + m)) (ap count is_slice ∙ count_same (is_between (floor_of s.kind) (key_of s)) unsorted keys same ∙ ap count is_keys ∙ count_keys s ts here placed)

-- one property more
pub property_next : (name got : List ℕ) (sites : List Site) (i : ℕ) (d : Site) (unsorted keys slice : List ℕ) (n : ℕ) (p : Prop) (done next : List Prop) → i < length sites → All IsPlaced sites →
    unsorted ≡ map key_of sites → IsPermutation unsorted keys → slice ≡ keys →
    n ≡ number_of (1 + count_by (is_between (floor_of (get_or sites i d).kind) (key_of (get_or sites i d))) slice) → got ≡ name → p ≡ prop_numbered got (get_or sites i d) n →
    done ≡ map (prop_of name sites) (take i sites) → next ≡ done ++ p ∷ [] → next ≡ map (prop_of name sites) (take (i + 1) sites)
property_next name got sites i d unsorted keys slice n p done next lt placed is_keys same is_slice is_n is_name is_p is_done is_next =
    let s = get_or sites i d in
    let e : n ≡ number_among sites s = numbered s sites unsorted keys slice n placed (All-get_or IsPlaced sites i d lt placed) is_keys same is_slice is_n in
    map_one_more (prop_of name sites) sites i d p done next lt (is_p ∙ ap (λ f. prop_numbered f s n) is_name ∙ ap (prop_numbered name s) e) is_done is_next
