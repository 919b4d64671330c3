-- Inputs have any bits.
use Rattle.std.proofs.Common.{◌≡◌, ◌≢◌, ℕ, zero, suc, ◌+◌, ◌*◌, ◌/◌, ◌%◌, ◌^◌, ◌<◌, ◌≤◌, Bool, true, false, if◌then◌else◌, List, [], ◌∷◌, ◌++◌, length, length-append, map, Some, refl, sym, ap, ◌∙◌, subst, arith}
use Rattle.std.specs.Prelude.{slice_get, nat_eq}
use Rattle.std.proofs.Math.Nat.{pow-succ'}
use Rattle.std.proofs.lemmas.Bool.Decides.{nat_tests}
use Rattle.std.proofs.lemmas.List.{length-map, map-append}
use Rattle.arrayvec.specs.ArrayVec.{ArrayVec}
use Rattle.bits_core.specs.Word.{bit}
use Rattle.gate_net.specs.declared.net.Edge.{Edge}
use Rattle.gate_net.specs.declared.net.Node.{Node}
use Rattle.gate_net.specs.declared.net.Node.TheVariants.{One, Input, And}
use Rattle.gate_net.specs.Edge.{edge_value}
use Rattle.gate_net.proofs.NetLemmas.{edge_value-plain}
use Rattle.word_eqs.specs.declared.term.VarId.{VarId}
use Rattle.word_eqs.specs.declared.list.Act.{Act}
use Rattle.word_eqs.specs.declared.list.Act.TheVariants.{Free, Set, Cut, Prop}
use Rattle.word_eqs.specs.declared.list.Step.{Step}
use Rattle.word_eqs.specs.Meaning.{Values as Valuation}
use Rattle.bitblast.specs.Circuit.{number_of}
use Rattle.bitblast.specs.Wires.{edges_at}
use Rattle.bitblast.specs.Blasted.{act_free, free_edges, inputs, inputs_from}

-- the number of some bits, the lowest first
abbrev number_of_bits : List Bool → ℕ
number_of_bits [] = 0
number_of_bits (b ∷ bs) = bit b + 2 * number_of_bits bs

number_is : (a : ℕ → Bool) (es : List Edge) → number_of a es ≡ number_of_bits (map (edge_value a) es)
number_is a [] = refl
number_is a (e ∷ es) = ap (λ n. bit (edge_value a e) + 2 * n) (number_is a es)

-- so many bits of a number
abbrev bits_of : ℕ → ℕ → List Bool
bits_of zero n = []
bits_of (suc w) n = nat_eq (n % 2) 1 ∷ bits_of w (n / 2)

length-bits_of : (w n : ℕ) → length (bits_of w n) ≡ w
length-bits_of zero n = refl
length-bits_of (suc w) n = ap suc (length-bits_of w (n / 2))

low_bit : (r : ℕ) → r < 2 → bit (nat_eq r 1) ≡ r
low_bit zero l = refl
low_bit (suc zero) l = refl
low_bit (suc (suc r)) l = absurd (omega arith)

number_of_bits_of : (w n : ℕ) → n < 2 ^ w → number_of_bits (bits_of w n) ≡ n
number_of_bits_of zero n l = let l' : n < 1 = l in omega arith
number_of_bits_of (suc w) n l =
    let p : 2 ^ suc w ≡ 2 * 2 ^ w = pow-succ' 2 w in
    let h : number_of_bits (bits_of w (n / 2)) ≡ n / 2 = number_of_bits_of w (n / 2) (omega arith) in
    let b : bit (nat_eq (n % 2) 1) ≡ n % 2 = low_bit (n % 2) (omega arith) in
    omega arith

-- edges of different nodes, in order, that don't negate
abbrev AreRising : ℕ → List Edge → Type 0
AreRising k [] = Unit {0}
AreRising k (e ∷ es) = (k ≤ e.node) × (e.negated ≡ false) × AreRising (suc e.node) es

rising_later : (j k : ℕ) (es : List Edge) → j ≤ k → AreRising k es → AreRising j es
rising_later j k [] l r = tt
rising_later j k (e ∷ es) l r = let m = r.0 in (omega arith, r.1, r.2)

inputs_rise : (k : ℕ) (nodes : List Node) → AreRising k (inputs_from k nodes)
inputs_rise k [] = tt
inputs_rise k (One ∷ nodes) = rising_later k (suc k) (inputs_from (suc k) nodes) (omega arith) (inputs_rise (suc k) nodes)
inputs_rise k (Input ∷ nodes) = (omega arith, refl, inputs_rise (suc k) nodes)
inputs_rise k (And g ∷ nodes) = rising_later k (suc k) (inputs_from (suc k) nodes) (omega arith) (inputs_rise (suc k) nodes)

-- values with one more
abbrev with_bit : (ℕ → Bool) → ℕ → Bool → ℕ → Bool
with_bit f i b n = if nat_eq n i then b else f n

bit_here : (f : ℕ → Bool) (i : ℕ) (b : Bool) → with_bit f i b i ≡ b
bit_here f i b = let e : nat_eq i i ≡ true = grind (arith, nat_tests) in ap (λ t. if t then b else f i) e

bit_there : (f : ℕ → Bool) (i : ℕ) (b : Bool) (n : ℕ) → n ≢ i → with_bit f i b n ≡ f n
bit_there f i b n h = let e : nat_eq n i ≡ false = grind (arith, nat_tests) in ap (λ t. if t then b else f n) e

same_later : (f : ℕ → Bool) (i : ℕ) (b : Bool) (k : ℕ) (es : List Edge) → i < k → AreRising k es → map (edge_value (with_bit f i b)) es ≡ map (edge_value f) es
same_later f i b k [] l r = refl
same_later f i b k (e ∷ es) l r =
    let m = r.0 in
    let other : e.node ≢ i = omega arith in
    ap (λ v. edge_value (λ n. v) e ∷ map (edge_value (with_bit f i b)) es) (bit_there f i b e.node other)
    ∙ ap (λ vs. edge_value f e ∷ vs) (same_later f i b (suc e.node) es (omega arith) r.2)

plain : (f : ℕ → Bool) (e : Edge) → e.negated ≡ false → edge_value f e ≡ f e.node
plain f e h = ap (λ c. edge_value f (record { node = e.node; negated = c })) h ∙ edge_value-plain f e.node

-- values under which such edges have any bits
pub record Chosen (es : List Edge) (bs : List Bool) : Type 0 where
  pub values : ℕ → Bool
  pub are : map (edge_value values) es ≡ bs

choose : (k : ℕ) (es : List Edge) (bs : List Bool) → AreRising k es → length es ≡ length bs → Chosen es bs
choose k [] [] r l = record { values = λ n. false; are = refl }
choose k [] (b ∷ bs) r l = absurd (omega arith)
choose k (e ∷ es) [] r l = absurd (omega arith)
choose k (e ∷ es) (b ∷ bs) r l =
    let h = choose (suc e.node) es bs r.2 (omega arith) in
    record {
      values = with_bit h.values e.node b;
      are =
          ap (λ v. v ∷ map (edge_value (with_bit h.values e.node b)) es) (plain (with_bit h.values e.node b) e r.1 ∙ bit_here h.values e.node b)
          ∙ ap (λ vs. b ∷ vs) (same_later h.values e.node b (suc e.node) es (omega arith) r.2 ∙ h.are);
    }

-- two valuations that agree on the inputs
pub inputs_agree : (a f : ℕ → Bool) (k : ℕ) (nodes : List Node) → ((i : ℕ) → slice_get nodes i ≡ Some Input → a (k + i) ≡ f (k + i)) → map (edge_value a) (inputs_from k nodes) ≡ map (edge_value f) (inputs_from k nodes)
inputs_agree a f k [] h = refl
inputs_agree a f k (One ∷ nodes) h = inputs_agree a f (suc k) nodes (λ i at. subst (λ n. a n ≡ f n) (let e : k + suc i ≡ suc k + i = omega arith in e) (h (suc i) at))
inputs_agree a f k (Input ∷ nodes) h =
    let here : a k ≡ f k = subst (λ n. a n ≡ f n) (let e : k + 0 ≡ k = omega arith in e) (h 0 refl) in
    ap (λ b. edge_value (λ n. b) (record { node = k; negated = false }) ∷ map (edge_value a) (inputs_from (suc k) nodes)) here
    ∙ ap (λ vs. edge_value f (record { node = k; negated = false }) ∷ vs) (inputs_agree a f (suc k) nodes (λ i at. subst (λ n. a n ≡ f n) (let e : k + suc i ≡ suc k + i = omega arith in e) (h (suc i) at)))
inputs_agree a f k (And g ∷ nodes) h = inputs_agree a f (suc k) nodes (λ i at. subst (λ n. a n ≡ f n) (let e : k + suc i ≡ suc k + i = omega arith in e) (h (suc i) at))

-- the bits of the variables that a list leaves free
abbrev act_bits : List (ArrayVec Edge) → Valuation → Act → List Bool
act_bits wires v (Free x) = bits_of (length (edges_at wires x.0)) (v.var x.0).value
act_bits wires v (Set x t) = []
act_bits wires v (Cut t) = []
act_bits wires v (Prop p t) = []

abbrev pub free_bits : List (ArrayVec Edge) → Valuation → List Step → List Bool
free_bits wires v [] = []
free_bits wires v (s ∷ list) = act_bits wires v s.act ++ free_bits wires v list

length-act_bits : (wires : List (ArrayVec Edge)) (v : Valuation) (act : Act) → length (act_bits wires v act) ≡ length (act_free wires act)
length-act_bits wires v (Free x) = length-bits_of (length (edges_at wires x.0)) (v.var x.0).value
length-act_bits wires v (Set x t) = refl
length-act_bits wires v (Cut t) = refl
length-act_bits wires v (Prop p t) = refl

length-free_bits : (wires : List (ArrayVec Edge)) (v : Valuation) (list : List Step) → length (free_bits wires v list) ≡ length (free_edges wires list)
length-free_bits wires v [] = refl
length-free_bits wires v (s ∷ list) =
    let p = length-append (act_bits wires v s.act) (free_bits wires v list) in
    let q = length-append (act_free wires s.act) (free_edges wires list) in
    let h = length-act_bits wires v s.act in
    let i = length-free_bits wires v list in
    omega arith

same_parts : {X : Type 0} (xs ys us vs : List X) → length xs ≡ length ys → xs ++ us ≡ ys ++ vs → (xs ≡ ys) × (us ≡ vs)
same_parts [] [] us vs l e = (refl, e)
same_parts [] (y ∷ ys) us vs l e = absurd (omega arith)
same_parts (x ∷ xs) [] us vs l e = absurd (omega arith)
same_parts (x ∷ xs) (y ∷ ys) us vs l e =
    let tail : xs ++ us ≡ ys ++ vs = cc in
    let head : x ≡ y = cc in
    let h = same_parts xs ys us vs (omega arith) tail in
    (ap (λ z. z ∷ xs) head ∙ ap (λ zs. y ∷ zs) h.0, h.1)

-- edges with these bits have the numbers of the variables
pub free_numbers : (a : ℕ → Bool) (v : Valuation) (wires : List (ArrayVec Edge)) (list : List Step) → map (edge_value a) (free_edges wires list) ≡ free_bits wires v list
    → (k : ℕ) (s : Step) (x : VarId) → slice_get list k ≡ Some s → s.act ≡ Free x → (v.var x.0).value < 2 ^ length (edges_at wires x.0) → number_of a (edges_at wires x.0) ≡ (v.var x.0).value
free_numbers a v wires [] h k s x at e l = cc
free_numbers a v wires (t ∷ list) h k s x at e l =
    let lens : length (map (edge_value a) (act_free wires t.act)) ≡ length (act_bits wires v t.act) = length-map (act_free wires t.act) (edge_value a) ∙ sym (length-act_bits wires v t.act) in
    let parts = same_parts (map (edge_value a) (act_free wires t.act)) (act_bits wires v t.act) (map (edge_value a) (free_edges wires list)) (free_bits wires v list) lens (sym (map-append (edge_value a) (act_free wires t.act) (free_edges wires list)) ∙ h) in
    on k at parts.0 (free_numbers a v wires list parts.1)
  where
    on : (k : ℕ) → slice_get (t ∷ list) k ≡ Some s → map (edge_value a) (act_free wires t.act) ≡ act_bits wires v t.act
        → ((k : ℕ) (s : Step) (x : VarId) → slice_get list k ≡ Some s → s.act ≡ Free x → (v.var x.0).value < 2 ^ length (edges_at wires x.0) → number_of a (edges_at wires x.0) ≡ (v.var x.0).value)
        → number_of a (edges_at wires x.0) ≡ (v.var x.0).value
    on zero at here later =
        let is : t.act ≡ Free x = ap (λ (u : Step). u.act) (let q : t ≡ s = cc in q) ∙ e in
        let bits : map (edge_value a) (edges_at wires x.0) ≡ bits_of (length (edges_at wires x.0)) (v.var x.0).value = subst (λ u. map (edge_value a) (act_free wires u) ≡ act_bits wires v u) is here in
        number_is a (edges_at wires x.0) ∙ ap number_of_bits bits ∙ number_of_bits_of (length (edges_at wires x.0)) (v.var x.0).value l
    on (suc k) at here later = later k s x at e l

-- the inputs of a net can have the bits of any words of the variables that are left free
pub chosen : (net : List Node) (wires : List (ArrayVec Edge)) (v : Valuation) (list : List Step) → inputs net ≡ free_edges wires list → Chosen (inputs net) (free_bits wires v list)
chosen net wires v list e = choose 0 (inputs net) (free_bits wires v list) (inputs_rise 0 net) (ap length e ∙ sym (length-free_bits wires v list))
