-- The numbers of terms.
use Rattle.std.proofs.Common.{◌≡◌, ℕ, zero, suc, ◌+◌, ◌<◌, ◌≤◌, ◌^◌, List, [], ◌∷◌, ◌++◌, length, map, get_or, drop, refl, sym, ap, ◌∙◌, subst, arith, append_assoc}
use Rattle.std.specs.Prelude.{All, slice_index}
use Rattle.std.proofs.lemmas.List.{drop_more}
use Rattle.std.proofs.lemmas.List.Elements.{All-nil, All-cons, All-head, All-tail, All-weaker}
use Rattle.std.proofs.Math.Pow.{pow_mono}
use Rattle.bits_core.specs.Word.{Word, word}
use Rattle.word_eqs.specs.declared.term.TermId.{TermId}
use Rattle.word_eqs.specs.Graph.{Graph, IsGraph, width_in}
use Rattle.word_eqs.specs.Meaning.{AreValues, IsWordOf, FitsVars, look, meaning, word_at}
use Rattle.word_eqs.proofs.Evals.{meaning_values, one_meaning, words_of_terms}
use Rattle.joint_ir.specs.declared.module.FlatModule.{FlatModule}
use Rattle.joint_ir.specs.declared.module.Role.{Role}
use Rattle.joint_ir.specs.declared.module.Role.TheVariants.{Input, Register, Wire}
use Rattle.joint_ir.specs.States.{View}
use Rattle.joint_ir.specs.Views.{worded, term_numbers, widths_of, site_widths, settled_wires, next_registers}
use Rattle.joint_ir.specs.Steps.{settled_view}
use Rattle.joint_ir.specs.WellFormed.{FitsModule, AreTerms}
use Rattle.joint_view.specs.Conditions.{IsNarrow, AreWords, IsView}
use Rattle.joint_view.proofs.Fitting.{words_append, widths_narrow}

-- words have the widths that they are made with
pub worded_widths : (widths numbers : List ℕ) → AreWords widths numbers → map (λ (a : Word). a.width) (worded widths numbers) ≡ widths
worded_widths [] [] h = refl
worded_widths [] (n ∷ numbers) h = absurd h
worded_widths (w ∷ widths) [] h = absurd h
worded_widths (w ∷ widths) (n ∷ numbers) h = ap (λ l. w ∷ l) (worded_widths widths numbers h.1)

worded_at : (widths numbers : List ℕ) (x : ℕ) → AreWords widths numbers → x < length widths → IsWordOf (slice_index widths x) (word_at (worded widths numbers) x)
worded_at [] numbers x h lt = absurd (omega arith)
worded_at (w ∷ widths) [] x h lt = absurd h
worded_at (w ∷ widths) (n ∷ numbers) zero h lt = record { width = refl; below = h.0 }
worded_at (w ∷ widths) (n ∷ numbers) (suc x) h lt = worded_at widths numbers x h.1 (omega arith)

pub fits_vars : (g : Graph) (numbers : List ℕ) → AreWords g.vars numbers → FitsVars (word_at (worded g.vars numbers)) g
fits_vars g numbers h = record { at = λ x lt. worded_at g.vars numbers x h lt }

-- one word more
pub worded_more : (widths numbers : List ℕ) (env all whole : List Word) (k : ℕ) (a : Word) → k < length widths → k < length numbers → a ≡ word (get_or widths k 0) (get_or numbers k 0) →
    all ≡ env ++ a ∷ [] → env ++ worded (drop k widths) (drop k numbers) ≡ whole → all ++ worded (drop (k + 1) widths) (drop (k + 1) numbers) ≡ whole
worded_more widths numbers env all whole k a lt there at is so_far =
    ap (λ l. l ++ worded (drop (k + 1) widths) (drop (k + 1) numbers)) is
    ∙ append_assoc env (a ∷ []) (worded (drop (k + 1) widths) (drop (k + 1) numbers))
    ∙ ap (λ b. env ++ b ∷ worded (drop (k + 1) widths) (drop (k + 1) numbers)) at
    ∙ ap (λ l. env ++ worded l (get_or numbers k 0 ∷ drop (k + 1) numbers)) (sym (drop_more widths k 0 lt))
    ∙ ap (λ l. env ++ worded (drop k widths) l) (sym (drop_more numbers k 0 there))
    ∙ so_far

-- words that are the values of terms
module _ (g : Graph) (numbers : List ℕ) (env out : List Word) (is : IsGraph g) (h : AreWords g.vars numbers) (e : env ≡ worded g.vars numbers) (v : AreValues (look (word_at env) out) g.terms) where
  fits : FitsVars (word_at env) g
  fits = subst (λ (l : List Word). FitsVars (word_at l) g) (sym e) (fits_vars g numbers h)

  one_word : (k : ℕ) → k < length g.terms → word_at out k ≡ (meaning (word_at (worded g.vars numbers)) g).term k
  one_word k lt =
      one_meaning (look (word_at env) out) (meaning (word_at env) g) g is (λ x l. refl) v (meaning_values (word_at env) g is) k lt
      ∙ ap (λ (l : List Word). (meaning (word_at l) g).term k) e

  pub word_fits : (k : ℕ) → k < length g.terms → (word_at out k).value < 2 ^ width_in g k
  word_fits k lt =
      let p = words_of_terms (look (word_at env) out) g is (record { vars = fits; terms = v }) k lt in
      let q = p.0.below in
      subst (λ w. (word_at out k).value < 2 ^ w) p.1 q

  pub word_narrow : (k : ℕ) → k < length g.terms → width_in g k ≤ 64 → (word_at out k).value < 2 ^ 64
  word_narrow k lt le =
      let p = word_fits k lt in
      let q : 2 ^ width_in g k ≤ 2 ^ 64 = pow_mono le in
      omega (arith, q)

  pub same_numbers : (ids : List TermId) → All (λ (t : TermId). t.0 < length g.terms) ids → map (λ (t : TermId). (word_at out t.0).value) ids ≡ term_numbers g numbers ids
  same_numbers [] there = refl
  same_numbers (t ∷ ids) there =
      let lt : t.0 < length g.terms = All-head (λ (t : TermId). t.0 < length g.terms) t ids there in
      let more : map (λ (t : TermId). (word_at out t.0).value) ids ≡ term_numbers g numbers ids = same_numbers ids (All-tail (λ (t : TermId). t.0 < length g.terms) t ids there) in
      let here : (word_at out t.0).value ≡ ((meaning (word_at (worded g.vars numbers)) g).term t.0).value = ap (λ (a : Word). a.value) (one_word t.0 lt) in
      ap (λ n. n ∷ map (λ (t : TermId). (word_at out t.0).value) ids) here ∙ ap (λ l. ((meaning (word_at (worded g.vars numbers)) g).term t.0).value ∷ l) more

-- the numbers of terms fit the terms' widths
pub numbers_fit : (g : Graph) (numbers : List ℕ) (ids : List TermId) → IsGraph g → AreWords g.vars numbers → All (λ (t : TermId). t.0 < length g.terms) ids →
    AreWords (map (λ (t : TermId). width_in g t.0) ids) (term_numbers g numbers ids)
numbers_fit g numbers [] is h there = tt
numbers_fit g numbers (t ∷ ids) is h there =
    let lt : t.0 < length g.terms = All-head (λ (t : TermId). t.0 < length g.terms) t ids there in
    let a = word_at (worded g.vars numbers) in
    let v = meaning a g in
    let p = words_of_terms v g is (record { vars = fits_vars g numbers h; terms = meaning_values a g is }) t.0 lt in
    (subst (λ w. (v.term t.0).value < 2 ^ w) p.1 p.0.below, numbers_fit g numbers ids is h (All-tail (λ (t : TermId). t.0 < length g.terms) t ids there))

-- what holds of each width holds of the widths of terms
pub All-widths : (P : ℕ → Type 0) (g : Graph) (ids : List TermId) (widths : List ℕ) → map (λ (t : TermId). width_in g t.0) ids ≡ widths → All P widths → All (λ (t : TermId). P (width_in g t.0)) ids
All-widths P g ids widths e h = by ids (subst (All P) (sym e) h)
  where
    by : (ids : List TermId) → All P (map (λ (t : TermId). width_in g t.0) ids) → All (λ (t : TermId). P (width_in g t.0)) ids
    by [] h = All-nil (λ (t : TermId). P (width_in g t.0))
    by (t ∷ ids) h =
        All-cons (λ (t : TermId). P (width_in g t.0)) t ids (All-head P (width_in g t.0) (map (λ (t : TermId). width_in g t.0) ids) h)
        (by ids (All-tail P (width_in g t.0) (map (λ (t : TermId). width_in g t.0) ids) h))

-- the variables of a settling and of an edge fit
module _ (m : FlatModule) (f : FitsModule m) where
  pub settle_fits : (registers inputs unknown : List ℕ) → AreWords (widths_of Register m.signals) registers → AreWords (widths_of Input m.signals) inputs → AreWords (site_widths m.settle_sites) unknown →
      AreWords m.settle_terms.vars (registers ++ inputs ++ unknown)
  settle_fits registers inputs unknown r i u =
      subst (λ l. AreWords l (registers ++ inputs ++ unknown)) (sym f.settle_vars)
      (words_append (widths_of Register m.signals ++ widths_of Input m.signals) (registers ++ inputs) (site_widths m.settle_sites) unknown
      (words_append (widths_of Register m.signals) registers (widths_of Input m.signals) inputs r i) u)

  pub edge_fits : (v : View) (unknown : List ℕ) → IsView m v → AreWords (site_widths m.edge_sites) unknown → AreWords m.edge_terms.vars (v.registers ++ v.inputs ++ v.wires ++ unknown)
  edge_fits v unknown p u =
      subst (λ l. AreWords l (v.registers ++ v.inputs ++ v.wires ++ unknown)) (sym f.edge_vars)
      (words_append (widths_of Register m.signals ++ widths_of Input m.signals ++ widths_of Wire m.signals) (v.registers ++ v.inputs ++ v.wires) (site_widths m.edge_sites) unknown
      (words_append (widths_of Register m.signals ++ widths_of Input m.signals) (v.registers ++ v.inputs) (widths_of Wire m.signals) v.wires
      (words_append (widths_of Register m.signals) v.registers (widths_of Input m.signals) v.inputs p.registers p.inputs) p.wires) u)

  narrow : (g : Graph) (ids : List TermId) (role : Role) → AreTerms g ids (widths_of role m.signals) → All (λ (t : TermId). width_in g t.0 ≤ 64) ids
  narrow g ids role terms =
      All-widths (λ w. w ≤ 64) g ids (widths_of role m.signals) terms.sized (All-weaker IsNarrow (λ w. w ≤ 64) (λ w n. n.1) (widths_of role m.signals) (widths_narrow role m.signals f.signals))

  pub settled_narrow : All (λ (t : TermId). width_in m.settle_terms t.0 ≤ 64) m.settled
  settled_narrow = narrow m.settle_terms m.settled Wire f.settled

  pub next_narrow : All (λ (t : TermId). width_in m.edge_terms t.0 ≤ 64) m.next
  next_narrow = narrow m.edge_terms m.next Register f.next

  -- what settles and what an edge leaves fit the module
  pub wires_fit : IsGraph m.settle_terms → (registers inputs unknown : List ℕ) → AreWords (widths_of Register m.signals) registers → AreWords (widths_of Input m.signals) inputs → AreWords (site_widths m.settle_sites) unknown →
      AreWords (widths_of Wire m.signals) (settled_wires m registers inputs unknown)
  wires_fit g registers inputs unknown r i u =
      subst (λ l. AreWords l (settled_wires m registers inputs unknown)) f.settled.sized
      (numbers_fit m.settle_terms (registers ++ inputs ++ unknown) m.settled g (settle_fits registers inputs unknown r i u) f.settled.there)

  pub registers_fit : IsGraph m.edge_terms → (v : View) (unknown : List ℕ) → IsView m v → AreWords (site_widths m.edge_sites) unknown → AreWords (widths_of Register m.signals) (next_registers m v unknown)
  registers_fit g v unknown p u =
      subst (λ l. AreWords l (next_registers m v unknown)) f.next.sized
      (numbers_fit m.edge_terms (v.registers ++ v.inputs ++ v.wires ++ unknown) m.next g (edge_fits v unknown p u) f.next.there)

  pub settled_is_view : IsGraph m.settle_terms → (registers inputs unknown : List ℕ) → AreWords (widths_of Register m.signals) registers → AreWords (widths_of Input m.signals) inputs → AreWords (site_widths m.settle_sites) unknown →
      IsView m (settled_view m registers inputs unknown)
  settled_is_view g registers inputs unknown r i u = record { registers = r; inputs = i; wires = wires_fit g registers inputs unknown r i u }
