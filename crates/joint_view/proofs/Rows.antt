-- The words of signals in rows, what the mirror drives, and what is shown.
use Rattle.std.proofs.Common.{◌≡◌, ℕ, zero, suc, ◌+◌, ◌<◌, ◌≤◌, ◌^◌, true, false, List, [], ◌∷◌, ◌++◌, length, get_or, take, drop, min, refl, sym, ap, ◌∙◌, subst, arith, append_assoc, add-zero, ◌⊎◌, inl, inr}
use Rattle.std.specs.Prelude.{Option, Some, None, All, slice_get, slice_index, slice_index_or, ℤ, pos, negsuc}
use Rattle.std.proofs.lemmas.List.{drop_more, drop_all, drop-drop, get_or-drop, length-take}
use Rattle.std.proofs.lemmas.List.Elements.{All-nil, All-cons, All-head, All-tail, All-push}
use Rattle.std.proofs.lemmas.Option.{same_Some}
use Rattle.std.proofs.Math.Nat.{mod-lt}
use Rattle.std.proofs.Math.Pow.{pow_pos}
use Rattle.bits_core.specs.Word.{modulo}
use Rattle.joint_ir.specs.declared.event.Shown.{Shown}
use Rattle.joint_ir.specs.declared.module.FlatModule.{FlatModule}
use Rattle.joint_ir.specs.declared.module.Role.{Role}
use Rattle.joint_ir.specs.declared.module.Role.TheVariants.{Input, Clock, Register, Wire}
use Rattle.joint_ir.specs.declared.module.Signal.{Signal}
use Rattle.joint_ir.specs.declared.pair.Link.{Link}
use Rattle.joint_ir.specs.States.{View, copies, element_count}
use Rattle.joint_ir.specs.Views.{same_role, widths_of, signal_words, view_words, mirroring_member, driven_input, driven_from, shown_words, shown_from, changes}
use Rattle.joint_ir.specs.WellFormed.{FitsSignal}
use Rattle.joint_view.specs.Conditions.{AreWords, IsView, FitSignals}
use Rattle.joint_view.proofs.Fitting.{words_split}

-- a signal that is no register has one word
no_words : (s : Signal) → FitsSignal s → (s.role ≡ Register → ⊥) → s.words ≡ 0
no_words s f h = by s.words refl
  where
    by : (n : ℕ) → s.words ≡ n → s.words ≡ 0
    by zero e = e
    by (suc n) e = absurd (h (f.memory (omega arith)))

module _ (s : Signal) (signals : List Signal) where
  own_widths : (role : Role) → same_role role s.role ≡ true → widths_of role (s ∷ signals) ≡ copies (element_count s.words) s.bits ++ widths_of role signals
  own_widths role e = rw e

  other_widths : (role : Role) → same_role role s.role ≡ false → widths_of role (s ∷ signals) ≡ widths_of role signals
  other_widths role e = rw e

  plain_widths : (role : Role) → same_role role s.role ≡ true → s.words ≡ 0 → widths_of role (s ∷ signals) ≡ s.bits ∷ widths_of role signals
  plain_widths role e none = own_widths role e ∙ ap (λ n. copies (element_count n) s.bits ++ widths_of role signals) none

  pub words_clock : (R I W : List ℕ) → s.role ≡ Clock → signal_words (s ∷ signals) R I W ≡ (0 ∷ []) ∷ signal_words signals R I W
  words_clock R I W e = rw e

  pub words_input : (R I W : List ℕ) → s.role ≡ Input → signal_words (s ∷ signals) R I W ≡ take 1 I ∷ signal_words signals R (drop 1 I) W
  words_input R I W e = rw e

  pub words_wire : (R I W : List ℕ) → s.role ≡ Wire → signal_words (s ∷ signals) R I W ≡ take 1 W ∷ signal_words signals R I (drop 1 W)
  words_wire R I W e = rw e

  pub words_register : (R I W : List ℕ) → s.role ≡ Register → signal_words (s ∷ signals) R I W ≡ take (element_count s.words) R ∷ signal_words signals (drop (element_count s.words) R) I W
  words_register R I W e = rw e

-- one row more
pub rows_more : (signals : List Signal) (s : Signal) (R I W R' I' W' row : List ℕ) (rows all whole : List (List ℕ)) (k : ℕ) → k < length signals → s ≡ get_or signals k s →
    signal_words (s ∷ drop (k + 1) signals) R I W ≡ row ∷ signal_words (drop (k + 1) signals) R' I' W' → all ≡ rows ++ row ∷ [] →
    rows ++ signal_words (drop k signals) R I W ≡ whole → all ++ signal_words (drop (k + 1) signals) R' I' W' ≡ whole
rows_more signals s R I W R' I' W' row rows all whole k lt at step is so_far =
    let e : drop k signals ≡ s ∷ drop (k + 1) signals = drop_more signals k s lt ∙ ap (λ x. x ∷ drop (k + 1) signals) (sym at) in
    ap (λ l. l ++ signal_words (drop (k + 1) signals) R' I' W') is
    ∙ append_assoc rows (row ∷ []) (signal_words (drop (k + 1) signals) R' I' W')
    ∙ ap (λ l. rows ++ l) (sym step)
    ∙ ap (λ l. rows ++ signal_words l R I W) (sym e)
    ∙ so_far

pub few_taken : (n : ℕ) (numbers : List ℕ) → n < 2 ^ 32 → length (take n numbers) < 2 ^ 32
few_taken n numbers lt = omega (arith, length-take n numbers)

pub few_more : (rows all : List (List ℕ)) (row : List ℕ) → All (λ (r : List ℕ). length r < 2 ^ 32) rows → length row < 2 ^ 32 → all ≡ rows ++ row ∷ [] → All (λ (r : List ℕ). length r < 2 ^ 32) all
few_more rows all row h lt is = subst (λ l. All (λ (r : List ℕ). length r < 2 ^ 32) l) (sym is) (All-push (λ (r : List ℕ). length r < 2 ^ 32) rows row h lt)

-- what is shown of one signal
show_own : (k : ℕ) (s : Signal) (signals : List Signal) (words : List (List ℕ)) → same_role Clock s.role ≡ false →
    shown_from k (s ∷ signals) words ≡ shown_words k 0 (slice_index_or words 0 []) ++ shown_from (k + 1) signals (drop 1 words)
show_own k s signals words e = by s.role refl
  where
    by : (r : Role) → s.role ≡ r → shown_from k (s ∷ signals) words ≡ shown_words k 0 (slice_index_or words 0 []) ++ shown_from (k + 1) signals (drop 1 words)
    by Clock h = cc
    by Input h = rw h
    by Wire h = rw h
    by Register h = rw h

show_clock : (k : ℕ) (s : Signal) (signals : List Signal) (words : List (List ℕ)) → same_role Clock s.role ≡ true →
    shown_from k (s ∷ signals) words ≡ shown_from (k + 1) signals (drop 1 words)
show_clock k s signals words e = by s.role refl
  where
    by : (r : Role) → s.role ≡ r → shown_from k (s ∷ signals) words ≡ shown_from (k + 1) signals (drop 1 words)
    by Clock h = rw h
    by Input h = cc
    by Wire h = cc
    by Register h = cc

module _ (signals : List Signal) (words : List (List ℕ)) (list whole : List Shown) (k : ℕ) (s : Signal) (lt : k < length signals) (at : s ≡ get_or signals k s)
    (so_far : list ++ shown_from k (drop k signals) (drop k words) ≡ whole) where
  at_signal : drop k signals ≡ s ∷ drop (k + 1) signals
  at_signal = drop_more signals k s lt ∙ ap (λ x. x ∷ drop (k + 1) signals) (sym at)

  next_words : drop 1 (drop k words) ≡ drop (k + 1) words
  next_words = drop-drop 1 k words

  here : get_or (drop k words) 0 [] ≡ get_or words k []
  here = get_or-drop k words 0 [] ∙ rw add-zero

  pub shown_more : (all : List Shown) → same_role Clock s.role ≡ false → all ≡ list ++ shown_words k 0 (slice_index_or words k []) →
      all ++ shown_from (k + 1) (drop (k + 1) signals) (drop (k + 1) words) ≡ whole
  shown_more all e is =
      ap (λ l. l ++ shown_from (k + 1) (drop (k + 1) signals) (drop (k + 1) words)) is
      ∙ append_assoc list (shown_words k 0 (slice_index_or words k [])) (shown_from (k + 1) (drop (k + 1) signals) (drop (k + 1) words))
      ∙ ap (λ l. list ++ (shown_words k 0 l ++ shown_from (k + 1) (drop (k + 1) signals) (drop (k + 1) words))) (sym here)
      ∙ ap (λ l. list ++ (shown_words k 0 (get_or (drop k words) 0 []) ++ shown_from (k + 1) (drop (k + 1) signals) l)) (sym next_words)
      ∙ ap (λ l. list ++ l) (sym (show_own k s (drop (k + 1) signals) (drop k words) e))
      ∙ ap (λ l. list ++ shown_from k l (drop k words)) (sym at_signal)
      ∙ so_far

  pub shown_same : same_role Clock s.role ≡ true → list ++ shown_from (k + 1) (drop (k + 1) signals) (drop (k + 1) words) ≡ whole
  shown_same e =
      ap (λ l. list ++ shown_from (k + 1) (drop (k + 1) signals) l) (sym next_words)
      ∙ ap (λ l. list ++ l) (sym (show_clock k s (drop (k + 1) signals) (drop k words) e))
      ∙ ap (λ l. list ++ shown_from k l (drop k words)) (sym at_signal)
      ∙ so_far

-- nothing is left where either list is at its end
changes_none : (before : List Shown) → changes before [] ≡ []
changes_none [] = refl
changes_none (x ∷ before) = refl

pub changes_end : (before after : List Shown) (n : ℕ) → n ≡ min (length before) (length after) → changes (drop n before) (drop n after) ≡ []
changes_end before after n e = by (either (length before) (length after))
  where
    either : (a b : ℕ) → (a ≤ b) ⊎ (b ≤ a)
    either zero b = inl (omega arith)
    either (suc a) zero = inr (omega arith)
    either (suc a) (suc b) = elim (either a b) [ inl h ↦ inl (omega arith) | inr h ↦ inr (omega arith) ]

    by : (length before ≤ length after) ⊎ (length after ≤ length before) → changes (drop n before) (drop n after) ≡ []
    by (inl h) = ap (λ l. changes l (drop n after)) (drop_all n before (omega arith))
    by (inr h) = ap (λ l. changes (drop n before) l) (drop_all n after (omega arith)) ∙ changes_none (drop n before)

-- the words of each signal fit it
fit_cons : (s : Signal) (signals : List Signal) (row : List ℕ) (rows : List (List ℕ)) → All (λ n. n < 2 ^ s.bits) row → FitSignals signals rows → FitSignals (s ∷ signals) (row ∷ rows)
fit_cons s signals row rows h more = record { at = by }
  where
    by : (g : ℕ) (x : Signal) → slice_get (s ∷ signals) g ≡ Some x → All (λ n. n < 2 ^ x.bits) (slice_index_or (row ∷ rows) g [])
    by zero x e = subst (λ (x : Signal). All (λ n. n < 2 ^ x.bits) row) (same_Some s x e) h
    by (suc g) x e = more.at g x e

first_word : (w : ℕ) (widths numbers : List ℕ) → AreWords (w ∷ widths) numbers → All (λ n. n < 2 ^ w) (take 1 numbers) × AreWords widths (drop 1 numbers)
first_word w widths numbers h = words_split 1 w widths numbers h

pub rows_fit : (signals : List Signal) (R I W : List ℕ) → All FitsSignal signals → AreWords (widths_of Register signals) R → AreWords (widths_of Input signals) I → AreWords (widths_of Wire signals) W →
    FitSignals signals (signal_words signals R I W)
rows_fit [] R I W h r i w = record { at = λ g x e. cc }
rows_fit (s ∷ signals) R I W h r i w = by (λ R' I' W' r' i' w'. rows_fit signals R' I' W' (All-tail FitsSignal s signals h) r' i' w') s.role refl
  where
    f : FitsSignal s
    f = All-head FitsSignal s signals h

    zero_below : (n : ℕ) → 0 < 2 ^ n
    zero_below n = pow_pos n

    by : ((R' I' W' : List ℕ) → AreWords (widths_of Register signals) R' → AreWords (widths_of Input signals) I' → AreWords (widths_of Wire signals) W' → FitSignals signals (signal_words signals R' I' W')) →
        (role : Role) → s.role ≡ role → FitSignals (s ∷ signals) (signal_words (s ∷ signals) R I W)
    by rest Clock e =
        let r' = subst (λ l. AreWords l R) (other_widths s signals Register (rw e)) r in
        let i' = subst (λ l. AreWords l I) (other_widths s signals Input (rw e)) i in
        let w' = subst (λ l. AreWords l W) (other_widths s signals Wire (rw e)) w in
        subst (λ l. FitSignals (s ∷ signals) l) (sym (words_clock s signals R I W e))
        (fit_cons s signals (0 ∷ []) (signal_words signals R I W) (All-cons (λ n. n < 2 ^ s.bits) 0 [] (zero_below s.bits) (All-nil (λ n. n < 2 ^ s.bits))) (rest R I W r' i' w'))
    by rest Input e =
        let none = no_words s f (λ q. cc) in
        let r' = subst (λ l. AreWords l R) (other_widths s signals Register (rw e)) r in
        let i' = first_word s.bits (widths_of Input signals) I (subst (λ l. AreWords l I) (plain_widths s signals Input (rw e) none) i) in
        let w' = subst (λ l. AreWords l W) (other_widths s signals Wire (rw e)) w in
        subst (λ l. FitSignals (s ∷ signals) l) (sym (words_input s signals R I W e))
        (fit_cons s signals (take 1 I) (signal_words signals R (drop 1 I) W) i'.0 (rest R (drop 1 I) W r' i'.1 w'))
    by rest Wire e =
        let none = no_words s f (λ q. cc) in
        let r' = subst (λ l. AreWords l R) (other_widths s signals Register (rw e)) r in
        let i' = subst (λ l. AreWords l I) (other_widths s signals Input (rw e)) i in
        let w' = first_word s.bits (widths_of Wire signals) W (subst (λ l. AreWords l W) (plain_widths s signals Wire (rw e) none) w) in
        subst (λ l. FitSignals (s ∷ signals) l) (sym (words_wire s signals R I W e))
        (fit_cons s signals (take 1 W) (signal_words signals R I (drop 1 W)) w'.0 (rest R I (drop 1 W) r' i' w'.1))
    by rest Register e =
        let n = element_count s.words in
        let r' = words_split n s.bits (widths_of Register signals) R (subst (λ l. AreWords l R) (own_widths s signals Register (rw e)) r) in
        let i' = subst (λ l. AreWords l I) (other_widths s signals Input (rw e)) i in
        let w' = subst (λ l. AreWords l W) (other_widths s signals Wire (rw e)) w in
        subst (λ l. FitSignals (s ∷ signals) l) (sym (words_register s signals R I W e))
        (fit_cons s signals (take n R) (signal_words signals (drop n R) I W) r'.0 (rest (drop n R) I W r'.1 i' w'))

-- the words of a view fit the signals
pub view_fits : (m : FlatModule) (v : View) → All FitsSignal m.signals → IsView m v → FitSignals m.signals (view_words m v)
view_fits m v h p = rows_fit m.signals v.registers v.inputs v.wires h p.registers p.inputs p.wires

-- the low bits of a number are below 2 to their number
pub modulo_below : (w : ℕ) (z : ℤ) → modulo w z < 2 ^ w
modulo_below w (pos n) = mod-lt n (pow_pos w)
modulo_below w (negsuc n) = let lt : 0 < 2 ^ w = pow_pos w in omega arith

-- driven inputs fit as the inputs before them do
pub driven_fits : (links : List Link) (members : List (List ℤ)) (k : ℕ) (signals : List Signal) (inputs : List ℕ) → All FitsSignal signals → AreWords (widths_of Input signals) inputs →
    AreWords (widths_of Input signals) (driven_from links members k signals inputs)
driven_fits links members k [] inputs h i = tt
driven_fits links members k (s ∷ signals) inputs h i = by (λ inputs' i'. driven_fits links members (k + 1) signals inputs' (All-tail FitsSignal s signals h) i') s.role refl
  where
    f : FitsSignal s
    f = All-head FitsSignal s signals h

    other : ((inputs' : List ℕ) → AreWords (widths_of Input signals) inputs' → AreWords (widths_of Input signals) (driven_from links members (k + 1) signals inputs')) →
        same_role Input s.role ≡ false → driven_from links members k (s ∷ signals) inputs ≡ driven_from links members (k + 1) signals inputs →
        AreWords (widths_of Input (s ∷ signals)) (driven_from links members k (s ∷ signals) inputs)
    other rest e step =
        subst (λ l. AreWords (widths_of Input (s ∷ signals)) l) (sym step)
        (subst (λ l. AreWords l (driven_from links members (k + 1) signals inputs)) (sym (other_widths s signals Input e))
        (rest inputs (subst (λ l. AreWords l inputs) (other_widths s signals Input e) i)))

    one : (o : Option ℕ) (numbers : List ℕ) → AreWords (s.bits ∷ widths_of Input signals) numbers → driven_input s o members (slice_index numbers 0) < 2 ^ s.bits
    one None [] g = absurd g
    one None (n ∷ numbers) g = g.0
    one (Some m) numbers g = modulo_below s.bits _

    by : ((inputs' : List ℕ) → AreWords (widths_of Input signals) inputs' → AreWords (widths_of Input signals) (driven_from links members (k + 1) signals inputs')) →
        (role : Role) → s.role ≡ role → AreWords (widths_of Input (s ∷ signals)) (driven_from links members k (s ∷ signals) inputs)
    by rest Input e =
        let none = no_words s f (λ q. cc) in
        let plain = plain_widths s signals Input (rw e) none in
        let g = subst (λ l. AreWords l inputs) plain i in
        let p = first_word s.bits (widths_of Input signals) inputs g in
        let step : driven_from links members k (s ∷ signals) inputs ≡ driven_input s (mirroring_member links k) members (slice_index inputs 0) ∷ driven_from links members (k + 1) signals (drop 1 inputs) = rw e in
        subst (λ l. AreWords (widths_of Input (s ∷ signals)) l) (sym step)
        (subst (λ l. AreWords l (driven_input s (mirroring_member links k) members (slice_index inputs 0) ∷ driven_from links members (k + 1) signals (drop 1 inputs))) (sym plain)
        (one (mirroring_member links k) inputs g, rest (drop 1 inputs) p.1))
    by rest Clock e = other rest (rw e) (rw e)
    by rest Wire e = other rest (rw e) (rw e)
    by rest Register e = other rest (rw e) (rw e)
