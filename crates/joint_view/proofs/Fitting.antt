-- Words that fit their widths, and the widths of a module.
use Rattle.std.proofs.Common.{◌≡◌, ℕ, zero, suc, ◌+◌, ◌<◌, ◌^◌, List, [], ◌∷◌, ◌++◌, length, get_or, take, drop, refl, sym, ap, ◌∙◌, subst, arith}
use Rattle.std.specs.Prelude.{Option, All, IfSome, if◌then◌else◌, true, false}
use Rattle.std.proofs.lemmas.List.{take_more}
use Rattle.std.proofs.lemmas.List.Elements.{All-nil, All-cons, All-head, All-tail, All-append}
use Rattle.joint_ir.specs.declared.module.Role.{Role}
use Rattle.joint_ir.specs.declared.module.Signal.{Signal}
use Rattle.joint_ir.specs.declared.module.Site.{Site}
use Rattle.joint_ir.specs.States.{copies, element_count}
use Rattle.joint_ir.specs.Views.{same_role, widths_of, site_widths}
use Rattle.joint_ir.specs.WellFormed.{FitsSignal, FitsSite, FitFirsts}
use Rattle.joint_view.specs.Conditions.{IsNarrow, AreWords}

-- as many numbers as widths
pub words_length : (widths numbers : List ℕ) → AreWords widths numbers → length numbers ≡ length widths
words_length [] [] h = refl
words_length [] (n ∷ numbers) h = absurd h
words_length (w ∷ widths) [] h = absurd h
words_length (w ∷ widths) (n ∷ numbers) h = ap suc (words_length widths numbers h.1)

pub word_below : (widths numbers : List ℕ) (k : ℕ) → AreWords widths numbers → k < length widths → get_or numbers k 0 < 2 ^ get_or widths k 0
word_below [] numbers k h lt = absurd (omega arith)
word_below (w ∷ widths) [] k h lt = absurd h
word_below (w ∷ widths) (n ∷ numbers) zero h lt = h.0
word_below (w ∷ widths) (n ∷ numbers) (suc k) h lt = word_below widths numbers k h.1 (omega arith)

pub words_append : (widths numbers vs ms : List ℕ) → AreWords widths numbers → AreWords vs ms → AreWords (widths ++ vs) (numbers ++ ms)
words_append [] [] vs ms h g = g
words_append [] (n ∷ numbers) vs ms h g = absurd h
words_append (w ∷ widths) [] vs ms h g = absurd h
words_append (w ∷ widths) (n ∷ numbers) vs ms h g = (h.0, words_append widths numbers vs ms h.1 g)

pub words_push : (widths numbers : List ℕ) (w n : ℕ) → AreWords widths numbers → n < 2 ^ w → AreWords (widths ++ w ∷ []) (numbers ++ n ∷ [])
words_push widths numbers w n h lt = words_append widths numbers (w ∷ []) (n ∷ []) h (lt, tt)

-- the words of the first widths, one more at a time
pub words_more : (widths numbers all : List ℕ) (k n : ℕ) → k < length widths → AreWords (take k widths) numbers → n < 2 ^ get_or widths k 0 →
    all ≡ numbers ++ n ∷ [] → AreWords (take (k + 1) widths) all
words_more widths numbers all k n lt h below is =
    let e : take (k + 1) widths ≡ take k widths ++ get_or widths k 0 ∷ [] = grind (arith, take_more) in
    subst (λ l. AreWords (take (k + 1) widths) l) (sym is) (subst (λ l. AreWords l (numbers ++ n ∷ [])) (sym e) (words_push (take k widths) numbers (get_or widths k 0) n h below))

-- the words of copies of one width, and those behind
pub words_split : (n w : ℕ) (widths numbers : List ℕ) → AreWords (copies n w ++ widths) numbers → All (λ m. m < 2 ^ w) (take n numbers) × AreWords widths (drop n numbers)
words_split zero w widths numbers h = (All-nil (λ m. m < 2 ^ w), h)
words_split (suc n) w widths [] h = absurd h
words_split (suc n) w widths (m ∷ numbers) h =
    let p = words_split n w widths numbers h.1 in
    (All-cons (λ m. m < 2 ^ w) m (take n numbers) h.0 p.0, p.1)

-- and joined again
pub words_joined : (n w : ℕ) (widths firsts numbers : List ℕ) → length firsts ≡ n → All (λ m. m < 2 ^ w) firsts → AreWords widths numbers → AreWords (copies n w ++ widths) (firsts ++ numbers)
words_joined zero w widths [] numbers e h g = g
words_joined zero w widths (m ∷ firsts) numbers e h g = absurd (omega arith)
words_joined (suc n) w widths [] numbers e h g = absurd (omega arith)
words_joined (suc n) w widths (m ∷ firsts) numbers e h g =
    (All-head (λ m. m < 2 ^ w) m firsts h, words_joined n w widths firsts numbers (omega arith) (All-tail (λ m. m < 2 ^ w) m firsts h) g)

All-copies : (P : ℕ → Type 0) (n w : ℕ) → P w → All P (copies n w)
All-copies P zero w h = All-nil P
All-copies P (suc n) w h = All-cons P w (copies n w) h (All-copies P n w h)

pub copies_more : (n x : ℕ) → copies (n + 1) x ≡ copies n x ++ x ∷ []
copies_more zero x = refl
copies_more (suc n) x =
    let e : suc n + 1 ≡ suc (n + 1) = omega arith in
    ap (λ m. copies m x) e ∙ ap (λ l. x ∷ l) (copies_more n x)

-- the widths of signals, of sites and of registers are narrow
pub widths_narrow : (role : Role) (signals : List Signal) → All FitsSignal signals → All IsNarrow (widths_of role signals)
widths_narrow role [] h = All-nil IsNarrow
widths_narrow role (s ∷ signals) h =
    let f : FitsSignal s = All-head FitsSignal s signals h in
    let narrow : IsNarrow s.bits = (f.some, f.few) in
    let more : All IsNarrow (widths_of role signals) = widths_narrow role signals (All-tail FitsSignal s signals h) in
    elim (same_role role s.role) as (λ b. All IsNarrow (if b then copies (element_count s.words) s.bits ++ widths_of role signals else widths_of role signals)) [
      | true ↦ All-append IsNarrow (copies (element_count s.words) s.bits) (widths_of role signals) (All-copies IsNarrow (element_count s.words) s.bits narrow) more
      | false ↦ more
    ]

pub sites_narrow : (sites : List Site) → All FitsSite sites → All IsNarrow (site_widths sites)
sites_narrow [] h = All-nil IsNarrow
sites_narrow (s ∷ sites) h =
    let f : FitsSite s = All-head FitsSite s sites h in
    All-cons IsNarrow s.bits (site_widths sites) (f.some, f.few) (sites_narrow sites (All-tail FitsSite s sites h))

-- as many first values as widths
pub firsts_length : (firsts : List (Option ℕ)) (widths : List ℕ) → FitFirsts firsts widths → length firsts ≡ length widths
firsts_length [] [] h = refl
firsts_length [] (w ∷ widths) h = absurd h
firsts_length (first ∷ firsts) [] h = absurd h
firsts_length (first ∷ firsts) (w ∷ widths) h = ap suc (firsts_length firsts widths h.1)

pub first_below : (firsts : List (Option ℕ)) (widths : List ℕ) (k : ℕ) (d : Option ℕ) → FitFirsts firsts widths → k < length widths → IfSome (get_or firsts k d) (λ n. n < 2 ^ get_or widths k 0)
first_below firsts [] k d h lt = absurd (omega arith)
first_below [] (w ∷ widths) k d h lt = absurd h
first_below (first ∷ firsts) (w ∷ widths) zero d h lt = h.0
first_below (first ∷ firsts) (w ∷ widths) (suc k) d h lt = first_below firsts widths k d h.1 (omega arith)
