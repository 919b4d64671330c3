-- What fits is what says each option once and names as many files as there may be.
use Rattle.std.proofs.Common.{◌≡◌, ◌∙◌, ◌++◌, ◌≤◌, ◌⊎◌, inl, inr, refl, sym, ap, arith, ℕ, zero, suc, Bool, true, false, List, [], ◌∷◌, Option, Some, None, is_some, if◌then◌else◌, ◌||◌, codes, length}
use Rattle.std.specs.Str.{bytes_eq}
use Rattle.std.proofs.lemmas.List.Folds.{list_any-append}
use Rattle.std.proofs.lemmas.Slice.Eq.{bytes_eq-Decides}
use Rattle.clap.specs.Words.{Row, Text}
use Rattle.clap.specs.Walk.{has_row}
use Rattle.command_words.specs.Words.{Named, Top, Bound, Unwind, UnwindSet, Budget, Decide, name_of, check_name, Thing, Sets, Checks, Names, value_of, checks, files_of, are_once}
use Rattle.command_words.proofs.Rows.{row}
use Rattle.command_words.proofs.Takes.{fits}
use Rattle.command_words.proofs.Once.{said_of, option_said, check_said, c_none, v_none}

if_parts : (b x : Bool) → (if b then false else x) ≡ true → (b ≡ false) × (x ≡ true)
if_parts true x h = let z : true ≡ false = sym h in cc
if_parts false x h = (refl, h)

if_both : (b x : Bool) → b ≡ false → x ≡ true → (if b then false else x) ≡ true
if_both true x e h = let z : true ≡ false = e in cc
if_both false x e h = h

one_less : (l : ℕ) (ts : List Thing) → length (files_of ts) ≤ l → suc (length (files_of ts)) ≤ suc l
one_less l ts k = omega (arith, k)

-- as many files as may come
pub few_files : (l : ℕ) (rows : List Row) (ts : List Thing) → fits l rows ts ≡ true → length (files_of ts) ≤ l
few_files l rows [] h = omega arith
few_files l rows (Sets o v ∷ ts) h = few_files l (rows ++ row (name_of o) v ∷ []) ts (if_parts _ _ h).1
few_files l rows (Checks ∷ ts) h = few_files l (rows ++ row check_name (codes "true") ∷ []) ts (if_parts _ _ h).1
few_files zero rows (Names f ∷ ts) h = let z : true ≡ false = sym h in cc
few_files (suc zero) rows (Names f ∷ ts) h = one_less zero ts (few_files zero (rows ++ row (codes "v-file") f ∷ []) ts (if_parts _ _ h).1)
few_files (suc (suc l)) rows (Names f ∷ ts) h = one_less (suc l) ts (few_files (suc l) (rows ++ row (codes "c-file") f ∷ []) ts (if_parts _ _ h).1)

-- rows that grow
has_more : (id i v : Text) (rows : List Row) → has_row id (rows ++ row i v ∷ []) ≡ (has_row id rows || (bytes_eq i id || false))
has_more id i v rows = list_any-append (λ r. bytes_eq r.id id) rows (row i v ∷ [])

or_left : (a b : Bool) → a ≡ true → (a || b) ≡ true
or_left true b h = refl
or_left false b h = let z : true ≡ false = sym h in cc

or_last : (a b : Bool) → b ≡ true → (a || (b || false)) ≡ true
or_last true b h = refl
or_last false true h = refl
or_last false false h = h

has_still : (id i v : Text) (rows : List Row) → has_row id rows ≡ true → has_row id (rows ++ row i v ∷ []) ≡ true
has_still id i v rows h = has_more id i v rows ∙ or_left (has_row id rows) _ h

has_last : (id i v : Text) (rows : List Row) → bytes_eq i id ≡ true → has_row id (rows ++ row i v ∷ []) ≡ true
has_last id i v rows h = has_more id i v rows ∙ or_last (has_row id rows) (bytes_eq i id) h

same_text : (a b : Text) → bytes_eq a b ≡ true → a ≡ b
same_text a b h = (bytes_eq-Decides a b).0 h

own_name : (o : Named) → bytes_eq (name_of o) (name_of o) ≡ true
own_name Top = refl
own_name Bound = refl
own_name Unwind = refl
own_name UnwindSet = refl
own_name Budget = refl
own_name Decide = refl

if_no : {X : Type 0} (b : Bool) (x y : X) → b ≡ false → (if b then x else y) ≡ y
if_no true x y e = let z : true ≡ false = e in cc
if_no false x y e = refl

-- an id that was used isn't said again
unsaid : (id i v : Text) (rows : List Row) (rest : Option Text) → has_row id rows ≡ true → has_row i rows ≡ false → rest ≡ None
    → (b : Bool) → bytes_eq i id ≡ b → (if bytes_eq i id then Some v else rest) ≡ None
unsaid id i v rows rest h g e true s =
    let t : has_row i rows ≡ true = ap (λ k. has_row k rows) (same_text i id s) ∙ h in let z : true ≡ false = sym t ∙ g in cc
unsaid id i v rows rest h g e false s = if_no _ _ _ s ∙ e

gone : (id : Text) (l : ℕ) (rows : List Row) (ts : List Thing) → has_row id rows ≡ true → fits l rows ts ≡ true → said_of id l ts ≡ None
gone id l rows [] h f = refl
gone id l rows (Sets o v ∷ ts) h f =
    unsaid id (name_of o) v rows _ h (if_parts _ _ f).0 (gone id l (rows ++ row (name_of o) v ∷ []) ts (has_still id (name_of o) v rows h) (if_parts _ _ f).1) (bytes_eq (name_of o) id) refl
gone id l rows (Checks ∷ ts) h f =
    unsaid id check_name (codes "true") rows _ h (if_parts _ _ f).0 (gone id l (rows ++ row check_name (codes "true") ∷ []) ts (has_still id check_name (codes "true") rows h) (if_parts _ _ f).1)
    (bytes_eq check_name id) refl
gone id zero rows (Names g ∷ ts) h f = refl
gone id (suc zero) rows (Names g ∷ ts) h f =
    unsaid id (codes "v-file") g rows _ h (if_parts _ _ f).0 (gone id zero (rows ++ row (codes "v-file") g ∷ []) ts (has_still id (codes "v-file") g rows h) (if_parts _ _ f).1)
    (bytes_eq (codes "v-file") id) refl
gone id (suc (suc l)) rows (Names g ∷ ts) h f =
    unsaid id (codes "c-file") g rows _ h (if_parts _ _ f).0 (gone id (suc l) (rows ++ row (codes "c-file") g ∷ []) ts (has_still id (codes "c-file") g rows h) (if_parts _ _ f).1)
    (bytes_eq (codes "c-file") id) refl

if_true_none : (b : Bool) → (if b then Some (codes "true") else None) ≡ None → b ≡ false
if_true_none true h = cc
if_true_none false h = refl

-- what fits is said once
pub once : (l : ℕ) (rows : List Row) (ts : List Thing) → fits l rows ts ≡ true → are_once ts ≡ true
once l rows [] h = refl
once l rows (Sets o v ∷ ts) h =
    let rest = (if_parts _ _ h).1 in
    let none : value_of o ts ≡ None = sym (option_said o l ts (few_files l _ ts rest)) ∙ gone (name_of o) l _ ts (has_last (name_of o) (name_of o) v rows (own_name o)) rest in
    if_both (is_some (value_of o ts)) (are_once ts) (ap is_some none) (once l _ ts rest)
once l rows (Checks ∷ ts) h =
    let rest = (if_parts _ _ h).1 in
    let none : (if checks ts then Some (codes "true") else None) ≡ None =
    sym (check_said l ts (few_files l _ ts rest)) ∙ gone check_name l _ ts (has_last check_name check_name (codes "true") rows refl) rest in
    if_both (checks ts) (are_once ts) (if_true_none (checks ts) none) (once l _ ts rest)
once zero rows (Names f ∷ ts) h = let z : true ≡ false = sym h in cc
once (suc zero) rows (Names f ∷ ts) h = once zero _ ts (if_parts _ _ h).1
once (suc (suc l)) rows (Names f ∷ ts) h = once (suc l) _ ts (if_parts _ _ h).1

-- no id that was used is said again
abbrev pub Apart : ℕ → List Row → List Thing → Type 0
Apart l rows ts = (id : Text) → has_row id rows ≡ true → said_of id l ts ≡ None

if_none : {X : Type 0} (b : Bool) (v : X) (rest : Option X) → (if b then Some v else rest) ≡ None → (b ≡ false) × (rest ≡ None)
if_none true v rest h = cc
if_none false v rest h = (refl, h)

or_parts : (a b : Bool) → (a || (b || false)) ≡ true → (a ≡ true) ⊎ (b ≡ true)
or_parts true b h = inl refl
or_parts false true h = inr refl
or_parts false false h = let z : true ≡ false = sym h in cc

-- the id of a thing that is said is new, and what is said behind it stays apart
new_id : (i v : Text) (l l' : ℕ) (rows : List Row) (t : Thing) (ts : List Thing) → Apart l rows (t ∷ ts)
    → ((id : Text) → said_of id l (t ∷ ts) ≡ (if bytes_eq i id then Some v else said_of id l' ts)) → bytes_eq i i ≡ true → has_row i rows ≡ false
new_id i v l l' rows t ts apart step own = by_test (has_row i rows) refl
  where
    by_test : (b : Bool) → has_row i rows ≡ b → has_row i rows ≡ false
    by_test true h = let z : true ≡ false = sym own ∙ (if_none _ _ _ (sym (step i) ∙ apart i h)).0 in cc
    by_test false h = h

still_apart : (i v : Text) (l l' : ℕ) (rows : List Row) (t : Thing) (ts : List Thing) → Apart l rows (t ∷ ts)
    → ((id : Text) → said_of id l (t ∷ ts) ≡ (if bytes_eq i id then Some v else said_of id l' ts)) → said_of i l' ts ≡ None
    → Apart l' (rows ++ row i v ∷ []) ts
still_apart i v l l' rows t ts apart step last id h = by_part (or_parts (has_row id rows) (bytes_eq i id) (sym (has_more id i v rows) ∙ h))
  where
    by_part : (has_row id rows ≡ true) ⊎ (bytes_eq i id ≡ true) → said_of id l' ts ≡ None
    by_part (inl k) = (if_none _ _ _ (sym (step id) ∙ apart id k)).1
    by_part (inr k) = ap (λ x. said_of x l' ts) (sym (same_text i id k)) ∙ last

some_not : {X : Type 0} (x : Option X) → is_some x ≡ false → x ≡ None
some_not None h = refl
some_not (Some x) h = let z : true ≡ false = h in cc

-- what is said once, with few files, fits
pub fit : (l : ℕ) (rows : List Row) (ts : List Thing) → are_once ts ≡ true → length (files_of ts) ≤ l → Apart l rows ts → l ≤ 2 → fits l rows ts ≡ true
fit l rows [] o k a m = refl
fit l rows (Sets x v ∷ ts) o k a m =
    let none : value_of x ts ≡ None = some_not (value_of x ts) (if_parts _ _ o).0 in
    if_both _ _ (new_id (name_of x) v l l rows (Sets x v) ts a (λ id. refl) (own_name x))
    (fit l (rows ++ row (name_of x) v ∷ []) ts (if_parts _ _ o).1 k (still_apart (name_of x) v l l rows (Sets x v) ts a (λ id. refl) (option_said x l ts k ∙ none)) m)
fit l rows (Checks ∷ ts) o k a m =
    let none : checks ts ≡ false = (if_parts _ _ o).0 in
    if_both _ _ (new_id check_name (codes "true") l l rows Checks ts a (λ id. refl) refl)
    (fit l (rows ++ row check_name (codes "true") ∷ []) ts (if_parts _ _ o).1 k
    (still_apart check_name (codes "true") l l rows Checks ts a (λ id. refl) (check_said l ts k ∙ ap (λ b. if b then Some (codes "true") else None) none)) m)
fit zero rows (Names f ∷ ts) o k a m = absurd (omega (arith, k))
fit (suc zero) rows (Names f ∷ ts) o k a m =
    if_both _ _ (new_id (codes "v-file") f 1 0 rows (Names f) ts a (λ id. refl) refl)
    (fit zero (rows ++ row (codes "v-file") f ∷ []) ts o (omega (arith, k)) (still_apart (codes "v-file") f 1 0 rows (Names f) ts a (λ id. refl) (v_none ts)) (omega arith))
fit (suc (suc l)) rows (Names f ∷ ts) o k a m =
    if_both _ _ (new_id (codes "c-file") f (suc (suc l)) (suc l) rows (Names f) ts a (λ id. refl) refl)
    (fit (suc l) (rows ++ row (codes "c-file") f ∷ []) ts o (omega (arith, k))
    (still_apart (codes "c-file") f (suc (suc l)) (suc l) rows (Names f) ts a (λ id. refl) (c_none (suc l) ts (omega (arith, m)))) (omega (arith, m)))
