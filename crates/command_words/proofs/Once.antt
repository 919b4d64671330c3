-- The rows of a parse hold what the things say, and what fits is said once.
use Rattle.std.proofs.Common.{◌≡◌, ◌∙◌, ◌++◌, ◌≤◌, refl, sym, ap, arith, ℕ, zero, suc, Bool, true, false, List, [], ◌∷◌, Option, Some, None, if◌then◌else◌, codes, length, slice_get}
use Rattle.std.specs.Prelude.{find, option_and_then}
use Rattle.std.specs.Option.{option_or}
use Rattle.std.specs.Str.{bytes_eq}
use Rattle.std.proofs.lemmas.List.Folds.{find-append}
use Rattle.clap.specs.Words.{Row, Text}
use Rattle.command_words.specs.Words.{Named, Top, Bound, Unwind, UnwindSet, Budget, Decide, name_of, check_name, Thing, Sets, Checks, Names, value_of, checks, files_of}
use Rattle.command_words.proofs.Rows.{row}
use Rattle.command_words.proofs.Takes.{rows_with}

-- the first row of an id, and its value
abbrev pub row_of : (id : Text) → List Row → Option Row
row_of id rows = find (λ r. bytes_eq r.id id) rows

abbrev pub value_in : Option Row → Option Text
value_in found = option_and_then (λ r. slice_get r.values 0) found

-- the value that things give an id, where so many files may come
abbrev pub said_of : (id : Text) (left : ℕ) → List Thing → Option Text
said_of id l [] = None
said_of id l (Sets o v ∷ ts) = if bytes_eq (name_of o) id then Some v else said_of id l ts
said_of id l (Checks ∷ ts) = if bytes_eq check_name id then Some (codes "true") else said_of id l ts
said_of id zero (Names f ∷ ts) = None
said_of id (suc zero) (Names f ∷ ts) = if bytes_eq (codes "v-file") id then Some f else said_of id zero ts
said_of id (suc (suc l)) (Names f ∷ ts) = if bytes_eq (codes "c-file") id then Some f else said_of id (suc l) ts

found_more : (id : Text) (rows : List Row) (r x : Row) → row_of id rows ≡ Some x → row_of id (rows ++ r ∷ []) ≡ Some x
found_more id rows r x e = find-append (λ r. bytes_eq r.id id) rows (r ∷ []) ∙ ap (λ f. option_or f (row_of id (r ∷ []))) e

found_last : (id i v : Text) (rows : List Row) → row_of id rows ≡ None → bytes_eq i id ≡ true → row_of id (rows ++ row i v ∷ []) ≡ Some (row i v)
found_last id i v rows e h =
    find-append (λ r. bytes_eq r.id id) rows (row i v ∷ []) ∙ (ap (λ f. option_or f (row_of id (row i v ∷ []))) e ∙ ap (λ b. if b then Some (row i v) else None) h)

found_none : (id i v : Text) (rows : List Row) → row_of id rows ≡ None → bytes_eq i id ≡ false → row_of id (rows ++ row i v ∷ []) ≡ None
found_none id i v rows e h =
    find-append (λ r. bytes_eq r.id id) rows (row i v ∷ []) ∙ (ap (λ f. option_or f (row_of id (row i v ∷ []))) e ∙ ap (λ b. if b then Some (row i v) else None) h)

keeps : (id : Text) (l : ℕ) (rows : List Row) (ts : List Thing) (x : Row) → row_of id rows ≡ Some x → row_of id (rows_with l rows ts) ≡ Some x
keeps id l rows [] x e = e
keeps id l rows (Sets o v ∷ ts) x e = keeps id l (rows ++ row (name_of o) v ∷ []) ts x (found_more id rows (row (name_of o) v) x e)
keeps id l rows (Checks ∷ ts) x e = keeps id l (rows ++ row check_name (codes "true") ∷ []) ts x (found_more id rows (row check_name (codes "true")) x e)
keeps id zero rows (Names f ∷ ts) x e = e
keeps id (suc zero) rows (Names f ∷ ts) x e = keeps id zero (rows ++ row (codes "v-file") f ∷ []) ts x (found_more id rows (row (codes "v-file") f) x e)
keeps id (suc (suc l)) rows (Names f ∷ ts) x e = keeps id (suc l) (rows ++ row (codes "c-file") f ∷ []) ts x (found_more id rows (row (codes "c-file") f) x e)

-- one thing more
one_more : (id i v : Text) (l : ℕ) (rows : List Row) (ts : List Thing) (rest : Option Text) → row_of id rows ≡ None
    → (row_of id (rows ++ row i v ∷ []) ≡ None → value_in (row_of id (rows_with l (rows ++ row i v ∷ []) ts)) ≡ rest)
    → (b : Bool) → bytes_eq i id ≡ b → value_in (row_of id (rows_with l (rows ++ row i v ∷ []) ts)) ≡ (if bytes_eq i id then Some v else rest)
one_more id i v l rows ts rest e more true h =
    ap value_in (keeps id l (rows ++ row i v ∷ []) ts (row i v) (found_last id i v rows e h)) ∙ sym (ap (λ b. if b then Some v else rest) h)
one_more id i v l rows ts rest e more false h = more (found_none id i v rows e h) ∙ sym (ap (λ b. if b then Some v else rest) h)

-- the rows hold what the things say
pub holds : (id : Text) (l : ℕ) (rows : List Row) (ts : List Thing) → row_of id rows ≡ None → value_in (row_of id (rows_with l rows ts)) ≡ said_of id l ts
holds id l rows [] e = ap value_in e
holds id l rows (Sets o v ∷ ts) e =
    one_more id (name_of o) v l rows ts _ e (λ k. holds id l (rows ++ row (name_of o) v ∷ []) ts k) (bytes_eq (name_of o) id) refl
holds id l rows (Checks ∷ ts) e =
    one_more id check_name (codes "true") l rows ts _ e (λ k. holds id l (rows ++ row check_name (codes "true") ∷ []) ts k) (bytes_eq check_name id) refl
holds id zero rows (Names f ∷ ts) e = ap value_in e
holds id (suc zero) rows (Names f ∷ ts) e =
    one_more id (codes "v-file") f zero rows ts _ e (λ k. holds id zero (rows ++ row (codes "v-file") f ∷ []) ts k) (bytes_eq (codes "v-file") id) refl
holds id (suc (suc l)) rows (Names f ∷ ts) e =
    one_more id (codes "c-file") f (suc l) rows ts _ e (λ k. holds id (suc l) (rows ++ row (codes "c-file") f ∷ []) ts k) (bytes_eq (codes "c-file") id) refl

-- what the things say of each id
option_no_file : (o : Named) → (bytes_eq (codes "c-file") (name_of o) ≡ false) × (bytes_eq (codes "v-file") (name_of o) ≡ false)
option_no_file Top = (refl, refl)
option_no_file Bound = (refl, refl)
option_no_file Unwind = (refl, refl)
option_no_file UnwindSet = (refl, refl)
option_no_file Budget = (refl, refl)
option_no_file Decide = (refl, refl)

no_file_option : (o : Named) → (bytes_eq (name_of o) (codes "c-file") ≡ false) × (bytes_eq (name_of o) (codes "v-file") ≡ false)
no_file_option Top = (refl, refl)
no_file_option Bound = (refl, refl)
no_file_option Unwind = (refl, refl)
no_file_option UnwindSet = (refl, refl)
no_file_option Budget = (refl, refl)
no_file_option Decide = (refl, refl)

pub option_no_check : (o : Named) → (bytes_eq check_name (name_of o) ≡ false) × (bytes_eq (name_of o) check_name ≡ false)
option_no_check Top = (refl, refl)
option_no_check Bound = (refl, refl)
option_no_check Unwind = (refl, refl)
option_no_check UnwindSet = (refl, refl)
option_no_check Budget = (refl, refl)
option_no_check Decide = (refl, refl)

if_other : {X : Type 0} (b : Bool) (x y : X) → b ≡ false → (if b then x else y) ≡ y
if_other true x y e = let z : true ≡ false = e in cc
if_other false x y e = refl

pub option_said : (o : Named) (l : ℕ) (ts : List Thing) → length (files_of ts) ≤ l → said_of (name_of o) l ts ≡ value_of o ts
option_said o l [] h = refl
option_said o l (Sets o' v ∷ ts) h = ap (λ x. if bytes_eq (name_of o') (name_of o) then Some v else x) (option_said o l ts h)
option_said o l (Checks ∷ ts) h = if_other _ _ _ (option_no_check o).0 ∙ option_said o l ts h
option_said o zero (Names f ∷ ts) h = absurd (omega (arith, h))
option_said o (suc zero) (Names f ∷ ts) h = if_other _ _ _ (option_no_file o).1 ∙ option_said o zero ts (omega (arith, h))
option_said o (suc (suc l)) (Names f ∷ ts) h = if_other _ _ _ (option_no_file o).0 ∙ option_said o (suc l) ts (omega (arith, h))

pub check_said : (l : ℕ) (ts : List Thing) → length (files_of ts) ≤ l → said_of check_name l ts ≡ (if checks ts then Some (codes "true") else None)
check_said l [] h = refl
check_said l (Sets o v ∷ ts) h = if_other _ _ _ (option_no_check o).1 ∙ check_said l ts h
check_said l (Checks ∷ ts) h = refl
check_said zero (Names f ∷ ts) h = absurd (omega (arith, h))
check_said (suc zero) (Names f ∷ ts) h = check_said zero ts (omega (arith, h))
check_said (suc (suc l)) (Names f ∷ ts) h = check_said (suc l) ts (omega (arith, h))

-- the files
pub c_none : (l : ℕ) (ts : List Thing) → l ≤ 1 → said_of (codes "c-file") l ts ≡ None
c_none l [] h = refl
c_none l (Sets o v ∷ ts) h = if_other _ _ _ (no_file_option o).0 ∙ c_none l ts h
c_none l (Checks ∷ ts) h = c_none l ts h
c_none zero (Names f ∷ ts) h = refl
c_none (suc zero) (Names f ∷ ts) h = c_none zero ts (omega arith)
c_none (suc (suc l)) (Names f ∷ ts) h = absurd (omega (arith, h))

pub v_none : (ts : List Thing) → said_of (codes "v-file") 0 ts ≡ None
v_none [] = refl
v_none (Sets o v ∷ ts) = if_other _ _ _ (no_file_option o).1 ∙ v_none ts
v_none (Checks ∷ ts) = v_none ts
v_none (Names f ∷ ts) = refl

pub c_said : (ts : List Thing) → said_of (codes "c-file") 2 ts ≡ slice_get (files_of ts) 0
c_said [] = refl
c_said (Sets o v ∷ ts) = if_other _ _ _ (no_file_option o).0 ∙ c_said ts
c_said (Checks ∷ ts) = c_said ts
c_said (Names f ∷ ts) = refl

v_said_one : (ts : List Thing) → said_of (codes "v-file") 1 ts ≡ slice_get (files_of ts) 0
v_said_one [] = refl
v_said_one (Sets o v ∷ ts) = if_other _ _ _ (no_file_option o).1 ∙ v_said_one ts
v_said_one (Checks ∷ ts) = v_said_one ts
v_said_one (Names f ∷ ts) = refl

pub v_said : (ts : List Thing) → said_of (codes "v-file") 2 ts ≡ slice_get (files_of ts) 1
v_said [] = refl
v_said (Sets o v ∷ ts) = if_other _ _ _ (no_file_option o).1 ∙ v_said ts
v_said (Checks ∷ ts) = v_said ts
v_said (Names f ∷ ts) = v_said_one ts
