-- What the words say, and what a parse makes of them, side by side.
use Rattle.std.proofs.Common.{◌≡◌, ◌∙◌, ◌++◌, refl, sym, ap, ℕ, zero, suc, Bool, true, false, List, [], ◌∷◌, Option, Some, None, if◌then◌else◌, codes}
use Rattle.clap.specs.Words.{Row, Text}
use Rattle.clap.specs.Walk.{Walk, walked, settled, has_row}
use Rattle.clap.specs.Kinds.{or_else}
use Rattle.clap.specs.Faults.{turn_fault, walk_fault}
use Rattle.command_words.specs.Words.{name_of, check_name, Thing, Sets, Checks, Names, beside}
use Rattle.command_words.proofs.Rules.{rules, top}
use Rattle.command_words.proofs.Faults.{is_quiet, quiet-or, fault, fault-next, end_quiet, walked_on}
use Rattle.command_words.proofs.Rows.{row}
use Rattle.command_words.proofs.States.{Clean}

-- no option stands twice, and there are at most `left` files
abbrev pub fits : (left : ℕ) (rows : List Row) → List Thing → Bool
fits l rows [] = true
fits l rows (Sets o v ∷ ts) = if has_row (name_of o) rows then false else fits l (rows ++ row (name_of o) v ∷ []) ts
fits l rows (Checks ∷ ts) = if has_row check_name rows then false else fits l (rows ++ row check_name (codes "true") ∷ []) ts
fits zero rows (Names f ∷ ts) = false
fits (suc zero) rows (Names f ∷ ts) = if has_row (codes "v-file") rows then false else fits zero (rows ++ row (codes "v-file") f ∷ []) ts
fits (suc (suc l)) rows (Names f ∷ ts) = if has_row (codes "c-file") rows then false else fits (suc l) (rows ++ row (codes "c-file") f ∷ []) ts

-- the rows once all is used
abbrev pub rows_with : (left : ℕ) (rows : List Row) → List Thing → List Row
rows_with l rows [] = rows
rows_with l rows (Sets o v ∷ ts) = rows_with l (rows ++ row (name_of o) v ∷ []) ts
rows_with l rows (Checks ∷ ts) = rows_with l (rows ++ row check_name (codes "true") ∷ []) ts
rows_with zero rows (Names f ∷ ts) = rows
rows_with (suc zero) rows (Names f ∷ ts) = rows_with zero (rows ++ row (codes "v-file") f ∷ []) ts
rows_with (suc (suc l)) rows (Names f ∷ ts) = rows_with (suc l) (rows ++ row (codes "c-file") f ∷ []) ts

-- the parse takes the words, or refuses them, and the words say so
pub data Parses (w : Walk) (words : List Text) (l : ℕ) (rows : List Row) (things : Option (List Thing)) : Type 0 where
  takes : (ts : List Thing) → things ≡ Some ts → fits l rows ts ≡ true → fault w words ≡ []
      → (settled rules (walked_on w words).held).rows ≡ rows_with l rows ts → Parses w words l rows things
  refuses : is_quiet (fault w words) ≡ false → ((ts : List Thing) → things ≡ Some ts → fits l rows ts ≡ false) → Parses w words l rows things

-- a word that is refused at once
pub refused_now : (w : Walk) (word : Text) (rest : List Text) (l : ℕ) (rows : List Row) (things : Option (List Thing))
    → is_quiet (turn_fault top [] w word) ≡ false → ((ts : List Thing) → things ≡ Some ts → fits l rows ts ≡ false) → Parses w (word ∷ rest) l rows things
refused_now w word rest l rows things h bad =
    refuses (ap is_quiet (fault-next w word rest) ∙ quiet-or (turn_fault top [] w word) _ h) bad

-- a word after which the parse is as `w'`
next_fault : (w w' : Walk) (word : Text) (rest : List Text) → turn_fault top [] w word ≡ [] → walked rules [] w word ≡ w'
    → fault w (word ∷ rest) ≡ fault w' rest
next_fault w w' word rest quiet walk =
    fault-next w word rest ∙ ap (λ x. or_else x (fault (walked rules [] w word) rest)) quiet ∙ ap (λ x. fault x rest) walk

next_rows : (w w' : Walk) (word : Text) (rest : List Text) → walked rules [] w word ≡ w'
    → (settled rules (walked_on w (word ∷ rest)).held).rows ≡ (settled rules (walked_on w' rest).held).rows
next_rows w w' word rest walk = ap (λ x. (settled rules (walked_on x rest).held).rows) walk

-- a word that says nothing by itself
pub goes_on : (w w' : Walk) (word : Text) (rest : List Text) (l : ℕ) (rows : List Row) (things : Option (List Thing))
    → turn_fault top [] w word ≡ [] → walked rules [] w word ≡ w' → Parses w' rest l rows things → Parses w (word ∷ rest) l rows things
goes_on w w' word rest l rows things quiet walk (takes ts is ok none all) =
    takes ts is ok (next_fault w w' word rest quiet walk ∙ none) (next_rows w w' word rest walk ∙ all)
goes_on w w' word rest l rows things quiet walk (refuses h bad) = refuses (ap is_quiet (next_fault w w' word rest quiet walk) ∙ h) bad

-- what is beside a thing
beside_is : (x : Thing) (things : Option (List Thing)) (ts : List Thing) → beside x things ≡ Some ts
    → (more : List Thing) × (things ≡ Some more) × (ts ≡ x ∷ more)
beside_is x None ts e = cc
beside_is x (Some more) ts e = (more, refl, some_same e)
  where
    some_same : Some (x ∷ more) ≡ Some ts → ts ≡ x ∷ more
    some_same h = cc

-- a word that says one thing
pub says : (x : Thing) (w w' : Walk) (word : Text) (rest : List Text) (l l' : ℕ) (rows rows' : List Row) (things : Option (List Thing))
    → ((ts : List Thing) → (fits l rows (x ∷ ts) ≡ fits l' rows' ts) × (rows_with l rows (x ∷ ts) ≡ rows_with l' rows' ts))
    → turn_fault top [] w word ≡ [] → walked rules [] w word ≡ w' → Parses w' rest l' rows' things → Parses w (word ∷ rest) l rows (beside x things)
says x w w' word rest l l' rows rows' things step quiet walk (takes ts is ok none all) =
    takes (x ∷ ts) (ap (beside x) is) ((step ts).0 ∙ ok) (next_fault w w' word rest quiet walk ∙ none) (next_rows w w' word rest walk ∙ (all ∙ sym (step ts).1))
says x w w' word rest l l' rows rows' things step quiet walk (refuses h bad) =
    refuses (ap is_quiet (next_fault w w' word rest quiet walk) ∙ h) (λ ts e. by_more ts (beside_is x things ts e))
  where
    by_more : (ts : List Thing) → (more : List Thing) × (things ≡ Some more) × (ts ≡ x ∷ more) → fits l rows ts ≡ false
    by_more ts m = ap (fits l rows) m.2 ∙ ((step m.0).0 ∙ bad m.0 m.1)

-- a thing that may not stand there
pub bars : (x : Thing) (l : ℕ) (rows : List Row) (things : Option (List Thing)) → ((ts : List Thing) → fits l rows (x ∷ ts) ≡ false)
    → (ts : List Thing) → beside x things ≡ Some ts → fits l rows ts ≡ false
bars x l rows things h ts e = by_more (beside_is x things ts e)
  where
    by_more : (more : List Thing) × (things ≡ Some more) × (ts ≡ x ∷ more) → fits l rows ts ≡ false
    by_more m = ap (fits l rows) m.2 ∙ h m.0

-- the end of the words
pub ends_clean : (w : Walk) (l : ℕ) (rows : List Row) → Clean w.held rows → Parses w [] l rows (Some [])
unfolding walk_fault
ends_clean w l rows c = takes [] refl refl (end_quiet w.held c.quiet) c.settled_is
