-- Rows that were put back, place by place.
use Rattle.std.proofs.Common.{◌≡◌, ℕ, zero, suc, ◌+◌, ◌<◌, ◌≤◌, List, [], ◌∷◌, ◌++◌, length, take, drop, map, refl, sym, ap, ◌∙◌, subst, ◌⊎◌, inl, inr, arith}
use Rattle.std.specs.Prelude.{slice_index_or}
use Rattle.std.proofs.lemmas.List.{take-map, drop-map, map-append, length-map}
use Rattle.unwind_calls.specs.Rows.{rows_part, rows_back}

module _ {A : Type 0} (d : A) where
  abbrev at : List A → ℕ → A
  at xs i = slice_index_or xs i d

  -- the first rows and the last ones, by their places
  pub take_at : (f i : ℕ) (xs : List A) → i < f → at (take f xs) i ≡ at xs i
  take_at zero i xs lt = absurd (omega arith)
  take_at (suc f) i [] lt = refl
  take_at (suc f) zero (x ∷ xs) lt = refl
  take_at (suc f) (suc i) (x ∷ xs) lt = take_at f i xs (omega arith)

  pub drop_at : (e j : ℕ) (xs : List A) → at (drop e xs) j ≡ at xs (e + j)
  drop_at zero j xs = let e : 0 + j ≡ j = omega arith in ap (at xs) (sym e)
  drop_at (suc e) j [] = refl
  drop_at (suc e) j (x ∷ xs) = let more : suc e + j ≡ suc (e + j) = omega arith in drop_at e j xs ∙ ap (at (x ∷ xs)) (sym more)

  -- where the first rows are others
  abbrev front : (end : ℕ) (xs ys : List A) → List A
  front end xs ys = take end xs ++ drop (length (take end xs)) ys

  front_low : (end i : ℕ) (xs ys : List A) → length xs ≡ length ys → i < end → at (front end xs ys) i ≡ at xs i
  front_low zero i xs ys e lt = absurd (omega arith)
  front_low (suc end) i [] [] e lt = refl
  front_low (suc end) i [] (y ∷ ys) e lt = absurd (omega (arith, e))
  front_low (suc end) i (x ∷ xs) [] e lt = absurd (omega (arith, e))
  front_low (suc end) zero (x ∷ xs) (y ∷ ys) e lt = refl
  front_low (suc end) (suc i) (x ∷ xs) (y ∷ ys) e lt = front_low end i xs ys (omega (arith, e)) (omega arith)

  front_high : (end i : ℕ) (xs ys : List A) → length xs ≡ length ys → end ≤ i → at (front end xs ys) i ≡ at ys i
  front_high zero i xs ys e le = refl
  front_high (suc end) i [] [] e le = refl
  front_high (suc end) i [] (y ∷ ys) e le = absurd (omega (arith, e))
  front_high (suc end) i (x ∷ xs) [] e le = absurd (omega (arith, e))
  front_high (suc end) zero (x ∷ xs) (y ∷ ys) e le = absurd (omega arith)
  front_high (suc end) (suc i) (x ∷ xs) (y ∷ ys) e le = front_high end i xs ys (omega (arith, e)) (omega arith)

  front_self : (end : ℕ) (xs : List A) → front end xs xs ≡ xs
  front_self zero xs = refl
  front_self (suc end) [] = refl
  front_self (suc end) (x ∷ xs) = ap (λ l. x ∷ l) (front_self end xs)

  front_length : (end : ℕ) (xs ys : List A) → length xs ≡ length ys → length (front end xs ys) ≡ length ys
  front_length zero xs ys e = refl
  front_length (suc end) [] [] e = refl
  front_length (suc end) [] (y ∷ ys) e = absurd (omega (arith, e))
  front_length (suc end) (x ∷ xs) [] e = absurd (omega (arith, e))
  front_length (suc end) (x ∷ xs) (y ∷ ys) e = ap suc (front_length end xs ys (omega (arith, e)))

  -- rows from one place to another are others
  abbrev back : (first end : ℕ) (xs ys : List A) → List A
  back first end xs ys = rows_back first (rows_part first end xs) ys

  back_none : (e : ℕ) (xs ys : List A) → back zero e xs ys ≡ front e xs ys
  back_none e xs ys = let none : 0 + length (take e xs) ≡ length (take e xs) = omega arith in ap (λ n. take e xs ++ drop n ys) none

  back_more : (f e : ℕ) (x y : A) (xs ys : List A) → back (suc f) (suc e) (x ∷ xs) (y ∷ ys) ≡ y ∷ back f e xs ys
  back_more f e x y xs ys =
      let n = length (drop f (take e xs)) in
      let more : suc f + n ≡ suc (f + n) = omega arith in
      ap (λ m. y ∷ take f ys ++ (drop f (take e xs) ++ drop m (y ∷ ys))) more

  pub back_low : (f e i : ℕ) (xs ys : List A) → length xs ≡ length ys → f ≤ length ys → f ≤ e → i < f → at (back f e xs ys) i ≡ at ys i
  back_low zero e i xs ys n some le lt = absurd (omega arith)
  back_low (suc f) zero i xs ys n some le lt = absurd (omega arith)
  back_low (suc f) (suc e) i [] ys n some le lt = absurd (omega (arith, n))
  back_low (suc f) (suc e) i (x ∷ xs) [] n some le lt = absurd (omega (arith, n))
  back_low (suc f) (suc e) zero (x ∷ xs) (y ∷ ys) n some le lt = refl
  back_low (suc f) (suc e) (suc i) (x ∷ xs) (y ∷ ys) n some le lt = ap (λ l. at l (suc i)) (back_more f e x y xs ys) ∙ back_low f e i xs ys (omega (arith, n)) (omega arith) (omega arith) (omega arith)

  pub back_own : (f e i : ℕ) (xs ys : List A) → length xs ≡ length ys → f ≤ length ys → f ≤ i → i < e → at (back f e xs ys) i ≡ at xs i
  back_own zero e i xs ys n some le lt = ap (λ l. at l i) (back_none e xs ys) ∙ front_low e i xs ys n lt
  back_own (suc f) zero i xs ys n some le lt = absurd (omega arith)
  back_own (suc f) (suc e) i [] ys n some le lt = absurd (omega (arith, n))
  back_own (suc f) (suc e) i (x ∷ xs) [] n some le lt = absurd (omega (arith, n))
  back_own (suc f) (suc e) zero (x ∷ xs) (y ∷ ys) n some le lt = absurd (omega arith)
  back_own (suc f) (suc e) (suc i) (x ∷ xs) (y ∷ ys) n some le lt = ap (λ l. at l (suc i)) (back_more f e x y xs ys) ∙ back_own f e i xs ys (omega (arith, n)) (omega arith) (omega arith) (omega arith)

  pub back_high : (f e i : ℕ) (xs ys : List A) → length xs ≡ length ys → f ≤ length ys → f ≤ e → e ≤ i → at (back f e xs ys) i ≡ at ys i
  back_high zero e i xs ys n some le lt = ap (λ l. at l i) (back_none e xs ys) ∙ front_high e i xs ys n lt
  back_high (suc f) zero i xs ys n some le lt = absurd (omega arith)
  back_high (suc f) (suc e) i [] ys n some le lt = absurd (omega (arith, n))
  back_high (suc f) (suc e) i (x ∷ xs) [] n some le lt = absurd (omega (arith, n))
  back_high (suc f) (suc e) zero (x ∷ xs) (y ∷ ys) n some le lt = absurd (omega arith)
  back_high (suc f) (suc e) (suc i) (x ∷ xs) (y ∷ ys) n some le lt = ap (λ l. at l (suc i)) (back_more f e x y xs ys) ∙ back_high f e i xs ys (omega (arith, n)) (omega arith) (omega arith) (omega arith)

  pub back_self : (f e : ℕ) (xs : List A) → f ≤ e → back f e xs xs ≡ xs
  back_self zero e xs le = back_none e xs xs ∙ front_self e xs
  back_self (suc f) zero xs le = absurd (omega arith)
  back_self (suc f) (suc e) [] le = let none : suc f + 0 ≡ suc f = omega arith in ap (λ n. drop n []) none
  back_self (suc f) (suc e) (x ∷ xs) le = back_more f e x x xs xs ∙ ap (λ l. x ∷ l) (back_self f e xs (omega arith))

  pub back_length : (f e : ℕ) (xs ys : List A) → length xs ≡ length ys → f ≤ length ys → f ≤ e → length (back f e xs ys) ≡ length ys
  back_length zero e xs ys n some le = ap length (back_none e xs ys) ∙ front_length e xs ys n
  back_length (suc f) zero xs ys n some le = absurd (omega arith)
  back_length (suc f) (suc e) [] ys n some le = absurd (omega (arith, n))
  back_length (suc f) (suc e) (x ∷ xs) [] n some le = absurd (omega (arith, n))
  back_length (suc f) (suc e) (x ∷ xs) (y ∷ ys) n some le = ap length (back_more f e x y xs ys) ∙ ap suc (back_length f e xs ys (omega (arith, n)) (omega arith) (omega arith))

  -- each row is one of the two, where both lists have so many rows
  front_either : (e i : ℕ) (xs ys : List A) → e ≤ length xs → e ≤ length ys → (at (front e xs ys) i ≡ at ys i) ⊎ (at (front e xs ys) i ≡ at xs i)
  front_either zero i xs ys a b = inl refl
  front_either (suc e) i [] ys a b = absurd (omega (arith, a))
  front_either (suc e) i (x ∷ xs) [] a b = absurd (omega (arith, b))
  front_either (suc e) zero (x ∷ xs) (y ∷ ys) a b = inr refl
  front_either (suc e) (suc i) (x ∷ xs) (y ∷ ys) a b = front_either e i xs ys (omega (arith, a)) (omega (arith, b))

  pub back_either : (f e i : ℕ) (xs ys : List A) → f ≤ e → e ≤ length xs → e ≤ length ys → (at (back f e xs ys) i ≡ at ys i) ⊎ (at (back f e xs ys) i ≡ at xs i)
  back_either zero e i xs ys le a b = subst (λ l. (at l i ≡ at ys i) ⊎ (at l i ≡ at xs i)) (sym (back_none e xs ys)) (front_either e i xs ys a b)
  back_either (suc f) zero i xs ys le a b = absurd (omega arith)
  back_either (suc f) (suc e) i [] ys le a b = absurd (omega (arith, a))
  back_either (suc f) (suc e) i (x ∷ xs) [] le a b = absurd (omega (arith, b))
  back_either (suc f) (suc e) zero (x ∷ xs) (y ∷ ys) le a b = inl refl
  back_either (suc f) (suc e) (suc i) (x ∷ xs) (y ∷ ys) le a b =
      subst (λ l. (at l (suc i) ≡ at ys i) ⊎ (at l (suc i) ≡ at xs i)) (sym (back_more f e x y xs ys)) (back_either f e i xs ys (omega arith) (omega (arith, a)) (omega (arith, b)))

  -- past the end there is none
  pub at_end : (xs : List A) → at xs (length xs) ≡ d
  at_end [] = refl
  at_end (x ∷ xs) = at_end xs

-- what is made of each row
pub back_mapped : {A B : Type 0} (h : A → B) (f e : ℕ) (xs ys : List A) → map h (rows_back f (rows_part f e xs) ys) ≡ rows_back f (rows_part f e (map h xs)) (map h ys)
back_mapped h f e xs ys =
    let part = rows_part f e xs in
    let parts : map h part ≡ rows_part f e (map h xs) = sym (drop-map h f (take e xs)) ∙ ap (drop f) (sym (take-map h e xs)) in
    let n : length (map h part) ≡ length part = length-map part h in
    map-append h (take f ys) (part ++ drop (f + length part) ys) ∙ ap (λ l. l ++ map h (part ++ drop (f + length part) ys)) (sym (take-map h f ys))
    ∙ ap (λ l. take f (map h ys) ++ l) (map-append h part (drop (f + length part) ys) ∙ ap (λ l. map h part ++ l) (sym (drop-map h (f + length part) ys) ∙ ap (λ n. drop (f + n) (map h ys)) (sym n)))
    ∙ ap (λ p. rows_back f p (map h ys)) parts
