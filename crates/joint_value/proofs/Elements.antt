-- The rows of objects: their first elements, one more at a time, an element set, and a part of them.
use Rattle.std.proofs.Common.{◌≡◌, ℕ, zero, suc, ◌+◌, ◌-◌, ◌<◌, ◌≤◌, List, [], ◌∷◌, ◌++◌, length, take, drop, get_or, set, min, ◌⊎◌, inl, inr, refl, sym, ap, ◌∙◌, arith, ℤ, pos}
use Rattle.std.proofs.lemmas.List.{map_more, map-set, get_or-map, map-append, take-map, drop-map, drop-drop, take_all, drop_all, take_more, drop-append-le, length-take, length-take-le, length-drop, length-append}
use Rattle.std.specs.Prelude.{map}
use Rattle.std.specs.Global.{Vec}
use Rattle.joint_ir.specs.declared.program.Var.{Var}
use Rattle.joint_ir.specs.States.{row_at, put_at, filled_up, first_rows, element_count}
use Rattle.std.proofs.lemmas.Bool.{cases_lt}
use Rattle.joint_value.specs.Elements.{row_items, part_of, replaced}

filled_next : (firsts : List ℤ) (k : ℕ) → filled_up firsts (suc k) ≡ filled_up firsts k ++ get_or firsts k (pos 0) ∷ []
filled_next [] zero = refl
filled_next [] (suc k) = ap (λ l. pos 0 ∷ l) (filled_next [] k)
filled_next (v ∷ firsts) zero = refl
filled_next (v ∷ firsts) (suc k) = ap (λ l. v ∷ l) (filled_next firsts k)

-- a row with one more element, whichever form the code gives it
pub filled_more : (firsts row more : List ℤ) (k : ℕ) (m : ℤ) → row ≡ filled_up firsts k → more ≡ row ++ m ∷ [] → m ≡ get_or firsts k (pos 0) →
    more ≡ filled_up firsts (k + 1)
filled_more firsts row more k m is grown element =
    let e : suc k ≡ k + 1 = omega arith in
    grown ∙ ap (λ l. l ++ m ∷ []) is ∙ ap (λ n. filled_up firsts k ++ n ∷ []) element ∙ sym (filled_next firsts k) ∙ ap (filled_up firsts) e

row_of : Var → List ℤ
row_of x = filled_up x.firsts (element_count x.length)

first_rows_map : (vars : List Var) → first_rows vars ≡ map row_of vars
unfolding row_of
first_rows_map [] = refl
first_rows_map (x ∷ vars) = ap (λ l. filled_up x.firsts (element_count x.length) ∷ l) (first_rows_map vars)

pub first_rows_more : (vars : List Var) (i : ℕ) (x : Var) → i < length vars → x ≡ get_or vars i x →
    first_rows (take (i + 1) vars) ≡ first_rows (take i vars) ++ filled_up x.firsts (element_count x.length) ∷ []
unfolding row_of
first_rows_more vars i x lt is =
    first_rows_map (take (i + 1) vars) ∙ map_more row_of vars i x lt
    ∙ ap (λ y. map row_of (take i vars) ++ row_of y ∷ []) (sym is)
    ∙ ap (λ l. l ++ row_of x ∷ []) (sym (first_rows_map (take i vars)))

-- one element of one row set
pub put_row : (rows : List (Vec ℤ)) (now : List (List ℤ)) (i j : ℕ) (row more : Vec ℤ) (n m : ℤ) → row_items rows ≡ now → i < length rows → row ≡ get_or rows i row →
    more.items ≡ set row.items j m → m ≡ n → row_items (set rows i more) ≡ put_at now i j n
put_row rows now i j row more n m view lt is grown same =
    let f : Vec ℤ → List ℤ = λ v. v.items in
    let row_is : row.items ≡ row_at (row_items rows) i = ap f is ∙ sym (get_or-map f rows i row [] lt) in
    map-set f rows i more ∙ ap (set (row_items rows) i) (grown ∙ ap (λ l. set l j m) row_is ∙ ap (set (row_at (row_items rows) i) j) same)
    ∙ ap (λ (l : List (List ℤ)). put_at l i j n) view

-- ---- a part of the rows

pub no_part : (rows : List (List ℤ)) (first end : ℕ) → end ≤ first → [] ≡ part_of first end rows
no_part rows first end le =
    let short : length (take end rows) ≡ min end (length rows) = length-take end rows in
    sym (drop_all first (take end rows) (omega (arith, short)))

pub part_more : (rows : List (List ℤ)) (first i : ℕ) → first ≤ i → i < length rows → part_of first i rows ++ row_at rows i ∷ [] ≡ part_of first (i + 1) rows
part_more rows first i le lt =
    let count : length (take i rows) ≡ i = length-take-le i rows (omega arith) in
    sym (ap (drop first) (take_more rows i [] lt) ∙ drop-append-le first (take i rows) (get_or rows i [] ∷ []) (omega (arith, count)))

-- a part that is copied up to its end or the last row
pub part_whole : (rows : List (List ℤ)) (first end i : ℕ) → first ≤ end → min end (length rows) ≤ i → (first ≤ min end (length rows) → i ≤ min end (length rows)) →
    part_of first i rows ≡ part_of first end rows
part_whole rows first end i le least most = by_length (cases_lt end (length rows))
  where
    by_length : (end < length rows) ⊎ (length rows ≤ end) → part_of first i rows ≡ part_of first end rows
    by_length (inl long) =
        let below : i ≤ min end (length rows) = most (omega arith) in
        let same : i ≡ end = omega (arith, below) in
        ap (λ n. part_of first n rows) same
    by_length (inr short) = ap (drop first) (take_all i rows (omega arith) ∙ sym (take_all end rows short))

pub part_length : {X : Type 0} (rows got : List X) (first k : ℕ) → first ≤ length rows → length got ≡ length (take k (drop first rows)) →
    length (take first rows ++ (got ++ drop k (drop first rows))) ≡ length rows
part_length rows got first k le same =
    let whole : length (take first rows ++ (got ++ drop k (drop first rows))) ≡ length (take first rows) + (length got + length (drop k (drop first rows))) =
    length-append (take first rows) (got ++ drop k (drop first rows)) ∙ ap (λ n. length (take first rows) + n) (length-append got (drop k (drop first rows))) in
    omega (arith, whole, same, length-take-le first rows le, length-take k (drop first rows), length-drop k (drop first rows), length-drop first rows)

pub put_part : (rows others got : List (Vec ℤ)) (now others_now : List (List ℤ)) (first n : ℕ) → row_items rows ≡ now → row_items others ≡ others_now → got ≡ others →
    n ≡ first + length others_now → row_items (take first rows ++ (got ++ drop (n - first) (drop first rows))) ≡ replaced first others_now now
put_part rows others got now others_now first n is_rows is_others is_got is_n =
    let f : Vec ℤ → List ℤ = λ v. v.items in
    let e : first + (n - first) ≡ first + length others_now = omega (arith, is_n) in
    map-append f (take first rows) (got ++ drop (n - first) (drop first rows))
    ∙ ap (λ x. map f (take first rows) ++ x) (map-append f got (drop (n - first) (drop first rows)))
    ∙ ap (λ x. x ++ (map f got ++ map f (drop (n - first) (drop first rows)))) (sym (take-map f first rows) ∙ ap (take first) is_rows)
    ∙ ap (λ x. take first now ++ (x ++ map f (drop (n - first) (drop first rows)))) (ap (map f) is_got ∙ is_others)
    ∙ ap (λ x. take first now ++ (others_now ++ map f x)) (drop-drop (n - first) first rows ∙ ap (λ k. drop k rows) e)
    ∙ ap (λ x. take first now ++ (others_now ++ x)) (sym (drop-map f (first + length others_now) rows) ∙ ap (drop (first + length others_now)) is_rows)
