-- Guards of entry.
use Rattle.std.proofs.Common.{◌≡◌, ℕ, zero, suc, ◌+◌, ◌<◌, ◌≤◌, Bool, true, false, List, [], ◌∷◌, ◌++◌, length, take, ◌⊎◌, ⊎_elim, inl, inr, Option, Some, None, cond, refl, sym, ap, ◌∙◌, subst, arith, add-zero}
use Rattle.std.specs.Prelude.{bit_and, bit_or, not, eqb, slice_get, slice_index_or, slice_set, if◌then◌else◌}
use Rattle.std.specs.List.{list_any, position_from}
use Rattle.std.proofs.lemmas.List.{length-take-le, take_more}
use Rattle.std.proofs.lemmas.Option.{slice_get-get_or}
use Rattle.std.proofs.lemmas.Bool.Decides.{nat_tests}
use Rattle.bits_core.specs.Word.{bit}
use Rattle.word_eqs.specs.Graph.{IsGraph}
use Rattle.word_eqs.specs.Meaning.{Values, Respects}
use Rattle.joint_ir.specs.declared.ctype.IntType.{IntType}
use Rattle.joint_ir.specs.declared.stmt.Group.{Group, out-Group}
use Rattle.joint_ir.specs.declared.stmt.Label.{Label}
use Rattle.joint_ir.specs.Statements.{is_case, is_default}
use Rattle.joint_lists.specs.Lists.{case_with, or_else}
use Rattle.sized_terms.specs.declared.SizedTerm.{SizedTerm}
use Rattle.sized_terms.specs.Sized.{bits}
use Rattle.unrolled.specs.declared.Unrolled.{Unrolled}
use Rattle.unwind_state.specs.declared.state.Guard.{Guard}
use Rattle.unwind_state.specs.declared.state.Guard.TheVariants.{Never}
use Rattle.unwind_state.specs.declared.state.Sides.{Sides}
use Rattle.unwind_state.specs.Guards.{Adds, AreSides, HasGuard, IsGuard, bit_at}
use Rattle.unwind_state.proofs.Gates.{adds_none, adds_then, guard_below, guard_kept}
use Rattle.switch_guards.specs.Entries.{ArePlaced, IsBit, is_nowhere, is_place, number_of}

-- the place of the first of some and one more

abbrev pub last_place : Bool → ℕ → Option ℕ
last_place b i = if b then Some i else None

first_last : (b : Bool) (i : ℕ) (o r : Option ℕ) → (o' : Option ℕ) → o' ≡ or_else o r → cond b (Some i) o' ≡ or_else (cond b (Some i) o) r
first_last true i o r o' e = refl
first_last false i o r o' e = e

same_last : (b : Bool) (i j : ℕ) → i ≡ j → last_place b i ≡ last_place b j
same_last b i j e = ap (last_place b) e

only_last : (b : Bool) (i : ℕ) → cond b (Some i) None ≡ last_place b i
only_last true i = refl
only_last false i = refl

pub position_more : {X : Type 0} (p : X → Bool) (i : ℕ) (xs : List X) (x : X) → position_from p i (xs ++ x ∷ []) ≡ or_else (position_from p i xs) (last_place (p x) (i + length xs))
position_more p i [] x = only_last (p x) i ∙ same_last (p x) i (i + 0) (omega arith)
position_more p i (y ∷ ys) x =
    first_last (p y) i (position_from p (i + 1) ys) (last_place (p x) (i + suc (length ys))) (position_from p (i + 1) (ys ++ x ∷ []))
    (position_more p (i + 1) ys x ∙ ap (or_else (position_from p (i + 1) ys)) (same_last (p x) ((i + 1) + length ys) (i + suc (length ys)) (omega arith)))

below_case : (b : Bool) (i n j : ℕ) (o : Option ℕ) → (o ≡ Some j → j < n) → i < n → cond b (Some i) o ≡ Some j → j < n
below_case true i n j o h few e = let same : i ≡ j = (let d : Some i ≡ Some j = e in cc) in subst (λ k. k < n) same few
below_case false i n j o h few e = h e

pub position_below : {X : Type 0} (p : X → Bool) (i : ℕ) (xs : List X) (j : ℕ) → position_from p i xs ≡ Some j → j < i + length xs
position_below p i [] j e = let d : None ≡ Some j = e in cc
position_below p i (x ∷ xs) j e = below_case (p x) i (i + suc (length xs)) j (position_from p (i + 1) xs) (λ e. let h = position_below p (i + 1) xs j e in omega (arith, h)) (omega arith) e

-- elements of lists

pub get_last : {X : Type 0} (xs : List X) (t : X) (k : ℕ) (e : X) → slice_get (xs ++ t ∷ []) k ≡ Some e → ((k < length xs) × (slice_get xs k ≡ Some e)) ⊎ ((k ≡ length xs) × (e ≡ t))
get_last [] t zero e at = let same : e ≡ t = (let d : Some t ≡ Some e = at in cc) in inr (refl, same)
get_last [] t (suc k) e at = let d : None ≡ Some e = at in cc
get_last (x ∷ xs) t zero e at = inl (omega arith, at)
get_last (x ∷ xs) t (suc k) e at = ⊎_elim (λ (h, q). inl (omega arith, q)) (λ (h, q). inr (ap suc h, q)) (get_last xs t k e at)

pub get_set : {X : Type 0} (xs : List X) (d : ℕ) (n : X) (k : ℕ) (e : X) → slice_get (slice_set xs d n) k ≡ Some e → ((k ≡ d) × (e ≡ n)) ⊎ ((k ≡ d → ⊥) × (slice_get xs k ≡ Some e))
get_set [] d n k e at = let h : None ≡ Some e = at in cc
get_set (x ∷ xs) zero n zero e at = let same : e ≡ n = (let h : Some n ≡ Some e = at in cc) in inl (refl, same)
get_set (x ∷ xs) zero n (suc k) e at = inr (λ h. omega arith, at)
get_set (x ∷ xs) (suc d) n zero e at = inr (λ h. omega arith, at)
get_set (x ∷ xs) (suc d) n (suc k) e at = ⊎_elim (λ (h, q). inl (ap suc h, q)) (λ (h, q). inr (λ f. h (let g : k ≡ d = omega arith in g), q)) (get_set xs d n k e at)

-- bits

other_place : (i k : ℕ) → (k ≡ i → ⊥) → eqb i k ≡ false
other_place i k isnt = grind (arith, nat_tests)

own_place : (i : ℕ) → eqb i i ≡ true
own_place i = grind (arith, nat_tests)

place_kept : (o : Option ℕ) (h : Bool) (i k : ℕ) → k < i → is_place k (or_else o (last_place h i)) ≡ is_place k o
place_kept (Some j) h i k few = refl
place_kept None true i k few = other_place i k (λ e. omega arith)
place_kept None false i k few = refl

and_false : (n : ℕ) → n < 2 → bit_and n 0 ≡ 0
and_false zero h = refl
and_false (suc zero) h = refl
and_false (suc (suc n)) h = absurd (omega arith)

and_true : (n : ℕ) → n < 2 → bit_and n 1 ≡ n
and_true zero h = refl
and_true (suc zero) h = refl
and_true (suc (suc n)) h = absurd (omega arith)

and_zero : (b : Bool) → bit_and 0 (bit b) ≡ 0
and_zero true = refl
and_zero false = refl

taken_bit : (G : ℕ) → G < 2 → (o : Option ℕ) (h : Bool) (i : ℕ) → ((j : ℕ) → o ≡ Some j → j < i) → bit_and (bit_and G (bit (is_nowhere o))) (bit h) ≡ bit_and G (bit (is_place i (or_else o (last_place h i))))
taken_bit G few (Some j) h i below =
    let q = below j refl in
    ap (λ n. bit_and n (bit h)) (and_false G few) ∙ and_zero h ∙ sym (ap (λ b. bit_and G (bit b)) (other_place j i (λ e. omega arith)) ∙ and_false G few)
taken_bit G few None true i below = ap (λ n. bit_and n 1) (and_true G few) ∙ ap (λ b. bit_and G (bit b)) (sym (own_place i))
taken_bit G few None false i below = ap (λ n. bit_and n 0) (and_true G few)

other_bit : (G : ℕ) → G < 2 → (o : Option ℕ) (h : Bool) (i : ℕ) → bit_and (bit_and G (bit (is_nowhere o))) (bit (not h)) ≡ bit_and G (bit (is_nowhere (or_else o (last_place h i))))
other_bit G few (Some j) h i = ap (λ n. bit_and n (bit (not h))) (and_false G few) ∙ and_zero (not h) ∙ sym (and_false G few)
other_bit G few None true i = ap (λ n. bit_and n 0) (and_true G few)
other_bit G few None false i = ap (λ n. bit_and n 1) (and_true G few)

or_zero : (G : ℕ) → G < 2 → (b : Bool) → bit_or (bit_and G (bit b)) 0 ≡ bit_and G (bit b)
or_zero zero few true = refl
or_zero zero few false = refl
or_zero (suc zero) few true = refl
or_zero (suc zero) few false = refl
or_zero (suc (suc n)) few b = absurd (omega arith)

zero_or : (G : ℕ) → G < 2 → bit_or 0 (bit_and G 1) ≡ bit_and G 1
zero_or zero few = refl
zero_or (suc zero) few = refl
zero_or (suc (suc n)) few = absurd (omega arith)

default_bit : (G : ℕ) → G < 2 → (o : Option ℕ) (d : ℕ) → bit_or (bit_and G (bit (is_place d o))) (bit_and G (bit (is_nowhere o))) ≡ bit_and G (bit (is_place d (or_else o (Some d))))
default_bit G few (Some j) d = ap (bit_or (bit_and G (bit (eqb j d)))) (and_false G few) ∙ or_zero G few (eqb j d)
default_bit G few None d = ap (λ n. bit_or n (bit_and G 1)) (and_false G few) ∙ zero_or G few ∙ ap (λ b. bit_and G (bit b)) (sym (own_place d))

default_kept : (o : Option ℕ) (d k : ℕ) → (k ≡ d → ⊥) → is_place k o ≡ is_place k (or_else o (Some d))
default_kept (Some j) d k isnt = refl
default_kept None d k isnt = sym (other_place d k isnt)

somewhere : (o : Option ℕ) (d : ℕ) → is_nowhere (or_else o (Some d)) ≡ false
somewhere (Some j) d = refl
somewhere None d = refl

-- no group so far
pub placed_first : (n : Unrolled) (g : Guard) (place : Values → Option ℕ) → IsGraph n.terms → HasGuard n.terms g → ((v : Values) → place v ≡ None) → ArePlaced n n g 0 [] g place
placed_first n g place proper has none = record {
  adds = adds_none n proper;
  count = refl;
  has = λ k e at. let d : None ≡ Some e = at in cc;
  has_past = has;
  enters = λ v r k e at. let d : None ≡ Some e = at in cc;
  passes = λ v r. sym (ap (λ (o : Option ℕ). bit_and (bit_at v g) (bit (is_nowhere o))) (none v) ∙ and_true (bit_at v g) (guard_below v n.terms g proper r has));
}

-- one group more
pub placed_more : (n0 n1 n2 n3 : Unrolled) (g : Guard) (i : ℕ) (guards : List Guard) (past : Guard) (place place' : Values → Option ℕ) (hit : Values → Bool) (set : SizedTerm) (sides : Sides) → ArePlaced n0 n1 g i guards past place → Adds n1 n2 → ((v : Values) → Respects v n2.terms → bits v set ≡ bit (hit v)) → AreSides n2 n3 set past sides →
    HasGuard n0.terms g → ((v : Values) (j : ℕ) → place v ≡ Some j → j < i) → ((v : Values) → place' v ≡ or_else (place v) (last_place (hit v) i)) → ArePlaced n0 n3 g (suc i) (guards ++ sides.taken ∷ []) sides.other place'
placed_more n0 n1 n2 n3 g i guards past place place' hit set sides A L is S has below next = record {
  adds = adds;
  count = counted guards i A.count;
  has = λ k e at. ⊎_elim (λ (h, q). guard_kept n1 n3 e later (A.has k e q)) (λ (h, q). subst (HasGuard n3.terms) (sym q) S.has_taken) (get_last guards sides.taken k e at);
  has_past = S.has_other;
  enters = λ v r k e at. ⊎_elim (λ (h, q). old v r k e h q) (λ (h, q). new v r k e h q) (get_last guards sides.taken k e at);
  passes = λ v r.
      S.other v r (hit v) (is v (S.adds.grown v r)) ∙ ap (λ n. bit_and n (bit (not (hit v)))) (A.passes v (later.grown v r)) ∙ other_bit (bit_at v g) (few v r) (place v) (hit v) i
      ∙ ap (λ (o : Option ℕ). bit_and (bit_at v g) (bit (is_nowhere o))) (sym (next v));
}
  where
    later : Adds n1 n3
    later = adds_then n1 n2 n3 L S.adds

    adds : Adds n0 n3
    adds = adds_then n0 n1 n3 A.adds later

    counted : (xs : List Guard) (i : ℕ) → length xs ≡ i → length (xs ++ sides.taken ∷ []) ≡ suc i
    counted [] i e = ap suc e
    counted (x ∷ xs) zero e = absurd (omega arith)
    counted (x ∷ xs) (suc i) e = ap suc (counted xs i (omega arith))

    few : (v : Values) → Respects v n3.terms → bit_at v g < 2
    few v r = guard_below v n3.terms g adds.proper r (guard_kept n0 n3 g adds has)

    old : (v : Values) → Respects v n3.terms → (k : ℕ) (e : Guard) → k < length guards → slice_get guards k ≡ Some e → bit_at v e ≡ bit_and (bit_at v g) (bit (is_place k (place' v)))
    old v r k e h q =
        A.enters v (later.grown v r) k e q ∙ ap (λ b. bit_and (bit_at v g) (bit b)) (sym (place_kept (place v) (hit v) i k (let c = A.count in omega (arith, c, h)))) ∙ ap (λ (o : Option ℕ). bit_and (bit_at v g) (bit (is_place k o))) (sym (next v))

    new : (v : Values) → Respects v n3.terms → (k : ℕ) (e : Guard) → k ≡ length guards → e ≡ sides.taken → bit_at v e ≡ bit_and (bit_at v g) (bit (is_place k (place' v)))
    new v r k e h q =
        ap (bit_at v) q ∙ S.taken v r (hit v) (is v (S.adds.grown v r)) ∙ ap (λ n. bit_and n (bit (hit v))) (A.passes v (later.grown v r)) ∙ taken_bit (bit_at v g) (few v r) (place v) (hit v) i (below v)
        ∙ ap (λ (o : Option ℕ). bit_and (bit_at v g) (bit (is_place i o))) (sym (next v)) ∙ ap (λ j. bit_and (bit_at v g) (bit (is_place j (place' v)))) (sym (h ∙ A.count))

first_none : (p : Group → Bool) (groups : List Group) → position_from p 0 (take 0 groups) ≡ None
first_none p [] = refl
first_none p (x ∷ groups) = refl

-- before all groups
pub hits_first : (n : Unrolled) (ty : IntType) (value : SizedTerm) (g : Guard) (groups : List Group) (guards : List Guard) → guards ≡ [] → IsGraph n.terms → HasGuard n.terms g →
    ArePlaced n n g 0 guards g (λ v. case_with (is_case (number_of ty v value)) (take 0 groups))
hits_first n ty value g groups guards is proper has =
    subst (λ (l : List Guard). ArePlaced n n g 0 l g (λ v. case_with (is_case (number_of ty v value)) (take 0 groups))) (sym is)
    (placed_first n g (λ v. case_with (is_case (number_of ty v value)) (take 0 groups)) proper has (λ v. first_none (λ h. list_any (is_case (number_of ty v value)) (out-Group h).labels) groups))

-- one group more
pub hits_more : (n0 n1 n2 n3 : Unrolled) (ty : IntType) (value : SizedTerm) (g : Guard) (groups : List Group) (i : ℕ) (x : Group) (labels : List Label) (guards more : List Guard) (past : Guard) (set : SizedTerm) (sides : Sides) → i < length groups → x ≡ slice_index_or groups i x → labels ≡ (out-Group x).labels → more ≡ guards ++ sides.taken ∷ [] →
    ArePlaced n0 n1 g i guards past (λ v. case_with (is_case (number_of ty v value)) (take i groups)) → IsBit n1 n2 set (λ v. list_any (is_case (number_of ty v value)) labels) → AreSides n2 n3 set past sides → HasGuard n0.terms g →
    ArePlaced n0 n3 g (i + 1) more sides.other (λ v. case_with (is_case (number_of ty v value)) (take (i + 1) groups))
hits_more n0 n1 n2 n3 ty value g groups i x labels guards more past set sides few item own pushed A B S has =
    let p : Values → Group → Bool = λ v h. list_any (is_case (number_of ty v value)) (out-Group h).labels in
    let here : take (i + 1) groups ≡ take i groups ++ x ∷ [] = take_more groups i x few ∙ ap (λ (y : Group). take i groups ++ y ∷ []) (sym item) in
    let counted : length (take i groups) ≡ i = length-take-le i groups (omega (arith, few)) in
    let next : (v : Values) → position_from (p v) 0 (take (i + 1) groups) ≡ or_else (position_from (p v) 0 (take i groups)) (last_place (p v x) i) = λ v.
    ap (position_from (p v) 0) here ∙ position_more (p v) 0 (take i groups) x ∙ ap (or_else (position_from (p v) 0 (take i groups))) (same_last (p v x) (0 + length (take i groups)) i (omega (arith, counted))) in
    let M = placed_more n0 n1 n2 n3 g i guards past (λ v. position_from (p v) 0 (take i groups)) (λ v. position_from (p v) 0 (take (i + 1) groups)) (λ v. p v x) set sides A B.adds
    (λ v r. B.value v r ∙ ap (λ (l : List Label). bit (list_any (is_case (number_of ty v value)) l)) own) S has (λ v j e. let q = position_below (p v) 0 (take i groups) j e in omega (arith, q, counted)) next in
    let k : suc i ≡ i + 1 = omega arith in
    subst (λ j. ArePlaced n0 n3 g j more sides.other (λ v. position_from (p v) 0 (take (i + 1) groups))) k
    (subst (λ (l : List Guard). ArePlaced n0 n3 g (suc i) l sides.other (λ v. position_from (p v) 0 (take (i + 1) groups))) (sym pushed) M)

-- `default`
pub placed_default : (n0 n1 n2 : Unrolled) (g : Guard) (count : ℕ) (guards : List Guard) (past old new : Guard) (d : ℕ) (place place' : Values → Option ℕ) → ArePlaced n0 n1 g count guards past place → slice_get guards d ≡ Some old → IsGuard n1 n2 new (λ v. bit_or (bit_at v old) (bit_at v past)) →
    HasGuard n0.terms g → ((v : Values) → place' v ≡ or_else (place v) (Some d)) → ArePlaced n0 n2 g count (slice_set guards d new) Never place'
placed_default n0 n1 n2 g count guards past old new d place place' A at_d E has next = record {
  adds = adds;
  count = counted guards d ∙ A.count;
  has = λ k e at. ⊎_elim (λ (h, q). subst (HasGuard n2.terms) (sym q) E.has) (λ (h, q). guard_kept n1 n2 e E.adds (A.has k e q)) (get_set guards d new k e at);
  has_past = tt;
  enters = λ v r k e at. ⊎_elim (λ (h, q). here v r k e h q) (λ (h, q). elsewhere v r k e h q) (get_set guards d new k e at);
  passes = λ v r. sym (ap (λ (o : Option ℕ). bit_and (bit_at v g) (bit (is_nowhere o))) (next v) ∙ ap (λ b. bit_and (bit_at v g) (bit b)) (somewhere (place v) d) ∙ and_false (bit_at v g) (few v r));
}
  where
    adds : Adds n0 n2
    adds = adds_then n0 n1 n2 A.adds E.adds

    counted : (xs : List Guard) (d : ℕ) → length (slice_set xs d new) ≡ length xs
    counted [] d = refl
    counted (x ∷ xs) zero = refl
    counted (x ∷ xs) (suc d) = ap suc (counted xs d)

    few : (v : Values) → Respects v n2.terms → bit_at v g < 2
    few v r = guard_below v n2.terms g adds.proper r (guard_kept n0 n2 g adds has)

    here : (v : Values) → Respects v n2.terms → (k : ℕ) (e : Guard) → k ≡ d → e ≡ new → bit_at v e ≡ bit_and (bit_at v g) (bit (is_place k (place' v)))
    here v r k e h q =
        ap (bit_at v) q ∙ E.value v r ∙ ap (λ n. bit_or n (bit_at v past)) (A.enters v (E.adds.grown v r) d old at_d) ∙ ap (bit_or (bit_and (bit_at v g) (bit (is_place d (place v))))) (A.passes v (E.adds.grown v r))
        ∙ default_bit (bit_at v g) (few v r) (place v) d ∙ ap (λ (o : Option ℕ). bit_and (bit_at v g) (bit (is_place d o))) (sym (next v)) ∙ ap (λ j. bit_and (bit_at v g) (bit (is_place j (place' v)))) (sym h)

    elsewhere : (v : Values) → Respects v n2.terms → (k : ℕ) (e : Guard) → (k ≡ d → ⊥) → slice_get guards k ≡ Some e → bit_at v e ≡ bit_and (bit_at v g) (bit (is_place k (place' v)))
    elsewhere v r k e h q =
        A.enters v (E.adds.grown v r) k e q ∙ ap (λ b. bit_and (bit_at v g) (bit b)) (default_kept (place v) d k h) ∙ ap (λ (o : Option ℕ). bit_and (bit_at v g) (bit (is_place k o))) (sym (next v))

-- the same places, in other words
pub placed_as : (n0 n1 : Unrolled) (g : Guard) (count : ℕ) (guards : List Guard) (past : Guard) (place place' : Values → Option ℕ) → ((v : Values) → place v ≡ place' v) → ArePlaced n0 n1 g count guards past place → ArePlaced n0 n1 g count guards past place'
placed_as n0 n1 g count guards past place place' e A = record {
  adds = A.adds;
  count = A.count;
  has = A.has;
  has_past = A.has_past;
  enters = λ v r k e' at. A.enters v r k e' at ∙ ap (λ (o : Option ℕ). bit_and (bit_at v g) (bit (is_place k o))) (e v);
  passes = λ v r. A.passes v r ∙ ap (λ (o : Option ℕ). bit_and (bit_at v g) (bit (is_nowhere o))) (e v);
}

pub default_below : (groups : List Group) (i : ℕ) → case_with is_default groups ≡ Some i → i < length groups
default_below groups i e = let q = position_below (λ h. list_any is_default (out-Group h).labels) 0 groups i e in omega (arith, q)

pub placed_get : {X : Type 0} (xs : List X) (i : ℕ) (x : X) → i < length xs → x ≡ slice_index_or xs i x → slice_get xs i ≡ Some x
placed_get xs i x few e = slice_get-get_or xs i x few ∙ ap Some (sym e)

pub none_else : (o : Option ℕ) → o ≡ or_else o None
none_else None = refl
none_else (Some j) = refl
