-- What the mirror shows, one word, one member at a time, and the inputs that it drives.
use Rattle.std.proofs.Common.{◌≡◌, ℕ, zero, suc, ◌+◌, ◌^◌, ◌<◌, ◌≤◌, List, [], ◌∷◌, ◌++◌, length, map, get_or, take, drop, Bool, true, false, refl, sym, ap, ◌∙◌, subst, arith, append_assoc, append-nil}
use Rattle.std.specs.Prelude.{ℤ, pos, Option, Some, None, nat_lt, slice_get, slice_index, slice_index_or}
use Rattle.std.proofs.lemmas.List.{map-append, length-map, drop-map, drop_more, drop_all, take_all}
use Rattle.std.proofs.lemmas.Option.{same_Some}
use Rattle.bits_core.specs.Word.{bit, number, modulo, resized}
use Rattle.word_eqs.specs.declared.term.TermId.{TermId}
use Rattle.word_eqs.specs.Graph.{Graph, IsGraph, width_in}
use Rattle.word_eqs.specs.Meaning.{Values, Respects}
use Rattle.joint_ir.specs.declared.ctype.IntType.{IntType}
use Rattle.joint_ir.specs.declared.expr.Slot.TheVariants.{Member}
use Rattle.joint_ir.specs.declared.module.Role.{Role}
use Rattle.joint_ir.specs.declared.module.Role.TheVariants.{Input, Clock, Register, Wire}
use Rattle.joint_ir.specs.declared.module.Signal.{Signal}
use Rattle.joint_ir.specs.declared.pair.Link.{Link}
use Rattle.joint_ir.specs.declared.pair.Pair.{Pair}
use Rattle.joint_ir.specs.declared.program.Member.{Member as AMember}
use Rattle.joint_ir.specs.States.{copies, element_count, row_at}
use Rattle.joint_ir.specs.Steps.{type_or_int, member_type, slot_type}
use Rattle.joint_ir.specs.Types.{IsType, Truth, Byte, Half, Single, Double, truth_of, converted}
use Rattle.joint_ir.specs.Values.{first_of}
use Rattle.joint_ir.specs.Views.{same_role, widths_of, word_number, mirror_row, member_row, mirrored_signal, mirroring_member, filled_from, members_of, driven_input, driven_from, driven}
use Rattle.joint_ir.specs.WellFormed.{AreTerms, FitsSignal, IsWellFormed}
use Rattle.sized_terms.specs.declared.SizedTerm.{SizedTerm}
use Rattle.sized_terms.specs.Sized.{Has, IsMade, bits}
use Rattle.sized_terms.proofs.Made.{bits_below}
use Rattle.checked_terms.proofs.Fits.{converted_is}
use Rattle.checked_terms.proofs.Works.{modulo_number, truth_is}
use Rattle.unrolled.specs.declared.Unrolled.{Unrolled}
use Rattle.unwind_state.specs.Guards.{Adds}
use Rattle.unwind_state.specs.Images.{words, words_at, numbers}
use Rattle.unwind_state.specs.Writing.{sized}
use Rattle.unwind_state.proofs.Gates.{adds_none, adds_then, adds_built}
use Rattle.unwind_module.specs.Words.{member_elements, elements_of}
use Rattle.unwind_module.proofs.Terms.{grows_adds, terms_none, terms_head, terms_tail, terms_kept, terms_push, terms_length, sized_is}
use Rattle.unwind_words.specs.Rows.{AreRows, IsShown, IsMember, HasMirror, Mirrors, IsDriven, AreDriven, signal_widths, member_widths, member_numbers}
use Rattle.unwind_words.proofs.Drawn.{more_taken}
use Rattle.unwind_words.proofs.Rows.{rows_push, rows_kept, rows_length, row_there}
use Rattle.unwind_words.proofs.Links.{AreLinked}

-- a bit as a number
bit_is : (n : ℕ) → n < 2 → bit (nat_lt 0 n) ≡ n
bit_is zero lt = refl
bit_is (suc zero) lt = refl
bit_is (suc (suc n)) lt = absurd (omega arith)

truth_value : (s : Bool) (w n : ℕ) → w ≡ 1 → n < 2 ^ w → number false 1 (resized 1 s w n) ≡ truth_of (number s w n)
truth_value s w n e lt =
    let lt1 : n < 2 ^ 1 = subst (λ k. n < 2 ^ k) e lt in
    subst (λ k. number false 1 (resized 1 s k n) ≡ truth_of (number s k n)) (sym e)
    (ap pos (modulo_number s 1 n lt1 ∙ sym (bit_is n lt1)) ∙ truth_is s 1 n lt1)

-- a word at the width of a type that has as many bits stands for its number, converted
shown_value : (t : IntType) (s : Bool) (w n : ℕ) → IsType t → 0 < w → w ≤ t.bits → n < 2 ^ w → number t.signed t.bits (resized t.bits s w n) ≡ converted t (number s w n)
shown_value t s w n Truth some le lt = truth_value s w n (omega arith) lt
shown_value t s w n (Byte b) some le lt = sym (converted_is t (number s w n) refl)
shown_value t s w n (Half b) some le lt = sym (converted_is t (number s w n) refl)
shown_value t s w n (Single b) some le lt = sym (converted_is t (number s w n) refl)
shown_value t s w n (Double b) some le lt = sym (converted_is t (number s w n) refl)

pub copy_there : (g : Graph) (n w : ℕ) (ids : List TermId) (k : ℕ) (d : TermId) → AreTerms g ids (copies n w) → k < length ids → Has g (sized (get_or ids k d) w)
copy_there g n w [] k d a lt = absurd (omega arith)
copy_there g zero w (t ∷ ids) k d a lt = let q : width_in g t.0 ∷ map (λ (y : TermId). width_in g y.0) ids ≡ [] = a.sized in cc
copy_there g (suc n) w (t ∷ ids) zero d a lt = terms_head g t ids w (copies n w) a
copy_there g (suc n) w (t ∷ ids) (suc k) d a lt = copy_there g n w ids k d (terms_tail g t ids w (copies n w) a) (omega arith)

pub copies_length : (n w : ℕ) → length (copies n w) ≡ n
copies_length zero w = refl
copies_length (suc n) w = ap suc (copies_length n w)

copies_next : (n w : ℕ) → copies (suc n) w ≡ copies n w ++ w ∷ []
copies_next zero w = refl
copies_next (suc n) w = ap (λ (l : List ℕ). w ∷ l) (copies_next n w)

taken_length : (row : List TermId) (k : ℕ) → k < length row → length (take (k + 1) row) ≡ suc (length (take k row))
taken_length [] k lt = absurd (omega arith)
taken_length (t ∷ row) zero lt = refl
taken_length (t ∷ row) (suc k) lt =
    let e : suc k + 1 ≡ suc (k + 1) = omega arith in
    ap (λ n. length (take n (t ∷ row))) e ∙ ap suc (taken_length row k (omega arith))

pub none_shown : (n : Unrolled) (ty : IntType) (s : Signal) → IsGraph n.terms → IsShown n n ty s [] []
none_shown n ty s p = record { adds = adds_none n p; terms = terms_none n.terms; stand = λ v r. refl }

module _ (n0 n1 n2 : Unrolled) (ty : IntType) (s : Signal) (row ids : List TermId) (k : ℕ) (a : TermId) (t : SizedTerm) (type_ : IsType ty) (fits : FitsSignal s) (wide : s.bits ≤ ty.bits) (lt : k < length row) (at : a ≡ get_or row k a) (A : IsShown n0 n1 ty s (take k row) ids)
    (h : AreTerms n0.terms row (copies (length row) s.bits)) (made : IsMade n1.terms n2.terms ty.bits 0 1 t (λ v. resized ty.bits s.signed s.bits (v.term a.0).value)) (list : n2.list ≡ n1.list) where
  word_has : Has n1.terms (sized a s.bits)
  word_has = A.adds.kept (sized a s.bits) (subst (λ y. Has n0.terms (sized y s.bits)) (sym at) (copy_there n0.terms (length row) s.bits row k a h lt))

  pub one_shown : IsShown n0 n2 ty s (take (k + 1) row) (ids ++ t.term ∷ [])
  one_shown =
      let L : Adds n1 n2 = adds_built n1 n2 0 1 made.builds list in
      let some : 0 < s.bits = fits.some in
      record {
        adds = adds_then n0 n1 n2 A.adds L;
        terms = subst (AreTerms n2.terms (ids ++ t.term ∷ [])) (sym (ap (λ n. copies n ty.bits) (taken_length row k lt) ∙ copies_next (length (take k row)) ty.bits))
            (terms_push n2.terms ids t.term (copies (length (take k row)) ty.bits) ty.bits (terms_kept n1.terms n2.terms ids (copies (length (take k row)) ty.bits) (grows_adds n1 n2 L) A.terms) (sized_is n2.terms t ty.bits made.has made.width));
        stand = λ v r.
            let r1 = L.grown v r in
            let n = (v.term a.0).value in
            let below : n < 2 ^ s.bits = bits_below v n1.terms (sized a s.bits) A.adds.proper r1 word_has in
            let f : ℕ → ℤ = λ n. converted ty (word_number s n) in
            ap (numbers ty) (map-append (λ (y : TermId). (v.term y.0).value) ids (t.term ∷ []))
            ∙ map-append (number ty.signed ty.bits) (words v ids) (bits v t ∷ [])
            ∙ ap (λ l. l ++ number ty.signed ty.bits (bits v t) ∷ []) (A.stand v r1)
            ∙ ap (λ z. mirror_row ty (Some s) (words v (take k row)) ++ z ∷ []) (ap (number ty.signed ty.bits) (made.value v r) ∙ shown_value ty s.signed s.bits n type_ some wide below)
            ∙ sym (map-append f (words v (take k row)) (n ∷ []))
            ∙ ap (map f) (sym (map-append (λ (y : TermId). (v.term y.0).value) (take k row) (a ∷ [])))
            ∙ ap (λ l. map f (words v l)) (sym (more_taken row k a lt at));
      }

-- the words of a row
pub row_words : (v : Values) (rows : List (List TermId)) (i : ℕ) → slice_index_or (map (words v) rows) i [] ≡ words v (slice_index_or rows i [])
row_words v [] i = refl
row_words v (row ∷ rows) zero = refl
row_words v (row ∷ rows) (suc i) = row_words v rows i

widths_at : (signals : List Signal) (g : ℕ) (s : Signal) → slice_get signals g ≡ Some s → slice_get (signal_widths signals) g ≡ Some (copies (element_count s.words) s.bits)
widths_at [] g s e = let d : None ≡ Some s = e in cc
widths_at (x ∷ signals) zero s e = ap (λ (y : Signal). Some (copies (element_count y.words) y.bits)) (same_Some x s e)
widths_at (x ∷ signals) (suc g) s e = widths_at signals g s e

pub member_widths_at : (members : List AMember) (i : ℕ) (m : AMember) → slice_get members i ≡ Some m → slice_get (member_widths members) i ≡ Some (copies (member_elements m) (type_or_int m.ty).bits)
member_widths_at [] i m e = let d : None ≡ Some m = e in cc
member_widths_at (x ∷ members) zero m e = ap (λ (y : AMember). Some (copies (member_elements y) (type_or_int y.ty).bits)) (same_Some x m e)
member_widths_at (x ∷ members) (suc i) m e = member_widths_at members i m e

module _ (p : Pair) (well : IsWellFormed p) (n : Unrolled) (rows : List (List TermId)) (h : AreRows n.terms rows (signal_widths p.module.signals)) where
  -- the row of a signal that is mirrored
  pub signal_row : (i g : ℕ) (L : AreLinked p i g) → AreTerms n.terms (slice_index_or rows g []) (copies (element_count L.signal.words) L.signal.bits)
  signal_row i g L = row_there n.terms rows (signal_widths p.module.signals) g (copies (element_count L.signal.words) L.signal.bits) h (widths_at p.module.signals g L.signal L.at_signal)

  pub signal_row_own : (i g : ℕ) (L : AreLinked p i g) → AreTerms n.terms (slice_index_or rows g []) (copies (length (slice_index_or rows g [])) L.signal.bits)
  signal_row_own i g L =
      let a = signal_row i g L in
      let e : length (slice_index_or rows g []) ≡ element_count L.signal.words = terms_length n.terms (slice_index_or rows g []) (copies (element_count L.signal.words) L.signal.bits) a ∙ copies_length (element_count L.signal.words) L.signal.bits in
      subst (λ k. AreTerms n.terms (slice_index_or rows g []) (copies k L.signal.bits)) (sym e) a

  pub struct_member : (m : AMember) (signal : Option ℕ) → IsGraph n.terms → m.ty ≡ None → IsMember p n n rows m signal []
  struct_member m signal proper e = record {
    adds = adds_none n proper;
    terms = subst (λ k. AreTerms n.terms [] (copies k (type_or_int m.ty).bits)) (sym (ap (λ o. elements_of o m.length) e)) (terms_none n.terms);
    stand = λ v r. sym (ap (λ o. member_row p.module.signals (map (words v) rows) o signal) e);
  }

  pub signal_member : (n1 : Unrolled) (i g : ℕ) (m : AMember) (ty : IntType) (ids : List TermId) → slice_get (members_of p.program.mirror) i ≡ Some m → m.ty ≡ Some ty → mirrored_signal p.binding.links i ≡ Some g →
      (L : AreLinked p i g) → IsShown n n1 ty L.signal (slice_index_or rows g []) ids → IsMember p n n1 rows m (mirrored_signal p.binding.links i) ids
  signal_member n1 i g m ty ids at is mirrors L S =
      let same : L.member ≡ m = same_Some L.member m (sym L.at_member ∙ at) in
      let row = slice_index_or rows g [] in
      let count : length row ≡ element_count L.signal.words = terms_length n.terms row (copies (element_count L.signal.words) L.signal.bits) (signal_row i g L) ∙ copies_length (element_count L.signal.words) L.signal.bits in
      let elements : member_elements m ≡ length row = ap (λ o. elements_of o m.length) is ∙ ap element_count (ap (λ (x : AMember). x.length) (sym same) ∙ L.same) ∙ sym count in
      record {
        adds = S.adds;
        terms = subst (λ k. AreTerms n1.terms ids (copies k (type_or_int m.ty).bits)) (sym elements) (subst (λ o. AreTerms n1.terms ids (copies (length row) (type_or_int o).bits)) (sym is) S.terms);
        stand = λ v r.
            ap (λ o. numbers (type_or_int o) (words v ids)) is ∙ S.stand v r
            ∙ ap (λ o. mirror_row ty o (words v row)) (sym L.at_signal)
            ∙ ap (λ l. mirror_row ty (slice_get p.module.signals g) l) (sym (row_words v rows g))
            ∙ ap (λ o. member_row p.module.signals (map (words v) rows) (Some ty) o) (sym mirrors)
            ∙ ap (λ o. member_row p.module.signals (map (words v) rows) o (mirrored_signal p.binding.links i)) (sym is);
      }

-- members, one more at a time

filled_push : (links : List Link) (signals : List Signal) (ws : List (List ℕ)) (k : ℕ) (members : List AMember) (m : AMember) →
    filled_from links signals ws k (members ++ m ∷ []) ≡ filled_from links signals ws k members ++ member_row signals ws m.ty (mirrored_signal links (k + length members)) ∷ []
filled_push links signals ws k [] m = let e : k + 0 ≡ k = omega arith in ap (λ n. member_row signals ws m.ty (mirrored_signal links n) ∷ []) (sym e)
filled_push links signals ws k (x ∷ members) m =
    let e : k + 1 + length members ≡ k + suc (length members) = omega arith in
    ap (λ l. member_row signals ws x.ty (mirrored_signal links k) ∷ l)
    (filled_push links signals ws (k + 1) members m ∙ ap (λ n. filled_from links signals ws (k + 1) members ++ member_row signals ws m.ty (mirrored_signal links n) ∷ []) e)

numbers_push : (members : List AMember) (rows : List (List ℕ)) (m : AMember) (row : List ℕ) → length rows ≡ length members → member_numbers (members ++ m ∷ []) (rows ++ row ∷ []) ≡ member_numbers members rows ++ numbers (type_or_int m.ty) row ∷ []
numbers_push [] [] m row e = refl
numbers_push [] (r ∷ rows) m row e = absurd (omega arith)
numbers_push (x ∷ members) [] m row e = absurd (omega arith)
numbers_push (x ∷ members) (r ∷ rows) m row e = ap (λ l. numbers (type_or_int x.ty) r ∷ l) (numbers_push members rows m row (omega arith))

length_taken : {X : Type 0} → (xs : List X) (k : ℕ) → k ≤ length xs → length (take k xs) ≡ k
length_taken xs zero le = refl
length_taken [] (suc k) le = absurd (omega arith)
length_taken (x ∷ xs) (suc k) le = ap suc (length_taken xs k (omega arith))

-- the first k members are shown
pub record AreMembers (p : Pair) (n0 n1 : Unrolled) (rows : List (List TermId)) (members : List AMember) (k : ℕ) (shown : List (List TermId)) : Type 0 where
  pub adds : Adds n0 n1
  pub terms : AreRows n1.terms shown (member_widths (take k members))
  pub stand : (v : Values) → Respects v n1.terms → member_numbers (take k members) (map (words v) shown) ≡ filled_from p.binding.links p.module.signals (map (words v) rows) 0 (take k members)

pub no_members : (p : Pair) (n : Unrolled) (rows : List (List TermId)) (members : List AMember) → IsGraph n.terms → AreMembers p n n rows members 0 []
no_members p n rows members proper = record { adds = adds_none n proper; terms = tt; stand = λ v r. refl }

pub one_member : (p : Pair) (n0 n1 n2 : Unrolled) (rows : List (List TermId)) (members : List AMember) (k : ℕ) (shown : List (List TermId)) (m : AMember) (ids : List TermId) → k < length members → m ≡ get_or members k m →
    AreMembers p n0 n1 rows members k shown → IsMember p n1 n2 rows m (mirrored_signal p.binding.links k) ids → AreMembers p n0 n2 rows members (k + 1) (shown ++ ids ∷ [])
one_member p n0 n1 n2 rows members k shown m ids lt at A M =
    let e : take (k + 1) members ≡ take k members ++ m ∷ [] = more_taken members k m lt at in
    let links = p.binding.links in
    let signals = p.module.signals in
    record {
      adds = adds_then n0 n1 n2 A.adds M.adds;
      terms = subst (AreRows n2.terms (shown ++ ids ∷ []))
          (sym (ap member_widths e ∙ map-append (λ (m : AMember). copies (member_elements m) (type_or_int m.ty).bits) (take k members) (m ∷ [])))
          (rows_push n2.terms shown (member_widths (take k members)) ids (copies (member_elements m) (type_or_int m.ty).bits) (rows_kept n1.terms n2.terms shown (member_widths (take k members)) (grows_adds n1 n2 M.adds) A.terms) M.terms);
      stand = λ v r.
          let r1 = M.adds.grown v r in
          let ws = map (words v) rows in
          let count : length (map (words v) shown) ≡ length (take k members) =
          length-map shown (words v) ∙ rows_length n1.terms shown (member_widths (take k members)) A.terms ∙ length-map (take k members) (λ (m : AMember). copies (member_elements m) (type_or_int m.ty).bits) in
          let place : 0 + length (take k members) ≡ k = let q = length_taken members k (omega arith) in omega arith in
          ap (λ l. member_numbers l (map (words v) (shown ++ ids ∷ []))) e
          ∙ ap (member_numbers (take k members ++ m ∷ [])) (map-append (words v) shown (ids ∷ []))
          ∙ numbers_push (take k members) (map (words v) shown) m (words v ids) count
          ∙ ap (λ l. l ++ numbers (type_or_int m.ty) (words v ids) ∷ []) (A.stand v r1)
          ∙ ap (λ z. filled_from links signals ws 0 (take k members) ++ z ∷ []) (M.stand v r)
          ∙ ap (λ j. filled_from links signals ws 0 (take k members) ++ member_row signals ws m.ty (mirrored_signal links j) ∷ []) (sym place)
          ∙ sym (filled_push links signals ws 0 (take k members) m)
          ∙ ap (filled_from links signals ws 0) (sym e);
    }

pub all_members : (p : Pair) (n0 n1 : Unrolled) (rows : List (List TermId)) (members : List AMember) (k : ℕ) (shown : List (List TermId)) → members ≡ members_of p.program.mirror → length members ≤ k → AreMembers p n0 n1 rows members k shown → HasMirror p n0 n1 rows shown
all_members p n0 n1 rows members k shown is le A =
    let e : take k members ≡ members_of p.program.mirror = take_all k members le ∙ is in
    record {
      adds = A.adds;
      terms = subst (λ l. AreRows n1.terms shown (member_widths l)) e A.terms;
      stand = λ v r. subst (λ l. member_numbers l (map (words v) shown) ≡ filled_from p.binding.links p.module.signals (map (words v) rows) 0 l) e (A.stand v r);
    }

-- the inputs that the mirror drives

index_first : (ids : List TermId) (x : TermId) → 0 < length ids → x ≡ get_or ids 0 x → (v : Values) → words v ids ≡ (v.term x.0).value ∷ words v (drop 1 ids)
index_first [] x lt e v = absurd (omega arith)
index_first (t ∷ ids) x lt e v = ap (λ (y : TermId). (v.term y.0).value ∷ words v ids) (sym e)

some_elements : (m : AMember) (t : IntType) → m.ty ≡ Some t → 0 < member_elements m
some_elements m t e = subst (λ o. 0 < elements_of o m.length) (sym e) (by m.length)
  where
    by : (n : ℕ) → 0 < element_count n
    by zero = omega arith
    by (suc n) = omega arith

module _ (p : Pair) (n : Unrolled) (members : List (List TermId)) (h : AreRows n.terms members (member_widths (members_of p.program.mirror))) (i g : ℕ) (L : AreLinked p i g) where
  pub member_terms : AreTerms n.terms (slice_index_or members i []) (copies (member_elements L.member) L.ty.bits)
  member_terms =
      subst (λ o. AreTerms n.terms (slice_index_or members i []) (copies (member_elements L.member) (type_or_int o).bits)) L.typed
      (row_there n.terms members (member_widths (members_of p.program.mirror)) i (copies (member_elements L.member) (type_or_int L.member.ty).bits) h (member_widths_at (members_of p.program.mirror) i L.member L.at_member))

  pub member_some : 0 < length (slice_index_or members i [])
  member_some =
      let e : length (slice_index_or members i []) ≡ member_elements L.member = terms_length n.terms (slice_index_or members i []) (copies (member_elements L.member) L.ty.bits) member_terms ∙ copies_length (member_elements L.member) L.ty.bits in
      let s = some_elements L.member L.ty L.typed in
      omega arith

  pub member_first : (x : TermId) → x ≡ get_or (slice_index_or members i []) 0 x → Has n.terms (sized x L.ty.bits)
  member_first x e = subst (λ (y : TermId). Has n.terms (sized y L.ty.bits)) (sym e) (copy_there n.terms (member_elements L.member) L.ty.bits (slice_index_or members i []) 0 x member_terms member_some)

  pub member_typed : slot_type p.program (Member i) ≡ L.ty
  member_typed = ap member_type L.at_member ∙ ap type_or_int L.typed

  pub driven_some : (n1 : Unrolled) (s : Signal) (old x : TermId) (t : SizedTerm) → slice_get p.module.signals g ≡ Some s → mirroring_member p.binding.links g ≡ Some i → x ≡ get_or (slice_index_or members i []) 0 x →
      IsMade n.terms n1.terms s.bits 0 1 t (λ v. resized s.bits L.ty.signed L.ty.bits (v.term x.0).value) → n1.list ≡ n.list → IsDriven p n n1 members s g old t.term
  driven_some n1 s old x t at is first made list = record {
    adds = adds_built n n1 0 1 made.builds list;
    has = sized_is n1.terms t s.bits made.has made.width;
    stand = λ v r rows mirrors.
        let row = slice_index_or members i [] in
        let e : row_at rows i ≡ number L.ty.signed L.ty.bits (v.term x.0).value ∷ numbers L.ty (words v (drop 1 row)) =
        sym (mirrors i) ∙ ap (λ ty. numbers ty (words_at (map (words v) members) i)) member_typed ∙ ap (numbers L.ty) (row_words v members i ∙ index_first row x member_some first v) in
        made.value v r ∙ ap (λ l. modulo s.bits (first_of l)) (sym e) ∙ ap (λ o. driven_input s o rows (v.term old.0).value) (sym is);
  }

pub driven_none : (p : Pair) (n : Unrolled) (members : List (List TermId)) (s : Signal) (g : ℕ) (old : TermId) → IsGraph n.terms → Has n.terms (sized old s.bits) → mirroring_member p.binding.links g ≡ None → IsDriven p n n members s g old old
driven_none p n members s g old proper h e = record {
  adds = adds_none n proper;
  has = h;
  stand = λ v r rows mirrors. sym (ap (λ o. driven_input s o rows (v.term old.0).value) e);
}

-- the inputs of the first k signals are driven
pub record AreInputs (p : Pair) (n0 n1 : Unrolled) (members : List (List TermId)) (inputs : List TermId) (k : ℕ) (ids : List TermId) : Type 0 where
  pub adds : Adds n0 n1
  pub terms : AreTerms n1.terms ids (widths_of Input (take k p.module.signals))
  pub left : AreTerms n1.terms (drop (length ids) inputs) (widths_of Input (drop k p.module.signals))
  pub stand : (v : Values) → Respects v n1.terms → (rows : List (List ℤ)) → Mirrors p v members rows →
      words v ids ++ driven_from p.binding.links rows k (drop k p.module.signals) (drop (length ids) (words v inputs)) ≡ driven p rows (words v inputs)

pub no_inputs : (p : Pair) (n : Unrolled) (members : List (List TermId)) (inputs : List TermId) → IsGraph n.terms → AreTerms n.terms inputs (widths_of Input p.module.signals) → AreInputs p n n members inputs 0 []
no_inputs p n members inputs proper h = record { adds = adds_none n proper; terms = terms_none n.terms; left = h; stand = λ v r rows mirrors. refl }

widths_push : (role : Role) (signals : List Signal) (s : Signal) → widths_of role (signals ++ s ∷ []) ≡ widths_of role signals ++ widths_of role (s ∷ [])
widths_push role [] s = refl
widths_push role (x ∷ signals) s = by (widths_push role signals s) (same_role role x.role) refl
  where
    by : widths_of role (signals ++ s ∷ []) ≡ widths_of role signals ++ widths_of role (s ∷ []) → (b : Bool) → same_role role x.role ≡ b → widths_of role ((x ∷ signals) ++ s ∷ []) ≡ widths_of role (x ∷ signals) ++ widths_of role (s ∷ [])
    by rest true e =
        let l : widths_of role (x ∷ (signals ++ s ∷ [])) ≡ copies (element_count x.words) x.bits ++ widths_of role (signals ++ s ∷ []) = rw e in
        let r : widths_of role (x ∷ signals) ≡ copies (element_count x.words) x.bits ++ widths_of role signals = rw e in
        l ∙ ap (λ w. copies (element_count x.words) x.bits ++ w) rest ∙ sym (append_assoc (copies (element_count x.words) x.bits) (widths_of role signals) (widths_of role (s ∷ []))) ∙ ap (λ w. w ++ widths_of role (s ∷ [])) (sym r)
    by rest false e =
        let l : widths_of role (x ∷ (signals ++ s ∷ [])) ≡ widths_of role (signals ++ s ∷ []) = rw e in
        let r : widths_of role (x ∷ signals) ≡ widths_of role signals = rw e in
        l ∙ rest ∙ ap (λ w. w ++ widths_of role (s ∷ [])) (sym r)

input_words : (s : Signal) → FitsSignal s → s.role ≡ Input → element_count s.words ≡ 1
input_words s f e = by s.words refl
  where
    by : (n : ℕ) → s.words ≡ n → element_count s.words ≡ 1
    by zero d = ap element_count d
    by (suc n) d = let q : s.role ≡ Register = f.memory (omega arith) in let bad : Input ≡ Register = sym e ∙ q in cc

is_role : (r : Role) → same_role Input r ≡ true → r ≡ Input
is_role Input e = refl
is_role Clock e = let q : false ≡ true = e in cc
is_role Register e = let q : false ≡ true = e in cc
is_role Wire e = let q : false ≡ true = e in cc

input_step : (links : List Link) (rows : List (List ℤ)) (k : ℕ) (s : Signal) (signals : List Signal) (inputs : List ℕ) → s.role ≡ Input →
    driven_from links rows k (s ∷ signals) inputs ≡ driven_input s (mirroring_member links k) rows (slice_index inputs 0) ∷ driven_from links rows (k + 1) signals (drop 1 inputs)
input_step links rows k s signals inputs e = rw e

other_step : (links : List Link) (rows : List (List ℤ)) (k : ℕ) (s : Signal) (signals : List Signal) (inputs : List ℕ) → same_role Input s.role ≡ false →
    driven_from links rows k (s ∷ signals) inputs ≡ driven_from links rows (k + 1) signals inputs
other_step links rows k s signals inputs e = by s.role refl
  where
    by : (r : Role) → s.role ≡ r → driven_from links rows k (s ∷ signals) inputs ≡ driven_from links rows (k + 1) signals inputs
    by Input d = let q : true ≡ false = sym (ap (same_role Input) d) ∙ e in cc
    by Clock d = rw d
    by Register d = rw d
    by Wire d = rw d

module _ (p : Pair) (n0 n1 : Unrolled) (members : List (List TermId)) (inputs : List TermId) (k : ℕ) (ids : List TermId) (s : Signal) (lt : k < length p.module.signals) (at : s ≡ get_or p.module.signals k s) (A : AreInputs p n0 n1 members inputs k ids) where
  here : drop k p.module.signals ≡ s ∷ drop (k + 1) p.module.signals
  here = drop_more p.module.signals k s lt ∙ ap (λ x. x ∷ drop (k + 1) p.module.signals) (sym at)

  behind : take (k + 1) p.module.signals ≡ take k p.module.signals ++ s ∷ []
  behind = more_taken p.module.signals k s lt at

  pub no_input : same_role Input s.role ≡ false → AreInputs p n0 n1 members inputs (k + 1) ids
  no_input e =
      let links = p.binding.links in
      let none : widths_of Input (s ∷ []) ≡ [] = rw e in
      let skip : widths_of Input (s ∷ drop (k + 1) p.module.signals) ≡ widths_of Input (drop (k + 1) p.module.signals) = rw e in
      record {
        adds = A.adds;
        terms = subst (AreTerms n1.terms ids) (sym (ap (widths_of Input) behind ∙ widths_push Input (take k p.module.signals) s ∙ ap (λ l. widths_of Input (take k p.module.signals) ++ l) none ∙ append-nil (widths_of Input (take k p.module.signals)))) A.terms;
        left = subst (AreTerms n1.terms (drop (length ids) inputs)) (ap (widths_of Input) here ∙ skip) A.left;
        stand = λ v r rows mirrors.
            let xs = drop (length ids) (words v inputs) in
            ap (λ l. words v ids ++ l) (sym (other_step links rows k s (drop (k + 1) p.module.signals) xs e))
            ∙ ap (λ l. words v ids ++ driven_from links rows k l xs) (sym here) ∙ A.stand v r rows mirrors;
      }

  module _ (fits : FitsSignal s) (is : same_role Input s.role ≡ true) where
    one : widths_of Input (s ∷ drop (k + 1) p.module.signals) ≡ s.bits ∷ widths_of Input (drop (k + 1) p.module.signals)
    one =
        let own : widths_of Input (s ∷ drop (k + 1) p.module.signals) ≡ copies (element_count s.words) s.bits ++ widths_of Input (drop (k + 1) p.module.signals) = rw is in
        own ∙ ap (λ n. copies n s.bits ++ widths_of Input (drop (k + 1) p.module.signals)) (input_words s fits (is_role s.role is))

    alone : widths_of Input (s ∷ []) ≡ s.bits ∷ []
    alone =
        let own : widths_of Input (s ∷ []) ≡ copies (element_count s.words) s.bits ++ [] = rw is in
        own ∙ ap (λ n. copies n s.bits ++ []) (input_words s fits (is_role s.role is))

    left_here : AreTerms n1.terms (drop (length ids) inputs) (s.bits ∷ widths_of Input (drop (k + 1) p.module.signals))
    left_here = subst (AreTerms n1.terms (drop (length ids) inputs)) (ap (widths_of Input) here ∙ one) A.left

    -- an input is left for it
    pub input_there : length ids < length inputs
    input_there = by (drop (length ids) inputs) refl left_here
      where
        by : (xs : List TermId) → drop (length ids) inputs ≡ xs → AreTerms n1.terms xs (s.bits ∷ widths_of Input (drop (k + 1) p.module.signals)) → length ids < length inputs
        by [] e a = let q : [] ≡ s.bits ∷ widths_of Input (drop (k + 1) p.module.signals) = a.sized in cc
        by (x ∷ xs) e a = dropped_some inputs (length ids) x xs e
          where
            dropped_some : (ys : List TermId) (j : ℕ) (x : TermId) (xs : List TermId) → drop j ys ≡ x ∷ xs → j < length ys
            dropped_some [] zero x xs e = cc
            dropped_some [] (suc j) x xs e = cc
            dropped_some (y ∷ ys) zero x xs e = omega arith
            dropped_some (y ∷ ys) (suc j) x xs e = let lt = dropped_some ys j x xs e in omega arith

    first_left : (old : TermId) → old ≡ get_or inputs (length ids) old → drop (length ids) inputs ≡ old ∷ drop (length ids + 1) inputs
    first_left old e = drop_more inputs (length ids) old input_there ∙ ap (λ x. x ∷ drop (length ids + 1) inputs) (sym e)

    pub input_has : (old : TermId) → old ≡ get_or inputs (length ids) old → Has n1.terms (sized old s.bits)
    input_has old e = terms_head n1.terms old (drop (length ids + 1) inputs) s.bits (widths_of Input (drop (k + 1) p.module.signals)) (subst (λ l. AreTerms n1.terms l (s.bits ∷ widths_of Input (drop (k + 1) p.module.signals))) (first_left old e) left_here)

    pub one_input : (n2 : Unrolled) (old t : TermId) → old ≡ get_or inputs (length ids) old → IsDriven p n1 n2 members s k old t → AreInputs p n0 n2 members inputs (k + 1) (ids ++ t ∷ [])
    one_input n2 old t e D =
        let links = p.binding.links in
        let G = grows_adds n1 n2 D.adds in
        let more : length (ids ++ t ∷ []) ≡ length ids + 1 = longer ids t in
        record {
          adds = adds_then n0 n1 n2 A.adds D.adds;
          terms = subst (AreTerms n2.terms (ids ++ t ∷ [])) (sym (ap (widths_of Input) behind ∙ widths_push Input (take k p.module.signals) s ∙ ap (λ l. widths_of Input (take k p.module.signals) ++ l) alone))
              (terms_push n2.terms ids t (widths_of Input (take k p.module.signals)) s.bits (terms_kept n1.terms n2.terms ids (widths_of Input (take k p.module.signals)) G A.terms) D.has);
          left = subst (λ j. AreTerms n2.terms (drop j inputs) (widths_of Input (drop (k + 1) p.module.signals))) (sym more)
              (terms_kept n1.terms n2.terms (drop (length ids + 1) inputs) (widths_of Input (drop (k + 1) p.module.signals)) G
              (terms_tail n1.terms old (drop (length ids + 1) inputs) s.bits (widths_of Input (drop (k + 1) p.module.signals)) (subst (λ l. AreTerms n1.terms l (s.bits ∷ widths_of Input (drop (k + 1) p.module.signals))) (first_left old e) left_here)));
          stand = λ v r rows mirrors.
              let f : TermId → ℕ = λ y. (v.term y.0).value in
              let xs = words v (drop (length ids + 1) inputs) in
              let dropped : drop (length ids) (words v inputs) ≡ f old ∷ xs = drop-map f (length ids) inputs ∙ ap (map f) (first_left old e) in
              let step : driven_from links rows k (drop k p.module.signals) (drop (length ids) (words v inputs)) ≡ driven_input s (mirroring_member links k) rows (f old) ∷ driven_from links rows (k + 1) (drop (k + 1) p.module.signals) xs =
              ap (λ l. driven_from links rows k l (drop (length ids) (words v inputs))) here ∙ ap (driven_from links rows k (s ∷ drop (k + 1) p.module.signals)) dropped
              ∙ input_step links rows k s (drop (k + 1) p.module.signals) (f old ∷ xs) (is_role s.role is) in
              ap (λ j. words v (ids ++ t ∷ []) ++ driven_from links rows (k + 1) (drop (k + 1) p.module.signals) (drop j (words v inputs))) more
              ∙ ap (λ l. words v (ids ++ t ∷ []) ++ driven_from links rows (k + 1) (drop (k + 1) p.module.signals) l) (drop-map f (length ids + 1) inputs)
              ∙ ap (λ l. l ++ driven_from links rows (k + 1) (drop (k + 1) p.module.signals) xs) (map-append f ids (t ∷ []))
              ∙ append_assoc (words v ids) (f t ∷ []) (driven_from links rows (k + 1) (drop (k + 1) p.module.signals) xs)
              ∙ ap (λ z. words v ids ++ z ∷ driven_from links rows (k + 1) (drop (k + 1) p.module.signals) xs) (D.stand v r rows mirrors)
              ∙ ap (λ l. words v ids ++ l) (sym step)
              ∙ A.stand v (D.adds.grown v r) rows mirrors;
        }
      where
        longer : (xs : List TermId) (x : TermId) → length (xs ++ x ∷ []) ≡ length xs + 1
        longer [] x = refl
        longer (y ∷ xs) x = let e = longer xs x in let d : suc (length (xs ++ x ∷ [])) ≡ suc (length xs + 1) = ap suc e in omega arith

pub all_inputs : (p : Pair) (n0 n1 : Unrolled) (members : List (List TermId)) (inputs : List TermId) (k : ℕ) (ids : List TermId) → length p.module.signals ≤ k → AreInputs p n0 n1 members inputs k ids → AreDriven p n0 n1 members inputs ids
all_inputs p n0 n1 members inputs k ids le A = record {
  adds = A.adds;
  terms = subst (λ l. AreTerms n1.terms ids (widths_of Input l)) (take_all k p.module.signals le) A.terms;
  stand = λ v r rows mirrors.
      sym (append-nil (words v ids)) ∙ ap (λ l. words v ids ++ driven_from p.binding.links rows k l (drop (length ids) (words v inputs))) (sym (drop_all k p.module.signals le)) ∙ A.stand v r rows mirrors;
}
