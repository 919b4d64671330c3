-- A write of an element, as words and as numbers.
use Rattle.std.proofs.Common.{◌≡◌, ℕ, zero, suc, ◌<◌, ◌≤◌, List, [], ◌∷◌, length, map, ◌⊎◌, inl, inr, ⊎_elim, refl, sym, ap, ◌∙◌, subst, arith}
use Rattle.std.specs.Prelude.{ℤ, slice_set, slice_get, slice_index_or, Contains, false, Some}
use Rattle.std.proofs.lemmas.List.{map-set, get_or-set_same, get_or-set_other, set-get_or, get_or-map, length-map}
use Rattle.std.proofs.Math.ListN.{length-set}
use Rattle.std.proofs.lemmas.Option.{slice_get-get_or}
use Rattle.bits_core.specs.Word.{number, at_zero}
use Rattle.word_eqs.specs.declared.term.TermId.{TermId}
use Rattle.word_eqs.specs.Graph.{Graph}
use Rattle.word_eqs.specs.Meaning.{Values, Respects}
use Rattle.joint_ir.specs.declared.ctype.IntType.{IntType}
use Rattle.joint_ir.specs.declared.expr.Slot.{Slot}
use Rattle.joint_ir.specs.declared.expr.Slot.TheVariants.{Global, Local, Member, BoundValue}
use Rattle.joint_ir.specs.declared.pair.Pair.{Pair}
use Rattle.joint_ir.specs.declared.program.CProgram.{CProgram}
use Rattle.joint_ir.specs.States.{JointState, row_at, put_at, put}
use Rattle.joint_ir.specs.Steps.{with_store, slot_type}
use Rattle.joint_ir.specs.WellFormed.{is_bound}
use Rattle.sized_terms.specs.declared.SizedTerm.{SizedTerm}
use Rattle.sized_terms.specs.Sized.{Has, bits}
use Rattle.unrolled.specs.declared.Objects.{Objects}
use Rattle.unrolled.specs.declared.Unrolled.{Unrolled}
use Rattle.unrolled.specs.Elements.{terms_of, set_in, IsSet}
use Rattle.unwind_state.specs.declared.state.Guard.{Guard}
use Rattle.unwind_state.specs.declared.state.State.{State}
use Rattle.unwind_state.specs.Guards.{bit_at, Adds}
use Rattle.unwind_state.specs.Images.{Image, words, words_at, look, numbers, IsState, IsSettled}
use Rattle.unwind_state.specs.Unwinding.{Changes}
use Rattle.unwind_state.specs.Writing.{IsPut, IsChosen, HasObjects, sized, words_put, image_put, with_objects}

pub same_or : (a b : ℕ) → (a ≡ b) ⊎ (a ≡ b → ⊥)
same_or zero zero = inl refl
same_or zero (suc b) = inr (λ e. cc)
same_or (suc a) zero = inr (λ e. cc)
same_or (suc a) (suc b) = ⊎_elim (λ e. inl (ap suc e)) (λ isnt. inr (λ e. isnt (let d : suc a ≡ suc b = e in cc))) (same_or a b)

-- numbers of rows with one element set
rows_put : (ty : ℕ → IntType) (Q : ℕ → Type 0) (xs : List (List ℕ)) (ss : List (List ℤ)) (i k n : ℕ) → i < length xs → length xs ≡ length ss → ((j : ℕ) → Q j → numbers (ty j) (words_at xs j) ≡ row_at ss j) →
    (j : ℕ) → Q j → numbers (ty j) (words_at (words_put xs i k n) j) ≡ row_at (put_at ss i k (number (ty i).signed (ty i).bits n)) j
rows_put ty Q xs ss i k n lt len h j q = ⊎_elim at_it other (same_or j i)
  where
    m : ℤ
    m = number (ty i).signed (ty i).bits n

    at_it : j ≡ i → numbers (ty j) (words_at (words_put xs i k n) j) ≡ row_at (put_at ss i k (number (ty i).signed (ty i).bits n)) j
    at_it e =
        let is : numbers (ty i) (words_at xs i) ≡ row_at ss i = h i (subst Q e q) in
        let lt' : i < length ss = subst (λ l. i < l) len lt in
        let one : numbers (ty i) (words_at (words_put xs i k n) i) ≡ slice_set (row_at ss i) k (number (ty i).signed (ty i).bits n) =
        ap (numbers (ty i)) (get_or-set_same xs i (slice_set (words_at xs i) k n) [] lt) ∙ map-set (number (ty i).signed (ty i).bits) (words_at xs i) k n ∙ ap (λ r. slice_set r k (number (ty i).signed (ty i).bits n)) is in
        subst (λ l. numbers (ty l) (words_at (words_put xs i k n) l) ≡ row_at (put_at ss i k (number (ty i).signed (ty i).bits n)) l) (sym e)
        (one ∙ sym (get_or-set_same ss i (slice_set (row_at ss i) k (number (ty i).signed (ty i).bits n)) [] lt'))

    other : (j ≡ i → ⊥) → numbers (ty j) (words_at (words_put xs i k n) j) ≡ row_at (put_at ss i k (number (ty i).signed (ty i).bits n)) j
    other isnt =
        ap (numbers (ty j)) (get_or-set_other xs i j (slice_set (words_at xs i) k n) [] isnt) ∙ h j q
        ∙ sym (get_or-set_other ss i j (slice_set (row_at ss i) k (number (ty i).signed (ty i).bits n)) [] isnt)

put_count : (ty : IntType) (xs : List (List ℕ)) (ss : List (List ℤ)) (i k n : ℕ) → length xs ≡ length ss → length (words_put xs i k n) ≡ length (put_at ss i k (number ty.signed ty.bits n))
put_count ty xs ss i k n e = length-set xs i (slice_set (words_at xs i) k n) ∙ e ∙ sym (length-set ss i (slice_set (row_at ss i) k (number ty.signed ty.bits n)))

-- rows keep their lengths
put_lengths : (ty : IntType) (xs : List (List ℕ)) (ss : List (List ℤ)) (i k n : ℕ) → i < length xs → length xs ≡ length ss → ((j : ℕ) → length (words_at xs j) ≡ length (row_at ss j)) →
    (j : ℕ) → length (words_at (words_put xs i k n) j) ≡ length (row_at (put_at ss i k (number ty.signed ty.bits n)) j)
put_lengths ty xs ss i k n lt len h j = ⊎_elim at_it other (same_or j i)
  where
    at_it : j ≡ i → length (words_at (words_put xs i k n) j) ≡ length (row_at (put_at ss i k (number ty.signed ty.bits n)) j)
    at_it e =
        let lt' : i < length ss = subst (λ l. i < l) len lt in
        subst (λ l. length (words_at (words_put xs i k n) l) ≡ length (row_at (put_at ss i k (number ty.signed ty.bits n)) l)) (sym e)
        (ap length (get_or-set_same xs i (slice_set (words_at xs i) k n) [] lt) ∙ length-set (words_at xs i) k n ∙ h i ∙ sym (length-set (row_at ss i) k (number ty.signed ty.bits n))
        ∙ sym (ap length (get_or-set_same ss i (slice_set (row_at ss i) k (number ty.signed ty.bits n)) [] lt')))

    other : (j ≡ i → ⊥) → length (words_at (words_put xs i k n) j) ≡ length (row_at (put_at ss i k (number ty.signed ty.bits n)) j)
    other isnt =
        ap length (get_or-set_other xs i j (slice_set (words_at xs i) k n) [] isnt) ∙ h j ∙ sym (ap length (get_or-set_other ss i j (slice_set (row_at ss i) k (number ty.signed ty.bits n)) [] isnt))

-- the row of an object
abbrev pub row_there : Image → Slot → Type 0
row_there x (Global i) = i < length x.globals
row_there x (Local i) = i < length x.locals
row_there x (Member i) = i < length x.members
row_there x BoundValue = Unit {0}

-- words that stand for a state still do, where the same element of both is set
pub image_state : (p : Pair) (visible : List ℕ) (x : Image) (s : JointState) (slot : Slot) (k n : ℕ) → row_there x slot → IsState p visible x s →
    IsState p visible (image_put x slot k n) (with_store s (put s.store slot k (number (slot_type p.program slot).signed (slot_type p.program slot).bits n)))
image_state p visible x s (Global i) k n lt a = record {
  globals = λ j. rows_put (λ l. slot_type p.program (Global l)) (λ l. Unit {0}) x.globals s.store.globals i k n lt a.global_count (λ l u. a.globals l) j tt;
  locals = a.locals;
  members = a.members;
  global_count = put_count (slot_type p.program (Global i)) x.globals s.store.globals i k n a.global_count;
  local_count = a.local_count;
  member_count = a.member_count;
  local_lengths = a.local_lengths;
  registers = a.registers;
  inputs = a.inputs;
  wires = a.wires;
  edges = a.edges;
}
image_state p visible x s (Local i) k n lt a = record {
  globals = a.globals;
  locals = rows_put (λ l. slot_type p.program (Local l)) (Contains visible) x.locals s.store.locals i k n lt a.local_count a.locals;
  members = a.members;
  global_count = a.global_count;
  local_count = put_count (slot_type p.program (Local i)) x.locals s.store.locals i k n a.local_count;
  member_count = a.member_count;
  local_lengths = put_lengths (slot_type p.program (Local i)) x.locals s.store.locals i k n lt a.local_count a.local_lengths;
  registers = a.registers;
  inputs = a.inputs;
  wires = a.wires;
  edges = a.edges;
}
image_state p visible x s (Member i) k n lt a = record {
  globals = a.globals;
  locals = a.locals;
  members = λ j. rows_put (λ l. slot_type p.program (Member l)) (λ l. Unit {0}) x.members s.store.members i k n lt a.member_count (λ l u. a.members l) j tt;
  global_count = a.global_count;
  local_count = a.local_count;
  member_count = put_count (slot_type p.program (Member i)) x.members s.store.members i k n a.member_count;
  local_lengths = a.local_lengths;
  registers = a.registers;
  inputs = a.inputs;
  wires = a.wires;
  edges = a.edges;
}
image_state p visible x s BoundValue k n lt a = record {
  globals = a.globals;
  locals = a.locals;
  members = a.members;
  global_count = a.global_count;
  local_count = a.local_count;
  member_count = a.member_count;
  local_lengths = a.local_lengths;
  registers = a.registers;
  inputs = a.inputs;
  wires = a.wires;
  edges = a.edges;
}

-- what a set element is as words

some_row : (rows : List (List TermId)) (i j : ℕ) → j < length (slice_index_or rows i []) → i < length rows
some_row [] i j lt = absurd (omega arith)
some_row (r ∷ rows) zero j lt = omega arith
some_row (r ∷ rows) (suc i) j lt = let h = some_row rows i j lt in omega arith

row_words : (v : Values) (rows : List (List TermId)) (i : ℕ) → i < length rows → words v (slice_index_or rows i []) ≡ words_at (map (words v) rows) i
row_words v rows i lt = sym (get_or-map (words v) rows i [] [] lt)

set_words : (v : Values) (rows : List (List TermId)) (i j : ℕ) (t : TermId) → i < length rows → map (words v) (set_in rows i j t) ≡ words_put (map (words v) rows) i j (v.term t.0).value
set_words v rows i j t lt =
    map-set (words v) rows i (slice_set (slice_index_or rows i []) j t)
    ∙ ap (slice_set (map (words v) rows) i) (map-set (λ (x : TermId). (v.term x.0).value) (slice_index_or rows i []) j t ∙ ap (λ l. slice_set l j (v.term t.0).value) (row_words v rows i lt))

pub row_is_there : (v : Values) (s : State) (slot : Slot) (j : ℕ) → j < length (terms_of s.objects slot) → row_there (look v s) slot
row_is_there v s (Global i) j lt = subst (λ k. i < k) (sym (length-map s.objects.globals.items (words v))) (some_row s.objects.globals.items i j lt)
row_is_there v s (Local i) j lt = subst (λ k. i < k) (sym (length-map s.objects.locals.items (words v))) (some_row s.objects.locals.items i j lt)
row_is_there v s (Member i) j lt = subst (λ k. i < k) (sym (length-map s.objects.members.items (words v))) (some_row s.objects.members.items i j lt)
row_is_there v s BoundValue j lt = tt

-- an image by its three classes of objects
abbrev image_of : Image → (globals locals members : List (List ℕ)) → Image
image_of x g l m = record { globals = g; locals = l; members = m; registers = x.registers; inputs = x.inputs; unknown = x.unknown; wires = x.wires; edges = x.edges; result = x.result }

three : (x : Image) (g g' l l' m m' : List (List ℕ)) → g ≡ g' → l ≡ l' → m ≡ m' → image_of x g l m ≡ image_of x g' l' m'
three x g g' l l' m m' p q r = ap (λ k. image_of x k l m) p ∙ ap (λ k. image_of x g' k m) q ∙ ap (image_of x g' l') r

pub look_set : (v : Values) (s : State) (o : Objects) (slot : Slot) (j : ℕ) (t : TermId) → j < length (terms_of s.objects slot) → IsSet s.objects o slot j t → look v (with_objects s o) ≡ image_put (look v s) slot j (v.term t.0).value
look_set v s o (Global i) j t lt h =
    three (look v s) _ _ _ _ _ _ (ap (map (words v)) h.0 ∙ set_words v s.objects.globals.items i j t (some_row s.objects.globals.items i j lt)) (ap (map (words v)) h.1) (ap (map (words v)) h.2)
look_set v s o (Local i) j t lt h =
    three (look v s) _ _ _ _ _ _ (ap (map (words v)) h.0) (ap (map (words v)) h.1 ∙ set_words v s.objects.locals.items i j t (some_row s.objects.locals.items i j lt)) (ap (map (words v)) h.2)
look_set v s o (Member i) j t lt h =
    three (look v s) _ _ _ _ _ _ (ap (map (words v)) h.0) (ap (map (words v)) h.1) (ap (map (words v)) h.2 ∙ set_words v s.objects.members.items i j t (some_row s.objects.members.items i j lt))
look_set v s o BoundValue j t lt h = absurd (omega arith)

-- the element that was there, put again
rows_same : (v : Values) (rows : List (List TermId)) (i j : ℕ) → i < length rows → words_put (map (words v) rows) i j (slice_index_or (words v (slice_index_or rows i [])) j 0) ≡ map (words v) rows
rows_same v rows i j lt =
    ap (λ l. words_put (map (words v) rows) i j (slice_index_or l j 0)) (row_words v rows i lt)
    ∙ ap (slice_set (map (words v) rows) i) (set-get_or (words_at (map (words v) rows) i) j 0) ∙ set-get_or (map (words v) rows) i []

pub put_same : (v : Values) (s : State) (slot : Slot) (j : ℕ) → j < length (terms_of s.objects slot) → image_put (look v s) slot j (slice_index_or (words v (terms_of s.objects slot)) j 0) ≡ look v s
put_same v s (Global i) j lt = ap (λ k. image_of (look v s) k (look v s).locals (look v s).members) (rows_same v s.objects.globals.items i j (some_row s.objects.globals.items i j lt))
put_same v s (Local i) j lt = ap (λ k. image_of (look v s) (look v s).globals k (look v s).members) (rows_same v s.objects.locals.items i j (some_row s.objects.locals.items i j lt))
put_same v s (Member i) j lt = ap (image_of (look v s) (look v s).globals (look v s).locals) (rows_same v s.objects.members.items i j (some_row s.objects.members.items i j lt))
put_same v s BoundValue j lt = refl

pub put_settled : (p : Pair) (x : Image) (slot : Slot) (j n : ℕ) → IsSettled p x → IsSettled p (image_put x slot j n)
put_settled p x (Global i) j n h = h
put_settled p x (Local i) j n h = h
put_settled p x (Member i) j n h = h
put_settled p x BoundValue j n h = h

-- a write as a change of the run's state
pub put_changes : (p : Pair) (visible : List ℕ) (n0 n1 : Unrolled) (s : State) (o : Objects) (slot : Slot) (j : ℕ) (value : SizedTerm) (g : Guard) → j < length (terms_of s.objects slot) → IsPut n0 n1 s.objects o slot j value g →
    Changes (IsSettled p) n0 n1 s (with_objects s o) g (IsState p visible) (IsState p visible) (λ v x. with_store x (put x.store slot j (number (slot_type p.program slot).signed (slot_type p.program slot).bits (bits v value))))
put_changes p visible n0 n1 s o slot j value g lt P = record {
  grown = P.adds.grown;
  list = P.adds.list;
  settled = λ v r x. subst (IsSettled p) (sym (look_set v s o slot j P.term lt P.set)) (put_settled p (look v s) slot j (v.term P.term.0).value x);
  kept = λ v r e x.
      look_set v s o slot j P.term lt P.set
      ∙ ap (image_put (look v s) slot j) (P.is v r ∙ ap (λ k. at_zero k (slice_index_or (words v (terms_of s.objects slot)) j 0) (bits v value)) e) ∙ put_same v s slot j lt;
  changed = λ v r e x q h.
      subst (λ y. IsState p visible y (with_store q (put q.store slot j (number (slot_type p.program slot).signed (slot_type p.program slot).bits (bits v value)))))
      (sym (look_set v s o slot j P.term lt P.set ∙ ap (image_put (look v s) slot j) (P.is v r ∙ ap (λ k. at_zero k (slice_index_or (words v (terms_of s.objects slot)) j 0) (bits v value)) e)))
      (image_state p visible (look v s) q slot j (bits v value) (row_is_there v s slot j lt) h);
}

-- objects keep their shape and the widths of their terms

set_found : (row : List TermId) (j k : ℕ) (t u : TermId) → slice_get (slice_set row j t) k ≡ Some u → (u ≡ t) ⊎ (slice_get row k ≡ Some u)
set_found [] j k t u e = inr e
set_found (x ∷ row) zero zero t u e = inl (let d : Some t ≡ Some u = e in cc)
set_found (x ∷ row) zero (suc k) t u e = inr e
set_found (x ∷ row) (suc j) zero t u e = inr e
set_found (x ∷ row) (suc j) (suc k) t u e = set_found row j k t u e

set_in_found : (rows : List (List TermId)) (i j l k : ℕ) (t u : TermId) → slice_get (slice_index_or (set_in rows i j t) l []) k ≡ Some u → ((l ≡ i) × (u ≡ t)) ⊎ (slice_get (slice_index_or rows l []) k ≡ Some u)
set_in_found [] i j l k t u e = inr e
set_in_found (r ∷ rows) zero j zero k t u e = ⊎_elim (λ q. inl (refl, q)) (λ q. inr q) (set_found r j k t u e)
set_in_found (r ∷ rows) zero j (suc l) k t u e = inr e
set_in_found (r ∷ rows) (suc i) j zero k t u e = inr e
set_in_found (r ∷ rows) (suc i) j (suc l) k t u e = ⊎_elim (λ q. inl (ap suc q.0, q.1)) (λ q. inr q) (set_in_found rows i j l k t u e)

set_in_length : (rows : List (List TermId)) (i j l : ℕ) (t : TermId) → length (slice_index_or (set_in rows i j t) l []) ≡ length (slice_index_or rows l [])
set_in_length [] i j l t = refl
set_in_length (r ∷ rows) zero j zero t = length-set r j t
set_in_length (r ∷ rows) zero j (suc l) t = refl
set_in_length (r ∷ rows) (suc i) j zero t = refl
set_in_length (r ∷ rows) (suc i) j (suc l) t = set_in_length rows i j l t

row_is : (xs ys : List (List TermId)) (l : ℕ) → xs ≡ ys → slice_index_or xs l [] ≡ slice_index_or ys l []
row_is xs ys l e = ap (λ rows. slice_index_or rows l []) e

-- how many terms an object has, after one was set
set_length : (o o' : Objects) (slot other : Slot) (j : ℕ) (t : TermId) → IsSet o o' slot j t → length (terms_of o' other) ≡ length (terms_of o other)
set_length o o' (Global i) (Global l) j t h = ap length (row_is _ _ l h.0) ∙ set_in_length o.globals.items i j l t
set_length o o' (Global i) (Local l) j t h = ap length (row_is _ _ l h.1)
set_length o o' (Global i) (Member l) j t h = ap length (row_is _ _ l h.2)
set_length o o' (Global i) BoundValue j t h = refl
set_length o o' (Local i) (Global l) j t h = ap length (row_is _ _ l h.0)
set_length o o' (Local i) (Local l) j t h = ap length (row_is _ _ l h.1) ∙ set_in_length o.locals.items i j l t
set_length o o' (Local i) (Member l) j t h = ap length (row_is _ _ l h.2)
set_length o o' (Local i) BoundValue j t h = refl
set_length o o' (Member i) (Global l) j t h = ap length (row_is _ _ l h.0)
set_length o o' (Member i) (Local l) j t h = ap length (row_is _ _ l h.1)
set_length o o' (Member i) (Member l) j t h = ap length (row_is _ _ l h.2) ∙ set_in_length o.members.items i j l t
set_length o o' (Member i) BoundValue j t h = refl
set_length o o' BoundValue (Global l) j t h = ap length (row_is _ _ l h.0)
set_length o o' BoundValue (Local l) j t h = ap length (row_is _ _ l h.1)
set_length o o' BoundValue (Member l) j t h = ap length (row_is _ _ l h.2)
set_length o o' BoundValue BoundValue j t h = refl

found : (xs ys : List (List TermId)) (l k : ℕ) (u : TermId) → xs ≡ ys → slice_get (slice_index_or xs l []) k ≡ Some u → slice_get (slice_index_or ys l []) k ≡ Some u
found xs ys l k u e q = subst (λ rows. slice_get (slice_index_or rows l []) k ≡ Some u) e q

-- which terms an object has, after one was set
set_is : (o o' : Objects) (slot other : Slot) (j k : ℕ) (t u : TermId) → IsSet o o' slot j t → slice_get (terms_of o' other) k ≡ Some u → ((other ≡ slot) × (u ≡ t)) ⊎ (slice_get (terms_of o other) k ≡ Some u)
set_is o o' (Global i) (Global l) j k t u h e = ⊎_elim (λ q. inl (ap Global q.0, q.1)) (λ q. inr q) (set_in_found o.globals.items i j l k t u (found _ _ l k u h.0 e))
set_is o o' (Global i) (Local l) j k t u h e = inr (found _ _ l k u h.1 e)
set_is o o' (Global i) (Member l) j k t u h e = inr (found _ _ l k u h.2 e)
set_is o o' (Global i) BoundValue j k t u h e = inr e
set_is o o' (Local i) (Global l) j k t u h e = inr (found _ _ l k u h.0 e)
set_is o o' (Local i) (Local l) j k t u h e = ⊎_elim (λ q. inl (ap Local q.0, q.1)) (λ q. inr q) (set_in_found o.locals.items i j l k t u (found _ _ l k u h.1 e))
set_is o o' (Local i) (Member l) j k t u h e = inr (found _ _ l k u h.2 e)
set_is o o' (Local i) BoundValue j k t u h e = inr e
set_is o o' (Member i) (Global l) j k t u h e = inr (found _ _ l k u h.0 e)
set_is o o' (Member i) (Local l) j k t u h e = inr (found _ _ l k u h.1 e)
set_is o o' (Member i) (Member l) j k t u h e = ⊎_elim (λ q. inl (ap Member q.0, q.1)) (λ q. inr q) (set_in_found o.members.items i j l k t u (found _ _ l k u h.2 e))
set_is o o' (Member i) BoundValue j k t u h e = inr e
set_is o o' BoundValue (Global l) j k t u h e = inr (found _ _ l k u h.0 e)
set_is o o' BoundValue (Local l) j k t u h e = inr (found _ _ l k u h.1 e)
set_is o o' BoundValue (Member l) j k t u h e = inr (found _ _ l k u h.2 e)
set_is o o' BoundValue BoundValue j k t u h e = inr e

pub put_has : (p : CProgram) (n0 n1 : Unrolled) (o o' : Objects) (slot : Slot) (j : ℕ) (value : SizedTerm) (g : Guard) → value.width ≡ (slot_type p slot).bits → IsPut n0 n1 o o' slot j value g → HasObjects p n0.terms o → HasObjects p n1.terms o'
put_has p n0 n1 o o' slot j value g w P h = record {
  count = λ other there. set_length o o' slot other j P.term P.set ∙ h.count other there;
  has = λ other there k u e. ⊎_elim
      (λ q.
      let is : Has n1.terms (sized P.term (slot_type p slot).bits) = subst (λ b. Has n1.terms (sized P.term b)) w P.has in
      subst (λ x. Has n1.terms (sized x (slot_type p other).bits)) (sym q.1) (subst (λ x. Has n1.terms (sized P.term (slot_type p x).bits)) (sym q.0) is))
      (λ q. P.adds.kept (sized u (slot_type p other).bits) (h.has other there k u q)) (set_is o o' slot other j k P.term u P.set e);
}

-- the element that a write looks at is there
pub element_has : (g : Graph) (o : Objects) (slot : Slot) (j w : ℕ) (l : List TermId) (d : TermId) → l ≡ terms_of o slot → j < length (terms_of o slot) → ((t : TermId) → slice_get (terms_of o slot) j ≡ Some t → Has g (sized t w)) → Has g (sized (slice_index_or l j d) w)
element_has g o slot j w l d e lt h = subst (λ (m : List TermId). Has g (sized (slice_index_or m j d) w)) (sym e) (h (slice_index_or (terms_of o slot) j d) (slice_get-get_or (terms_of o slot) j d lt))

pub put_made : (n0 n1 : Unrolled) (o o' : Objects) (slot : Slot) (j : ℕ) (value new : SizedTerm) (g : Guard) (l : List TermId) (d : TermId) → l ≡ terms_of o slot → j < length (terms_of o slot) →
    IsChosen n0 n1 value.width new (λ v. at_zero (bit_at v g) (v.term (slice_index_or l j d).0).value (bits v value)) → IsSet o o' slot j new.term → IsPut n0 n1 o o' slot j value g
put_made n0 n1 o o' slot j value new g l d e lt C S = record {
  adds = C.adds;
  term = new.term;
  has = subst (λ w. Has n1.terms (sized new.term w)) C.width C.has;
  set = S;
  is = λ v r.
      C.value v r
      ∙ ap (λ k. at_zero (bit_at v g) k (bits v value))
      (ap (λ (m : List TermId). (v.term (slice_index_or m j d).0).value) e ∙ sym (get_or-map (λ (x : TermId). (v.term x.0).value) (terms_of o slot) j d 0 lt));
}
