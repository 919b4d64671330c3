-- Stores whose objects hold numbers of their types: the first one, and those that a run makes of them.
use Rattle.std.proofs.Common.{ℕ, zero, suc, ◌+◌, ◌^◌, ◌<◌, true, false, List, [], ◌∷◌, arith, length, ap, ◌∙◌, refl, ◌≡◌, length-set}
use Rattle.std.specs.Prelude.{ℤ, pos, Option, Some, None, IfSome, All, map, slice_get, slice_index_or, slice_set}
use Rattle.std.proofs.lemmas.Int.{ints}
use Rattle.std.proofs.lemmas.List.Elements.{All-cons, All-nil, All-set}
use Rattle.joint_ir.specs.declared.ctype.IntType.{IntType}
use Rattle.joint_ir.specs.declared.expr.Slot.{Slot}
use Rattle.joint_ir.specs.declared.expr.Slot.TheVariants.{Global, Local, Member, BoundValue}
use Rattle.joint_ir.specs.declared.module.Signal.{Signal}
use Rattle.joint_ir.specs.declared.pair.Link.{Link}
use Rattle.joint_ir.specs.declared.pair.Pair.{Pair}
use Rattle.joint_ir.specs.declared.program.CProgram.{CProgram}
use Rattle.joint_ir.specs.declared.program.Member.{Member as AMember}
use Rattle.joint_ir.specs.declared.program.Var.{Var}
use Rattle.joint_ir.specs.Types.{int, InRange, IsType, Single, converted}
use Rattle.joint_ir.specs.States.{Store, View, row_at, rows_of, put_at, put, element_count, filled_up, first_rows}
use Rattle.joint_ir.specs.Steps.{var_type, member_type, type_or_int, slot_type}
use Rattle.joint_ir.specs.Views.{members_of, mirrored_signal, mirror_row, member_row, filled_from, filled, view_words, word_number}
use Rattle.joint_ir.specs.WellFormed.{FitsVar, FitsMember, FitsProgram}
use Rattle.joint_value.specs.Evaluable.{HoldsTypes, KeepsTypes}
use Rattle.joint_value.proofs.Numbers.{converted_in, zero_in}

all_tail : {X : Type 0} (P : X → Type 0) (x : X) (xs : List X) → All P (x ∷ xs) → All P xs
all_tail P x xs h k d lt = h (suc k) d (omega arith)

all_head : {X : Type 0} (P : X → Type 0) (x : X) (xs : List X) → All P (x ∷ xs) → P x
all_head P x xs h = h 0 x (omega arith)

-- ---- types

vars_typed : (vars : List Var) (i : ℕ) → All FitsVar vars → IsType (var_type (slice_get vars i))
vars_typed [] i h = Single true
vars_typed (x ∷ vars) zero h = (all_head FitsVar x vars h).type
vars_typed (x ∷ vars) (suc i) h = vars_typed vars i (all_tail FitsVar x vars h)

option_typed : (t : Option IntType) → IfSome t IsType → IsType (type_or_int t)
option_typed None h = Single true
option_typed (Some t) h = h

members_typed : (members : List AMember) (i : ℕ) → All FitsMember members → IsType (member_type (slice_get members i))
members_typed [] i h = Single true
members_typed (m ∷ members) zero h = option_typed m.ty (all_head FitsMember m members h).type
members_typed (m ∷ members) (suc i) h = members_typed members i (all_tail FitsMember m members h)

-- the objects of a well-formed program have types
pub slot_typed : (p : CProgram) (slot : Slot) → FitsProgram p → IsType (slot_type p slot)
slot_typed p (Global i) h = vars_typed p.globals i h.globals
slot_typed p (Local i) h = vars_typed p.locals i h.locals
slot_typed p (Member i) h = members_typed (members_of p.mirror) i h.members
slot_typed p BoundValue h = Single false

-- ---- a store by its rows

pub holds_from_kept : (p : CProgram) (frames : ℕ) (s : Store) → FitsProgram p → frames < 2 ^ 32 → KeepsTypes p s → HoldsTypes p (rows_of frames s)
holds_from_kept p frames s fits few h = record { types = λ slot. slot_typed p slot fits; values = λ slot. held slot }
  where
    held : (slot : Slot) → All (InRange (slot_type p slot)) (rows_of frames s slot)
    held (Global i) = h.globals i
    held (Local i) = h.locals i
    held (Member i) = h.members i
    held BoundValue =
        All-cons (InRange (slot_type p BoundValue)) (pos frames) [] (record { low = omega (arith, ints); high = omega (arith, ints) })
        (All-nil (InRange (slot_type p BoundValue)))

-- ---- first values

filled_kept : (t : IntType) (firsts : List ℤ) (n : ℕ) → All (InRange t) firsts → All (InRange t) (filled_up firsts n)
filled_kept t firsts zero h = All-nil (InRange t)
filled_kept t [] (suc n) h = All-cons (InRange t) (pos 0) (filled_up [] n) (zero_in t) (filled_kept t [] n h)
filled_kept t (v ∷ firsts) (suc n) h =
    All-cons (InRange t) v (filled_up firsts n) (all_head (InRange t) v firsts h) (filled_kept t firsts n (all_tail (InRange t) v firsts h))

vars_kept : (vars : List Var) (i : ℕ) → All FitsVar vars → All (InRange (var_type (slice_get vars i))) (row_at (first_rows vars) i)
vars_kept [] i h = All-nil (InRange int)
vars_kept (x ∷ vars) zero h = filled_kept x.ty x.firsts (element_count x.length) (all_head FitsVar x vars h).firsts
vars_kept (x ∷ vars) (suc i) h = vars_kept vars i (all_tail FitsVar x vars h)

pub globals_kept : (p : CProgram) (i : ℕ) → FitsProgram p → All (InRange (slot_type p (Global i))) (row_at (first_rows p.globals) i)
globals_kept p i h = vars_kept p.globals i h.globals

pub locals_kept : (p : CProgram) (i : ℕ) → FitsProgram p → All (InRange (slot_type p (Local i))) (row_at (first_rows p.locals) i)
locals_kept p i h = vars_kept p.locals i h.locals

-- ---- the mirror

words_kept : (t : IntType) (s : Signal) (words : List ℕ) → IsType t → All (InRange t) (map (λ n. converted t (word_number s n)) words)
words_kept t s [] is = All-nil (InRange t)
words_kept t s (n ∷ words) is = All-cons (InRange t) _ _ (converted_in t (word_number s n) is) (words_kept t s words is)

mirror_kept : (t : IntType) (s : Option Signal) (words : List ℕ) → IsType t → All (InRange t) (mirror_row t s words)
mirror_kept t None words is = All-nil (InRange t)
mirror_kept t (Some s) words is = words_kept t s words is

member_kept : (signals : List Signal) (words : List (List ℕ)) (t : Option IntType) (signal : Option ℕ) → IfSome t IsType →
    All (InRange (type_or_int t)) (member_row signals words t signal)
member_kept signals words None signal h = All-nil (InRange int)
member_kept signals words (Some t) None h = All-nil (InRange t)
member_kept signals words (Some t) (Some g) h = mirror_kept t (slice_get signals g) (slice_index_or words g []) h

from_kept : (links : List Link) (signals : List Signal) (words : List (List ℕ)) (k : ℕ) (members : List AMember) (i : ℕ) → All FitsMember members →
    All (InRange (member_type (slice_get members i))) (row_at (filled_from links signals words k members) i)
from_kept links signals words k [] i h = All-nil (InRange int)
from_kept links signals words k (m ∷ members) zero h = member_kept signals words m.ty (mirrored_signal links k) (all_head FitsMember m members h).type
from_kept links signals words k (m ∷ members) (suc i) h = from_kept links signals words (k + 1) members i (all_tail FitsMember m members h)

pub members_kept : (p : Pair) (v : View) (i : ℕ) → FitsProgram p.program → All (InRange (slot_type p.program (Member i))) (row_at (filled p v) i)
members_kept p v i h = from_kept p.binding.links p.module.signals (view_words p.module v) 0 (members_of p.program.mirror) i h.members

-- ---- what a run makes of a store

rows_count : (vars : List Var) → length (first_rows vars) ≡ length vars
rows_count [] = refl
rows_count (x ∷ vars) = ap suc (rows_count vars)

-- the store at the start of a run
pub first_kept : (p : Pair) (v : View) → FitsProgram p.program →
    KeepsTypes p.program (record { globals = first_rows p.program.globals; locals = first_rows p.program.locals; members = filled p v })
first_kept p v h = record { count = rows_count p.program.locals; globals = λ i. globals_kept p.program i h; locals = λ i. locals_kept p.program i h; members = λ i. members_kept p v i h }

set_kept : (T : ℕ → ℤ → Type 0) (rows : List (List ℤ)) (i : ℕ) (row : List ℤ) → ((k : ℕ) → All (T k) (row_at rows k)) → All (T i) row → (k : ℕ) →
    All (T k) (row_at (slice_set rows i row) k)
set_kept T [] i row h new k = h k
set_kept T (r ∷ rows) zero row h new zero = new
set_kept T (r ∷ rows) zero row h new (suc k) = h (suc k)
set_kept T (r ∷ rows) (suc i) row h new zero = h 0
set_kept T (r ∷ rows) (suc i) row h new (suc k) = set_kept (λ n. T (suc n)) rows i row (λ n. h (suc n)) new k

put_at_kept : (T : ℕ → ℤ → Type 0) (rows : List (List ℤ)) (i j : ℕ) (n : ℤ) → ((k : ℕ) → All (T k) (row_at rows k)) → T i n → (k : ℕ) →
    All (T k) (row_at (put_at rows i j n) k)
put_at_kept T rows i j n h is = set_kept T rows i (slice_set (row_at rows i) j n) h (All-set (T i) (row_at rows i) j n is (h i))

-- a number of an object's type put into it
pub put_kept : (p : CProgram) (s : Store) (slot : Slot) (element : ℕ) (n : ℤ) → KeepsTypes p s → InRange (slot_type p slot) n → KeepsTypes p (put s slot element n)
put_kept p s (Global i) j n h is = record { count = h.count; globals = put_at_kept (λ k. InRange (slot_type p (Global k))) s.globals i j n h.globals is; locals = h.locals; members = h.members }
put_kept p s (Local i) j n h is = record { count = length-set s.locals i _ ∙ h.count; globals = h.globals; locals = put_at_kept (λ k. InRange (slot_type p (Local k))) s.locals i j n h.locals is; members = h.members }
put_kept p s (Member i) j n h is = record { count = h.count; globals = h.globals; locals = h.locals; members = put_at_kept (λ k. InRange (slot_type p (Member k))) s.members i j n h.members is }
put_kept p s BoundValue j n h is = h

-- the locals of the caller, back
pub back_kept : (p : CProgram) (s caller : Store) → KeepsTypes p s → KeepsTypes p caller →
    KeepsTypes p (record { globals = s.globals; locals = caller.locals; members = s.members })
back_kept p s caller h i = record { count = i.count; globals = h.globals; locals = i.locals; members = h.members }

-- the mirror, filled from a view
pub viewed_kept : (p : Pair) (v : View) (s : Store) → FitsProgram p.program → KeepsTypes p.program s →
    KeepsTypes p.program (record { globals = s.globals; locals = s.locals; members = filled p v })
viewed_kept p v s fits h = record { count = h.count; globals = h.globals; locals = h.locals; members = λ i. members_kept p v i fits }
