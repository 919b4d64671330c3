-- The links of a pair that binds a mirror to a module.
use Rattle.std.proofs.Common.{◌≡◌, ℕ, zero, suc, ◌<◌, ◌≤◌, List, [], ◌∷◌, length, get_or, Bool, true, false, eqb, refl, sym, ap, ◌∙◌, subst, arith}
use Rattle.std.specs.Prelude.{Option, Some, None, IsSome, IfSome, All, slice_get, count_by, option_map}
use Rattle.std.specs.List.{find}
use Rattle.std.proofs.lemmas.Bool.{eqb-true}
use Rattle.std.proofs.lemmas.Option.{same_Some, slice_get-get_or, get_or_from_slice_get}
use Rattle.std.proofs.lemmas.List.Elements.{All-head, All-tail}
use Rattle.joint_ir.specs.declared.ctype.IntType.{IntType}
use Rattle.joint_ir.specs.declared.module.Signal.{Signal}
use Rattle.joint_ir.specs.declared.pair.Link.{Link}
use Rattle.joint_ir.specs.declared.pair.Pair.{Pair}
use Rattle.joint_ir.specs.declared.program.Member.{Member as AMember}
use Rattle.joint_ir.specs.Types.{IsType}
use Rattle.joint_ir.specs.Views.{mirrored_signal, mirroring_member, members_of}
use Rattle.joint_ir.specs.WellFormed.{IsWellFormed, FitsLink, FitsMember, FitsSignal}

-- what all elements have, the one at a place has
pub all_there : {X : Type 0} → (P : X → Type 0) (xs : List X) (i : ℕ) (x : X) → All P xs → slice_get xs i ≡ Some x → P x
all_there P [] i x h e = let d : None ≡ Some x = e in cc
all_there P (y ∷ xs) zero x h e = subst P (same_Some y x e) (All-head P y xs h)
all_there P (y ∷ xs) (suc i) x h e = all_there P xs i x (All-tail P y xs h) e

pub there_below : {X : Type 0} → (xs : List X) (i : ℕ) (x : X) → slice_get xs i ≡ Some x → i < length xs
there_below [] i x e = let d : None ≡ Some x = e in cc
there_below (y ∷ xs) zero x e = omega arith
there_below (y ∷ xs) (suc i) x e = let lt = there_below xs i x e in omega arith

find_some : {X : Type 0} → (f : X → Bool) (P : X → Type 0) (xs : List X) (x : X) → All P xs → find f xs ≡ Some x → P x × (f x ≡ true)
find_some f P [] x h e = let d : None ≡ Some x = e in cc
find_some f P (y ∷ xs) x h e = by (λ q. find_some f P xs x (All-tail P y xs h) q) (f y) refl
  where
    by : (find f xs ≡ Some x → P x × (f x ≡ true)) → (b : Bool) → f y ≡ b → P x × (f x ≡ true)
    by rest true d =
        let q : find f (y ∷ xs) ≡ Some y = rw d in
        let s : y ≡ x = same_Some y x (sym q ∙ e) in
        (subst P s (All-head P y xs h), subst (λ z. f z ≡ true) s d)
    by rest false d =
        let q : find f (y ∷ xs) ≡ find f xs = rw d in
        rest (sym q ∙ e)

find_none : {X : Type 0} → (f : X → Bool) (xs : List X) → find f xs ≡ None → count_by f xs ≡ 0
find_none f [] e = refl
find_none f (y ∷ xs) e = by (λ q. find_none f xs q) (f y) refl
  where
    by : (find f xs ≡ None → count_by f xs ≡ 0) → (b : Bool) → f y ≡ b → count_by f (y ∷ xs) ≡ 0
    by rest true d = let q : find f (y ∷ xs) ≡ Some y = rw d in let n : Some y ≡ None = sym q ∙ e in cc
    by rest false d =
        let q : find f (y ∷ xs) ≡ find f xs = rw d in
        let c : count_by f (y ∷ xs) ≡ count_by f xs = rw d in
        c ∙ rest (sym q ∙ e)

-- a member and the signal that it mirrors
pub record AreLinked (p : Pair) (i g : ℕ) : Type 0 where
  pub member : AMember
  pub signal : Signal
  pub at_member : slice_get (members_of p.program.mirror) i ≡ Some member
  pub at_signal : slice_get p.module.signals g ≡ Some signal
  pub ty : IntType
  pub typed : member.ty ≡ Some ty
  pub same : member.length ≡ signal.words
  pub wide : signal.bits ≤ ty.bits
  pub type_ : IsType ty
  pub fits : FitsSignal signal

module _ (p : Pair) (well : IsWellFormed p) where
  linked : (link : Link) → FitsLink p link → AreLinked p link.member link.signal
  linked link f = by f.0.ty refl
    where
      by : (o : Option IntType) → f.0.ty ≡ o → AreLinked p link.member link.signal
      by None e = let q : IsSome {T = IntType} None = subst (λ (o : Option IntType). IsSome o) e f.4 in let d : false ≡ true = q in cc
      by (Some t) e = record {
        member = f.0;
        signal = f.1;
        at_member = f.2;
        at_signal = f.3;
        ty = t;
        typed = e;
        same = f.5.0;
        wide = subst (λ (o : Option IntType). IfSome o (λ t. f.1.bits ≤ t.bits)) e f.5.1;
        type_ = subst (λ (o : Option IntType). IfSome o IsType) e (all_there FitsMember (members_of p.program.mirror) link.member f.0 well.program.members f.2).type;
        fits = all_there FitsSignal p.module.signals link.signal f.1 well.module_.signals f.3;
      }

  pub mirrored : (i g : ℕ) → mirrored_signal p.binding.links i ≡ Some g → AreLinked p i g
  mirrored i g e = by (find (λ (l : Link). eqb l.member i) p.binding.links) refl
    where
      by : (o : Option Link) → find (λ (l : Link). eqb l.member i) p.binding.links ≡ o → AreLinked p i g
      by None d = let q : None ≡ Some g = sym (ap (option_map (λ (l : Link). l.signal)) d) ∙ e in cc
      by (Some link) d =
          let q : Some link.signal ≡ Some g = sym (ap (option_map (λ (l : Link). l.signal)) d) ∙ e in
          let f = find_some (λ (l : Link). eqb l.member i) (FitsLink p) p.binding.links link well.binding.links d in
          subst (λ n. AreLinked p i n) (same_Some link.signal g q) (subst (λ n. AreLinked p n link.signal) (eqb-true link.member i f.1) (linked link f.0))

  pub mirroring : (i g : ℕ) → mirroring_member p.binding.links g ≡ Some i → AreLinked p i g
  mirroring i g e = by (find (λ (l : Link). eqb l.signal g) p.binding.links) refl
    where
      by : (o : Option Link) → find (λ (l : Link). eqb l.signal g) p.binding.links ≡ o → AreLinked p i g
      by None d = let q : None ≡ Some i = sym (ap (option_map (λ (l : Link). l.member)) d) ∙ e in cc
      by (Some link) d =
          let q : Some link.member ≡ Some i = sym (ap (option_map (λ (l : Link). l.member)) d) ∙ e in
          let f = find_some (λ (l : Link). eqb l.signal g) (FitsLink p) p.binding.links link well.binding.links d in
          subst (λ n. AreLinked p n g) (same_Some link.member i q) (subst (λ n. AreLinked p link.member n) (eqb-true link.signal g f.1) (linked link f.0))

  -- a member that is no struct mirrors a signal
  pub has_signal : (i : ℕ) (m : AMember) (t : IntType) → slice_get (members_of p.program.mirror) i ≡ Some m → m.ty ≡ Some t → mirrored_signal p.binding.links i ≡ None → ⊥
  has_signal i m t at is none = by (find (λ (l : Link). eqb l.member i) p.binding.links) refl
    where
      by : (o : Option Link) → find (λ (l : Link). eqb l.member i) p.binding.links ≡ o → ⊥
      by None d =
          let one : count_by (λ (l : Link). eqb l.member i) p.binding.links ≡ 1 = well.binding.members i m at (subst (λ (o : Option IntType). IsSome o) (sym is) refl) in
          let zero_ = find_none (λ (l : Link). eqb l.member i) p.binding.links d in
          let bad : 0 ≡ 1 = sym zero_ ∙ one in cc
      by (Some link) d = let q : Some link.signal ≡ None = sym (ap (option_map (λ (l : Link). l.signal)) d) ∙ none in cc

-- what stands at a place
pub stands_there : {X : Type 0} → (xs : List X) (i : ℕ) (x : X) → i < length xs → x ≡ get_or xs i x → slice_get xs i ≡ Some x
stands_there xs i x lt e = slice_get-get_or xs i x lt ∙ ap Some (sym e)

pub same_there : {X : Type 0} → (xs : List X) (i : ℕ) (x y : X) → slice_get xs i ≡ Some y → x ≡ get_or xs i x → x ≡ y
same_there xs i x y at e = e ∙ get_or_from_slice_get xs i y x at

pub linked_type : (p : Pair) (i g : ℕ) (L : AreLinked p i g) (m : AMember) (t : IntType) → slice_get (members_of p.program.mirror) i ≡ Some m → m.ty ≡ Some t → L.ty ≡ t
linked_type p i g L m t at is =
    let same : L.member ≡ m = same_Some L.member m (sym L.at_member ∙ at) in
    same_Some L.ty t (sym L.typed ∙ ap (λ (x : AMember). x.ty) same ∙ is)
