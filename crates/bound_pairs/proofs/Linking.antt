-- The links of members without offence.
use Rattle.std.proofs.Common.{◌≡◌, ℕ, zero, suc, ◌+◌, ◌≤◌, List, [], ◌∷◌, Bool, true, false, refl, sym, ap, subst, ◌∙◌, arith}
use Rattle.std.specs.Prelude.{All, Option, Some, None, IfSome, cond, count_by, eqb, nat_lt, slice_get}
use Rattle.std.proofs.lemmas.Bool.{eqb-true, ltb-false}
use Rattle.std.proofs.lemmas.List.Elements.{All-nil, All-cons, All-append}
use Rattle.std.proofs.lemmas.List.Sums.{sum_by-append, sum_by-cons}
use Rattle.src_text.specs.declared.kind.Kind.{Kind}
use Rattle.src_text.specs.declared.kind.Kind.TheVariants.{BShape, BNarrow}
use Rattle.src_text.specs.declared.refusal.Place.{Place}
use Rattle.joint_ir.specs.declared.ctype.IntType.{IntType}
use Rattle.joint_ir.specs.declared.module.FlatModule.{FlatModule}
use Rattle.joint_ir.specs.declared.module.Signal.{Signal as ASignal}
use Rattle.joint_ir.specs.declared.pair.Link.{Link}
use Rattle.joint_ir.specs.declared.program.Member.{Member}
use Rattle.joint_ir.specs.WellFormed.{FitsMirror}
use Rattle.bind_struct.specs.declared.paths.Thing.{Thing}
use Rattle.bind_struct.specs.declared.paths.Thing.TheVariants.{Signal, Instance}
use Rattle.bind_struct.specs.Paths.{Naming, paths_of}
use Rattle.bind_struct.specs.Binding.{at_fault, integer_fault, link_of, links_from, member_fault_of, member_offences, number_of, signal_fault, thing_link}
use Rattle.bound_pairs.proofs.Naming.{path_names}

-- a member of a type, and the signal that it mirrors
pub record Mirrors (m : FlatModule) (x : Member) : Type 0 where
  pub at : ℕ
  pub signal : ASignal
  pub named : paths_of m x.path ≡ Some (Signal at)
  pub there : slice_get m.signals at ≡ Some signal
  pub fits : FitsMirror x signal

no_fault : (p : Place) (k : Option Kind) → at_fault p k ≡ [] → k ≡ None
no_fault p None h = refl
no_fault p (Some k) h = absurd (cc)

shape : (x : Member) (t : IntType) (s : ASignal) → x.ty ≡ Some t → signal_fault x t (Some s) ≡ None → FitsMirror x s
shape x t s ty h = pick (eqb x.length s.words) (nat_lt t.bits s.bits) refl refl h
  where
    pick : (a b : Bool) → eqb x.length s.words ≡ a → nat_lt t.bits s.bits ≡ b → cond a (cond b (Some BNarrow) None) (Some BShape) ≡ None → FitsMirror x s
    pick true true is narrow g = absurd (cc)
    pick true false is narrow g = (eqb-true x.length s.words is, subst (λ o. IfSome o (λ u. s.bits ≤ u.bits)) (sym ty) (ltb-false t.bits s.bits narrow))
    pick false b is narrow g = absurd (cc)

-- a member of a type without offence mirrors a signal
pub mirrored : (m : FlatModule) (x : Member) (t : IntType) → x.ty ≡ Some t → member_offences m (paths_of m) x ≡ [] → Mirrors m x
mirrored m x t ty clean =
    pick (paths_of m x.path) refl (ap (λ o. member_fault_of m x o (paths_of m x.path)) (sym ty) ∙ no_fault x.place (member_fault_of m x x.ty (paths_of m x.path)) clean)
  where
    pick : (o : Option Thing) → paths_of m x.path ≡ o → integer_fault m x t o ≡ None → Mirrors m x
    pick None is g = absurd (cc)
    pick (Some Instance) is g = absurd (cc)
    pick (Some (Signal j)) is g =
        let n = path_names m x.path j is in
        record {
          at = j;
          signal = n.0;
          named = is;
          there = n.1;
          fits = shape x t n.0 ty (ap (signal_fault x t) (sym n.1) ∙ g);
        }

-- the link of the member at a place to the signal at another
abbrev pub linked : (member signal : ℕ) → Link
linked k j = record { member = number_of k; signal = number_of j }

module _ (paths : Naming) where
  -- a member of a type at a place of a list, and the signal that it names
  pub record Stands (members : List Member) (r j : ℕ) (x : Member) (t : IntType) : Type 0 where
    pub there : slice_get members r ≡ Some x
    pub type : x.ty ≡ Some t
    pub named : paths x.path ≡ Some (Signal j)

  behind : (y : Member) (members : List Member) (r j : ℕ) (x : Member) (t : IntType) → Stands members r j x t → Stands (y ∷ members) (suc r) j x t
  behind y members r j x t s = record { there = s.there; type = s.type; named = s.named }

  further : (i r : ℕ) → i + 1 + r ≡ i + suc r
  further i r = omega arith

  own : (i : ℕ) → i + 0 ≡ i
  own i = omega arith

  -- what holds of the link of each member of a type that names a signal, holds of each link
  pub each_link : (P : Link → Type 0) (members : List Member) (i : ℕ) → ((r j : ℕ) (x : Member) (t : IntType) → Stands members r j x t → P (linked (i + r) j)) → All P (links_from paths i members)
  each_link P [] i h = All-nil P
  each_link P (x ∷ members) i h =
      All-append P (link_of paths i x x.ty) (links_from paths (i + 1) members) (first x.ty refl (paths x.path) refl)
      (each_link P members (i + 1) (λ r j y t s. subst (λ k. P (linked k j)) (sym (further i r)) (h (suc r) j y t (behind x members r j y t s))))
    where
      first : (o : Option IntType) → x.ty ≡ o → (q : Option Thing) → paths x.path ≡ q → All P (link_of paths i x o)
      first None ty q is = All-nil P
      first (Some t) ty q is = subst (λ z. All P (thing_link i z)) (sym is) (thing q is)
        where
          thing : (z : Option Thing) → paths x.path ≡ z → All P (thing_link i z)
          thing None is = All-nil P
          thing (Some Instance) is = All-nil P
          thing (Some (Signal j)) is = All-cons P (linked i j) [] (subst (λ k. P (linked k j)) (own i) (h 0 j x t (record { there = refl; type = ty; named = is }))) (All-nil P)

  module _ (f : Link → Bool) where
    one : (l : Link) (q : Bool) → f l ≡ q → count_by f (l ∷ []) ≡ cond q 1 0
    one l q is = sum_by-cons (λ y. cond (f y) 1 0) l [] ∙ ap (λ b. cond b 1 0 + 0) is ∙ own (cond q 1 0)

    first_none : (x : Member) (i : ℕ) → ((j : ℕ) (t : IntType) → x.ty ≡ Some t → paths x.path ≡ Some (Signal j) → f (linked i j) ≡ false) → count_by f (link_of paths i x x.ty) ≡ 0
    first_none x i h = pick x.ty refl
      where
        thing : (t : IntType) → x.ty ≡ Some t → (z : Option Thing) → paths x.path ≡ z → count_by f (thing_link i z) ≡ 0
        thing t ty None is = refl
        thing t ty (Some Instance) is = refl
        thing t ty (Some (Signal j)) is = one (linked i j) false (h j t ty is)

        pick : (o : Option IntType) → x.ty ≡ o → count_by f (link_of paths i x o) ≡ 0
        pick None ty = refl
        pick (Some t) ty = thing t ty (paths x.path) refl

    -- no link passes a test
    pub none_counted : (members : List Member) (i : ℕ) → ((r j : ℕ) (x : Member) (t : IntType) → Stands members r j x t → f (linked (i + r) j) ≡ false) → count_by f (links_from paths i members) ≡ 0
    none_counted [] i h = refl
    none_counted (x ∷ members) i h =
        sum_by-append (λ y. cond (f y) 1 0) (link_of paths i x x.ty) (links_from paths (i + 1) members)
        ∙ ap (λ n. n + count_by f (links_from paths (i + 1) members)) (first_none x i (λ j t ty is. ap (λ k. f (linked k j)) (sym (own i)) ∙ h 0 j x t (record { there = refl; type = ty; named = is })))
        ∙ ap (λ n. 0 + n) (none_counted members (i + 1) (λ r j y t s. ap (λ k. f (linked k j)) (further i r) ∙ h (suc r) j y t (behind x members r j y t s)))
        ∙ own 0

    -- one link alone passes a test
    pub one_counted : (members : List Member) (i r j : ℕ) (x : Member) (t : IntType) → Stands members r j x t → f (linked (i + r) j) ≡ true →
        ((s k : ℕ) (y : Member) (u : IntType) → Stands members s k y u → f (linked (i + s) k) ≡ true → s ≡ r) → count_by f (links_from paths i members) ≡ 1
    one_counted [] i r j x t s is only = absurd (let e : None ≡ Some x = s.there in cc)
    one_counted (y ∷ members) i zero j x t s is only =
        sum_by-append (λ z. cond (f z) 1 0) (link_of paths i y y.ty) (links_from paths (i + 1) members)
        ∙ ap (λ n. n + count_by f (links_from paths (i + 1) members)) here
        ∙ ap (λ n. 1 + n) (none_counted members (i + 1) (λ q k z u w. others q k z u w (f (linked (i + 1 + q) k)) refl))
        ∙ own 1
      where
        same : y ≡ x
        same = let e : Some y ≡ Some x = s.there in cc

        here : count_by f (link_of paths i y y.ty) ≡ 1
        here =
            ap (λ z. count_by f (link_of paths i z z.ty)) same
            ∙ ap (λ o. count_by f (link_of paths i x o)) s.type
            ∙ ap (λ o. count_by f (thing_link i o)) s.named
            ∙ one (linked i j) true (ap (λ k. f (linked k j)) (sym (own i)) ∙ is)

        others : (q k : ℕ) (z : Member) (u : IntType) → Stands members q k z u → (b : Bool) → f (linked (i + 1 + q) k) ≡ b → f (linked (i + 1 + q) k) ≡ false
        others q k z u w true e = absurd (let g : suc q ≡ 0 = only (suc q) k z u (behind y members q k z u w) (ap (λ n. f (linked n k)) (sym (further i q)) ∙ e) in omega (arith, g))
        others q k z u w false e = e
    one_counted (y ∷ members) i (suc r) j x t s is only =
        sum_by-append (λ z. cond (f z) 1 0) (link_of paths i y y.ty) (links_from paths (i + 1) members)
        ∙ ap (λ n. n + count_by f (links_from paths (i + 1) members)) (first_none y i (λ k u ty named. before k u ty named (f (linked i k)) refl))
        ∙ ap (λ n. 0 + n)
        (one_counted members (i + 1) r j x t (record { there = s.there; type = s.type; named = s.named }) (ap (λ n. f (linked n j)) (further i r) ∙ is)
        (λ q k z u w e. let g : suc q ≡ suc r = only (suc q) k z u (behind y members q k z u w) (ap (λ n. f (linked n k)) (sym (further i q)) ∙ e) in omega (arith, g)))
      where
        before : (k : ℕ) (u : IntType) → y.ty ≡ Some u → paths y.path ≡ Some (Signal k) → (b : Bool) → f (linked i k) ≡ b → f (linked i k) ≡ false
        before k u ty named true e = absurd (let g : 0 ≡ suc r = only 0 k y u (record { there = refl; type = ty; named = named }) (ap (λ n. f (linked n k)) (own i) ∙ e) in omega (arith, g))
        before k u ty named false e = e
