-- A pair without offence is well-formed.
use Rattle.std.proofs.Common.{◌≡◌, ℕ, zero, suc, ◌+◌, ◌<◌, ◌^◌, List, [], ◌∷◌, ◌++◌, length, map, true, refl, sym, ap, subst, ◌∙◌, arith}
use Rattle.std.specs.Prelude.{All, Option, Some, None, IsSome, count_by, eqb, slice_get}
use Rattle.std.proofs.Math.Nat.{mod-eq_of_lt}
use Rattle.std.proofs.lemmas.Bool.{eqb-true}
use Rattle.std.proofs.lemmas.Bool.Decides.{Decides-eqb}
use Rattle.std.proofs.lemmas.List.Elements.{All-head, All-tail}
use Rattle.std.proofs.lemmas.Option.{slice_get_within}
use Rattle.joint_ir.specs.declared.ctype.IntType.{IntType}
use Rattle.joint_ir.specs.declared.module.FlatModule.{FlatModule}
use Rattle.joint_ir.specs.declared.module.Signal.{Signal as ASignal}
use Rattle.joint_ir.specs.declared.pair.Binding.{Binding}
use Rattle.joint_ir.specs.declared.pair.Link.{Link}
use Rattle.joint_ir.specs.declared.program.CProgram.{CProgram}
use Rattle.joint_ir.specs.declared.program.Member.{Member}
use Rattle.joint_ir.specs.declared.program.MirrorDecl.{MirrorDecl}
use Rattle.joint_ir.specs.Views.{members_of}
use Rattle.joint_ir.specs.WellFormed.{FitsBinding, FitsLink, FitsModule, FitsProgram, IsWellFormed}
use Rattle.offence_order.specs.declared.Offence.{Offence}
use Rattle.bind_struct.specs.Binding.{binding_groups, binding_of, groups_of, links_from, links_of, member_offences, number_of}
use Rattle.bind_struct.specs.declared.paths.Thing.TheVariants.{Signal}
use Rattle.bind_struct.specs.Paths.{paths_of}
use Rattle.bound_pairs.specs.Bound.{ArePathsApart, pair_of}
use Rattle.bound_pairs.proofs.Naming.{path_names}
use Rattle.bound_pairs.proofs.Linking.{Stands, each_link, linked, mirrored, one_counted}

-- the links of a mirror are those of its members
links_are : (m : FlatModule) (mirror : Option MirrorDecl) → links_of m mirror ≡ links_from (paths_of m) 0 (members_of mirror)
links_are m None = refl
links_are m (Some d) = refl

-- the groups of the members among the first of some groups
first_clean : (m : FlatModule) (members : List Member) (rest : List (List Offence)) → All (λ group. group ≡ []) (map (member_offences m (paths_of m)) members ++ rest) →
    (r : ℕ) (x : Member) → slice_get members r ≡ Some x → member_offences m (paths_of m) x ≡ []
first_clean m [] rest h r x there = absurd (cc)
first_clean m (y ∷ members) rest h zero x there =
    let e : Some y ≡ Some x = there in
    let same : y ≡ x = cc in
    ap (member_offences m (paths_of m)) (sym same)
    ∙ All-head (λ group. group ≡ []) (member_offences m (paths_of m) y) (map (member_offences m (paths_of m)) members ++ rest) h
first_clean m (y ∷ members) rest h (suc r) x there =
    first_clean m members rest (All-tail (λ group. group ≡ []) (member_offences m (paths_of m) y) (map (member_offences m (paths_of m)) members ++ rest) h) r x there

-- each member is without offence
members_clean : (p : CProgram) (m : FlatModule) (mirror : Option MirrorDecl) → All (λ group. group ≡ []) (groups_of p m mirror) →
    (r : ℕ) (x : Member) → slice_get (members_of mirror) r ≡ Some x → member_offences m (paths_of m) x ≡ []
members_clean p m None h r x there = absurd (cc)
members_clean p m (Some d) h r x there = first_clean m d.members _ (All-tail (λ group. group ≡ []) _ _ h) r x there

module _ (p : CProgram) (m : FlatModule) (program : FitsProgram p) (flat : FitsModule m) (apart : ArePathsApart (members_of p.mirror))
    (clean : All (λ group. group ≡ []) (binding_groups p m)) where
  abbrev members : List Member
  members = members_of p.mirror

  is_itself : (k n : ℕ) → k < n → n < 2 ^ 32 → number_of k ≡ k
  is_itself k n h few = mod-eq_of_lt (let e : k < 4294967296 = omega (arith, h, few) in e)

  member_number : (r : ℕ) (x : Member) → slice_get members r ≡ Some x → number_of r ≡ r
  member_number r x there = is_itself r (length members) (slice_get_within members r x there) program.few_members

  front : (r : ℕ) (x : Member) → slice_get members r ≡ Some x → number_of (0 + r) ≡ r
  front r x there = ap number_of (let e : 0 + r ≡ r = omega arith in e) ∙ member_number r x there

  same_number : (n : ℕ) → eqb n n ≡ true
  same_number n = (Decides-eqb n n).1 refl

  signal_number : (j : ℕ) (s : ASignal) → slice_get m.signals j ≡ Some s → number_of j ≡ j
  signal_number j s there = is_itself j (length m.signals) (slice_get_within m.signals j s there) flat.few_signals

  -- each link is one of a member and its signal
  link_fits : (r j : ℕ) (x : Member) (t : IntType) → Stands (paths_of m) members r j x t → FitsLink (pair_of p m) (linked (0 + r) j)
  link_fits r j x t s =
      let w = mirrored m x t s.type (members_clean p m p.mirror clean r x s.there) in
      let same : w.at ≡ j = let e : Some (Signal w.at) ≡ Some (Signal j) = sym w.named ∙ s.named in cc in
      let there : slice_get m.signals j ≡ Some w.signal = ap (slice_get m.signals) (sym same) ∙ w.there in
      (x, w.signal, ap (slice_get members) (front r x s.there) ∙ s.there, ap (slice_get m.signals) (signal_number j w.signal there) ∙ there, subst IsSome (sym s.type) refl, w.fits)

  -- a link counts for a member exactly where it is that member's
  one_link : (r : ℕ) (x : Member) → slice_get members r ≡ Some x → IsSome x.ty → count_by (λ (link : Link). eqb link.member r) (links_from (paths_of m) 0 members) ≡ 1
  one_link r x there typed = pick x.ty refl typed
    where
      pick : (o : Option IntType) → x.ty ≡ o → IsSome o → count_by (λ (link : Link). eqb link.member r) (links_from (paths_of m) 0 members) ≡ 1
      pick None ty h = absurd (cc)
      pick (Some t) ty h =
          let w = mirrored m x t ty (members_clean p m p.mirror clean r x there) in
          one_counted (paths_of m) (λ (link : Link). eqb link.member r) members 0 r w.at x t (record { there = there; type = ty; named = w.named })
          (ap (λ n. eqb n r) (front r x there) ∙ same_number r)
          (λ q k y u s e. sym (front q y s.there) ∙ eqb-true (number_of (0 + q)) r e)

  -- no two links name one signal
  one_signal : (r j : ℕ) (x : Member) (t : IntType) → Stands (paths_of m) members r j x t →
      count_by (λ (link : Link). eqb link.signal (number_of j)) (links_from (paths_of m) 0 members) ≡ 1
  one_signal r j x t s =
      one_counted (paths_of m) (λ (link : Link). eqb link.signal (number_of j)) members 0 r j x t s (same_number (number_of j))
      (λ q k y u w e. apart q r y x w.there s.there (one_path k y w.named (eqb-true (number_of k) (number_of j) e)))
    where
      mine : (signal : ASignal) × (slice_get m.signals j ≡ Some signal) × (x.path ≡ signal.path)
      mine = path_names m x.path j s.named

      one_path : (k : ℕ) (y : Member) → paths_of m y.path ≡ Some (Signal k) → number_of k ≡ number_of j → y.path ≡ x.path
      one_path k y named e =
          let n = path_names m y.path k named in
          let same : k ≡ j = sym (signal_number k n.0 n.1) ∙ e ∙ signal_number j mine.0 mine.1 in
          let both : Some n.0 ≡ Some mine.0 = sym n.1 ∙ ap (slice_get m.signals) same ∙ mine.1 in
          let equal : n.0 ≡ mine.0 = cc in
          n.2 ∙ ap (λ (signal : ASignal). signal.path) equal ∙ sym mine.2

  binding_fits : FitsBinding (pair_of p m)
  binding_fits = record {
    links = subst (All (FitsLink (pair_of p m))) (sym (links_are m p.mirror)) (each_link (paths_of m) (FitsLink (pair_of p m)) members 0 link_fits);
    members = λ r x there typed. ap (count_by (λ (link : Link). eqb link.member r)) (links_are m p.mirror) ∙ one_link r x there typed;
    signals =
        subst (λ ls. All (λ link. count_by (λ (other : Link). eqb other.signal link.signal) ls ≡ 1) ls) (sym (links_are m p.mirror))
        (each_link (paths_of m) (λ link. count_by (λ (other : Link). eqb other.signal link.signal) (links_from (paths_of m) 0 members) ≡ 1) members 0 one_signal);
  }

  pub fits : IsWellFormed (pair_of p m)
  fits = record { program = program; module_ = flat; binding = binding_fits }

  -- the same of a binding that is known to be that one
  pub fits_as : (binding : Binding) → binding ≡ binding_of p m → IsWellFormed (record { program = p; «module» = m; binding = binding })
  fits_as binding is = subst (λ b. IsWellFormed (record { program = p; «module» = m; binding = b })) (sym is) fits
