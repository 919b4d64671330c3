-- Members, one after another.
use Rattle.std.proofs.Common.{◌≡◌, ℕ, ◌+◌, ◌<◌, List, [], ◌∷◌, ◌++◌, length, map, drop, get_or, true, false, refl, sym, ap, subst, ◌∙◌, append_assoc}
use Rattle.std.specs.Prelude.{Option, Some, None, bytes_eq, cond, All}
use Rattle.std.specs.Option.{option_or}
use Rattle.std.proofs.lemmas.List.{drop_more}
use Rattle.src_text.specs.declared.kind.Kind.{Kind}
use Rattle.src_text.specs.declared.kind.Kind.TheVariants.{BNotTop}
use Rattle.joint_ir.specs.declared.module.FlatModule.{FlatModule}
use Rattle.joint_ir.specs.declared.pair.Link.{Link}
use Rattle.joint_ir.specs.declared.program.CProgram.{CProgram}
use Rattle.joint_ir.specs.declared.program.Member.{Member}
use Rattle.joint_ir.specs.declared.program.MirrorDecl.{MirrorDecl}
use Rattle.offence_order.specs.declared.Offence.{Offence}
use Rattle.offence_order.specs.Order.{first_of, leading, at}
use Rattle.offence_order.proofs.Heads.{leading-append, leading_one, leading_head, leading_none}
use Rattle.bind_struct.specs.declared.ends.BindEnd.{BindEnd}
use Rattle.bind_struct.specs.declared.ends.BindEnd.TheVariants.{Refused, Memory}
use Rattle.bind_struct.specs.Ends.{IsEnd, IsEndOf, IsMemory}
use Rattle.bind_struct.specs.Paths.{Naming, paths_of}
use Rattle.bind_struct.specs.Binding.{member_fault, member_offences, at_fault, link_of, links_from, functions_stored, target_stored, first_below, mirror_groups, groups_of, binding_groups}

abbrev fault_groups : FlatModule → Naming → List Member → List (List Offence)
fault_groups m paths members = map (member_offences m paths) members

-- a member with nothing wrong
pub links_next : (m : FlatModule) (paths : Naming) (members : List Member) (i : ℕ) (x : Member) (done new : List Link) → i < length members → x ≡ get_or members i x →
    (links_from paths 0 members ≡ done ++ links_from paths i (drop i members)) × (leading (fault_groups m paths members) ≡ leading (fault_groups m paths (drop i members))) →
    None ≡ member_fault m paths x → new ≡ done ++ link_of paths i x x.ty →
    (links_from paths 0 members ≡ new ++ links_from paths (i + 1) (drop (i + 1) members)) × (leading (fault_groups m paths members) ≡ leading (fault_groups m paths (drop (i + 1) members)))
links_next m paths members i x done new lt is h fine is_new =
    let rest : List Member = drop (i + 1) members in
    let split : drop i members ≡ x ∷ rest = drop_more members i x lt ∙ ap (λ q. q ∷ rest) (sym is) in (
      h.0 ∙ ap (λ l. done ++ links_from paths i l) split ∙ sym (append_assoc done (link_of paths i x x.ty) (links_from paths (i + 1) rest)) ∙ ap (λ l. l ++ links_from paths (i + 1) rest) (sym is_new),
      h.1 ∙ ap (λ l. leading (fault_groups m paths l)) split ∙ ap (λ k. option_or (first_of None (at_fault x.place k)) (leading (fault_groups m paths rest))) (sym fine),
    )

-- a member with something wrong is where it ends
pub links_stop : (m : FlatModule) (paths : Naming) (members : List Member) (i : ℕ) (x : Member) (k : Kind) (e : BindEnd) → i < length members → x ≡ get_or members i x →
    leading (fault_groups m paths members) ≡ leading (fault_groups m paths (drop i members)) → Some k ≡ member_fault m paths x →
    IsEndOf (Some (record { place = x.place; kind = k })) e → IsEndOf (leading (fault_groups m paths members)) e
links_stop m paths members i x k e lt is h wrong g =
    let rest : List Member = drop (i + 1) members in
    let split : drop i members ≡ x ∷ rest = drop_more members i x lt ∙ ap (λ q. q ∷ rest) (sym is) in
    subst (λ o. IsEndOf o e)
    (sym (h ∙ ap (λ l. leading (fault_groups m paths l)) split ∙ ap (λ q. option_or (first_of None (at_fault x.place q)) (leading (fault_groups m paths rest))) (sym wrong)))
    g

pub memory_ends : (o : Option Offence) (e : BindEnd) → IsMemory e → IsEndOf o e
memory_ends o Memory h = tt
memory_ends o (Refused r) h = absurd h

-- an end by earlier groups
pub ends_early : (a b : Option Offence) (e : BindEnd) → IsEndOf a e → IsEndOf (option_or a b) e
ends_early None b Memory h = tt
ends_early None b (Refused r) h = absurd h
ends_early (Some o) b e h = h

-- the end that is told of groups
pub ends_head : (groups : List (List Offence)) (e : BindEnd) → IsEndOf (leading groups) e → IsEnd groups e
ends_head groups Memory h = tt
ends_head groups (Refused r) h = pick (leading groups) refl h
  where
    pick : (o : Option Offence) → leading groups ≡ o → IsEndOf o (Refused r) → IsEnd groups (Refused r)
    pick None is g = absurd g
    pick (Some o) is g = (o, leading_head groups o is, g)

module _ (p : CProgram) (m : FlatModule) (d : MirrorDecl) where
  abbrev stores : Naming → List Offence
  stores paths = functions_stored (target_stored m paths d.members) p.functions

  -- the mirror has another name
  pub wrong_name : (e : BindEnd) → bytes_eq d.name m.top ≡ false → IsEndOf (Some (record { place = d.place; kind = BNotTop })) e → IsEndOf (leading (mirror_groups p m d)) e
  wrong_name e h g =
      subst (λ o. IsEndOf o e)
      (sym (ap (λ b. option_or (first_of None (cond b [] (at d.place BNotTop))) (leading (fault_groups m (paths_of m) d.members ++ stores (paths_of m) ∷ []))) h))
      g

  -- the mirror has the top's name
  pub groups_below : (paths : Naming) (members : List Member) → bytes_eq d.name m.top ≡ true → paths ≡ paths_of m → members ≡ d.members → leading (mirror_groups p m d) ≡ first_below p m paths members
  groups_below paths members h is is_members =
      ap (λ b. option_or (first_of None (cond b [] (at d.place BNotTop))) (leading (fault_groups m (paths_of m) d.members ++ stores (paths_of m) ∷ []))) h
      ∙ leading-append (fault_groups m (paths_of m) d.members) (stores (paths_of m) ∷ [])
      ∙ ap (option_or (leading (fault_groups m (paths_of m) d.members))) (leading_one (stores (paths_of m)))
      ∙ ap (λ q. first_below p m q d.members) (sym is)
      ∙ ap (first_below p m paths) (sym is_members)

  pub below_ends : (paths : Naming) (members : List Member) (e : BindEnd) → bytes_eq d.name m.top ≡ true → paths ≡ paths_of m → members ≡ d.members → IsEndOf (first_below p m paths members) e → IsEndOf (leading (mirror_groups p m d)) e
  below_ends paths members e h is is_members g = subst (λ o. IsEndOf o e) (sym (groups_below paths members h is is_members)) g

-- members without faults, and then what is said of the stores
pub below_left : (p : CProgram) (m : FlatModule) (paths : Naming) (members : List Member) (found : Option Offence) → leading (fault_groups m paths members) ≡ None →
    found ≡ first_of None (functions_stored (target_stored m paths members) p.functions) → first_below p m paths members ≡ found
below_left p m paths members found none is = ap (λ o. option_or o (first_of None (functions_stored (target_stored m paths members) p.functions))) none ∙ sym is

pub below_stops : (p : CProgram) (m : FlatModule) (paths : Naming) (members : List Member) (found : Option Offence) (o : Offence) (e : BindEnd) → leading (fault_groups m paths members) ≡ None →
    found ≡ first_of None (functions_stored (target_stored m paths members) p.functions) → found ≡ Some o → IsEndOf (Some o) e → IsEndOf (first_below p m paths members) e
below_stops p m paths members found o e none is some g = subst (λ q. IsEndOf q e) (sym (below_left p m paths members found none is ∙ some)) g

-- of what is told of a mirror
pub mirror_ends : (p : CProgram) (m : FlatModule) (d : MirrorDecl) (e : BindEnd) → p.mirror ≡ Some d → IsEndOf (leading (mirror_groups p m d)) e → IsEnd (binding_groups p m) e
mirror_ends p m d e is h = subst (λ g. IsEnd g e) (ap (groups_of p m) (sym is)) (ends_head (mirror_groups p m d) e h)

pub mirror_clean : (p : CProgram) (m : FlatModule) (d : MirrorDecl) → p.mirror ≡ Some d → leading (mirror_groups p m d) ≡ None → All (λ g. g ≡ []) (binding_groups p m)
mirror_clean p m d is h = subst (All (λ g. g ≡ [])) (ap (groups_of p m) (sym is)) (leading_none (mirror_groups p m d) h)
