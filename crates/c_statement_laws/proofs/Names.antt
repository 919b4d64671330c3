-- A name that is declared, and what the others mean then.
use Rattle.std.proofs.Common.{◌≡◌, ℕ, suc, ◌<◌, List, [], ◌∷◌, length, Bool, true, false, refl, sym, ap, subst, ◌∙◌, arith, inl, inr}
use Rattle.std.specs.Prelude.{◌⊎◌, Option, Some, None, bytes_eq, cond, slice_get}
use Rattle.joint_ir.specs.declared.expr.Slot.{Slot}
use Rattle.joint_ir.specs.declared.expr.Slot.TheVariants.{Global, Local, Member, BoundValue}
use Rattle.joint_ir.specs.WellFormed as well
use Rattle.joint_ir.specs.WellFormed.{IsVisible, with_scope_locals}
use Rattle.c_words.specs.declared.notes.Site.{Site}
use Rattle.c_names.specs.declared.scope.Entry.{Entry}
use Rattle.c_names.specs.declared.scope.Entry.TheVariants as entry
use Rattle.c_names.specs.declared.scope.Target.{Target}
use Rattle.c_names.specs.Scope.{Scope, declare, find_in, lookup, or_else, put}
use Rattle.c_statements.specs.declared.calls.Signature.{Signature}
use Rattle.c_meaning.specs.Sound.{IsThere}
use Rattle.c_statement_laws.specs.Agreeing.{IsSetting}
use Rattle.joint_ir.specs.WellFormed.{is_bound}

-- a name means what was declared last, or what it meant before
find_put : (name x : List ℕ) (v w : Entry) (s : Scope) → find_in (put x v s) name ≡ Some w → (w ≡ v) ⊎ (find_in s name ≡ Some w)
find_put name x v w [] h = pick (bytes_eq name x) h
  where
    pick : (q : Bool) → cond q (Some v) None ≡ Some w → (w ≡ v) ⊎ (find_in [] name ≡ Some w)
    pick true e = inl (cc)
    pick false e = absurd (cc)
find_put name x v w (e ∷ s) h = pick (bytes_eq x e.0) (bytes_eq name e.0) refl (find_put name x v w s) h
  where
    pick : (p q : Bool) → bytes_eq name e.0 ≡ q → (find_in (put x v s) name ≡ Some w → (w ≡ v) ⊎ (find_in s name ≡ Some w)) → find_in (cond p ((e.0, v) ∷ s) (e ∷ put x v s)) name ≡ Some w → (w ≡ v) ⊎ (cond q (Some e.1) (find_in s name) ≡ Some w)
    pick true true n r g = let g' : cond true (Some v) (find_in s name) ≡ Some w = subst (λ q. cond q (Some v) (find_in s name) ≡ Some w) n g in inl (cc)
    pick true false n r g = let g' : cond false (Some v) (find_in s name) ≡ Some w = subst (λ q. cond q (Some v) (find_in s name) ≡ Some w) n g in inr g'
    pick false true n r g = let g' : cond true (Some e.1) (find_in (put x v s) name) ≡ Some w = subst (λ q. cond q (Some e.1) (find_in (put x v s) name) ≡ Some w) n g in inr g'
    pick false false n r g = r (subst (λ q. cond q (Some e.1) (find_in (put x v s) name) ≡ Some w) n g)

-- no name is forgotten
find_kept : (name x : List ℕ) (v : Entry) (s : Scope) → find_in (put x v s) name ≡ None → find_in s name ≡ None
find_kept name x v [] h = refl
find_kept name x v (e ∷ s) h = pick (bytes_eq x e.0) (bytes_eq name e.0) refl (find_kept name x v s) h
  where
    pick : (p q : Bool) → bytes_eq name e.0 ≡ q → (find_in (put x v s) name ≡ None → find_in s name ≡ None) → find_in (cond p ((e.0, v) ∷ s) (e ∷ put x v s)) name ≡ None → cond q (Some e.1) (find_in s name) ≡ None
    pick true true n r g = let g' : cond true (Some v) (find_in s name) ≡ None = subst (λ q. cond q (Some v) (find_in s name) ≡ None) n g in absurd (cc)
    pick true false n r g = subst (λ q. cond q (Some v) (find_in s name) ≡ None) n g
    pick false true n r g = subst (λ q. cond q (Some e.1) (find_in (put x v s) name) ≡ None) n g
    pick false false n r g = r (subst (λ q. cond q (Some e.1) (find_in (put x v s) name) ≡ None) n g)

lookup_declare : (env : List Scope) (name x : List ℕ) (v w : Entry) → lookup (declare env x v) name ≡ Some w → (w ≡ v) ⊎ (lookup env name ≡ Some w)
lookup_declare [] name x v w h = inr h
lookup_declare (scope ∷ outer) name x v w h = pick (find_in (put x v scope) name) refl h
  where
    pick : (o : Option Entry) → find_in (put x v scope) name ≡ o → or_else o (lookup outer name) ≡ Some w → (w ≡ v) ⊎ (or_else (find_in scope name) (lookup outer name) ≡ Some w)
    pick None e g = inr (ap (λ o. or_else o (lookup outer name)) (find_kept name x v scope e) ∙ g)
    pick (Some u) e g = again (find_put name x v w scope (e ∙ g))
      where
        again : (w ≡ v) ⊎ (find_in scope name ≡ Some w) → (w ≡ v) ⊎ (or_else (find_in scope name) (lookup outer name) ≡ Some w)
        again (inl is) = inl is
        again (inr is) = inr (ap (λ o. or_else o (lookup outer name)) is)

-- what a declared name means fits as what the others mean does
pub record EntryFits (c : well.Scope) (fns : List Signature) (v : Entry) : Type 0 where
  pub object : (o : Target) → v ≡ entry.Object o → IsThere c o × (is_bound o.slot ≡ true → o.constant ≡ true)
  pub signed : (f : ℕ) → v ≡ entry.Function f → (s : Signature) × (slice_get fns f ≡ Some s)

pub setting_with : (c : well.Scope) (all : List Site) (fns : List Signature) (env : List Scope) (x : List ℕ) (v : Entry) → IsSetting c all fns env → EntryFits c fns v → IsSetting c all fns (declare env x v)
setting_with c all fns env x v k fit = record {
  props = k.props;
  names = λ name o h. there name o (lookup_declare env name x v (entry.Object o) h);
  bound = λ name o h. stays name o (lookup_declare env name x v (entry.Object o) h);
  agree = k.agree;
  signed = λ name f h. known name f (lookup_declare env name x v (entry.Function f) h);
}
  where
    there : (name : List ℕ) (o : Target) → (entry.Object o ≡ v) ⊎ (lookup env name ≡ Some (entry.Object o)) → IsThere c o
    there name o (inl e) = (fit.object o (sym e)).0
    there name o (inr e) = k.names name o e

    stays : (name : List ℕ) (o : Target) → (entry.Object o ≡ v) ⊎ (lookup env name ≡ Some (entry.Object o)) → is_bound o.slot ≡ true → o.constant ≡ true
    stays name o (inl e) = (fit.object o (sym e)).1
    stays name o (inr e) = k.bound name o e

    known : (name : List ℕ) (f : ℕ) → (entry.Function f ≡ v) ⊎ (lookup env name ≡ Some (entry.Function f)) → (s : Signature) × (slice_get fns f ≡ Some s)
    known name f (inl e) = fit.signed f (sym e)
    known name f (inr e) = k.signed name f e

-- one local more is visible, and all that were
visible_more : (c : well.Scope) (i : ℕ) (slot : Slot) → IsVisible c slot → IsVisible (with_scope_locals c (i ∷ c.locals)) slot
visible_more c i (Global g) h = h
visible_more c i (Local l) h = (h.0, (suc h.1.0, (let e : h.1.0 < length c.locals = h.1.1 in omega (arith, e)), h.1.2))
visible_more c i (Member m) h = h
visible_more c i BoundValue h = h

there_more : (c : well.Scope) (i : ℕ) (o : Target) → IsThere c o → IsThere (with_scope_locals c (i ∷ c.locals)) o
there_more c i o h = record { visible = visible_more c i o.slot h.visible; ty = h.ty; length = h.length; type = h.type }

pub setting_more : (c : well.Scope) (i : ℕ) (all : List Site) (fns : List Signature) (env : List Scope) → IsSetting c all fns env → IsSetting (with_scope_locals c (i ∷ c.locals)) all fns env
setting_more c i all fns env k = record {
  props = k.props;
  names = λ name o h. there_more c i o (k.names name o h);
  bound = k.bound;
  agree = k.agree;
  signed = k.signed;
}

-- in its own initializer a name means nothing
pub pending_fits : (c : well.Scope) (fns : List Signature) → EntryFits c fns entry.Pending
pending_fits c fns = record { object = λ o e. absurd (cc); signed = λ f e. absurd (cc) }

-- an object of its own slot, which isn't `bound`
pub object_fits : (c : well.Scope) (fns : List Signature) (o : Target) → IsThere c o → (is_bound o.slot ≡ true → o.constant ≡ true) → EntryFits c fns (entry.Object o)
object_fits c fns o h stays = record {
  object = λ p e. subst (λ q. IsThere c q × (is_bound q.slot ≡ true → q.constant ≡ true)) (same p e) (h, stays);
  signed = λ f e. absurd (cc);
}
  where
    same : (p : Target) → entry.Object o ≡ entry.Object p → o ≡ p
    same p e = cc
