-- Offences, one after another.
use Rattle.std.proofs.Common.{◌≡◌, List, ◌++◌, sym, ap, ◌∙◌}
use Rattle.std.specs.Prelude.{Option}
use Rattle.src_text.specs.declared.refusal.Place.{Place}
use Rattle.c_tree.specs.declared.expressions.Expression.{Expression}
use Rattle.offence_order.specs.declared.Offence.{Offence}
use Rattle.offence_order.specs.Order.{first_of}
use Rattle.offence_order.proofs.Firsts.{first_of-append}
use Rattle.c_words.specs.declared.notes.Notes.{Notes}
use Rattle.c_words.specs.declared.notes.Site.{Site}
use Rattle.c_names.specs.Scope.{Scope}
use Rattle.c_expressions.specs.Expressions.{offences_in}
use Rattle.c_constants.specs.declared.Constant.{Constant}
use Rattle.c_constants.specs.Constants.{constant_of, never_offences, constant_offences, told, IsConstant}

pub told_twice : (n : Notes) (a b : List Offence) → told (told n a) b ≡ told n (a ++ b)
told_twice n a b = made (sym (first_of-append n.first a b))
  where
    made : {f g : Option Offence} → f ≡ g → (let m : Notes = record { first = f; sites = n.sites } in m) ≡ record { first = g; sites = n.sites }
    made h = ap (λ f. record { first = f; sites = n.sites }) h

pub told_then : (a b c : Notes) (os ps : List Offence) → b ≡ told a os → c ≡ told b ps → c ≡ told a (os ++ ps)
told_then a b c os ps h g = g ∙ ap (λ n. told n ps) h ∙ told_twice a os ps

pub constant_told : (env : List Scope) (old new : Notes) (p : Place) (e : Expression) (c : Constant) (first : Option Offence) → first ≡ first_of old.first (offences_in env e) → c ≡ constant_of e →
    new ≡ told (record { first = first; sites = old.sites }) (never_offences p c) → IsConstant env old new p e c
constant_told env old new p e c first h is n = record {
  value = is;
  notes =
      n
      ∙ ap (λ f. told (record { first = f; sites = old.sites }) (never_offences p c)) h
      ∙ ap (λ z. told (told old (offences_in env e)) (never_offences p z)) is
      ∙ told_twice old (offences_in env e) (never_offences p (constant_of e));
}
