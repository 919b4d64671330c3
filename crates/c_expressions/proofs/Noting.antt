-- Notes, one after another.
use Rattle.std.proofs.Common.{◌≡◌, ◌+◌, List, [], ◌∷◌, ◌++◌, length, Option, refl, sym, ap, ◌∙◌, append_assoc, append-nil, length-append}
use Rattle.offence_order.specs.declared.Offence.{Offence}
use Rattle.c_words.specs.declared.notes.Site.{Site}
use Rattle.c_words.specs.declared.notes.Notes.{Notes}
use Rattle.offence_order.proofs.Firsts.{first_of-append}
use Rattle.c_words.specs.Notes.{noted}

made : (f g : Option Offence) (s r : List Site) → f ≡ g → s ≡ r → (let n : Notes = record { first = f; sites = s } in n) ≡ record { first = g; sites = r }
made f g s r x y = cc

pub noted_twice : (n : Notes) (o o' : List Offence) (s s' : List Site) → noted (noted n o s) o' s' ≡ noted n (o ++ o') (s ++ s')
noted_twice n o o' s s' = made _ _ _ _ (sym (first_of-append n.first o o')) (append_assoc n.sites s s')

pub noted_then : (a b c : Notes) (o o' : List Offence) (s s' : List Site) → b ≡ noted a o s → c ≡ noted b o' s' → c ≡ noted a (o ++ o') (s ++ s')
noted_then a b c o o' s s' h g = g ∙ ap (λ n. noted n o' s') h ∙ noted_twice a o o' s s'

-- properties alone
pub noted_sites : (a b c : Notes) (o : List Offence) (s s' : List Site) → b ≡ noted a o s → c ≡ noted b [] s' → c ≡ noted a o (s ++ s')
noted_sites a b c o s s' h g = noted_then a b c o [] s s' h g ∙ ap (λ x. noted a x (s ++ s')) (append-nil o)

pub sites_after : (a b : Notes) (o : List Offence) (s : List Site) → b ≡ noted a o s → length b.sites ≡ length a.sites + length s
sites_after a b o s h = ap (λ (n : Notes). length n.sites) h ∙ length-append a.sites s
