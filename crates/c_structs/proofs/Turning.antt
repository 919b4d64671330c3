-- One more of a list of which each thing changes what is known.
use Rattle.std.proofs.Common.{◌≡◌, ℕ, ◌+◌, ◌<◌, List, ◌∷◌, ◌++◌, length, drop, get_or, sym, ap, ◌∙◌}
use Rattle.std.proofs.lemmas.List.{drop_more}
use Rattle.offence_order.specs.declared.Offence.{Offence}
use Rattle.c_words.specs.declared.notes.Notes.{Notes}
use Rattle.c_constants.specs.Constants.{told}
use Rattle.c_constants.proofs.Telling.{told_twice}
use Rattle.c_structs.specs.Turns.{SoFar}

pub one_more : {X R : Type 0} (next : R → X → R) (all : R → List X → R) (one : R → X → List Offence) (offences : R → List X → List Offence) →
    ((r : R) (x : X) (xs : List X) → all r (x ∷ xs) ≡ all (next r x) xs) → ((r : R) (x : X) (xs : List X) → offences r (x ∷ xs) ≡ one r x ++ offences (next r x) xs) →
    (xs : List X) (i : ℕ) (x : X) (old now new : Notes) (before after later : R) → i < length xs → x ≡ get_or xs i x → SoFar all offences old now before after xs i →
    later ≡ next after x → new ≡ told now (one after x) → SoFar all offences old new before later xs (i + 1)
one_more {X} next all one offences all_cons offences_cons xs i x old now new before after later lt is h is_later is_new =
    let rest : List X = drop (i + 1) xs in
    let split : drop i xs ≡ x ∷ rest = drop_more xs i x lt ∙ ap (λ q. q ∷ rest) (sym is) in
    record {
      known_so = h.known_so ∙ ap (all after) split ∙ all_cons after x rest ∙ ap (λ r. all r rest) (sym is_later);
      notes_so =
          h.notes_so ∙ ap (λ l. told now (offences after l)) split
          ∙ ap (told now) (offences_cons after x rest)
          ∙ sym (told_twice now (one after x) (offences (next after x) rest))
          ∙ ap (λ n. told n (offences (next after x) rest)) (sym is_new)
          ∙ ap (λ r. told new (offences r rest)) (sym is_later);
    }
