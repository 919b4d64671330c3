-- Labels, one after another.
use Rattle.std.proofs.Common.{◌≡◌, ℕ, ◌+◌, ◌<◌, List, [], ◌∷◌, ◌++◌, length, drop, get_or, sym, ap, subst, ◌∙◌, append_assoc}
use Rattle.std.specs.Prelude.{Option, Some, None}
use Rattle.std.proofs.lemmas.List.{drop_more}
use Rattle.src_text.specs.declared.refusal.Place.{Place}
use Rattle.c_tree.specs.declared.expressions.Expression.{Expression}
use Rattle.c_tree.specs.declared.statements.Label.{Label}
use Rattle.c_tree.specs.declared.statements.Label.TheVariants as label
use Rattle.joint_ir.specs.declared.ctype.IntType.{IntType}
use Rattle.joint_ir.specs.declared.stmt.Label.{Label as TLabel}
use Rattle.c_words.specs.declared.notes.Notes.{Notes}
use Rattle.c_names.specs.Scope.{Scope}
use Rattle.c_constants.specs.declared.Constant.{Constant}
use Rattle.c_constants.specs.Constants.{constant_of, constant_offences, told, IsConstant}
use Rattle.c_constants.proofs.Telling.{told_twice, told_then}
use Rattle.c_statements.specs.Halves.{LabelsSoFar}
use Rattle.c_statements.specs.Steps.{IsLabel}
use Rattle.c_statements.specs.Switches.{listed, case_of, label_typed, label_offences, labels_typed, labels_offences, twice_offences}

pub case_label : (env : List Scope) (old mid new : Notes) (t : IntType) (l : Label) (p : Place) (e : Expression) (seen : List TLabel) (c : Constant) (found : Option TLabel) → l ≡ label.Case p e →
    IsConstant env old mid p e c → listed found ≡ case_of t c → new ≡ told mid (twice_offences p seen (listed found)) → IsLabel env old new t l seen found
case_label env old mid new t l p e seen c found is h is_found n = record {
  value = is_found ∙ ap (case_of t) h.value ∙ ap (label_typed t) (sym is);
  notes =
      told_then old mid new (constant_offences env p e) (twice_offences p seen (listed found)) h.notes n
      ∙ ap (λ z. told old (constant_offences env p e ++ twice_offences p seen z)) (is_found ∙ ap (case_of t) h.value)
      ∙ ap (λ z. told old (label_offences env t seen z)) (sym is);
}

-- a label whose value is known, and one whose value isn't
pub labels_next : (env : List Scope) (old now new : Notes) (t : IntType) (ls : List Label) (i : ℕ) (before seen done got seen' done' : List TLabel) (l : Label) (found : Option TLabel) →
    i < length ls → l ≡ get_or ls i l → LabelsSoFar env old now t ls i before seen done → got ≡ seen → IsLabel env now new t l got found → seen' ≡ seen ++ listed found → done' ≡ done ++ listed found →
    LabelsSoFar env old new t ls (i + 1) before seen' done'
labels_next env old now new t ls i before seen done got seen' done' l found lt is h is_got k' is_seen is_done =
    let k : IsLabel env now new t l seen found = subst (λ z. IsLabel env now new t l z found) is_got k' in
    let rest : List Label = drop (i + 1) ls in
    let split : drop i ls ≡ l ∷ rest = drop_more ls i l lt ∙ ap (λ q. q ∷ rest) (sym is) in
    record {
      typed_so =
          h.typed_so ∙ ap (λ x. done ++ labels_typed t x) split
          ∙ ap (λ x. done ++ (x ++ labels_typed t rest)) (sym k.value)
          ∙ sym (append_assoc done (listed found) (labels_typed t rest))
          ∙ ap (λ x. x ++ labels_typed t rest) (sym is_done);
      seen_so = is_seen ∙ ap (λ x. x ++ listed found) h.seen_so ∙ append_assoc before done (listed found) ∙ ap (λ x. before ++ x) (sym is_done);
      notes_so =
          h.notes_so ∙ ap (λ x. told now (labels_offences env t seen x)) split
          ∙ sym (told_twice now (label_offences env t seen l) (labels_offences env t (seen ++ label_typed t l) rest))
          ∙ ap (λ n. told n (labels_offences env t (seen ++ label_typed t l) rest)) (sym k.notes)
          ∙ ap (λ x. told new (labels_offences env t x rest)) (ap (λ x. seen ++ x) (sym k.value) ∙ sym is_seen);
    }
