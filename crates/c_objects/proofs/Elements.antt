-- Elements, one after another.
use Rattle.std.proofs.Common.{◌≡◌, ℕ, ◌+◌, ◌<◌, List, [], ◌∷◌, ◌++◌, length, map, drop, get_or, sym, ap, ◌∙◌, append_assoc}
use Rattle.std.specs.Prelude.{ℤ}
use Rattle.std.proofs.lemmas.List.{drop_more}
use Rattle.c_tree.specs.declared.expressions.Expression.{Expression}
use Rattle.c_tree.specs.Starts.{expression_start}
use Rattle.joint_ir.specs.declared.ctype.IntType.{IntType}
use Rattle.c_words.specs.declared.notes.Notes.{Notes}
use Rattle.c_names.specs.Scope.{Scope}
use Rattle.c_constants.specs.Constants.{constant_offences, told}
use Rattle.c_constants.proofs.Telling.{told_twice}
use Rattle.c_objects.specs.Objects.{element_value, elements_offences}
use Rattle.c_objects.specs.Steps.{IsValue, ValuesSoFar}

pub values_next : (env : List Scope) (old now new : Notes) (t : IntType) (es : List Expression) (i : ℕ) (done next : List ℤ) (e : Expression) (n : ℤ) → i < length es → e ≡ get_or es i e → ValuesSoFar env old now t es i done →
    IsValue env now new t e n → next ≡ done ++ n ∷ [] → ValuesSoFar env old new t es (i + 1) next
values_next env old now new t es i done next e n lt is h g is_next =
    let rest : List Expression = drop (i + 1) es in
    let split : drop i es ≡ e ∷ rest = drop_more es i e lt ∙ ap (λ q. q ∷ rest) (sym is) in
    let os = constant_offences env (expression_start e) e in
    record {
      values_so =
          h.values_so
          ∙ ap (λ l. done ++ map (element_value t) l) split
          ∙ ap (λ v. done ++ v ∷ map (element_value t) rest) (sym g.value)
          ∙ sym (append_assoc done (n ∷ []) (map (element_value t) rest))
          ∙ ap (λ l. l ++ map (element_value t) rest) (sym is_next);
      notes_so =
          h.notes_so
          ∙ ap (λ l. told now (elements_offences env l)) split
          ∙ sym (told_twice now os (elements_offences env rest))
          ∙ ap (λ m. told m (elements_offences env rest)) (sym g.notes);
    }
