-- Arguments, one after another.
use Rattle.std.proofs.Common.{◌≡◌, ℕ, ◌+◌, ◌<◌, List, [], ◌∷◌, ◌++◌, length, drop, get_or, sym, ap, ◌∙◌, append_assoc}
use Rattle.std.specs.Prelude.{slice_get}
use Rattle.std.proofs.lemmas.List.{drop_more}
use Rattle.c_tree.specs.declared.expressions.Expression.{Expression}
use Rattle.joint_ir.specs.declared.ctype.IntType.{IntType}
use Rattle.joint_ir.specs.declared.expr.TExpr.{TExpr}
use Rattle.c_words.specs.declared.notes.Notes.{Notes}
use Rattle.c_words.specs.Notes.{noted}
use Rattle.c_names.specs.Scope.{Scope}
use Rattle.c_expressions.specs.Expressions.{offences_in, sites_in, converted_to}
use Rattle.c_expressions.specs.Steps.{IsTyped}
use Rattle.c_expressions.proofs.Noting.{noted_twice, sites_after}
use Rattle.c_statements.specs.Calls.{as_param, args_typed, args_offences, args_sites}
use Rattle.c_statements.specs.Arrays.{elements_typed}
use Rattle.c_statements.specs.Halves.{ArgsSoFar, ElementsSoFar}

pub args_next : (env : List Scope) (old now new : Notes) (params : List IntType) (args : List Expression) (i : ℕ) (done : List TExpr) (e : Expression) (x t : TExpr) →
    i < length args → e ≡ get_or args i e → ArgsSoFar env old now params args i done → IsTyped env now new e x → t ≡ as_param (slice_get params i) x →
    ArgsSoFar env old new params args (i + 1) (done ++ t ∷ [])
args_next env old now new params args i done e x t lt is h k is_t =
    let rest : List Expression = drop (i + 1) args in
    let split : drop i args ≡ e ∷ rest = drop_more args i e lt ∙ ap (λ q. q ∷ rest) (sym is) in
    let end : length new.sites ≡ length now.sites + length (sites_in env e) = sites_after now new (offences_in env e) (sites_in env e) k.notes in
    record {
      typed_so =
          h.typed_so ∙ ap (λ l. done ++ args_typed env (length now.sites) params i l) split
          ∙ ap (λ z. done ++ z ∷ args_typed env (length now.sites + length (sites_in env e)) params (i + 1) rest) (ap (as_param (slice_get params i)) (sym k.typed) ∙ sym is_t)
          ∙ ap (λ n. done ++ t ∷ args_typed env n params (i + 1) rest) (sym end)
          ∙ sym (append_assoc done (t ∷ []) (args_typed env (length new.sites) params (i + 1) rest));
      notes_so =
          h.notes_so ∙ ap (λ l. noted now (args_offences env l) (args_sites env l)) split
          ∙ sym (noted_twice now (offences_in env e) (args_offences env rest) (sites_in env e) (args_sites env rest))
          ∙ ap (λ n. noted n (args_offences env rest) (args_sites env rest)) (sym k.notes);
    }

pub elements_next : (env : List Scope) (old now new : Notes) (t : IntType) (es : List Expression) (i : ℕ) (done : List TExpr) (e : Expression) (x y : TExpr) →
    i < length es → e ≡ get_or es i e → ElementsSoFar env old now t es i done → IsTyped env now new e x → y ≡ converted_to t x →
    ElementsSoFar env old new t es (i + 1) (done ++ y ∷ [])
elements_next env old now new t es i done e x y lt is h k is_y =
    let rest : List Expression = drop (i + 1) es in
    let split : drop i es ≡ e ∷ rest = drop_more es i e lt ∙ ap (λ q. q ∷ rest) (sym is) in
    let end : length new.sites ≡ length now.sites + length (sites_in env e) = sites_after now new (offences_in env e) (sites_in env e) k.notes in
    record {
      typed_so =
          h.typed_so ∙ ap (λ l. done ++ elements_typed env (length now.sites) t l) split
          ∙ ap (λ z. done ++ z ∷ elements_typed env (length now.sites + length (sites_in env e)) t rest) (ap (converted_to t) (sym k.typed) ∙ sym is_y)
          ∙ ap (λ n. done ++ y ∷ elements_typed env n t rest) (sym end)
          ∙ sym (append_assoc done (y ∷ []) (elements_typed env (length new.sites) t rest));
      notes_so =
          h.notes_so ∙ ap (λ l. noted now (args_offences env l) (args_sites env l)) split
          ∙ sym (noted_twice now (offences_in env e) (args_offences env rest) (sites_in env e) (args_sites env rest))
          ∙ ap (λ n. noted n (args_offences env rest) (args_sites env rest)) (sym k.notes);
    }
