-- Objects, part after part.
use Rattle.std.proofs.Common.{◌≡◌, ℕ, ◌+◌, ◌<◌, List, [], ◌∷◌, ◌++◌, length, map, drop, get_or, refl, sym, ap, subst, ◌∙◌, append-nil, append_assoc, length-append}
use Rattle.std.specs.Prelude.{Bool, ℤ}
use Rattle.std.proofs.lemmas.List.{drop_more}
use Rattle.c_tree.specs.declared.names.Identifier.{Identifier}
use Rattle.c_tree.specs.declared.declarations.Declarator.{Declarator}
use Rattle.c_tree.specs.declared.declarations.Declarator.TheVariants as declarator
use Rattle.c_tree.specs.declared.declarations.Initializer.{Initializer}
use Rattle.c_tree.specs.declared.declarations.Initializer.TheVariants as initializer
use Rattle.c_tree.specs.declared.expressions.Call.{Call}
use Rattle.src_text.specs.declared.kind.Kind.TheVariants.{CConstant}
use Rattle.c_tree.specs.declared.expressions.Expression.{Expression}
use Rattle.joint_ir.specs.declared.ctype.IntType.{IntType}
use Rattle.joint_ir.specs.declared.program.Var.{Var}
use Rattle.offence_order.specs.declared.Offence.{Offence}
use Rattle.offence_order.specs.Order.{at, first_of}
use Rattle.offence_order.proofs.Firsts.{first_of-append}
use Rattle.c_constants.specs.declared.Constant.{Constant}
use Rattle.c_constants.specs.Constants.{constant_of, told}
use Rattle.c_constants.proofs.Telling.{told_then}
use Rattle.c_statements.specs.Calls.{init_offences}
use Rattle.c_statements.specs.Steps.{IsLength}
use Rattle.c_words.specs.declared.notes.Notes.{Notes}
use Rattle.c_words.specs.declared.notes.Site.{Site}
use Rattle.c_statements.specs.declared.walk.Typer.{Typer}
use Rattle.c_statements.specs.Known.{Known}
use Rattle.c_statements.specs.Moves.{known_of, Goes}
use Rattle.c_statements.specs.Arrays.{array_length, array_offences, excess_offences}
use Rattle.c_statements.specs.Statements.{pending}
use Rattle.c_statements.proofs.Walking.{goes_then}
use Rattle.c_objects.specs.Objects.{begun, begun_offences, with_global, global_var, initial_value, initial_offences, element_value, elements_offences, object_offences, object_known, object_var, objects_offences, objects_known}
use Rattle.c_objects.specs.Steps.{AreValues, IsObject, ObjectsSoFar}

goes_next : (a b c : Typer) (o : List Offence) (k : Known) (f : Known → List Offence) (g : Known → Known) → Goes a b o k → Goes b c (f (known_of b)) (g (known_of b)) → Goes a c (o ++ f k) (g k)
goes_next a b c o k f g h i = goes_then a b c o (f k) k (g k) h (subst (λ q. Goes b c (f q) (g q)) h.known i)

goes_on : (a b c : Typer) (o : List Offence) (k : Known) (g : Known → Known) → Goes a b o k → Goes b c [] (g (known_of b)) → Goes a c o (g k)
goes_on a b c o k g h i = subst (λ z. Goes a c z (g k)) (append-nil o) (goes_next a b c o k (λ q. []) g h i)

pub objects_next : (old now new : Typer) (before here after : List Var) (t : IntType) (constant : Bool) (ds : List Declarator) (i : ℕ) (d : Declarator) → i < length ds → d ≡ get_or ds i d → ObjectsSoFar old now before here t constant ds i →
    IsObject now new here after t constant d → ObjectsSoFar old new before after t constant ds (i + 1)
objects_next old now new before here after t constant ds i d lt is h g =
    let rest : List Declarator = drop (i + 1) ds in
    let split : drop i ds ≡ d ∷ rest = drop_more ds i d lt ∙ ap (λ q. q ∷ rest) (sym is) in
    let v = object_var t constant d in
    let count : length here + 1 ≡ length after = sym (ap length g.vars ∙ length-append here (v ∷ [])) in
    let k = object_known (length here) t constant d (known_of now) in
    let step : k ≡ known_of new = sym g.goes.known in
    record {
      first_so =
          h.first_so
          ∙ ap (λ l. first_of now.notes.first (objects_offences (length here) t constant l (known_of now))) split
          ∙ first_of-append now.notes.first (object_offences d (known_of now)) (objects_offences (length here + 1) t constant rest k)
          ∙ ap (λ f. first_of f (objects_offences (length here + 1) t constant rest k)) (sym g.goes.first)
          ∙ ap (λ n. first_of new.notes.first (objects_offences n t constant rest k)) count
          ∙ ap (λ q. first_of new.notes.first (objects_offences (length after) t constant rest q)) step;
      known_so =
          h.known_so
          ∙ ap (λ l. objects_known (length here) t constant l (known_of now)) split
          ∙ ap (λ n. objects_known n t constant rest k) count
          ∙ ap (objects_known (length after) t constant rest) step;
      vars_so =
          h.vars_so
          ∙ ap (λ l. here ++ map (object_var t constant) l) split
          ∙ sym (append_assoc here (v ∷ []) (map (object_var t constant) rest))
          ∙ ap (λ l. l ++ map (object_var t constant) rest) (sym g.vars);
    }

goes_note : (a b c : Typer) (o o' : List Offence) (k : Known) → Goes a b o k → Goes b c o' (known_of b) → Goes a c (o ++ o') k
goes_note a b c o o' k h i = goes_next a b c o k (λ q. o') (λ q. q) h i

abbrev with_notes : Typer → Notes → Typer
with_notes t n = record { alloc = t.alloc; signatures = t.signatures; scopes = t.scopes; locals = t.locals; notes = n }

-- offences alone were noted
pub told_goes : (old : Typer) (new : Notes) (os : List Offence) → new ≡ told old.notes os → Goes old (with_notes old new) os (known_of old)
told_goes old new os h = record {
  first = ap (λ (m : Notes). m.first) h;
  known = ap (λ (m : Notes). with_sites m.sites) h;
}
  where
    with_sites : List Site → Known
    with_sites sites = record { fns = old.signatures; scopes = old.scopes; locals = old.locals; sites = sites }

pub called_goes : (old a new : Typer) (i : Initializer) (call : Call) → i ≡ initializer.Called call → Goes old a (init_offences old.signatures old.scopes i) (known_of old) →
    Goes a new (at call.name.place CConstant) (known_of a) → Goes old new (initial_offences old.signatures old.scopes i) (known_of old)
called_goes old a new i call is g h =
    let e : Goes old a (init_offences old.signatures old.scopes (initializer.Called call)) (known_of old) = subst (λ z. Goes old a (init_offences old.signatures old.scopes z) (known_of old)) is g in
    subst (λ z. Goes old new (initial_offences old.signatures old.scopes z) (known_of old)) (sym is)
    (goes_note old a new (init_offences old.signatures old.scopes (initializer.Called call)) (at call.name.place CConstant) (known_of old) e h)

var_is : (before after : List Var) (t : IntType) (constant : Bool) (n n' : ℕ) (fs fs' : List ℤ) (x : Identifier) → n ≡ n' → fs ≡ fs' → after ≡ before ++ global_var t constant n fs x ∷ [] → after ≡ before ++ global_var t constant n' fs' x ∷ []
var_is before after t constant n n' fs fs' x p q h = h ∙ ap (λ m. before ++ global_var t constant m fs x ∷ []) p ∙ ap (λ f. before ++ global_var t constant n' f x ∷ []) q

pub plain_goes : (old a new : Typer) (before after : List Var) (t : IntType) (constant : Bool) (x : Identifier) (fs : List ℤ) → Goes old a (begun_offences x (known_of old)) (begun x (known_of old)) →
    Goes a new [] (with_global (length before) t constant 0 x (known_of a)) → fs ≡ [] → after ≡ before ++ global_var t constant 0 fs x ∷ [] → IsObject old new before after t constant (declarator.Plain x)
plain_goes old a new before after t constant x fs g h none v = record {
  goes = goes_on old a new (begun_offences x (known_of old)) (begun x (known_of old)) (with_global (length before) t constant 0 x) g h;
  vars = var_is before after t constant 0 0 fs [] x refl none v;
}

pub initialized_goes : (old a b new : Typer) (before after : List Var) (t : IntType) (constant : Bool) (x : Identifier) (i : Initializer) (n : ℤ) (fs : List ℤ) → Goes old a (begun_offences x (known_of old)) (begun x (known_of old)) →
    n ≡ initial_value t i → Goes a b (initial_offences a.signatures a.scopes i) (known_of a) → Goes b new [] (with_global (length before) t constant 0 x (known_of b)) → fs ≡ n ∷ [] →
    after ≡ before ++ global_var t constant 0 fs x ∷ [] → IsObject old new before after t constant (declarator.Initialized x i)
initialized_goes old a b new before after t constant x i n fs g is_n h f is_fs v =
    let k = known_of old in
    let e : Goes old b (begun_offences x k ++ initial_offences k.fns (pending k x) i) (begun x k) = goes_next old a b (begun_offences x k) (begun x k) (λ q. initial_offences q.fns q.scopes i) (λ q. q) g h in
    record {
      goes = goes_on old b new (begun_offences x k ++ initial_offences k.fns (pending k x) i) (begun x k) (with_global (length before) t constant 0 x) e f;
      vars = var_is before after t constant 0 0 fs (initial_value t i ∷ []) x refl (is_fs ∙ ap (λ m. m ∷ []) is_n) v;
    }

pub array_goes : (old a new : Typer) (mid : Notes) (before after : List Var) (t : IntType) (constant : Bool) (x : Identifier) (n : Expression) (c : Constant) (count : ℕ) (fs : List ℤ) → IsLength old.scopes old.notes mid n c →
    Goes (with_notes old mid) a (begun_offences x (known_of (with_notes old mid))) (begun x (known_of (with_notes old mid))) → count ≡ array_length c →
    Goes a new [] (with_global (length before) t constant count x (known_of a)) → fs ≡ [] → after ≡ before ++ global_var t constant count fs x ∷ [] → IsObject old new before after t constant (declarator.Array x n)
array_goes old a new mid before after t constant x n c count fs l g is_count h none v =
    let k = known_of old in
    let o = array_offences old.scopes n in
    let is : count ≡ array_length (constant_of n) = is_count ∙ ap array_length l.value in
    let e0 : Goes old (with_notes old mid) o k = told_goes old mid o l.notes in
    let e1 : Goes old a (o ++ begun_offences x k) (begun x k) = goes_next old (with_notes old mid) a o k (begun_offences x) (begun x) e0 g in
    let f : Goes a new [] (with_global (length before) t constant (array_length (constant_of n)) x (known_of a)) = subst (λ m. Goes a new [] (with_global (length before) t constant m x (known_of a))) is h in
    record {
      goes = goes_on old a new (o ++ begun_offences x k) (begun x k) (with_global (length before) t constant (array_length (constant_of n)) x) e1 f;
      vars = var_is before after t constant count (array_length (constant_of n)) fs [] x is none v;
    }

pub initialized_array_goes : (old a new : Typer) (mid more end : Notes) (before after : List Var) (t : IntType) (constant : Bool) (x : Identifier) (n : Expression) (es : List Expression) (c : Constant) (count : ℕ) (fs : List ℤ) → IsLength old.scopes old.notes mid n c →
    more ≡ told mid (excess_offences c es) → Goes (with_notes old more) a (begun_offences x (known_of (with_notes old more))) (begun x (known_of (with_notes old more))) →
    AreValues a.scopes a.notes end t es fs → count ≡ array_length c → Goes (with_notes a end) new [] (with_global (length before) t constant count x (known_of (with_notes a end))) →
    after ≡ before ++ global_var t constant count fs x ∷ [] → IsObject old new before after t constant (declarator.InitializedArray x n es)
initialized_array_goes old a new mid more end before after t constant x n es c count fs l m g vs is_count h v =
    let k = known_of old in
    let o = array_offences old.scopes n in
    let p = excess_offences (constant_of n) es in
    let b = begun_offences x k in
    let q = elements_offences (pending k x) es in
    let is : count ≡ array_length (constant_of n) = is_count ∙ ap array_length l.value in
    let both : more ≡ told old.notes (o ++ p) = told_then old.notes mid more o p l.notes (m ∙ ap (λ z. told mid (excess_offences z es)) l.value) in
    let e0 : Goes old (with_notes old more) (o ++ p) k = told_goes old more (o ++ p) both in
    let e1 : Goes old a ((o ++ p) ++ b) (begun x k) = goes_next old (with_notes old more) a (o ++ p) k (begun_offences x) (begun x) e0 g in
    let e2 : Goes a (with_notes a end) (elements_offences a.scopes es) (known_of a) = told_goes a end (elements_offences a.scopes es) vs.notes in
    let e3 : Goes old (with_notes a end) (((o ++ p) ++ b) ++ q) (begun x k) = goes_next old a (with_notes a end) ((o ++ p) ++ b) (begun x k) (λ (z : Known). elements_offences z.scopes es) (λ z. z) e1 e2 in
    let e4 = subst (λ z. Goes old (with_notes a end) z (begun x k)) (append_assoc (o ++ p) b q) e3 in
    let f = subst (λ z. Goes (with_notes a end) new [] (with_global (length before) t constant z x (known_of (with_notes a end)))) is h in
    record {
      goes = goes_on old (with_notes a end) new ((o ++ p) ++ (b ++ q)) (begun x k) (with_global (length before) t constant (array_length (constant_of n)) x) e4 f;
      vars = var_is before after t constant count (array_length (constant_of n)) fs (map (element_value t) es) x is vs.values v;
    }
