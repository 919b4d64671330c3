-- Each declaration of a function has the types of its first one, which are those of its signature.
use Rattle.std.proofs.Common.{◌≡◌, ℕ, ◌+◌, ◌<◌, ◌≤◌, List, [], ◌∷◌, ◌++◌, length, map, Bool, true, false, refl, sym, ap, subst, ◌∙◌, arith, inl, inr}
use Rattle.std.specs.Prelude.{◌⊎◌, ◌&&◌, All, Option, Some, None, bytes_eq, cond, eqb, not, slice_get}
use Rattle.std.specs.List.{fold}
use Rattle.std.proofs.lemmas.Bool.{eqb-true}
use Rattle.std.proofs.lemmas.List.Elements.{All-head, All-tail}
use Rattle.c_tree.specs.declared.declarations.Declarator.{Declarator}
use Rattle.c_tree.specs.declared.declarations.FunctionHead.{FunctionHead}
use Rattle.c_tree.specs.declared.file.External.{External}
use Rattle.c_tree.specs.declared.file.External.TheVariants as external
use Rattle.c_tree.specs.declared.names.Identifier.{Identifier}
use Rattle.c_tree.specs.Starts.{head_start}
use Rattle.src_text.specs.declared.kind.Kind.TheVariants.{CFunctionType, CRedeclared}
use Rattle.joint_ir.specs.declared.ctype.IntType.{IntType}
use Rattle.joint_ir.specs.declared.program.Member.{Member}
use Rattle.joint_ir.specs.declared.program.MirrorDecl.{MirrorDecl}
use Rattle.offence_order.specs.declared.Offence.{Offence}
use Rattle.offence_order.specs.Order.{at}
use Rattle.c_words.specs.Types.{named, same_bool, same_type}
use Rattle.c_names.specs.declared.scope.Entry.{Entry}
use Rattle.c_names.specs.declared.scope.Entry.TheVariants as entry
use Rattle.c_names.specs.declared.scope.Target.{Target}
use Rattle.c_names.specs.Scope.{Scope, declare, declared_in, lookup}
use Rattle.c_structs.specs.declared.Structs.{Structs}
use Rattle.c_structs.specs.Mirror.{bound_scopes, few_members, kept, mirror_scopes, scopes_after, with_member_of, with_members_of}
use Rattle.c_statements.specs.declared.calls.Signature.{Signature}
use Rattle.c_statements.specs.Known.{Known}
use Rattle.c_statements.specs.Statements.{declared_name, is_some, pending}
use Rattle.c_functions.specs.declared.table.Table.{Table}
use Rattle.c_functions.specs.Declarations.{before_offences, differs, head_offences, known_offences, main_offences}
use Rattle.c_functions.specs.Heads.{parameter_types, result_of, same_result, same_types}
use Rattle.c_functions.specs.Tables.{entered, entered_head, function_number, number_in, signature_of, without_body}
use Rattle.c_objects.specs.Objects.{begun, global_entry, object_known, object_length, objects_known}
use Rattle.c_types.specs.Externals.{FileKnown, external_known, external_offences, externals_known, externals_offences}
use Rattle.c_statement_laws.specs.Agreeing.{IsPrefix}
use Rattle.c_statement_laws.proofs.Inits.{none_left, none_right}
use Rattle.c_program_laws.proofs.Lists.{get_map}
use Rattle.c_program_laws.proofs.Tables.{Entered, Extended, IsOne, IsTable, all_entered, are_same, declared_one, external_entered, head_entered, lookup_cases, lookup_kept, lookup_same, one_with, table_longer}
use Rattle.c_program_laws.proofs.Growing.{FileGrows, declaration_lists, declaration_scopes, definition_scopes, external_grows, externals_grow, objects_lists}

pub both_left : (a b : Bool) → a && b ≡ true → a ≡ true
both_left true b h = refl
both_left false b h = absurd (cc)

pub both_right : (a b : Bool) → a && b ≡ true → b ≡ true
both_right true b h = h
both_right false b h = absurd (cc)

same_bools : (a b : Bool) → same_bool a b ≡ true → a ≡ b
same_bools true true h = refl
same_bools true false h = absurd (cc)
same_bools false true h = absurd (cc)
same_bools false false h = refl

type_same : (a b : IntType) → same_type a b ≡ true → a ≡ b
type_same a b h =
    let both = both_left (eqb a.bits b.bits && same_bool a.signed b.signed) (same_bool a.truth b.truth) h in
    let bits : a.bits ≡ b.bits = eqb-true a.bits b.bits (both_left (eqb a.bits b.bits) (same_bool a.signed b.signed) both) in
    let signed = same_bools a.signed b.signed (both_right (eqb a.bits b.bits) (same_bool a.signed b.signed) both) in
    let truth = same_bools a.truth b.truth (both_right (eqb a.bits b.bits && same_bool a.signed b.signed) (same_bool a.truth b.truth) h) in
    ap (λ n. record { bits = n; signed = a.signed; truth = a.truth }) bits
    ∙ ap (λ s. record { bits = b.bits; signed = s; truth = a.truth }) signed
    ∙ ap (λ q. record { bits = b.bits; signed = b.signed; truth = q }) truth

result_same : (a b : Option IntType) → same_result a b ≡ true → a ≡ b
result_same None None h = refl
result_same None (Some u) h = absurd (cc)
result_same (Some t) None h = absurd (cc)
result_same (Some t) (Some u) h = ap (λ x. Some x) (type_same t u h)

types_same : (a b : List IntType) → same_types a b ≡ true → a ≡ b
types_same [] [] h = refl
types_same [] (u ∷ us) h = absurd (cc)
types_same (t ∷ ts) [] h = absurd (cc)
types_same (t ∷ ts) (u ∷ us) h =
    ap (λ x. x ∷ ts) (type_same t u (both_left (same_type t u) (same_types ts us) h)) ∙ ap (λ l. u ∷ l) (types_same ts us (both_right (same_type t u) (same_types ts us) h))

-- where names stand in the scope of a file: a function's has its number, and none is forgotten
pub record Stands (final : List Scope) (t : Table) (env : List Scope) : Type 0 where
  pub one : IsOne env
  pub numbers : (name : List ℕ) (m : ℕ) → lookup env name ≡ Some (entry.Function m) → m ≡ function_number final name
  pub kept : (name : List ℕ) (e : Entry) → lookup t.names name ≡ Some e → lookup env name ≡ None → ⊥

stands_with : (final : List Scope) (t : Table) (env : List Scope) → Stands final t env → (x : List ℕ) (v : Entry) → ((m : ℕ) → v ≡ entry.Function m → m ≡ function_number final x) → Stands final t (declare env x v)
stands_with final t env s x v right = record {
  one = one_with env s.one x v;
  numbers = λ name m h. number name m (lookup_cases env s.one x v name (entry.Function m) h);
  kept = λ name e h g. s.kept name e h (lookup_kept env s.one x v name g);
}
  where
    number : (name : List ℕ) (m : ℕ) → ((name ≡ x) × (entry.Function m ≡ v)) ⊎ (lookup env name ≡ Some (entry.Function m)) → m ≡ function_number final name
    number name m (inl e) = right m (sym e.1) ∙ ap (function_number final) (sym e.0)
    number name m (inr e) = s.numbers name m e

stands_head : (final bodies : List Scope) (t : Table) (hs : List FunctionHead) (env : List Scope) → Stands final t env → (h : FunctionHead) → Entered bodies t (entered_head bodies t h) hs h →
    Stands final (entered_head bodies t h) (declare env h.name.name (entry.Function (function_number final h.name.name)))
stands_head final bodies t hs env s h made =
    let n = function_number final h.name.name in
    let v = entry.Function n in
    let old = stands_with final t env s h.name.name v (λ m e. (let f : n ≡ m = cc in sym f)) in
    record {
      one = old.one;
      numbers = old.numbers;
      kept = λ name e g none. forgets name e none (made.only name e g);
    }
  where
    forgets : (name : List ℕ) (e : Entry) → lookup (declare env h.name.name (entry.Function (function_number final h.name.name))) name ≡ None → (name ≡ h.name.name) ⊎ (lookup t.names name ≡ Some e) → ⊥
    forgets name e none (inl is) =
        let there = ap (lookup (declare env h.name.name (entry.Function (function_number final h.name.name)))) is ∙ lookup_same env s.one h.name.name (entry.Function (function_number final h.name.name)) in
        cc
    forgets name e none (inr old) = s.kept name e old (lookup_kept env s.one h.name.name (entry.Function (function_number final h.name.name)) name none)

stands_member : (final : List Scope) (t : Table) (i : ℕ) (m : Member) (ty : Option IntType) (env : List Scope) → Stands final t env → Stands final t (with_member_of env i m ty)
stands_member final t i m None env s = s
stands_member final t i m (Some u) env s = stands_with final t env s m.path _ (λ n e. absurd (cc))

stands_members : (final : List Scope) (t : Table) (i : ℕ) (ms : List Member) (env : List Scope) → Stands final t env → Stands final t (with_members_of env i ms)
stands_members final t i [] env s = s
stands_members final t i (m ∷ ms) env s = stands_members final t (i + 1) ms (with_member_of env i m m.ty) (stands_member final t i m m.ty env s)

stands_mirror : (final : List Scope) (t : Table) (env : List Scope) → Stands final t env → (ss : Structs) (tag name : Identifier) (o : Option MirrorDecl) → Stands final t (scopes_after env ss tag name o)
stands_mirror final t env s ss tag name (Some m) = s
stands_mirror final t env s ss tag name None =
    stands_members final t 0 (kept (few_members ss tag name)) (declare env name.name entry.Mirror) (stands_with final t env s name.name entry.Mirror (λ n e. absurd (cc)))

stands_objects : (final : List Scope) (t : Table) (before : ℕ) (ty : IntType) (constant : Bool) (ds : List Declarator) (k : Known) → Stands final t k.scopes → Stands final t (objects_known before ty constant ds k).scopes
stands_objects final t before ty constant [] k s = s
stands_objects final t before ty constant (d ∷ ds) k s =
    let x = declared_name d in
    let one = stands_with final t k.scopes s x.name entry.Pending (λ n e. absurd (cc)) in
    let two = stands_with final t (pending k x) one x.name (global_entry before ty constant (object_length d)) (λ n e. absurd (cc)) in
    stands_objects final t (before + 1) ty constant ds (object_known before ty constant d k) two

stands_external : (final bodies : List Scope) (t : Table) (hs : List FunctionHead) → IsTable bodies t hs → length t.functions < 4294967296 → (f : FileKnown) → Stands final t f.known.scopes → (x : External) →
    Stands final (entered bodies t x) (external_known final x f).known.scopes
stands_external final bodies t hs is few f s (external.Struct p tag ms) = s
stands_external final bodies t hs is few f s (external.Mirror p tag x) = stands_mirror final t f.known.scopes s f.structs tag x f.structs.mirror
stands_external final bodies t hs is few f s (external.Bound p ty x) = stands_with final t f.known.scopes s x.name _ (λ n e. absurd (cc))
stands_external final bodies t hs is few f s (external.Function head) =
    subst (Stands final (entered_head bodies t head)) (sym (declaration_scopes final head f.known)) (stands_head final bodies t hs f.known.scopes s head (head_entered bodies t hs is few head))
stands_external final bodies t hs is few f s (external.Definition head body) =
    subst (Stands final (entered_head bodies t head)) (sym (definition_scopes final head body f.known)) (stands_head final bodies t hs f.known.scopes s head (head_entered bodies t hs is few head))
stands_external final bodies t hs is few f s (external.Objects g) =
    stands_objects final t (length f.globals) (named g.type_name.integer) (is_some g.constant) g.declarators f.known s

-- a function's place in the table of the whole file, and that its types are those of its first declaration
pub record Headed (bodies : List Scope) (last : Table) (head : FunctionHead) : Type 0 where
  pub place : ℕ
  pub first : FunctionHead
  pub number : function_number last.names head.name.name ≡ place
  pub signature : slice_get last.signatures place ≡ Some (signature_of bodies first)
  pub function : slice_get last.functions place ≡ Some (without_body first)
  pub name : first.name.name ≡ head.name.name
  pub result : result_of first.result ≡ result_of head.result
  pub types : parameter_types first.parameters ≡ parameter_types head.parameters

pub place_in : (bodies : List Scope) (last : Table) (hs : List FunctionHead) → IsTable bodies last hs → (n : ℕ) (h : FunctionHead) → slice_get hs n ≡ Some h →
    (slice_get last.signatures n ≡ Some (signature_of bodies h)) × (slice_get last.functions n ≡ Some (without_body h))
place_in bodies last hs is n h e = (
  ap (λ l. slice_get l n) is.signatures ∙ get_map (signature_of bodies) hs n h e,
  ap (λ l. slice_get l n) is.functions ∙ get_map without_body hs n h e,
)

headed : (bodies : List Scope) (t last : Table) (hs : List FunctionHead) (env : List Scope) (head : FunctionHead) → Stands last.names t env → (made : Entered bodies t (entered_head bodies t head) hs head) →
    (rest : Extended bodies (entered_head bodies t head) last made.extended.heads) → before_offences last.signatures head (declared_in env head.name.name) ≡ [] → Headed bodies last head
headed bodies t last hs env head s made rest none =
    let at : slice_get rest.heads made.place ≡ Some made.first = rest.before made.place made.first made.here in
    let stands = place_in bodies last rest.heads rest.table made.place made.first at in
    let number : function_number last.names head.name.name ≡ made.place = ap number_in (rest.kept head.name.name (entry.Function made.place) made.named) in
    let both = types number stands.0 (declared_in env head.name.name) refl none in
    record {
      place = made.place;
      first = made.first;
      number = number;
      signature = stands.0;
      function = stands.1;
      name = made.same;
      result = both.0;
      types = both.1;
    }
  where
    compared : (s : Signature) → s ≡ signature_of bodies made.first → (q : Bool) → (same_result s.result (result_of head.result) && same_types s.params (parameter_types head.parameters)) ≡ q →
        cond (not q) (at (head_start head) CFunctionType) [] ≡ [] → (result_of made.first.result ≡ result_of head.result) × (parameter_types made.first.parameters ≡ parameter_types head.parameters)
    compared s is true e g = (
      ap (λ (x : Signature). x.result) (sym is) ∙ result_same s.result (result_of head.result) (both_left (same_result s.result (result_of head.result)) (same_types s.params (parameter_types head.parameters)) e),
      ap (λ (x : Signature). x.params) (sym is) ∙ types_same s.params (parameter_types head.parameters) (both_right (same_result s.result (result_of head.result)) (same_types s.params (parameter_types head.parameters)) e),
    )
    compared s is false e g = absurd (cc)

    types : function_number last.names head.name.name ≡ made.place → slice_get last.signatures made.place ≡ Some (signature_of bodies made.first) → (o : Option Entry) → declared_in env head.name.name ≡ o →
        before_offences last.signatures head o ≡ [] → (result_of made.first.result ≡ result_of head.result) × (parameter_types made.first.parameters ≡ parameter_types head.parameters)
    types number found None e g = new (lookup t.names head.name.name) refl
      where
        new : (o : Option Entry) → lookup t.names head.name.name ≡ o → (result_of made.first.result ≡ result_of head.result) × (parameter_types made.first.parameters ≡ parameter_types head.parameters)
        new None is = let first = made.is_first is in (ap (λ (x : FunctionHead). result_of x.result) first, ap (λ (x : FunctionHead). parameter_types x.parameters) first)
        new (Some v) is = absurd (s.kept head.name.name v is (sym (declared_one env s.one head.name.name) ∙ e))
    types number found (Some (entry.Object o)) e g = absurd (cc)
    types number found (Some entry.Mirror) e g = absurd (cc)
    types number found (Some entry.Pending) e g = absurd (cc)
    types number found (Some (entry.Function m)) e g =
        let is : m ≡ made.place = s.numbers head.name.name m (sym (declared_one env s.one head.name.name) ∙ e) ∙ number in
        let sig = signature_of bodies made.first in
        let known : slice_get last.signatures m ≡ Some sig = ap (slice_get last.signatures) is ∙ found in
        compared sig refl (same_result sig.result (result_of head.result) && same_types sig.params (parameter_types head.parameters)) refl
        (subst (λ o. cond (differs o head) (at (head_start head) CFunctionType) [] ≡ []) known g)

-- what is known of an external declaration where it stands
abbrev pub HeadedBy : List Scope → Table → External → Type 0
HeadedBy bodies last (external.Struct p tag ms) = Unit {0}
HeadedBy bodies last (external.Mirror p tag x) = Unit {0}
HeadedBy bodies last (external.Bound p ty x) = Unit {0}
HeadedBy bodies last (external.Function head) = Headed bodies last head
HeadedBy bodies last (external.Definition head body) = Headed bodies last head
HeadedBy bodies last (external.Objects g) = Unit {0}

pub record Fine (bodies : List Scope) (last : Table) (end : FileKnown) (x : External) (f : FileKnown) : Type 0 where
  pub none : external_offences last.names x f ≡ []
  pub heads : HeadedBy bodies last x
  pub one : IsOne f.known.scopes
  pub fns : f.known.fns ≡ last.signatures
  pub grows : FileGrows (external_known last.names x f) end

headed_by : (bodies : List Scope) (t last : Table) (hs : List FunctionHead) → (is : IsTable bodies t hs) → (few : length t.functions < 4294967296) → (f : FileKnown) → Stands last.names t f.known.scopes → f.known.fns ≡ last.signatures →
    (x : External) → (rest : Extended bodies (entered bodies t x) last (external_entered bodies t hs is few x).heads) → external_offences last.names x f ≡ [] → HeadedBy bodies last x
headed_by bodies t last hs is few f s fns (external.Struct p tag ms) rest none = tt
headed_by bodies t last hs is few f s fns (external.Mirror p tag x) rest none = tt
headed_by bodies t last hs is few f s fns (external.Bound p ty x) rest none = tt
headed_by bodies t last hs is few f s fns (external.Function head) rest none =
    let before = before_offences f.known.fns head (declared_in f.known.scopes head.name.name) in
    let own = none_left (head_offences f.known head) _ none in
    headed bodies t last hs f.known.scopes head s (head_entered bodies t hs is few head) rest
    (subst (λ l. before_offences l head (declared_in f.known.scopes head.name.name) ≡ []) fns (none_left before (known_offences head ++ main_offences head) own))
headed_by bodies t last hs is few f s fns (external.Definition head body) rest none =
    let before = before_offences f.known.fns head (declared_in f.known.scopes head.name.name) in
    let own = none_left (head_offences f.known head) _ none in
    headed bodies t last hs f.known.scopes head s (head_entered bodies t hs is few head) rest
    (subst (λ l. before_offences l head (declared_in f.known.scopes head.name.name) ≡ []) fns (none_left before (known_offences head ++ main_offences head) own))
headed_by bodies t last hs is few f s fns (external.Objects g) rest none = tt

-- what holds at the start, and holds behind each external declaration that is fine, holds at the end
pub walk : (bodies : List Scope) (last : Table) → length last.functions < 4294967296 → (Q : External → Type 0) (P : FileKnown → Type 0) →
    (end : FileKnown) → ((x : External) (f : FileKnown) → Q x → Fine bodies last end x f → P f → P (external_known last.names x f)) →
    (xs : List External) → All Q xs → (t : Table) (hs : List FunctionHead) → IsTable bodies t hs → fold (entered bodies) t xs ≡ last → (f : FileKnown) → Stands last.names t f.known.scopes → f.known.fns ≡ last.signatures →
    externals_known last.names xs f ≡ end → externals_offences last.names xs f ≡ [] → P f → P end
walk bodies last few Q P end step [] v t hs is folds f s fns ends none p = subst P ends p
walk bodies last few Q P end step (x ∷ xs) v t hs is folds f s fns ends none p =
    let next = external_known last.names x f in
    let longer = table_longer bodies (x ∷ xs) t in
    let count : length (fold (entered bodies) t (x ∷ xs)).functions ≡ length last.functions = ap (λ (z : Table). length z.functions) folds in
    let small : length t.functions < 4294967296 = omega (arith, longer, few, count) in
    let one = external_entered bodies t hs is small x in
    let all : length (fold (entered bodies) (entered bodies t x) xs).functions < 4294967296 = omega (arith, few, count) in
    let rest = subst (λ z. Extended bodies (entered bodies t x) z one.heads) folds (all_entered bodies xs (entered bodies t x) one.heads one.table all) in
    let here = none_left (external_offences last.names x f) (externals_offences last.names xs next) none in
    let fine : Fine bodies last end x f = record {
      none = here;
      heads = headed_by bodies t last hs is small f s fns x rest here;
      one = s.one;
      fns = fns;
      grows = subst (FileGrows next) ends (externals_grow last.names xs next);
    } in
    walk bodies last few Q P end step xs (All-tail Q x xs v) (entered bodies t x) one.heads one.table folds next (stands_external last.names bodies t hs is small f s x)
    ((external_grows last.names x f).fns ∙ fns) ends (none_right (external_offences last.names x f) (externals_offences last.names xs next) none) (step x f (All-head Q x xs v) fine p)
