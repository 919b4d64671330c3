-- What has been typed when some external declarations were gone through: objects, functions, and how often each is met.
use Rattle.std.proofs.Common.{◌≡◌, ℕ, zero, suc, ◌+◌, ◌<◌, ◌≤◌, List, [], ◌∷◌, ◌++◌, length, map, drop, get_or, Bool, true, false, ◌||◌, refl, sym, ap, subst, ◌∙◌, arith, inl, inr, length-append}
use Rattle.std.specs.Prelude.{◌⊎◌, ◌&&◌, All, Option, Some, None, bytes_eq, cond, count_by, eqb, slice_get, slice_set}
use Rattle.std.proofs.lemmas.Bool.{cases_lt, eqb-true}
use Rattle.std.proofs.Math.Nat.{mod-eq_of_lt}
use Rattle.std.proofs.Math.Seq.{drop-append_seam}
use Rattle.std.proofs.lemmas.List.{length-map, length-set, map-append}
use Rattle.std.proofs.lemmas.List.Elements.{All-append, All-cons, All-nil}
use Rattle.std.proofs.lemmas.Option.{slice_get-get_or, slice_get_within}
use Rattle.src_text.specs.declared.kind.Kind.TheVariants.{CRedeclared, CMain}
use Rattle.src_text.specs.declared.refusal.Place.{Place}
use Rattle.c_tree.specs.declared.declarations.FunctionHead.{FunctionHead}
use Rattle.c_tree.specs.declared.declarations.Parameter.{Parameter}
use Rattle.c_tree.specs.declared.file.External.{External}
use Rattle.c_tree.specs.declared.file.External.TheVariants as external
use Rattle.c_tree.specs.declared.statements.Block.{Block}
use Rattle.joint_ir.specs.declared.ctype.IntType.{IntType}
use Rattle.joint_ir.specs.declared.program.CProgram.{CProgram}
use Rattle.joint_ir.specs.declared.program.Function.{Function}
use Rattle.joint_ir.specs.declared.program.Prop.{Prop}
use Rattle.joint_ir.specs.declared.program.PropKind.{PropKind}
use Rattle.joint_ir.specs.declared.program.PropKind.TheVariants as kind
use Rattle.joint_ir.specs.declared.program.Var.{Var}
use Rattle.joint_ir.specs.declared.stmt.SNode.{Block as SBlock}
use Rattle.joint_ir.specs.declared.stmt.TStmt.{TStmt}
use Rattle.joint_ir.specs.Statements.{is_recursion}
use Rattle.joint_ir.specs.Types.{IsType}
use Rattle.joint_ir.specs.Weights.{var_length}
use Rattle.joint_ir.specs.WellFormed as well
use Rattle.joint_ir.specs.WellFormed.{AreTogether, FitsVar, declared_by, declared_by_body, declared_in, places_from}
use Rattle.offence_order.specs.Order.{at}
use Rattle.c_words.specs.declared.notes.Site.{Site}
use Rattle.c_words.specs.Types.{named}
use Rattle.c_words.specs.Marks.{number_of}
use Rattle.c_names.specs.Scope.{Scope, declared_in as entry_in}
use Rattle.c_structs.specs.Fits.{StructsFit, StructsKeepFitting}
use Rattle.c_structs.proofs.Fitting.{structs_keep_fitting}
use Rattle.c_statements.specs.Known.{Known}
use Rattle.c_statements.specs.Statements.{is_some}
use Rattle.c_properties.specs.Properties.{prop_of, props_of}
use Rattle.c_functions.specs.declared.table.Table.{Table}
use Rattle.c_functions.specs.Heads.{has_main_types, is_int_or_void, is_known, is_main, parameter_types, result_of}
use Rattle.c_functions.specs.Tables.{function_number, signature_of, without_body}
use Rattle.c_functions.specs.Declarations.{head_known, head_offences, before_offences, known_offences, main_offences}
use Rattle.c_functions.specs.Definitions.{body_offences, defined, definition_known, function_known, function_offences, function_props, function_typed, has_body}
use Rattle.c_objects.specs.Objects.{globals_vars}
use Rattle.c_types.specs.Externals.{FileKnown, external_known}
use Rattle.c_types.specs.Files.{main_name}
use Rattle.c_statement_laws.specs.Agreeing.{IsPrefix}
use Rattle.c_statement_laws.proofs.Inits.{none_left, none_right}
use Rattle.c_program_laws.proofs.Lists.{count_both, count_no, count_none, count_set, count_yes, get_before, get_behind, get_set, of_map, places_before, places_behind, places_count, places_within}
use Rattle.c_program_laws.proofs.Objects.{globals_fit}
use Rattle.c_program_laws.proofs.Quiet.{AreQuiet}
use Rattle.c_program_laws.proofs.Defining.{Declares, IsParameter, declares, recursion_site}
use Rattle.c_program_laws.proofs.Tables.{are_same, bytes_same}
use Rattle.c_program_laws.proofs.Growing.{declaration_lists, objects_lists}
use Rattle.c_program_laws.proofs.Heads.{Fine, Headed, both_right}

-- a list is no longer than one that it begins
pub prefix_length : {A : Type 0} (xs ys : List A) → IsPrefix xs ys → length xs ≤ length ys
prefix_length [] ys h = omega arith
prefix_length (x ∷ xs) [] h = absurd (let e : slice_get [] 0 ≡ Some x = h 0 x refl in cc)
prefix_length (x ∷ xs) (y ∷ ys) h = let e : length xs ≤ length ys = prefix_length xs ys (λ i z g. h (suc i) z g) in omega (arith, e)

-- the kinds of properties are those of their places
kinds_of : (name : List ℕ) (all : List Site) (ss : List Site) → map (λ (p : Prop). p.kind) (map (prop_of name all) ss) ≡ map (λ (s : Site). s.kind) ss
kinds_of name all [] = refl
kinds_of name all (s ∷ ss) = ap (λ l. s.kind ∷ l) (kinds_of name all ss)

function_props_are : (head : FunctionHead) (body : Block) (k : Known) → (d : Declares head body k) →
    function_props head (length k.sites) (function_known head body k).sites ≡ props_of head.name.name (recursion_site head ∷ d.sites)
function_props_are head body k d = ap (props_of head.name.name) (ap (drop (length k.sites)) d.more ∙ drop-append_seam k.sites (recursion_site head ∷ d.sites))

-- a function's own property among those of its name
is_own : List ℕ → Prop → Bool
is_own name x = is_recursion x.kind && bytes_eq x.function name

has_name : List ℕ → Function → Bool
has_name name fn = well.is_some fn.body && bytes_eq fn.name name

quiet_count : (function name : List ℕ) (all ss : List Site) → AreQuiet ss → count_by (λ (x : Prop). is_recursion x.kind && bytes_eq x.function name) (map (prop_of function all) ss) ≡ 0
quiet_count function name all [] h = refl
quiet_count function name all (s ∷ ss) h =
    count_no (λ (x : Prop). is_recursion x.kind && bytes_eq x.function name) (prop_of function all s) (map (prop_of function all) ss) (ap (λ q. q && bytes_eq function name) h.0)
    ∙ quiet_count function name all ss h.1

own_count : (function name : List ℕ) (all : List Site) (r : Site) (ss : List Site) → r.kind ≡ kind.Recursion → AreQuiet ss →
    count_by (λ (x : Prop). is_recursion x.kind && bytes_eq x.function name) (map (prop_of function all) (r ∷ ss)) ≡ cond (bytes_eq function name) 1 0
own_count function name all r ss is h = pick (bytes_eq function name) refl
  where
    passes : is_recursion r.kind && bytes_eq function name ≡ bytes_eq function name
    passes = ap (λ k. is_recursion k && bytes_eq function name) is

    pick : (q : Bool) → bytes_eq function name ≡ q → count_by (λ (x : Prop). is_recursion x.kind && bytes_eq x.function name) (map (prop_of function all) (r ∷ ss)) ≡ cond q 1 0
    pick true e =
        count_yes (λ (x : Prop). is_recursion x.kind && bytes_eq x.function name) (prop_of function all r) (map (prop_of function all) ss) (passes ∙ e)
        ∙ ap suc (quiet_count function name all ss h)
    pick false e =
        count_no (λ (x : Prop). is_recursion x.kind && bytes_eq x.function name) (prop_of function all r) (map (prop_of function all) ss) (passes ∙ e)
        ∙ quiet_count function name all ss h

-- what functions declare, where one gets a body
declared_set : (fs : List Function) (n : ℕ) (old new : Function) → slice_get fs n ≡ Some old → old.body ≡ None → (x : ℕ) →
    count_by (eqb x) (declared_by (slice_set fs n new)) ≡ count_by (eqb x) (declared_by fs) + count_by (eqb x) (declared_by_body new new.body)
declared_set [] n old new h none x = absurd (cc)
declared_set (f ∷ fs) zero old new h none x =
    let e : f ≡ old = cc in
    let gone : declared_by_body f f.body ≡ [] = ap (λ (g : Function). declared_by_body g g.body) e ∙ ap (declared_by_body old) none in
    count_both (eqb x) (declared_by_body new new.body) (declared_by fs)
    ∙ (let swap : count_by (eqb x) (declared_by_body new new.body) + count_by (eqb x) (declared_by fs) ≡ count_by (eqb x) (declared_by fs) + count_by (eqb x) (declared_by_body new new.body) = omega arith in swap)
    ∙ ap (λ l. count_by (eqb x) (l ++ declared_by fs) + count_by (eqb x) (declared_by_body new new.body)) (sym gone)
declared_set (f ∷ fs) (suc n) old new h none x =
    let own = count_by (eqb x) (declared_by_body f f.body) in
    let more = count_by (eqb x) (declared_by_body new new.body) in
    count_both (eqb x) (declared_by_body f f.body) (declared_by (slice_set fs n new))
    ∙ ap (λ k. own + k) (declared_set fs n old new h none x)
    ∙ (let e : own + (count_by (eqb x) (declared_by fs) + more) ≡ (own + count_by (eqb x) (declared_by fs)) + more = omega arith in e)
    ∙ ap (λ k. k + more) (sym (count_both (eqb x) (declared_by_body f f.body) (declared_by fs)))

nothing_declared_by : (hs : List FunctionHead) → declared_by (map without_body hs) ≡ []
nothing_declared_by [] = refl
nothing_declared_by (h ∷ hs) = nothing_declared_by hs

no_bodies : (hs : List FunctionHead) (name : List ℕ) → count_by (λ (fn : Function). well.is_some fn.body && bytes_eq fn.name name) (map without_body hs) ≡ 0
no_bodies [] name = refl
no_bodies (h ∷ hs) name = count_no (λ (fn : Function). well.is_some fn.body && bytes_eq fn.name name) (without_body h) (map without_body hs) refl ∙ no_bodies hs name

none_has_body : (o : Option Function) (q : Bool) (p : Place) → cond (has_body o || q) (at p CRedeclared) [] ≡ [] → has_body o ≡ false
none_has_body o q p h = pick (has_body o) refl h
  where
    pick : (r : Bool) → has_body o ≡ r → cond (r || q) (at p CRedeclared) [] ≡ [] → has_body o ≡ false
    pick true e g = absurd (cc)
    pick false e g = e

no_body : (b : Option TStmt) → is_some b ≡ false → b ≡ None
no_body None h = refl
no_body (Some b) h = absurd (cc)

-- a function's shape: nothing without a body, else its parameters and what it declares
abbrev pub Shape : List Var → FunctionHead → Function → Option TStmt → Type 0
Shape locals h fn None = (fn.first ≡ 0) × (fn.params ≡ 0)
Shape locals h fn (Some b) =
    (fn.params ≡ length (parameter_types h.parameters)) × ((i : ℕ) (t : IntType) → slice_get (parameter_types h.parameters) i ≡ Some t → IsParameter locals (fn.first + i) t)
    × (fn.first + fn.params ≤ length locals) × AreTogether fn b × (is_main fn.name ≡ true → fn.params ≡ 0)

-- a function of the table, by its first declaration
pub record IsFunction (bodies : List Scope) (last : Table) (locals : List Var) (n : ℕ) (fn : Function) : Type 0 where
  pub head : FunctionHead
  pub function : slice_get last.functions n ≡ Some (without_body head)
  pub signature : slice_get last.signatures n ≡ Some (signature_of bodies head)
  pub name : fn.name ≡ head.name.name
  pub result : fn.result ≡ result_of head.result
  pub shape : Shape locals head fn fn.body

pub record Reached (bodies : List Scope) (last : Table) (end : FileKnown) (f : FileKnown) : Type 0 where
  pub globals : All FitsVar f.globals
  pub locals : All FitsVar f.known.locals
  pub structs : StructsFit f.structs
  pub kinds : map (λ (p : Prop). p.kind) f.made.props ≡ map (λ (s : Site). s.kind) f.known.sites
  pub count : length f.made.functions ≡ length last.functions
  pub functions : (n : ℕ) (fn : Function) → slice_get f.made.functions n ≡ Some fn → IsFunction bodies last end.known.locals n fn
  pub declared : (x : ℕ) → x < length f.known.locals → count_by (eqb x) (declared_by f.made.functions) ≡ 1
  pub undeclared : (x : ℕ) → length f.known.locals ≤ x → count_by (eqb x) (declared_by f.made.functions) ≡ 0
  pub recursions : (name : List ℕ) → count_by (λ (x : Prop). is_recursion x.kind && bytes_eq x.function name) f.made.props ≡ count_by (λ (fn : Function). well.is_some fn.body && bytes_eq fn.name name) f.made.functions

-- what no function changes
reached_same : (bodies : List Scope) (last : Table) (end f g : FileKnown) → Reached bodies last end f → g.made ≡ f.made → g.known.locals ≡ f.known.locals → g.known.sites ≡ f.known.sites → All FitsVar g.globals → StructsFit g.structs → Reached bodies last end g
reached_same bodies last end f g r made locals sites globals structs = record {
  globals = globals;
  locals = subst (All FitsVar) (sym locals) r.locals;
  structs = structs;
  kinds = ap (λ m. map (λ (p : Prop). p.kind) m.props) made ∙ r.kinds ∙ ap (map (λ (s : Site). s.kind)) (sym sites);
  count = ap (λ m. length m.functions) made ∙ r.count;
  functions = λ n fn h. r.functions n fn (ap (λ m. slice_get m.functions n) (sym made) ∙ h);
  declared = λ x h. ap (λ m. count_by (eqb x) (declared_by m.functions)) made ∙ r.declared x (subst (λ l. x < length l) locals h);
  undeclared = λ x h. ap (λ m. count_by (eqb x) (declared_by m.functions)) made ∙ r.undeclared x (subst (λ l. length l ≤ x) locals h);
  recursions = λ name.
      ap (λ m. count_by (λ (x : Prop). is_recursion x.kind && bytes_eq x.function name) m.props) made
      ∙ r.recursions name
      ∙ ap (λ m. count_by (λ (fn : Function). well.is_some fn.body && bytes_eq fn.name name) m.functions) (sym made);
}

-- the start: nothing declared, and no function with a body
pub start_reached : (bodies : List Scope) (last : Table) (hs : List FunctionHead) (end f : FileKnown) →
    ((n : ℕ) (h : FunctionHead) → slice_get hs n ≡ Some h → (slice_get last.signatures n ≡ Some (signature_of bodies h)) × (slice_get last.functions n ≡ Some (without_body h))) →
    last.functions ≡ map without_body hs → f.made.functions ≡ last.functions → f.made.props ≡ [] → f.known.locals ≡ [] → f.known.sites ≡ [] → f.globals ≡ [] → StructsFit f.structs → Reached bodies last end f
start_reached bodies last hs end f places table functions props locals sites globals structs = record {
  globals = subst (All FitsVar) (sym globals) (All-nil FitsVar);
  locals = subst (All FitsVar) (sym locals) (All-nil FitsVar);
  structs = structs;
  kinds = ap (map (λ (p : Prop). p.kind)) props ∙ ap (map (λ (s : Site). s.kind)) (sym sites);
  count = ap length functions;
  functions = λ n fn h. at_place n fn (ap (λ l. slice_get l n) (sym (functions ∙ table)) ∙ h);
  declared = λ x h. absurd (let e : length f.known.locals ≡ 0 = ap length locals in omega (arith, e, h));
  undeclared = λ x h. ap (λ l. count_by (eqb x) (declared_by l)) (functions ∙ table) ∙ ap (count_by (eqb x)) (nothing_declared_by hs);
  recursions = λ name.
      ap (count_by (λ (x : Prop). is_recursion x.kind && bytes_eq x.function name)) props
      ∙ sym (no_bodies hs name)
      ∙ ap (count_by (λ (fn : Function). well.is_some fn.body && bytes_eq fn.name name)) (sym (functions ∙ table));
}
  where
    at_place : (n : ℕ) (fn : Function) → slice_get (map without_body hs) n ≡ Some fn → IsFunction bodies last end.known.locals n fn
    at_place n fn h =
        let found = of_map without_body hs n fn h in
        let place = places n found.0 found.1 in
        subst (IsFunction bodies last end.known.locals n) found.2 (record { head = found.0; function = place.1; signature = place.0; name = refl; result = refl; shape = (refl, refl) })

-- a function with a body
module _ (bodies : List Scope) (last : Table) (end : FileKnown) (few : length end.known.locals < 4294967296) where
  definition_reached : (f : FileKnown) (head : FunctionHead) (body : Block) → Fine bodies last end (external.Definition head body) f → Reached bodies last end f → Reached bodies last end (external_known last.names (external.Definition head body) f)
  definition_reached f head body fine r =
      let k = head_known last.names head f.known in
      let after = function_known head body k in
      let os = body_offences last.names f.made.functions head body.place in
      let rest = none_right (head_offences f.known head) (os ++ function_offences head body k) fine.none in
      let d : Declares head body k = declares head body k (none_right os (function_offences head body k) rest) in
      let h : Headed bodies last head = fine.heads in
      let new = defined head body k in
      let n = function_number last.names head.name.name in
      let old = old_function h (none_left os (function_offences head body k) rest) in
      let bound : length after.locals ≤ length end.known.locals = prefix_length after.locals end.known.locals fine.grows.locals in
      let counted : length after.locals ≡ length k.locals + (length d.params + length d.own) = ap length d.objects ∙ length-append k.locals (d.params ++ d.own) ∙ ap (λ m. length k.locals + m) (length-append d.params d.own) in
      let small : length after.locals < 4294967296 = omega (arith, bound, few) in
      let first : new.first ≡ length k.locals = mod-eq_of_lt (omega (arith, small, counted)) in
      let params : new.params ≡ length head.parameters = mod-eq_of_lt (let c = d.count in omega (arith, small, counted, c)) in
      let places : declared_in (SBlock (function_typed head body k)) ≡ places_from (length k.locals + length head.parameters) (length d.own) = d.places small in
      let whole : declared_by_body new new.body ≡ places_from (length k.locals) (length head.parameters) ++ places_from (length k.locals + length head.parameters) (length d.own) =
      ap (λ m. places_from m new.params ++ declared_in (SBlock (function_typed head body k))) first
      ∙ ap (λ m. places_from (length k.locals) m ++ declared_in (SBlock (function_typed head body k))) params
      ∙ ap (λ l. places_from (length k.locals) (length head.parameters) ++ l) places in
      let total : length after.locals ≡ length k.locals + length head.parameters + length d.own = (let c = d.count in omega (arith, counted, c)) in
      record {
        globals = r.globals;
        locals = subst (All FitsVar) (sym d.objects) (All-append FitsVar k.locals (d.params ++ d.own) r.locals d.fit);
        structs = r.structs;
        kinds =
            map-append (λ (p : Prop). p.kind) f.made.props (function_props head (length k.sites) after.sites)
            ∙ ap (λ l. l ++ map (λ (p : Prop). p.kind) (function_props head (length k.sites) after.sites)) r.kinds
            ∙ ap (λ l. map (λ (s : Site). s.kind) k.sites ++ l)
            (ap (map (λ (p : Prop). p.kind)) (function_props_are head body k d) ∙ kinds_of head.name.name (recursion_site head ∷ d.sites) (recursion_site head ∷ d.sites))
            ∙ sym (map-append (λ (s : Site). s.kind) k.sites (recursion_site head ∷ d.sites))
            ∙ ap (map (λ (s : Site). s.kind)) (sym d.more);
        count = length-set f.made.functions n new ∙ r.count;
        functions = λ m fn g. at_place h d first params places total bound m fn (get_set f.made.functions n m new fn g);
        declared = λ x g. declared_set f.made.functions n old.0 new old.1 old.2 x ∙ ap (λ l. count_by (eqb x) (declared_by f.made.functions) + count_by (eqb x) l) whole
            ∙ once x (length k.locals) (length head.parameters) (length d.own) (r.declared x) (r.undeclared x) (omega (arith, g, total));
        undeclared = λ x g. declared_set f.made.functions n old.0 new old.1 old.2 x ∙ ap (λ l. count_by (eqb x) (declared_by f.made.functions) + count_by (eqb x) l) whole
            ∙ never x (length k.locals) (length head.parameters) (length d.own) (r.undeclared x) (omega (arith, g, total));
        recursions = λ name.
            count_both (λ (x : Prop). is_recursion x.kind && bytes_eq x.function name) f.made.props (function_props head (length k.sites) after.sites)
            ∙ ap (λ m. m + count_by (λ (x : Prop). is_recursion x.kind && bytes_eq x.function name) (function_props head (length k.sites) after.sites)) (r.recursions name)
            ∙ ap (λ l. count_by (λ (fn : Function). well.is_some fn.body && bytes_eq fn.name name) f.made.functions + count_by (λ (x : Prop). is_recursion x.kind && bytes_eq x.function name) l) (function_props_are head body k d)
            ∙ ap (λ m. count_by (λ (fn : Function). well.is_some fn.body && bytes_eq fn.name name) f.made.functions + m)
            (own_count head.name.name name (recursion_site head ∷ d.sites) (recursion_site head) d.sites refl d.quiet)
            ∙ sym (count_set (λ (fn : Function). well.is_some fn.body && bytes_eq fn.name name) f.made.functions n old.0 new old.1 (ap (λ b. well.is_some b && bytes_eq old.0.name name) old.2));
      }
    where
      old_function : Headed bodies last head → body_offences last.names f.made.functions head body.place ≡ [] →
          (old : Function) × (slice_get f.made.functions (function_number last.names head.name.name) ≡ Some old) × (old.body ≡ None)
      old_function h none =
          let n = function_number last.names head.name.name in
          let within : h.place < length last.functions = slice_get_within last.functions h.place (without_body h.first) h.function in
          let number = h.number in
          let count = r.count in
          let old = get_or f.made.functions n (without_body head) in
          let there : slice_get f.made.functions n ≡ Some old = slice_get-get_or f.made.functions n (without_body head) (omega (arith, within, number, count)) in
          (old, there, no_body old.body (ap has_body (sym there) ∙ none_has_body (slice_get f.made.functions n) (is_known head.name.name) body.place none))

      once : (x a p o : ℕ) → (x < a → count_by (eqb x) (declared_by f.made.functions) ≡ 1) → (a ≤ x → count_by (eqb x) (declared_by f.made.functions) ≡ 0) → x < a + p + o →
          count_by (eqb x) (declared_by f.made.functions) + count_by (eqb x) (places_from a p ++ places_from (a + p) o) ≡ 1
      once x a p o one none g = pick (cases_lt x a) (cases_lt x (a + p))
        where
          both : count_by (eqb x) (places_from a p ++ places_from (a + p) o) ≡ count_by (eqb x) (places_from a p) + count_by (eqb x) (places_from (a + p) o)
          both = count_both (eqb x) (places_from a p) (places_from (a + p) o)

          pick : (x < a) ⊎ (a ≤ x) → (x < a + p) ⊎ (a + p ≤ x) → count_by (eqb x) (declared_by f.made.functions) + count_by (eqb x) (places_from a p ++ places_from (a + p) o) ≡ 1
          pick (inl l) _ =
              let e0 = one l in
              let e1 = places_before x a p l in
              let e2 = places_before x (a + p) o (omega (arith, l)) in
              omega (arith, e0, e1, e2, both)
          pick (inr l) (inl m) =
              let e0 = none l in
              let e1 = places_within x a p l m in
              let e2 = places_before x (a + p) o m in
              omega (arith, e0, e1, e2, both)
          pick (inr l) (inr m) =
              let e0 = none l in
              let e1 = places_behind x a p m in
              let e2 = places_within x (a + p) o m g in
              omega (arith, e0, e1, e2, both)

      never : (x a p o : ℕ) → (a ≤ x → count_by (eqb x) (declared_by f.made.functions) ≡ 0) → a + p + o ≤ x →
          count_by (eqb x) (declared_by f.made.functions) + count_by (eqb x) (places_from a p ++ places_from (a + p) o) ≡ 0
      never x a p o none g =
          let e0 = none (omega (arith, g)) in
          let e1 = places_behind x a p (omega (arith, g)) in
          let e2 = places_behind x (a + p) o g in
          let both = count_both (eqb x) (places_from a p) (places_from (a + p) o) in
          omega (arith, e0, e1, e2, both)

      at_place : (h : Headed bodies last head) → (d : Declares head body (head_known last.names head f.known)) → (defined head body (head_known last.names head f.known)).first ≡ length f.known.locals →
          (defined head body (head_known last.names head f.known)).params ≡ length head.parameters →
          declared_in (SBlock (function_typed head body (head_known last.names head f.known))) ≡ places_from (length f.known.locals + length head.parameters) (length d.own) →
          length (function_known head body (head_known last.names head f.known)).locals ≡ length f.known.locals + length head.parameters + length d.own →
          length (function_known head body (head_known last.names head f.known)).locals ≤ length end.known.locals → (m : ℕ) (fn : Function) →
          ((m ≡ function_number last.names head.name.name) × (fn ≡ defined head body (head_known last.names head f.known))) ⊎ (slice_get f.made.functions m ≡ Some fn) → IsFunction bodies last end.known.locals m fn
      at_place h d first params places total bound m fn (inr e) = r.functions m fn e
      at_place h d first params places total bound m fn (inl e) =
          let k = head_known last.names head f.known in
          let after = function_known head body k in
          let new = defined head body k in
          let n = function_number last.names head.name.name in
          let number : n ≡ h.place = h.number in
          let is : IsFunction bodies last end.known.locals n new = record {
            head = h.first;
            function = ap (slice_get last.functions) number ∙ h.function;
            signature = ap (slice_get last.signatures) number ∙ h.signature;
            name = sym h.name;
            result = sym h.result;
            shape = (
              params ∙ sym (length-map head.parameters (λ (q : Parameter). named q.type_name.integer)) ∙ ap length (sym h.types),
              λ i t g. parameter h d first i t (ap (λ l. slice_get l i) (sym h.types) ∙ g),
              (let a : new.first + new.params ≡ length f.known.locals + length head.parameters = ap (λ z. z + new.params) first ∙ ap (λ z. length f.known.locals + z) params in omega (arith, a, total, bound)),
              together d first params places,
              main_plain,
            );
          } in
          subst (λ z. IsFunction bodies last end.known.locals z fn) (sym e.0) (subst (IsFunction bodies last end.known.locals n) (sym e.1) is)
        where
          parameter : (h : Headed bodies last head) → (d : Declares head body (head_known last.names head f.known)) → (defined head body (head_known last.names head f.known)).first ≡ length f.known.locals →
              (i : ℕ) (t : IntType) → slice_get (parameter_types head.parameters) i ≡ Some t → IsParameter end.known.locals ((defined head body (head_known last.names head f.known)).first + i) t
          parameter h d first i t g =
              let k = head_known last.names head f.known in
              let after = function_known head body k in
              let p : IsParameter d.params i t = d.typed i t g in
              let inside : slice_get (d.params ++ d.own) i ≡ Some p.0 = get_before d.params d.own i p.0 p.1 in
              let stands : slice_get after.locals (length k.locals + i) ≡ Some p.0 = ap (λ l. slice_get l (length k.locals + i)) d.objects ∙ get_behind k.locals (d.params ++ d.own) i ∙ inside in
              (p.0, ap (λ z. slice_get end.known.locals (z + i)) first ∙ fine.grows.locals (length k.locals + i) p.0 stands, p.2, p.3, p.4)

          together : (d : Declares head body (head_known last.names head f.known)) → (defined head body (head_known last.names head f.known)).first ≡ length f.known.locals →
              (defined head body (head_known last.names head f.known)).params ≡ length head.parameters →
              declared_in (SBlock (function_typed head body (head_known last.names head f.known))) ≡ places_from (length f.known.locals + length head.parameters) (length d.own) →
              declared_in (SBlock (function_typed head body (head_known last.names head f.known))) ≡
              places_from ((defined head body (head_known last.names head f.known)).first + (defined head body (head_known last.names head f.known)).params)
              (length (declared_in (SBlock (function_typed head body (head_known last.names head f.known)))))
          together d first params places =
              let k = head_known last.names head f.known in
              let new = defined head body k in
              let a : new.first + new.params ≡ length f.known.locals + length head.parameters = ap (λ z. z + new.params) first ∙ ap (λ z. length f.known.locals + z) params in
              let b : length (declared_in (SBlock (function_typed head body k))) ≡ length d.own = ap length places ∙ places_count (length f.known.locals + length head.parameters) (length d.own) in
              places ∙ ap (λ z. places_from z (length d.own)) (sym a) ∙ ap (places_from (new.first + new.params)) (sym b)

          main_plain : is_main head.name.name ≡ true → (defined head body (head_known last.names head f.known)).params ≡ 0
          main_plain is =
              let none : main_offences head ≡ [] = none_right (known_offences head) (main_offences head) (none_right (before_offences f.known.fns head (entry_in f.known.scopes head.name.name)) (known_offences head ++ main_offences head) (none_left (head_offences f.known head) (body_offences last.names f.made.functions head body.place ++ function_offences head body (head_known last.names head f.known)) fine.none)) in
              let types : has_main_types head ≡ true = main_types (has_main_types head) refl (subst (λ q. cond q (cond (has_main_types head) [] (at head.name.place CMain)) [] ≡ []) is none) in
              params ∙ eqb-true (length head.parameters) 0 (both_right (is_int_or_void (result_of head.result)) (eqb (length head.parameters) 0) types)
            where
              main_types : (q : Bool) → has_main_types head ≡ q → cond q [] (at head.name.place CMain) ≡ [] → has_main_types head ≡ true
              main_types true e g = e
              main_types false e g = absurd (cc)

  -- an external declaration
  pub external_reached : (x : External) (f : FileKnown) → Fine bodies last end x f → Reached bodies last end f → Reached bodies last end (external_known last.names x f)
  external_reached (external.Struct p tag ms) f fine r =
      reached_same bodies last end f (external_known last.names (external.Struct p tag ms) f) r refl refl refl r.globals (structs_keep_fitting.struct_after f.structs tag ms r.structs)
  external_reached (external.Mirror p tag x) f fine r =
      reached_same bodies last end f (external_known last.names (external.Mirror p tag x) f) r refl refl refl r.globals (structs_keep_fitting.mirror_after f.structs tag x r.structs)
  external_reached (external.Bound p ty x) f fine r = reached_same bodies last end f (external_known last.names (external.Bound p ty x) f) r refl refl refl r.globals r.structs
  external_reached (external.Function head) f fine r =
      let same = declaration_lists last.names head f.known in
      reached_same bodies last end f (external_known last.names (external.Function head) f) r refl same.locals same.sites r.globals r.structs
  external_reached (external.Definition head body) f fine r = definition_reached f head body fine r
  external_reached (external.Objects g) f fine r =
      let same = objects_lists (length f.globals) (named g.type_name.integer) (is_some g.constant) g.declarators f.known in
      reached_same bodies last end f (external_known last.names (external.Objects g) f) r refl same.locals same.sites
      (All-append FitsVar f.globals (globals_vars g) r.globals (globals_fit (length f.globals) g f.known fine.none)) r.structs
