-- The typed program of a whole file is well-formed.
use Rattle.std.proofs.Common.{◌≡◌, ℕ, zero, suc, ◌+◌, ◌<◌, ◌≤◌, List, [], ◌∷◌, ◌++◌, length, map, get_or, Bool, true, false, ◌||◌, refl, sym, ap, subst, ◌∙◌, arith, inl, inr}
use Rattle.std.specs.Prelude.{◌⊎◌, ◌&&◌, All, IfSome, IsSome, IsTrue, Option, Some, None, bytes_eq, codes, cond, count_by, eqb, nat_eq, slice_get}
use Rattle.std.specs.List.{fold, starts_with}
use Rattle.std.proofs.lemmas.Bool.{eqb-true}
use Rattle.std.proofs.lemmas.List.{length-map}
use Rattle.std.proofs.lemmas.List.Elements.{All-cons, All-nil}
use Rattle.std.proofs.lemmas.Option.{slice_get-get_or, slice_get_within}
use Rattle.c_tree.specs.declared.declarations.FunctionHead.{FunctionHead}
use Rattle.c_tree.specs.declared.declarations.Parameter.{Parameter}
use Rattle.c_tree.specs.declared.file.CTree.{CTree}
use Rattle.c_tree.specs.declared.file.External.{External}
use Rattle.src_text.specs.declared.kind.Kind.TheVariants.{CNoMain}
use Rattle.joint_ir.specs.declared.ctype.IntType.{IntType}
use Rattle.joint_ir.specs.declared.expr.Slot.TheVariants as slots
use Rattle.joint_ir.specs.declared.program.CProgram.{CProgram}
use Rattle.joint_ir.specs.declared.program.Function.{Function}
use Rattle.joint_ir.specs.declared.program.Prop.{Prop}
use Rattle.joint_ir.specs.declared.program.Var.{Var}
use Rattle.joint_ir.specs.declared.stmt.TStmt.{TStmt}
use Rattle.joint_ir.specs.Statements.{is_recursion}
use Rattle.joint_ir.specs.Steps.{slot_type, var_type}
use Rattle.joint_ir.specs.Types.{IsType, int}
use Rattle.joint_ir.specs.Weights.{slot_length, var_length}
use Rattle.joint_ir.specs.WellFormed as well
use Rattle.joint_ir.specs.WellFormed.{ArePlain, FitsBody, FitsFunction, FitsProgram, FitsStmt, places_from, scope_of}
use Rattle.offence_order.specs.Order.{at}
use Rattle.c_words.specs.declared.notes.Site.{Site}
use Rattle.c_words.specs.Types.{named}
use Rattle.c_names.specs.declared.scope.Entry.{Entry}
use Rattle.c_names.specs.declared.scope.Entry.TheVariants as entry
use Rattle.c_names.specs.Scope.{Scope, lookup}
use Rattle.c_structs.proofs.Fitting.{structs_keep_fitting}
use Rattle.c_statements.specs.declared.calls.Signature.{Signature}
use Rattle.c_statements.specs.Statements.{is_some}
use Rattle.c_functions.specs.declared.table.Table.{Table}
use Rattle.c_functions.specs.Heads.{is_free, is_main, parameter_types, result_of}
use Rattle.c_functions.specs.Tables.{bodies_of, entered, function_number, no_functions, number_in, signature_of, table_of, without_body}
use Rattle.c_types.specs.Ends.{IsShort}
use Rattle.c_types.specs.Externals.{FileKnown, externals_known, externals_offences}
use Rattle.c_types.specs.Files.{at_start, c_offences, has_main, main_name, no_main_offences, program_of, program_with}
use Rattle.c_meaning.specs.Sound.{AreProps}
use Rattle.c_statement_laws.specs.Agreeing.{Agree, Agrees, AreFew, IsSetting}
use Rattle.c_statement_laws.proofs.Inits.{none_left, none_right}
use Rattle.c_program_laws.specs.Laws.{ExternalBytes, outside}
use Rattle.c_program_laws.proofs.Functions.{result_is}
use Rattle.c_program_laws.proofs.Lists.{count_one, get_map, of_map}
use Rattle.c_program_laws.proofs.Defining.{IsParameter}
use Rattle.c_program_laws.proofs.Tables.{Defines, Extended, IsTable, all_entered, are_same, bodies_defined, bytes_same, defined_named, main_defined, nothing_entered}
use Rattle.c_program_laws.proofs.Growing.{defined_after, externals_grow}
use Rattle.c_program_laws.proofs.Heads.{Fine, Headed, Stands, both_left, both_right, place_in, walk}
use Rattle.c_program_laws.proofs.Reaching.{IsFunction, Reached, Shape, external_reached, start_reached}
use Rattle.c_program_laws.proofs.Placing.{Placed, external_places}

-- each place at which a property stands has its property
are_props : (sites : List Site) (p : CProgram) → map (λ (x : Prop). x.kind) p.props ≡ map (λ (s : Site). s.kind) sites → AreProps sites p
are_props sites p kinds i s h =
    let there = ap (λ l. slice_get l i) kinds ∙ get_map (λ (t : Site). t.kind) sites i s h in
    let found = of_map (λ (x : Prop). x.kind) p.props i s.kind there in
    (found.0, found.1, found.2)

-- no parameter is an array
all_plain : (p : CProgram) (first n : ℕ) → ((i : ℕ) → i < n → slot_length p (slots.Local (first + i)) ≡ 0) → ArePlain p first n
all_plain p first zero h = All-nil (λ x. slot_length p (slots.Local x) ≡ 0)
all_plain p first (suc n) h =
    All-cons (λ x. slot_length p (slots.Local x) ≡ 0) first (places_from (suc first) n)
    (ap (λ k. slot_length p (slots.Local k)) (let e : first ≡ first + 0 = omega arith in e) ∙ h 0 (omega arith))
    (all_plain p (suc first) n (λ i g. ap (λ k. slot_length p (slots.Local k)) (let e : suc first + i ≡ first + suc i = omega arith in e) ∙ h (suc i) (omega (arith, g))))

every : (xs : List External) → All (λ (x : External). Unit {0}) xs
every xs = λ k d h. tt

has_a_main : (tree : CTree) (q : Bool) → has_main tree.externals ≡ q → cond q [] (at tree.end CNoMain) ≡ [] → has_main tree.externals ≡ true
has_a_main tree true e h = e
has_a_main tree false e h = absurd (cc)

module _ (tree : CTree) (v : All ExternalBytes tree.externals) (none : c_offences tree ≡ []) (short : IsShort (program_of tree)) where
  abbrev xs : List External
  xs = tree.externals

  abbrev bodies : List Scope
  bodies = bodies_of xs

  abbrev last : Table
  last = table_of xs

  abbrev start : FileKnown
  start = at_start xs

  abbrev end : FileKnown
  end = externals_known last.names xs start

  abbrev main_number : ℕ
  main_number = function_number last.names main_name

  abbrev program : CProgram
  program = program_with end main_number

  count : length program.functions ≡ length last.functions
  count = (externals_grow last.names xs start).count

  few : length last.functions < 4294967296
  few = subst (λ n. n < 4294967296) count short.functions

  table : Extended bodies no_functions last []
  table = all_entered bodies xs no_functions [] (nothing_entered bodies) few

  fine_all : externals_offences last.names xs start ≡ []
  fine_all = none_left (externals_offences last.names xs start) (no_main_offences tree) none

  stands : Stands last.names no_functions start.known.scopes
  stands = record { one = ([], refl); numbers = λ name m h. absurd (cc); kept = λ name e h g. cc }

  reached : Reached bodies last end end
  reached =
      walk bodies last few (λ x. Unit {0}) (Reached bodies last end) end (λ x f w fine r. external_reached bodies last end short.locals x f fine r) xs (every xs) no_functions [] (nothing_entered bodies) refl start stands refl refl fine_all
      (start_reached bodies last table.heads end start (place_in bodies last table.heads table.table) table.table.functions refl refl refl refl refl structs_keep_fitting.first)

  -- a definition gives its function a body
  has_body : (name : List ℕ) → Defines xs name → (g : Function) × (slice_get program.functions (function_number last.names name) ≡ Some g) × IsSome g.body
  has_body name d =
      let there = defined_named bodies xs no_functions [] (nothing_entered bodies) few d.0 d.1 d.2 d.3 in
      let place = table.table.back d.1.name.name there.0 there.1 in
      let number : function_number last.names d.1.name.name ≡ place.0 = ap number_in (there.1 ∙ ap (λ (e : Entry). Some e) place.2) in
      let at : slice_get last.functions place.0 ≡ Some (without_body place.1) = (place_in bodies last table.heads table.table place.0 place.1 place.3).1 in
      let within = slice_get_within last.functions place.0 (without_body place.1) at in
      let made = defined_after last.names xs start d.0 d.1 d.2 d.3 (omega (arith, within, number)) in
      (made.0, ap (λ z. slice_get program.functions (function_number last.names z)) (sym d.4) ∙ made.1, made.2)

  -- the place of a function in the table is its number
  number_is : (n : ℕ) (fn : Function) → IsFunction bodies last end.known.locals n fn → lookup last.names fn.name ≡ Some (entry.Function n)
  number_is n fn is =
      let found = of_map without_body table.heads n (without_body is.head) (ap (λ l. slice_get l n) (sym table.table.functions) ∙ is.function) in
      let same : found.0.name.name ≡ is.head.name.name = ap (λ (z : Function). z.name) found.2 in
      ap (lookup last.names) (is.name ∙ sym same) ∙ table.table.there n found.0 found.1

  -- each function that may be called agrees with its signature
  agrees_with : (n : ℕ) (fn : Function) (is : IsFunction bodies last end.known.locals n fn) (o : Option TStmt) → fn.body ≡ o → Shape end.known.locals is.head fn o → (signature_of bodies is.head).callable ≡ true →
      slice_get program.functions n ≡ Some fn → Agrees program (signature_of bodies is.head) fn
  agrees_with n fn is (Some b) e shape may found = record {
    result = is.result;
    count = shape.0;
    params = λ i t h. let p : IsParameter end.known.locals (fn.first + i) t = shape.1 i t h in (sym (ap var_type p.1 ∙ p.2), p.4);
    body = inl (subst IsSome (sym e) refl);
  }
  agrees_with n fn is None e shape may found = free (is_some (lookup bodies is.head.name.name)) refl may
    where
      no_length : (ts : List IntType) → length ts ≡ 0 → (i : ℕ) (t : IntType) → slice_get ts i ≡ Some t → ⊥
      no_length [] h i t g = cc
      no_length (u ∷ ts) h i t g = omega (arith, h)

      some_there : (r : Option IntType) → is_some r ≡ true → IsSome r
      some_there None h = absurd (cc)
      some_there (Some t) h = refl

      free : (q : Bool) → is_some (lookup bodies is.head.name.name) ≡ q → q || is_free is.head ≡ true → Agrees program (signature_of bodies is.head) fn
      free true g h =
          let made = has_body is.head.name.name (bodies_defined xs is.head.name.name g) in
          let number : function_number last.names is.head.name.name ≡ n = ap number_in (ap (lookup last.names) (sym is.name) ∙ number_is n fn is) in
          let same : Some fn ≡ Some made.0 = sym found ∙ ap (slice_get program.functions) (sym number) ∙ made.1 in
          let is_fn : made.0 ≡ fn = cc in
          absurd (let z : IsSome fn.body = subst (λ (y : Function). IsSome y.body) is_fn made.2 in let w : IsSome {T = TStmt} None = subst IsSome e z in cc)
      free false g h =
          let named' = starts_with nat_eq is.head.name.name (codes "nondet_") in
          let bare = eqb (length is.head.parameters) 0 in
          let gives = is_some (result_of is.head.result) in
          let none' : length is.head.parameters ≡ 0 = eqb-true (length is.head.parameters) 0 (both_right named' bare (both_left (named' && bare) gives h)) in
          let no_types : length (parameter_types is.head.parameters) ≡ 0 = length-map is.head.parameters (λ (q : Parameter). named q.type_name.integer) ∙ none' in
          let given = both_right (named' && bare) gives h in
          record {
            result = is.result;
            count = shape.1 ∙ sym no_types;
            params = λ i t k. absurd (no_length (parameter_types is.head.parameters) no_types i t k);
            body = inr (subst IsSome (sym is.result) (some_there (result_of is.head.result) given));
          }

  agree : Agree program last.signatures
  agree n s h may =
      let within : n < length last.signatures = slice_get_within last.signatures n s h in
      let lengths : length last.signatures ≡ length last.functions = ap length table.table.signatures ∙ length-map table.heads (signature_of bodies) ∙ sym (ap length table.table.functions ∙ length-map table.heads without_body) in
      let c = count in
      let head = of_map (signature_of bodies) table.heads n s (ap (λ l. slice_get l n) (sym table.table.signatures) ∙ h) in
      let fn = get_or program.functions n (without_body head.0) in
      let there : slice_get program.functions n ≡ Some fn = slice_get-get_or program.functions n (without_body head.0) (omega (arith, within, lengths, c)) in
      let is = reached.functions n fn there in
      let same : signature_of bodies is.head ≡ s = (let e : Some (signature_of bodies is.head) ≡ Some s = sym is.signature ∙ h in cc) in
      (fn, there, subst (λ z. Agrees program z fn) same (agrees_with n fn is fn.body refl is.shape (ap (λ (z : Signature). z.callable) same ∙ may) there))

  all_few : AreFew program end.known.sites
  all_few =
      let same : length program.props ≡ length end.known.sites = sym (length-map program.props (λ (x : Prop). x.kind)) ∙ ap length reached.kinds ∙ length-map end.known.sites (λ (s : Site). s.kind) in
      let z = short.props in
      record { locals = short.locals; sites = omega (arith, same, z) }

  placed : Placed bodies last end main_number end
  placed =
      walk bodies last few ExternalBytes (Placed bodies last end main_number) end
      (λ x f w fine r. external_places bodies last end main_number all_few short.globals reached.functions reached.count x f w fine r) xs v no_functions [] (nothing_entered bodies) refl start stands refl refl fine_all
      (record {
        sets = λ i. record { props = are_props end.known.sites program reached.kinds; names = λ name o h. absurd (cc); bound = λ name o h. absurd (cc); agree = agree; signed = λ name f h. absurd (cc) };
        typed = λ n fn b h e. absurd (unborn n fn b h e);
        structs = structs_keep_fitting.first;
      })
    where
      unborn : (n : ℕ) (fn : Function) (b : TStmt) → slice_get last.functions n ≡ Some fn → fn.body ≡ Some b → ⊥
      unborn n fn b h e =
          let found = of_map without_body table.heads n fn (ap (λ l. slice_get l n) (sym table.table.functions) ∙ h) in
          let gone : None ≡ Some b = ap (λ (z : Function). z.body) found.2 ∙ e in
          cc

  one_body : (n : ℕ) (fn : Function) → slice_get program.functions n ≡ Some fn → well.is_some fn.body ≡ true → well.bodies program fn.name ≡ 1
  one_body n fn h some =
      count_one (λ (g : Function). well.is_some g.body && bytes_eq g.name fn.name) program.functions n fn h (ap (λ q. q && bytes_eq fn.name fn.name) some ∙ bytes_same fn.name fn.name refl)
      (λ m g there passes. only m g there (are_same g.name fn.name (both_right (well.is_some g.body) (bytes_eq g.name fn.name) passes)))
    where
      only : (m : ℕ) (g : Function) → slice_get program.functions m ≡ Some g → g.name ≡ fn.name → m ≡ n
      only m g there same =
          let e : Some (entry.Function m) ≡ Some (entry.Function n) = sym (number_is m g (reached.functions m g there)) ∙ ap (lookup last.names) same ∙ number_is n fn (reached.functions n fn h) in
          cc

  body_fits : (n : ℕ) (fn : Function) → slice_get program.functions n ≡ Some fn → (is : IsFunction bodies last end.known.locals n fn) (o : Option TStmt) → fn.body ≡ o → Shape end.known.locals is.head fn o → FitsBody program n fn o
  body_fits n fn h is None e shape = shape
  body_fits n fn h is (Some b) e shape =
      let one = one_body n fn h (ap well.is_some e) in (
        shape.2,
        all_plain program fn.first fn.params (λ i g. plain i (subst (λ k. i < k) shape.0 g)),
        placed.typed n fn b h e,
        shape.3,
        reached.recursions fn.name ∙ one,
        one,
      )
    where
      plain : (i : ℕ) → i < length (parameter_types is.head.parameters) → slot_length program (slots.Local (fn.first + i)) ≡ 0
      plain i g =
          let t = get_or (parameter_types is.head.parameters) i int in
          let p : IsParameter end.known.locals (fn.first + i) t = shape.1 i t (slice_get-get_or (parameter_types is.head.parameters) i int g) in
          ap var_length p.1 ∙ p.3

  main_fits : (fn : Function) × (slice_get program.functions main_number ≡ Some fn) × IsSome fn.body × (fn.params ≡ 0)
  main_fits =
      let has = has_a_main tree (has_main xs) refl (none_right (externals_offences last.names xs start) (no_main_offences tree) none) in
      let d = main_defined xs has in
      let made = has_body main_name d in
      let is = reached.functions main_number made.0 made.1 in
      (made.0, made.1, made.2, no_params d made.0 made.1 is (made.0.body) refl is.shape made.2)
    where
      no_params : Defines xs main_name → (fn : Function) → slice_get program.functions main_number ≡ Some fn → (is : IsFunction bodies last end.known.locals main_number fn) → (o : Option TStmt) → fn.body ≡ o →
          Shape end.known.locals is.head fn o → IsSome o → fn.params ≡ 0
      no_params d fn h is None e shape some = absurd (cc)
      no_params d fn h is (Some b) e shape some =
          let there = defined_named bodies xs no_functions [] (nothing_entered bodies) few d.0 d.1 d.2 d.3 in
          let place = table.table.back d.1.name.name there.0 there.1 in
          let number : main_number ≡ place.0 = ap (function_number last.names) (sym d.4) ∙ ap number_in (there.1 ∙ ap (λ (y : Entry). Some y) place.2) in
          let at : slice_get last.functions main_number ≡ Some (without_body place.1) = ap (slice_get last.functions) number ∙ (place_in bodies last table.heads table.table place.0 place.1 place.3).1 in
          let same : without_body is.head ≡ without_body place.1 = (let z : Some (without_body is.head) ≡ Some (without_body place.1) = sym is.function ∙ at in cc) in
          let named : fn.name ≡ main_name = is.name ∙ ap (λ (z : Function). z.name) same ∙ place.4 ∙ d.4 in
          shape.4 (bytes_same fn.name main_name named)

  program_fits : FitsProgram program
  program_fits = record {
    functions = λ n fn h.
        let is = reached.functions n fn h in
        record { result = subst (λ r. IfSome r IsType) (sym is.result) (result_is is.head.result); body = body_fits n fn h is fn.body refl is.shape };
    globals = reached.globals;
    locals = reached.locals;
    members = reached.structs.members;
    declared = reached.declared;
    main = main_fits;
    few_locals = short.locals;
    few_globals = short.globals;
    few_members = (let z = reached.structs.few in omega (arith, z));
    few_props = short.props;
    few_functions = short.functions;
  }

pub programs_fit : (tree : CTree) → All ExternalBytes tree.externals → c_offences tree ≡ [] → IsShort (program_of tree) → FitsProgram (program_of tree)
programs_fit tree v none short = program_fits tree v none short
