-- What names mean between the declarations of a file fits its program, and so each body is well-formed.
use Rattle.std.proofs.Common.{◌≡◌, ℕ, zero, suc, ◌+◌, ◌<◌, ◌≤◌, List, [], ◌∷◌, ◌++◌, length, map, get_or, Bool, true, false, refl, sym, ap, subst, ◌∙◌, arith, inl, inr, length-append}
use Rattle.std.specs.Prelude.{◌⊎◌, All, IfSome, IsSome, Option, Some, None, slice_get, slice_set}
use Rattle.std.proofs.Math.Nat.{mod-eq_of_lt}
use Rattle.std.proofs.lemmas.List.Elements.{All-head, All-tail}
use Rattle.std.proofs.lemmas.Option.{slice_get-get_or, slice_get_within}
use Rattle.c_tree.specs.declared.declarations.Declarator.{Declarator}
use Rattle.c_tree.specs.declared.declarations.FunctionHead.{FunctionHead}
use Rattle.c_tree.specs.declared.declarations.TypeName.{TypeName}
use Rattle.c_tree.specs.declared.file.External.{External}
use Rattle.c_tree.specs.declared.file.External.TheVariants as external
use Rattle.c_tree.specs.declared.names.Identifier.{Identifier}
use Rattle.c_tree.specs.declared.statements.Block.{Block}
use Rattle.joint_ir.specs.declared.ctype.IntType.{IntType}
use Rattle.joint_ir.specs.declared.expr.Slot.TheVariants as slots
use Rattle.joint_ir.specs.declared.program.CProgram.{CProgram}
use Rattle.joint_ir.specs.declared.program.Function.{Function}
use Rattle.joint_ir.specs.declared.program.Member.{Member}
use Rattle.joint_ir.specs.declared.program.MirrorDecl.{MirrorDecl}
use Rattle.joint_ir.specs.declared.stmt.SNode.{Block as SBlock}
use Rattle.joint_ir.specs.declared.stmt.TStmt.{TStmt}
use Rattle.joint_ir.specs.Types.{IsType, Single}
use Rattle.joint_ir.specs.Steps.{member_type, type_or_int, var_type}
use Rattle.joint_ir.specs.Views.{members_of}
use Rattle.joint_ir.specs.Weights.{member_length, var_length}
use Rattle.joint_ir.specs.WellFormed as well
use Rattle.joint_ir.specs.WellFormed.{FitsMember, FitsStmt, scope_of}
use Rattle.c_words.specs.Types.{named}
use Rattle.c_words.specs.Marks.{number_of}
use Rattle.c_names.specs.declared.scope.Entry.TheVariants as entry
use Rattle.c_names.specs.declared.scope.Target.{Target}
use Rattle.c_names.specs.Scope.{Scope, declare}
use Rattle.c_structs.specs.declared.Structs.{Structs}
use Rattle.c_structs.specs.Mirror.{few_members, kept, mirror_after, scopes_after, unsigned_int, with_member_of, with_members_of}
use Rattle.c_structs.specs.Fits.{StructsFit}
use Rattle.c_structs.proofs.Fitting.{structs_keep_fitting}
use Rattle.c_statements.specs.declared.calls.Signature.{Signature}
use Rattle.c_statements.specs.Known.{Known}
use Rattle.c_statements.specs.Statements.{declared_name, is_some, pending}
use Rattle.c_functions.specs.declared.table.Table.{Table}
use Rattle.c_functions.specs.Heads.{result_of}
use Rattle.c_functions.specs.Tables.{function_number, signature_of, without_body}
use Rattle.c_functions.specs.Declarations.{head_known, head_offences}
use Rattle.c_functions.specs.Definitions.{body_offences, defined, function_known, function_offences, function_typed}
use Rattle.c_objects.specs.Objects.{begun, object_known, object_length, object_var, objects_known}
use Rattle.c_types.specs.Externals.{FileKnown, external_known}
use Rattle.c_types.specs.Files.{program_with}
use Rattle.c_meaning.specs.Sound.{AreProps, IsThere}
use Rattle.c_meaning.proofs.Fits.{named_is}
use Rattle.c_statement_laws.specs.Agreeing.{Agree, AreFew, IsPrefix, IsSetting, ItemBytes}
use Rattle.c_statement_laws.proofs.Inits.{none_left, none_right}
use Rattle.c_statement_laws.proofs.Names.{EntryFits, object_fits, pending_fits, setting_with}
use Rattle.c_program_laws.specs.Laws.{ExternalBytes, outside}
use Rattle.c_program_laws.proofs.Functions.{bodies_fit}
use Rattle.c_program_laws.proofs.Lists.{get_behind, get_map, get_set}
use Rattle.c_program_laws.proofs.Defining.{Declares, declares}
use Rattle.c_program_laws.proofs.Growing.{declaration_scopes, definition_scopes}
use Rattle.c_program_laws.proofs.Heads.{Fine, Headed}
use Rattle.c_program_laws.proofs.Reaching.{IsFunction, Reached, prefix_length}

mirror_fits : (c : well.Scope) (fns : List Signature) → EntryFits c fns entry.Mirror
mirror_fits c fns = record { object = λ o e. absurd (cc); signed = λ f e. absurd (cc) }

-- a function that has a signature
function_fits : (c : well.Scope) (fns : List Signature) (n : ℕ) (s : Signature) → slice_get fns n ≡ Some s → EntryFits c fns (entry.Function n)
function_fits c fns n s found = record { object = λ o e. absurd (cc); signed = λ f e. (s, (let g : f ≡ n = cc in ap (slice_get fns) g ∙ found)) }

module _ (bodies : List Scope) (last : Table) (end : FileKnown) (main : ℕ) where
  abbrev program : CProgram
  program = program_with end main

  abbrev Sets : List Scope → Type 0
  Sets env = (i : ℕ) → IsSetting (outside program i) end.known.sites last.signatures env

  -- objects of the file, one after another
  object_sets : (few : length end.globals < 4294967296) (before : ℕ) (t : IntType) (constant : Bool) (d : Declarator) (k : Known) → IsType t → slice_get end.globals before ≡ Some (object_var t constant d) →
      Sets k.scopes → Sets (object_known before t constant d k).scopes
  object_sets few before t constant d k is found s i =
      let c = outside program i in
      let x = declared_name d in
      let within : before < length end.globals = slice_get_within end.globals before (object_var t constant d) found in
      let small : number_of before ≡ before = mod-eq_of_lt (omega (arith, within, few)) in
      let there : slice_get end.globals (number_of before) ≡ Some (object_var t constant d) = ap (slice_get end.globals) small ∙ found in
      let target : Target = record { slot = slots.Global (number_of before); ty = t; length = object_length d; constant = constant } in
      let visible : IsThere c target = record { visible = omega (arith, within, small); ty = sym (ap var_type there); length = ap var_length there; type = is } in
      let one = setting_with c end.known.sites last.signatures k.scopes x.name entry.Pending (s i) (pending_fits c last.signatures) in
      setting_with c end.known.sites last.signatures (pending k x) x.name (entry.Object target) one (object_fits c last.signatures target visible (λ e. absurd (cc)))

  objects_set : (few : length end.globals < 4294967296) (before : ℕ) (t : IntType) (constant : Bool) (ds : List Declarator) (k : Known) → IsType t →
      ((j : ℕ) (d : Declarator) → slice_get ds j ≡ Some d → slice_get end.globals (before + j) ≡ Some (object_var t constant d)) → Sets k.scopes → Sets (objects_known before t constant ds k).scopes
  objects_set few before t constant [] k is found s = s
  objects_set few before t constant (d ∷ ds) k is found s =
      let here : slice_get end.globals before ≡ Some (object_var t constant d) = ap (slice_get end.globals) (let e : before ≡ before + 0 = omega arith in e) ∙ found 0 d refl in
      objects_set few (before + 1) t constant ds (object_known before t constant d k) is
      (λ j g e. ap (slice_get end.globals) (let a : (before + 1) + j ≡ before + suc j = omega arith in a) ∙ found (suc j) g e) (object_sets few before t constant d k is here s)

  -- members of the mirror
  member_sets : (at : ℕ) (m : Member) (ty : Option IntType) → m.ty ≡ ty → IfSome ty IsType → at < 65536 → slice_get (members_of end.structs.mirror) at ≡ Some m → (env : List Scope) → Sets env → Sets (with_member_of env at m ty)
  member_sets at m None e is few found env s i = s i
  member_sets at m (Some t) e is few found env s i =
      let c = outside program i in
      let small : number_of at ≡ at = mod-eq_of_lt (omega (arith, few)) in
      let there : slice_get (members_of end.structs.mirror) (number_of at) ≡ Some m = ap (slice_get (members_of end.structs.mirror)) small ∙ found in
      let target : Target = record { slot = slots.Member (number_of at); ty = t; length = m.length; constant = false } in
      let visible : IsThere c target = record {
        visible = (m, there, subst IsSome (sym e) refl);
        ty = sym (ap member_type there ∙ ap type_or_int e);
        length = ap member_length there;
        type = is;
      } in
      setting_with c end.known.sites last.signatures env m.path (entry.Object target) (s i) (object_fits c last.signatures target visible (λ f. absurd (cc)))

  members_set : (at : ℕ) (ms : List Member) → All FitsMember ms → at + length ms ≤ 65536 → ((j : ℕ) (m : Member) → slice_get ms j ≡ Some m → slice_get (members_of end.structs.mirror) (at + j) ≡ Some m) →
      (env : List Scope) → Sets env → Sets (with_members_of env at ms)
  members_set at [] fit few found env s = s
  members_set at (m ∷ ms) fit few found env s =
      let here : slice_get (members_of end.structs.mirror) at ≡ Some m = ap (slice_get (members_of end.structs.mirror)) (let e : at ≡ at + 0 = omega arith in e) ∙ found 0 m refl in
      members_set (at + 1) ms (All-tail FitsMember m ms fit) (omega (arith, few)) (λ j x e. ap (slice_get (members_of end.structs.mirror)) (let a : (at + 1) + j ≡ at + suc j = omega arith in a) ∙ found (suc j) x e)
      (with_member_of env at m m.ty) (member_sets at m m.ty refl (All-head FitsMember m ms fit).type (omega (arith, few)) here env s)

  mirror_sets : (ss : Structs) (tag name : Identifier) (o : Option MirrorDecl) → ss.mirror ≡ o → StructsFit ss → ((m : MirrorDecl) → mirror_after ss tag name o ≡ Some m → end.structs.mirror ≡ Some m) →
      (env : List Scope) → Sets env → Sets (scopes_after env ss tag name o)
  mirror_sets ss tag name (Some m) e fit stays env s = s
  mirror_sets ss tag name None e fit stays env s =
      let ms = kept (few_members ss tag name) in
      let made : MirrorDecl = record { name = name.name; place = name.place; members = ms } in
      let is : members_of end.structs.mirror ≡ ms = ap members_of (stays made refl) in
      let after : StructsFit (record { tags = ss.tags; mirror = mirror_after ss tag name ss.mirror }) = structs_keep_fitting.mirror_after ss tag name fit in
      let members : members_of (mirror_after ss tag name ss.mirror) ≡ ms = ap (λ z. members_of (mirror_after ss tag name z)) e in
      let few : length ms ≤ 65536 = subst (λ l. length l ≤ 65536) members after.few in
      members_set 0 ms (subst (All FitsMember) members after.members) (omega (arith, few))
      (λ j m h. ap (λ l. slice_get l (0 + j)) is ∙ ap (slice_get ms) (let a : 0 + j ≡ j = omega arith in a) ∙ h)
      (declare env name.name entry.Mirror) (λ i. setting_with (outside program i) end.known.sites last.signatures env name.name entry.Mirror (s i) (mirror_fits (outside program i) last.signatures))

  head_sets : (head : FunctionHead) → Headed bodies last head → (env : List Scope) → Sets env → Sets (declare env head.name.name (entry.Function (function_number last.names head.name.name)))
  head_sets head h env s i =
      setting_with (outside program i) end.known.sites last.signatures env head.name.name (entry.Function (function_number last.names head.name.name)) (s i)
      (function_fits (outside program i) last.signatures (function_number last.names head.name.name) (signature_of bodies h.first) (ap (slice_get last.signatures) h.number ∙ h.signature))

  -- what names mean, and the bodies so far
  pub record Placed (f : FileKnown) : Type 0 where
    pub sets : Sets f.known.scopes
    pub typed : (n : ℕ) (fn : Function) (b : TStmt) → slice_get f.made.functions n ≡ Some fn → fn.body ≡ Some b → FitsStmt (scope_of program n fn) b.node
    pub structs : StructsFit f.structs

  module _ (few : AreFew program end.known.sites) (few_globals : length end.globals < 4294967296) (functions : (n : ℕ) (fn : Function) → slice_get end.made.functions n ≡ Some fn → IsFunction bodies last end.known.locals n fn) (count : length end.made.functions ≡ length last.functions) where
    definition_places : (f : FileKnown) (head : FunctionHead) (body : Block) → All ItemBytes body.items → Fine bodies last end (external.Definition head body) f → Placed f → Placed (external_known last.names (external.Definition head body) f)
    definition_places f head body v fine r =
        let k = head_known last.names head f.known in
        let after = function_known head body k in
        let n = function_number last.names head.name.name in
        let os = body_offences last.names f.made.functions head body.place in
        let none = none_right os (function_offences head body k) (none_right (head_offences f.known head) (os ++ function_offences head body k) fine.none) in
        let h : Headed bodies last head = fine.heads in
        let number : n ≡ h.place = h.number in
        let within : h.place < length last.functions = slice_get_within last.functions h.place (without_body h.first) h.function in
        let last_one = get_or end.made.functions n (defined head body k) in
        let there : slice_get end.made.functions n ≡ Some last_one = slice_get-get_or end.made.functions n (defined head body k) (omega (arith, within, number, count)) in
        let is = functions n last_one there in
        let same : without_body is.head ≡ without_body h.first = (let e : Some (without_body is.head) ≡ Some (without_body h.first) = sym is.function ∙ ap (slice_get last.functions) number ∙ h.function in cc) in
        let d : Declares head body k = declares head body k none in
        let bound : length after.locals ≤ length end.known.locals = prefix_length after.locals end.known.locals fine.grows.locals in
        let counted : length after.locals ≡ length k.locals + (length d.params + length d.own) = ap length d.objects ∙ length-append k.locals (d.params ++ d.own) ∙ ap (λ m. length k.locals + m) (length-append d.params d.own) in
        let size : length k.locals + length head.parameters < 4294967296 = (let c = d.count in let z = few.locals in omega (arith, bound, counted, c, z)) in
        let set : Sets k.scopes = head_sets head h f.known.scopes r.sets in
        let setting : IsSetting (outside program n) end.known.sites k.fns k.scopes = subst (λ l. IsSetting (outside program n) end.known.sites l k.scopes) (sym fine.fns) (set n) in
        let fits : FitsStmt (scope_of program n (defined head body k)) (SBlock (function_typed head body k)) =
        bodies_fit program end.known.sites few n last_one head body k there (is.result ∙ ap (λ (z : Function). z.result) same ∙ h.result) setting size fine.grows.locals fine.grows.sites none v in
        record {
          sets = subst Sets (sym (definition_scopes last.names head body f.known)) set;
          typed = λ m fn b g e. at m fn b fits (get_set f.made.functions n m (defined head body k) fn g) e;
          structs = r.structs;
        }
      where
        at : (m : ℕ) (fn : Function) (b : TStmt) →
            FitsStmt (scope_of program (function_number last.names head.name.name) (defined head body (head_known last.names head f.known))) (SBlock (function_typed head body (head_known last.names head f.known))) →
            ((m ≡ function_number last.names head.name.name) × (fn ≡ defined head body (head_known last.names head f.known))) ⊎ (slice_get f.made.functions m ≡ Some fn) → fn.body ≡ Some b → FitsStmt (scope_of program m fn) b.node
        at m fn b fits (inr g) e = r.typed m fn b g e
        at m fn b fits (inl g) e =
            let new = defined head body (head_known last.names head f.known) in
            let made : TStmt = record { place = body.place; node = SBlock (function_typed head body (head_known last.names head f.known)) } in
            let is : made ≡ b = (let x : Some made ≡ Some b = ap (λ (z : Function). z.body) (sym g.1) ∙ e in cc) in
            subst (λ z. FitsStmt (scope_of program z fn) b.node) (sym g.0) (subst (λ z. FitsStmt (scope_of program (function_number last.names head.name.name) z) b.node) (sym g.1)
            (subst (λ (z : TStmt). FitsStmt (scope_of program (function_number last.names head.name.name) new) z.node) is fits))

    pub external_places : (x : External) (f : FileKnown) → ExternalBytes x → Fine bodies last end x f → Placed f → Placed (external_known last.names x f)
    external_places (external.Struct p tag ms) f v fine r = record { sets = r.sets; typed = r.typed; structs = structs_keep_fitting.struct_after f.structs tag ms r.structs }
    external_places (external.Mirror p tag x) f v fine r = record {
      sets = mirror_sets f.structs tag x f.structs.mirror refl r.structs fine.grows.mirror f.known.scopes r.sets;
      typed = r.typed;
      structs = structs_keep_fitting.mirror_after f.structs tag x r.structs;
    }
    external_places (external.Bound p ty x) f v fine r = record {
      sets = λ i.
          let c = outside program i in
          let target : Target = record { slot = slots.BoundValue; ty = unsigned_int; length = 0; constant = true } in
          let visible : IsThere c target = record { visible = tt; ty = refl; length = refl; type = Single false } in
          setting_with c end.known.sites last.signatures f.known.scopes x.name (entry.Object target) (r.sets i) (object_fits c last.signatures target visible (λ e. refl));
      typed = r.typed;
      structs = r.structs;
    }
    external_places (external.Function head) f v fine r = record {
      sets = subst Sets (sym (declaration_scopes last.names head f.known)) (head_sets head fine.heads f.known.scopes r.sets);
      typed = r.typed;
      structs = r.structs;
    }
    external_places (external.Definition head body) f v fine r = definition_places f head body v fine r
    external_places (external.Objects g) f v fine r =
        let t = named g.type_name.integer in
        let constant = is_some g.constant in
        record {
          sets = objects_set few_globals (length f.globals) t constant g.declarators f.known (named_is g.type_name.integer)
              (λ j d e. fine.grows.globals (length f.globals + j) (object_var t constant d) (get_behind f.globals (map (object_var t constant) g.declarators) j ∙ get_map (object_var t constant) g.declarators j d e)) r.sets;
          typed = r.typed;
          structs = r.structs;
        }
