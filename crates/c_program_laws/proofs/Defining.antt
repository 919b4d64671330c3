-- What a function with a body adds to a file: its parameters, what its body declares, and its properties.
use Rattle.std.proofs.Common.{◌≡◌, ℕ, zero, suc, ◌+◌, ◌<◌, List, [], ◌∷◌, ◌++◌, length, Bool, refl, sym, ap, subst, ◌∙◌, arith, length-append}
use Rattle.std.specs.Prelude.{All, Option, Some, None, slice_get}
use Rattle.std.proofs.lemmas.List.{append_assoc, length-map}
use Rattle.std.proofs.lemmas.List.Elements.{All-append, All-cons, All-nil}
use Rattle.src_text.specs.declared.refusal.Place.{Place}
use Rattle.c_tree.specs.declared.declarations.FunctionHead.{FunctionHead}
use Rattle.c_tree.specs.declared.declarations.Parameter.{Parameter}
use Rattle.c_tree.specs.declared.names.Identifier.{Identifier}
use Rattle.c_tree.specs.declared.statements.Block.{Block}
use Rattle.c_tree.specs.Starts.{parameter_start}
use Rattle.joint_ir.specs.declared.ctype.IntType.{IntType}
use Rattle.joint_ir.specs.declared.program.PropKind.TheVariants as kind
use Rattle.joint_ir.specs.declared.program.Var.{Var}
use Rattle.joint_ir.specs.declared.stmt.SNode.{Block as SBlock}
use Rattle.joint_ir.specs.Types.{IsType}
use Rattle.joint_ir.specs.WellFormed.{FitsVar, declared_in, places_from}
use Rattle.joint_lists.specs.Own.{declared_items}
use Rattle.c_words.specs.declared.notes.Site.{Site}
use Rattle.c_words.specs.Types.{named}
use Rattle.c_statements.specs.Known.{Known, enter}
use Rattle.c_statements.specs.Statements.{is_some, items_known, items_offences, items_typed, own, var_of}
use Rattle.c_functions.specs.Heads.{parameter_types}
use Rattle.c_functions.specs.Definitions.{around_of, function_known, function_offences, function_typed, inside, param_known, param_known_as, param_offences, param_offences_as, params_known, params_offences}
use Rattle.c_meaning.proofs.Fits.{named_is}
use Rattle.c_statement_laws.proofs.Inits.{none_left, none_right}
use Rattle.c_statement_laws.proofs.Labels.{append_none}
use Rattle.c_program_laws.proofs.Quiet.{AreQuiet}
use Rattle.c_program_laws.proofs.Adding.{Adds, adds_items, block_declares, var_fits}
use Rattle.c_program_laws.proofs.Functions.{unnamed}

-- a parameter, by its place: its type, and that it is no array
abbrev pub IsParameter : List Var → (i : ℕ) → IntType → Type 0
IsParameter vars i t = (v : Var) × (slice_get vars i ≡ Some v) × (v.ty ≡ t) × (v.length ≡ 0) × IsType t

-- parameters of these types
pub record Parameters (ts : List IntType) (old new : Known) : Type 0 where
  pub vars : List Var
  pub objects : new.locals ≡ old.locals ++ vars
  pub same_sites : new.sites ≡ old.sites
  pub count : length vars ≡ length ts
  pub typed : (i : ℕ) (t : IntType) → slice_get ts i ≡ Some t → IsParameter vars i t
  pub fit : All FitsVar vars

parameter_then : (ts : List IntType) (last : Known) (q : Place) (t : IntType) (constant : Bool) (n : Option Identifier) → IsType t → (k : Known) → param_offences_as q n k ≡ [] →
    Parameters ts (param_known_as t constant n k) last → Parameters (t ∷ ts) k last
parameter_then ts last q t constant None is k none rest = absurd (unnamed q none)
parameter_then ts last q t constant (Some x) is k none rest =
    let v = var_of t 0 constant x in
    record {
      vars = v ∷ rest.vars;
      objects = rest.objects ∙ append_assoc k.locals (v ∷ []) rest.vars;
      same_sites = rest.same_sites;
      count = ap suc rest.count;
      typed = typed;
      fit = All-cons FitsVar v rest.vars (var_fits t 0 constant x is) rest.fit;
    }
  where
    typed : (i : ℕ) (u : IntType) → slice_get (t ∷ ts) i ≡ Some u → IsParameter (var_of t 0 constant x ∷ rest.vars) i u
    typed zero u h = let e : t ≡ u = cc in (var_of t 0 constant x, refl, e, refl, subst IsType e is)
    typed (suc i) u h = rest.typed i u h

parameters_add : (ps : List Parameter) (k : Known) → params_offences k ps ≡ [] → Parameters (parameter_types ps) k (params_known ps k)
parameters_add [] k none = record { vars = []; objects = sym (append_none k.locals); same_sites = refl; count = refl; typed = λ i t h. absurd (cc); fit = All-nil FitsVar }
parameters_add (q ∷ ps) k none =
    let next = param_known q k in
    parameter_then (parameter_types ps) (params_known ps next) (parameter_start q) (named q.type_name.integer) (is_some q.constant) q.name (named_is q.type_name.integer) k
    (none_left (param_offences k q) (params_offences next ps) none) (parameters_add ps next (none_right (param_offences k q) (params_offences next ps) none))

-- the property of a function
abbrev pub recursion_site : FunctionHead → Site
recursion_site head = record { kind = kind.Recursion; place = head.name.place }

pub record Declares (head : FunctionHead) (body : Block) (k : Known) : Type 0 where
  pub params : List Var
  pub own : List Var
  pub objects : (function_known head body k).locals ≡ k.locals ++ (params ++ own)
  pub count : length params ≡ length head.parameters
  pub typed : (i : ℕ) (t : IntType) → slice_get (parameter_types head.parameters) i ≡ Some t → IsParameter params i t
  pub fit : All FitsVar (params ++ own)
  pub sites : List Site
  pub more : (function_known head body k).sites ≡ k.sites ++ recursion_site head ∷ sites
  pub quiet : AreQuiet sites
  pub places : length (function_known head body k).locals < 4294967296 → declared_in (SBlock (function_typed head body k)) ≡ places_from (length k.locals + length head.parameters) (length own)

pub declares : (head : FunctionHead) (body : Block) (k : Known) → function_offences head body k ≡ [] → Declares head body k
declares head body k none =
    let ps = head.parameters in
    let first = own kind.Recursion head.name.place (enter k) in
    let within = inside head k in
    let made = parameters_add ps first (none_left (params_offences first ps) (items_offences (around_of head) within body.items) none) in
    let added : Adds within (items_known body.items within) (declared_items (items_typed (around_of head) within body.items)) = adds_items (around_of head) within body.items in
    let count : length made.vars ≡ length ps = made.count ∙ length-map ps (λ (p : Parameter). named p.type_name.integer) in
    record {
      params = made.vars;
      own = added.vars;
      objects = added.objects ∙ ap (λ l. l ++ added.vars) made.objects ∙ append_assoc k.locals made.vars added.vars;
      count = count;
      typed = made.typed;
      fit = All-append FitsVar made.vars added.vars made.fit added.fit;
      sites = added.sites;
      more = added.more ∙ ap (λ s. s ++ added.sites) made.same_sites ∙ append_assoc k.sites (recursion_site head ∷ []) added.sites;
      quiet = added.quiet;
      places = λ few.
          block_declares (function_typed head body k)
          ∙ added.places few
          ∙ ap (λ n. places_from n (length added.vars)) (ap length made.objects ∙ length-append k.locals made.vars ∙ ap (λ n. length k.locals + n) count);
    }
