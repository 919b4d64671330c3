-- What an external declaration leaves as it was: what stood in lists, the mirror, the bodies of functions, and the scope of the file.
use Rattle.std.proofs.Common.{◌≡◌, ℕ, zero, suc, ◌+◌, ◌<◌, List, [], ◌∷◌, ◌++◌, length, map, Bool, refl, sym, ap, subst, ◌∙◌, inl, inr}
use Rattle.std.proofs.lemmas.List.{length-set}
use Rattle.std.specs.Prelude.{◌⊎◌, IsSome, Option, Some, None, slice_get, slice_set}
use Rattle.std.proofs.lemmas.Option.{slice_get-get_or}
use Rattle.c_tree.specs.declared.declarations.Declarator.{Declarator}
use Rattle.c_tree.specs.declared.declarations.FunctionHead.{FunctionHead}
use Rattle.c_tree.specs.declared.declarations.Parameter.{Parameter}
use Rattle.c_tree.specs.declared.file.External.{External}
use Rattle.c_tree.specs.declared.file.External.TheVariants as external
use Rattle.c_tree.specs.declared.names.Identifier.{Identifier}
use Rattle.c_tree.specs.declared.statements.Block.{Block}
use Rattle.c_tree.specs.declared.statements.BlockItem.{BlockItem}
use Rattle.joint_ir.specs.declared.ctype.IntType.{IntType}
use Rattle.joint_ir.specs.declared.program.Function.{Function}
use Rattle.joint_ir.specs.declared.program.MirrorDecl.{MirrorDecl}
use Rattle.joint_ir.specs.declared.program.PropKind.TheVariants as kind
use Rattle.joint_ir.specs.declared.program.Var.{Var}
use Rattle.c_words.specs.declared.notes.Site.{Site}
use Rattle.c_words.specs.Types.{named}
use Rattle.c_names.specs.declared.scope.Entry.TheVariants as entry
use Rattle.c_names.specs.Scope.{Scope, declare, leave}
use Rattle.c_structs.specs.Mirror.{mirror_after}
use Rattle.c_statements.specs.Known.{Known, enter, leave_scope}
use Rattle.c_statements.specs.Statements.{declared_name, is_some, items_known, known_after_item, local_entry, own, pending, site_at}
use Rattle.c_functions.specs.Tables.{function_number}
use Rattle.c_functions.specs.Declarations.{declaration_known, head_known, name_known, names_known}
use Rattle.c_functions.specs.Definitions.{defined, definition_known, function_known, inside, param_known, param_known_as, params_known}
use Rattle.c_objects.specs.Objects.{object_known, object_var, objects_known}
use Rattle.c_types.specs.Externals.{FileKnown, external_known, externals_known}
use Rattle.c_statement_laws.specs.Agreeing.{IsPrefix}
use Rattle.c_statement_laws.proofs.Declaring.{prefix_append, prefix_then}
use Rattle.c_statement_laws.proofs.Blocks.{Grows, grows_items, grows_more, grows_then, item_leave, leave_declare}
use Rattle.c_program_laws.proofs.Functions.{params_fns, params_grow}
use Rattle.c_program_laws.proofs.Lists.{get_set_same, kept_set}

same_prefix : {A : Type 0} (xs ys : List A) → ys ≡ xs → IsPrefix xs ys
same_prefix xs ys e = subst (IsPrefix xs) (sym e) (λ i x h. h)

-- parameters, with and without a body
param_sites : (t : IntType) (constant : Bool) (n : Option Identifier) (k : Known) → (param_known_as t constant n k).sites ≡ k.sites
param_sites t constant None k = refl
param_sites t constant (Some x) k = refl

params_sites : (ps : List Parameter) (k : Known) → (params_known ps k).sites ≡ k.sites
params_sites [] k = refl
params_sites (q ∷ ps) k = params_sites ps (param_known q k) ∙ param_sites (named q.type_name.integer) (is_some q.constant) q.name k

param_leave : (t : IntType) (constant : Bool) (n : Option Identifier) (k : Known) → leave (param_known_as t constant n k).scopes ≡ leave k.scopes
param_leave t constant None k = refl
param_leave t constant (Some x) k =
    leave_declare (pending k x) x.name (local_entry (length k.locals) t 0 constant) ∙ leave_declare k.scopes x.name entry.Pending

params_leave : (ps : List Parameter) (k : Known) → leave (params_known ps k).scopes ≡ leave k.scopes
params_leave [] k = refl
params_leave (q ∷ ps) k = params_leave ps (param_known q k) ∙ param_leave (named q.type_name.integer) (is_some q.constant) q.name k

items_leave : (xs : List BlockItem) (k : Known) → leave (items_known xs k).scopes ≡ leave k.scopes
items_leave [] k = refl
items_leave (x ∷ xs) k = items_leave xs (known_after_item x k) ∙ item_leave x k

function_grows : (head : FunctionHead) (body : Block) (k : Known) → Grows k (function_known head body k)
function_grows head body k =
    let first = own kind.Recursion head.name.place (enter k) in
    let within = inside head k in
    let params : Grows first within = record { fns = params_fns head.parameters first; locals = params_grow head.parameters first; sites = same_prefix first.sites within.sites (params_sites head.parameters first) } in
    let made = grows_then (enter k) first (items_known body.items within) (grows_more (enter k) (site_at kind.Recursion head.name.place))
    (grows_then first within (items_known body.items within) params (grows_items body.items within)) in
    record { fns = made.fns; locals = made.locals; sites = made.sites }

function_scopes : (head : FunctionHead) (body : Block) (k : Known) → (function_known head body k).scopes ≡ k.scopes
function_scopes head body k = items_leave body.items (inside head k) ∙ params_leave head.parameters (own kind.Recursion head.name.place (enter k))

pub definition_scopes : (names : List Scope) (head : FunctionHead) (body : Block) (k : Known) → (definition_known names head body k).scopes ≡ declare k.scopes head.name.name (entry.Function (function_number names head.name.name))
definition_scopes names head body k = function_scopes head body (head_known names head k)

record OnlyScopes (old new : Known) : Type 0 where
  fns : new.fns ≡ old.fns
  locals : new.locals ≡ old.locals
  sites : new.sites ≡ old.sites

name_only : (n : Option Identifier) (k : Known) → OnlyScopes k (name_known n k)
name_only None k = record { fns = refl; locals = refl; sites = refl }
name_only (Some x) k = record { fns = refl; locals = refl; sites = refl }

names_only : (ps : List Parameter) (k : Known) → OnlyScopes k (names_known ps k)
names_only [] k = record { fns = refl; locals = refl; sites = refl }
names_only (q ∷ ps) k =
    let one = name_only q.name k in
    let rest = names_only ps (name_known q.name k) in
    record { fns = rest.fns ∙ one.fns; locals = rest.locals ∙ one.locals; sites = rest.sites ∙ one.sites }

name_leave : (n : Option Identifier) (k : Known) → leave (name_known n k).scopes ≡ leave k.scopes
name_leave None k = refl
name_leave (Some x) k = leave_declare k.scopes x.name entry.Pending

names_leave : (ps : List Parameter) (k : Known) → leave (names_known ps k).scopes ≡ leave k.scopes
names_leave [] k = refl
names_leave (q ∷ ps) k = names_leave ps (name_known q.name k) ∙ name_leave q.name k

pub declaration_scopes : (names : List Scope) (head : FunctionHead) (k : Known) → (declaration_known names head k).scopes ≡ declare k.scopes head.name.name (entry.Function (function_number names head.name.name))
declaration_scopes names head k = names_leave head.parameters (enter (head_known names head k))

-- what stands behind a declaration of a function is what stood before it
pub record SameLists (old new : Known) : Type 0 where
  pub fns : new.fns ≡ old.fns
  pub locals : new.locals ≡ old.locals
  pub sites : new.sites ≡ old.sites

pub declaration_lists : (names : List Scope) (head : FunctionHead) (k : Known) → SameLists k (declaration_known names head k)
declaration_lists names head k = let made = names_only head.parameters (enter (head_known names head k)) in record { fns = made.fns; locals = made.locals; sites = made.sites }

pub objects_lists : (before : ℕ) (t : IntType) (constant : Bool) (ds : List Declarator) (k : Known) → SameLists k (objects_known before t constant ds k)
objects_lists before t constant [] k = record { fns = refl; locals = refl; sites = refl }
objects_lists before t constant (d ∷ ds) k =
    let rest = objects_lists (before + 1) t constant ds (object_known before t constant d k) in
    record { fns = rest.fns; locals = rest.locals; sites = rest.sites }

-- what stands in a file before some declarations, stands behind them too
pub record FileGrows (old new : FileKnown) : Type 0 where
  pub fns : new.known.fns ≡ old.known.fns
  pub locals : IsPrefix old.known.locals new.known.locals
  pub sites : IsPrefix old.known.sites new.known.sites
  pub globals : IsPrefix old.globals new.globals
  pub mirror : (m : MirrorDecl) → old.structs.mirror ≡ Some m → new.structs.mirror ≡ Some m
  pub bodies : (n : ℕ) (fn : Function) → slice_get old.made.functions n ≡ Some fn → IsSome fn.body → (g : Function) × (slice_get new.made.functions n ≡ Some g) × IsSome g.body
  pub count : length new.made.functions ≡ length old.made.functions

same_file : (old new : FileKnown) → SameLists old.known new.known → IsPrefix old.globals new.globals → ((m : MirrorDecl) → old.structs.mirror ≡ Some m → new.structs.mirror ≡ Some m) →
    new.made.functions ≡ old.made.functions → FileGrows old new
same_file old new same globals mirror functions = record {
  fns = same.fns;
  locals = same_prefix old.known.locals new.known.locals same.locals;
  sites = same_prefix old.known.sites new.known.sites same.sites;
  globals = globals;
  mirror = mirror;
  bodies = λ n fn h g. (fn, ap (λ fs. slice_get fs n) functions ∙ h, g);
  count = ap length functions;
}

unmoved : (k : Known) → SameLists k k
unmoved k = record { fns = refl; locals = refl; sites = refl }

with_body_stays : (fs : List Function) (n : ℕ) (made : Function) → IsSome made.body → (m : ℕ) (fn : Function) → slice_get fs m ≡ Some fn → IsSome fn.body →
    (g : Function) × (slice_get (slice_set fs n made) m ≡ Some g) × IsSome g.body
with_body_stays fs n made some m fn h is = pick (kept_set fs n m made fn h)
  where
    pick : (slice_get (slice_set fs n made) m ≡ Some made) ⊎ (slice_get (slice_set fs n made) m ≡ Some fn) → (g : Function) × (slice_get (slice_set fs n made) m ≡ Some g) × IsSome g.body
    pick (inl e) = (made, e, some)
    pick (inr e) = (fn, e, is)

pub external_grows : (names : List Scope) (x : External) (f : FileKnown) → FileGrows f (external_known names x f)
external_grows names (external.Struct p tag ms) f = same_file f (external_known names (external.Struct p tag ms) f) (unmoved f.known) (λ i x h. h) (λ m h. h) refl
external_grows names (external.Mirror p tag x) f =
    same_file f (external_known names (external.Mirror p tag x) f) (record { fns = refl; locals = refl; sites = refl }) (λ i x h. h) (λ m h. ap (mirror_after f.structs tag x) h) refl
external_grows names (external.Bound p ty x) f = same_file f (external_known names (external.Bound p ty x) f) (record { fns = refl; locals = refl; sites = refl }) (λ i x h. h) (λ m h. h) refl
external_grows names (external.Function head) f = same_file f (external_known names (external.Function head) f) (declaration_lists names head f.known) (λ i x h. h) (λ m h. h) refl
external_grows names (external.Definition head body) f =
    let made = function_grows head body (head_known names head f.known) in
    record {
      fns = made.fns;
      locals = made.locals;
      sites = made.sites;
      globals = λ i x h. h;
      mirror = λ m h. h;
      bodies = λ n fn h g. with_body_stays f.made.functions (function_number names head.name.name) (defined head body (head_known names head f.known)) refl n fn h g;
      count = length-set f.made.functions (function_number names head.name.name) (defined head body (head_known names head f.known));
    }
external_grows names (external.Objects g) f =
    let t = named g.type_name.integer in
    let constant = is_some g.constant in
    same_file f (external_known names (external.Objects g) f) (objects_lists (length f.globals) t constant g.declarators f.known) (prefix_append f.globals (map (object_var t constant) g.declarators)) (λ m h. h) refl

file_then : (a b c : FileKnown) → FileGrows a b → FileGrows b c → FileGrows a c
file_then a b c f g = record {
  fns = g.fns ∙ f.fns;
  locals = prefix_then a.known.locals b.known.locals c.known.locals f.locals g.locals;
  sites = prefix_then a.known.sites b.known.sites c.known.sites f.sites g.sites;
  globals = prefix_then a.globals b.globals c.globals f.globals g.globals;
  mirror = λ m h. g.mirror m (f.mirror m h);
  bodies = λ n fn h is. let one = f.bodies n fn h is in g.bodies n one.0 one.1 one.2;
  count = g.count ∙ f.count;
}

pub externals_grow : (names : List Scope) (xs : List External) (f : FileKnown) → FileGrows f (externals_known names xs f)
externals_grow names [] f = record { fns = refl; locals = λ i x h. h; sites = λ i x h. h; globals = λ i x h. h; mirror = λ m h. h; bodies = λ n fn h g. (fn, h, g); count = refl }
externals_grow names (x ∷ xs) f =
    let next = external_known names x f in
    file_then f next (externals_known names xs next) (external_grows names x f) (externals_grow names xs next)

-- a function that a definition gives a body has one at the end
pub defined_after : (names : List Scope) (xs : List External) (f : FileKnown) (i : ℕ) (head : FunctionHead) (body : Block) → slice_get xs i ≡ Some (external.Definition head body) →
    function_number names head.name.name < length f.made.functions → (g : Function) × (slice_get (externals_known names xs f).made.functions (function_number names head.name.name) ≡ Some g) × IsSome g.body
defined_after names [] f i head body h within = absurd (cc)
defined_after names (x ∷ xs) f zero head body h within =
    let k = head_known names head f.known in
    let n = function_number names head.name.name in
    let new = defined head body k in
    let is : x ≡ external.Definition head body = cc in
    let stands = slice_get-get_or f.made.functions n new within in
    let set : slice_get (external_known names (external.Definition head body) f).made.functions n ≡ Some new = get_set_same f.made.functions n _ new stands in
    (externals_grow names xs (external_known names x f)).bodies n new (ap (λ y. slice_get (external_known names y f).made.functions n) is ∙ set) refl
defined_after names (x ∷ xs) f (suc i) head body h within =
    defined_after names xs (external_known names x f) i head body h (subst (λ n. function_number names head.name.name < n) (sym (external_grows names x f).count) within)
