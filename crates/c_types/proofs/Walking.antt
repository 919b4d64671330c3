-- External declarations, one after another.
use Rattle.std.proofs.Common.{◌≡◌, ℕ, ◌+◌, ◌<◌, List, ◌∷◌, length, drop, get_or, refl, sym, ap, subst, ◌∙◌, arith}
use Rattle.std.specs.Prelude.{None}
use Rattle.std.proofs.lemmas.List.{drop_more}
use Rattle.c_tree.specs.declared.file.CTree.{CTree}
use Rattle.c_tree.specs.declared.file.External.{External}
use Rattle.c_tree.specs.declared.file.External.TheVariants as external
use Rattle.offence_order.specs.Order.{first_of}
use Rattle.offence_order.proofs.Firsts.{first_of-append}
use Rattle.c_names.specs.Scope.{Scope}
use Rattle.c_functions.specs.Tables.{table_of, function_number}
use Rattle.c_functions.proofs.Depths.{declaration_depth, definition_depth}
use Rattle.c_objects.proofs.Depths.{globals_depth}
use Rattle.c_structs.proofs.Fitting.{depths_stay}
use Rattle.c_types.specs.declared.file.FileTyper.{FileTyper}
use Rattle.c_types.specs.declared.file.Typed.{Typed}
use Rattle.c_types.specs.Externals.{FileKnown, file_known, FileGoes, external_known, external_offences, externals_known, externals_offences}
use Rattle.c_types.specs.Files.{at_start, no_main_offences, program_with, main_name}
use Rattle.c_types.specs.Ends.{IsTypedFile, IsStart, FileSoFar}

external_depth : (names : List Scope) (x : External) (f : FileKnown) → length (external_known names x f).known.scopes ≡ length f.known.scopes
external_depth names (external.Struct p tag ms) f = refl
external_depth names (external.Mirror p tag x) f = depths_stay.mirror_depth f.known.scopes f.structs tag x
external_depth names (external.Bound p ty x) f = depths_stay.bound_depth f.known.scopes x
external_depth names (external.Function head) f = declaration_depth names head f.known
external_depth names (external.Definition head body) f = definition_depth names head body f.known
external_depth names (external.Objects g) f = globals_depth (length f.globals) g f.known

pub file_next : (names : List Scope) (old now new : FileTyper) (xs : List External) (i : ℕ) (x : External) → i < length xs → x ≡ get_or xs i x → FileSoFar names old now xs i →
    FileGoes now new (external_offences names x (file_known now)) (external_known names x (file_known now)) → FileSoFar names old new xs (i + 1)
file_next names old now new xs i x lt is h g =
    let rest : List External = drop (i + 1) xs in
    let split : drop i xs ≡ x ∷ rest = drop_more xs i x lt ∙ ap (λ q. q ∷ rest) (sym is) in
    let k = external_known names x (file_known now) in
    record {
      first_so =
          h.first_so
          ∙ ap (λ l. first_of now.typer.notes.first (externals_offences names l (file_known now))) split
          ∙ first_of-append now.typer.notes.first (external_offences names x (file_known now)) (externals_offences names rest k)
          ∙ ap (λ f. first_of f (externals_offences names rest k)) (sym g.first)
          ∙ ap (λ q. first_of new.typer.notes.first (externals_offences names rest q)) (sym g.known);
      known_so = h.known_so ∙ ap (λ l. externals_known names l (file_known now)) split ∙ ap (externals_known names rest) (sym g.known);
      stands = subst (λ n. 0 < n) (sym (ap (λ (q : FileKnown). length q.known.scopes) g.known ∙ external_depth names x (file_known now))) h.stands;
    }

pub start_stands : (xs : List External) (names : List Scope) (f : FileTyper) → IsStart xs names f → 0 < length f.typer.scopes
start_stands xs names f h =
    let e : length f.typer.scopes ≡ 1 = ap (λ (q : FileKnown). length q.known.scopes) h.known in
    omega (arith, e)

-- a file that was gone through
pub run_typed : (tree : CTree) (xs : List External) (names : List Scope) (f0 f1 f2 : FileTyper) (main : ℕ) (t : Typed) → xs ≡ tree.externals → IsStart xs names f0 →
    FileGoes f0 f1 (externals_offences names xs (file_known f0)) (externals_known names xs (file_known f0)) → FileGoes f1 f2 (no_main_offences tree) (file_known f1) →
    main ≡ function_number names main_name → t.first ≡ f2.typer.notes.first → t.program ≡ program_with (file_known f2) main → IsTypedFile tree t
run_typed tree xs names f0 f1 f2 main t is_xs s g h is_main is_first is_program =
    let end = no_main_offences tree in
    let offences : externals_offences names xs (file_known f0) ≡ externals_offences (table_of tree.externals).names tree.externals (at_start tree.externals) =
    ap (λ n. externals_offences n xs (file_known f0)) s.names_are
    ∙ ap (externals_offences (table_of xs).names xs) s.known
    ∙ ap (λ l. externals_offences (table_of l).names l (at_start l)) is_xs in
    let known : externals_known names xs (file_known f0) ≡ externals_known (table_of tree.externals).names tree.externals (at_start tree.externals) =
    ap (λ n. externals_known n xs (file_known f0)) s.names_are
    ∙ ap (externals_known (table_of xs).names xs) s.known
    ∙ ap (λ l. externals_known (table_of l).names l (at_start l)) is_xs in
    let number : main ≡ function_number (table_of tree.externals).names main_name =
    is_main ∙ ap (λ n. function_number n main_name) s.names_are ∙ ap (λ l. function_number (table_of l).names main_name) is_xs in
    record {
      first =
          is_first
          ∙ h.first
          ∙ ap (λ f. first_of f end) (g.first ∙ ap (λ f. first_of f (externals_offences names xs (file_known f0))) s.first ∙ ap (first_of None) offences)
          ∙ sym (first_of-append None (externals_offences (table_of tree.externals).names tree.externals (at_start tree.externals)) end);
      program = is_program ∙ ap (λ q. program_with q main) (h.known ∙ g.known ∙ known) ∙ ap (program_with (externals_known (table_of tree.externals).names tree.externals (at_start tree.externals))) number;
    }
