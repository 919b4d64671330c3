-- Objects leave as many scopes as there were.
use Rattle.std.proofs.Common.{◌≡◌, ℕ, ◌+◌, List, [], ◌∷◌, length, refl, ◌∙◌}
use Rattle.std.specs.Prelude.{Bool}
use Rattle.c_tree.specs.declared.declarations.Declarator.{Declarator}
use Rattle.c_tree.specs.declared.declarations.Globals.{Globals}
use Rattle.joint_ir.specs.declared.ctype.IntType.{IntType}
use Rattle.c_words.specs.Types.{named}
use Rattle.c_names.specs.declared.scope.Entry.{Entry}
use Rattle.c_names.specs.declared.scope.Entry.TheVariants as entry
use Rattle.c_names.specs.Scope.{Scope, declare}
use Rattle.c_statements.specs.Known.{Known}
use Rattle.c_statements.specs.Statements.{is_some, declared_name, pending}
use Rattle.c_objects.specs.Objects.{global_entry, object_length, object_known, objects_known, globals_known}

declare_length : (env : List Scope) (n : List ℕ) (e : Entry) → length (declare env n e) ≡ length env
declare_length [] n e = refl
declare_length (s ∷ env) n e = refl

objects_depth : (before : ℕ) (t : IntType) (constant : Bool) (ds : List Declarator) (k : Known) → length (objects_known before t constant ds k).scopes ≡ length k.scopes
objects_depth before t constant [] k = refl
objects_depth before t constant (d ∷ ds) k =
    objects_depth (before + 1) t constant ds (object_known before t constant d k)
    ∙ declare_length (pending k (declared_name d)) (declared_name d).name (global_entry before t constant (object_length d))
    ∙ declare_length k.scopes (declared_name d).name entry.Pending

pub globals_depth : (before : ℕ) (g : Globals) (k : Known) → length (globals_known before g k).scopes ≡ length k.scopes
globals_depth before g k = objects_depth before (named g.type_name.integer) (is_some g.constant) g.declarators k
