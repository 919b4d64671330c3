-- Where a storage class and a file begin, as their looks say.
use Rattle.std.proofs.Common.{◌≡◌, List, [], ◌∷◌, refl, ap, unwrap_or}
use Rattle.std.specs.Option.{option_or}
use Rattle.std.specs.declared.option.Option.TheVariants.{None, Some}
use Rattle.src_text.specs.declared.refusal.Place.{Place}
use Rattle.c_tree.specs.declared.declarations.Storage.{Storage}
use Rattle.c_tree.specs.declared.declarations.Storage.TheVariants as storage
use Rattle.c_tree.specs.declared.file.External.{External}
use Rattle.c_tree.specs.Nodes.{external_trees}
use Rattle.c_tree.specs.Starts.{external_start, first_start, storage_start}
use Rattle.src_text.specs.Trees.{none, also, one, all_trees}
use Rattle.node_places.proofs.Looks.{PlaceLook, first_in}
use Rattle.node_places.proofs.Beside.{end1, looks}
use Rattle.c_depth.proofs.Values.{storage_first}

pub storage_or : (class : Storage) (p : Place) → Some (storage_start class p) ≡ option_or (storage_first class) (Some p)
storage_or storage.Unspecified p = refl
storage_or (storage.Extern q) p = refl
storage_or (storage.Static q) p = refl

-- the file
pub whole : (nothing : Place) (xs : List External) (rest : List PlaceLook) → let first = option_or (first_in external_start xs) None in
    looks (first_in external_start xs) (one (first_start xs nothing) (all_trees external_trees xs)) ∷ rest ≡ looks first (one (unwrap_or first nothing) (also (all_trees external_trees xs) none)) ∷ rest
whole nothing [] rest = refl
whole nothing (x ∷ xs) rest = ap (λ z. looks (Some (external_start x)) (one (external_start x) z) ∷ rest) (end1 (also (external_trees x) (all_trees external_trees xs)))
