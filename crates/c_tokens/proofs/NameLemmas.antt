-- A map of names, as the function from each name to what it stands for.
use Rattle.std.proofs.Common.{◌≡◌, ℕ, Bool, true, false, cond, List, [], Option, None, Some, refl, ◌∙◌, ap}
use Rattle.std.proofs.Math.Path.{fun_ext}
use Rattle.std.specs.Option.{option_map}
use Rattle.std.specs.Map.{lookup, update}
use Rattle.std.specs.Ordering.{nat_cmp}
use Rattle.std.specs.Str.{bytes_eq}
use Rattle.std.specs.Cmp.Lexicographic.{slice_cmp}
use Rattle.std.specs.BTreeMap.{BTreeMap, get_by, is_at, UpdatesBy}
use Rattle.std.proofs.lemmas.Map.Text.{btree_map_updates_str}
use denote.Ref.{Bor}
use Rattle.text_scan.specs.declared.scanner.Token.{Token}
use Rattle.c_tokens.specs.Reading.{names_of}

mapped : (t : Bool) (constant : Bor (List Token)) (old : Option (Bor (List Token))) →
    option_map (λ (b : Bor (List Token)). b.now) (cond t (Some constant) old) ≡ cond t (Some constant.now) (option_map (λ (b : Bor (List Token)). b.now) old)
mapped true constant old = refl
mapped false constant old = refl

-- a name more
pub names_of-insert : (old new : BTreeMap (Bor (List ℕ)) (Bor (List Token))) (name : List ℕ) (constant : Bor (List Token)) →
    UpdatesBy (λ x y. slice_cmp nat_cmp x.now y.now) (λ key. slice_cmp nat_cmp name key.now) old new (Some constant) → names_of new ≡ update bytes_eq (names_of old) name (Some constant.now)
names_of-insert old new name constant h = fun_ext (λ q.
    ap (option_map (λ (b : Bor (List Token)). b.now)) (btree_map_updates_str name old new (Some constant) h q)
    ∙ mapped (bytes_eq name q) constant (get_by (λ key. slice_cmp nat_cmp q key.now) old))

-- no names
pub names_of-empty : (map : BTreeMap (Bor (List ℕ)) (Bor (List Token))) → map.entries ≡ [] → names_of map ≡ (λ _. None)
names_of-empty map e = fun_ext (λ q. ap (λ entries. option_map (λ (b : Bor (List Token)). b.now) (lookup (is_at (λ (key : Bor (List ℕ)). slice_cmp nat_cmp q key.now)) entries)) e)
