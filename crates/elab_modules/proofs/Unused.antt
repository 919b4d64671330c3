-- Modules that no other one instantiates, one after another.
use Rattle.std.proofs.Common.{◌≡◌, ℕ, ◌+◌, ◌<◌, ◌≤◌, List, [], ◌∷◌, ◌++◌, length, drop, get_or, refl, sym, ap, ◌∙◌, append_assoc}
use Rattle.std.specs.Prelude.{Option, Some, None, Bool}
use Rattle.std.proofs.lemmas.List.{drop_all, append-nil}
use Rattle.v_tree.specs.declared.item.Module.{Module}
use Rattle.name_table.specs.Tables.{find_in}
use Rattle.elab_modules.specs.Tops.{Used, unused_at, unused_from}
use Rattle.elab_modules.proofs.Walking.{left_is}

unused_split : (o : Option Bool) (n : ℕ) (rest : List ℕ) → unused_at o n rest ≡ unused_at o n [] ++ rest
unused_split None n rest = refl
unused_split (Some used) n rest = refl

module _ (modules : List Module) (i : ℕ) (used : Used) (n : ℕ) (so_far whole : List ℕ) (h : whole ≡ so_far ++ unused_from used n (drop i modules)) where
  pub unused_next : (m d : Module) (new : List ℕ) → i < length modules → m ≡ get_or modules i d →
      new ≡ so_far ++ unused_at (find_in used m.name.name) n [] → whole ≡ new ++ unused_from used (n + 1) (drop (i + 1) modules)
  unused_next m d new lt is g =
      let rest : List ℕ = unused_from used (n + 1) (drop (i + 1) modules) in
      let mine : List ℕ = unused_at (find_in used m.name.name) n [] in
      h ∙ ap (λ l. so_far ++ unused_from used n l) (left_is modules i m d lt is)
      ∙ ap (λ l. so_far ++ l) (unused_split (find_in used m.name.name) n rest)
      ∙ sym (append_assoc so_far mine rest)
      ∙ ap (λ l. l ++ rest) (sym g)

  pub unused_end : length modules ≤ i → so_far ≡ whole
  unused_end end = sym (h ∙ ap (λ l. so_far ++ unused_from used n l) (drop_all i modules end) ∙ append-nil so_far)
