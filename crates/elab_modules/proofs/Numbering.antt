-- Modules, one after another.
use Rattle.std.proofs.Common.{◌≡◌, ℕ, ◌+◌, ◌<◌, ◌≤◌, List, ◌∷◌, length, drop, get_or, sym, ap, ◌∙◌}
use Rattle.std.specs.Prelude.{Option}
use Rattle.std.proofs.lemmas.List.{drop_all}
use Rattle.v_tree.specs.declared.item.Module.{Module}
use Rattle.offence_order.specs.declared.Offence.{Offence}
use Rattle.offence_order.specs.Order.{first_of}
use Rattle.offence_order.proofs.Firsts.{first_of-append}
use Rattle.name_table.specs.Tables.{find_in}
use Rattle.elab_modules.specs.Modules.{Numbers, with_module, numbered_from, twice_at, twice_from}
use Rattle.elab_modules.proofs.Walking.{left_is}

module _ (modules : List Module) (i : ℕ) (numbers : Numbers) (n : ℕ) where
  pub numbered_next : (m d : Module) (whole new : Numbers) → i < length modules → m ≡ get_or modules i d → whole ≡ numbered_from numbers n (drop i modules) →
      new ≡ with_module numbers n m → whole ≡ numbered_from new (n + 1) (drop (i + 1) modules)
  numbered_next m d whole new lt is h g =
      h ∙ ap (numbered_from numbers n) (left_is modules i m d lt is) ∙ ap (λ t. numbered_from t (n + 1) (drop (i + 1) modules)) (sym g)

  pub numbered_end : (whole : Numbers) → length modules ≤ i → whole ≡ numbered_from numbers n (drop i modules) → numbers ≡ whole
  numbered_end whole end h = sym (h ∙ ap (numbered_from numbers n) (drop_all i modules end))

  pub twice_next : (m d : Module) (before : Option ℕ) (new : Numbers) (whole now b : Option Offence) → i < length modules → m ≡ get_or modules i d →
      whole ≡ first_of now (twice_from numbers n (drop i modules)) → before ≡ find_in numbers m.name.name → b ≡ first_of now (twice_at m.name.place before) →
      new ≡ with_module numbers n m → whole ≡ first_of b (twice_from new (n + 1) (drop (i + 1) modules))
  twice_next m d before new whole now b lt is h is_before is_b g =
      let rest : List Module = drop (i + 1) modules in
      h ∙ ap (λ l. first_of now (twice_from numbers n l)) (left_is modules i m d lt is)
      ∙ first_of-append now (twice_at m.name.place (find_in numbers m.name.name)) (twice_from (with_module numbers n m) (n + 1) rest)
      ∙ ap (λ o. first_of (first_of now (twice_at m.name.place o)) (twice_from (with_module numbers n m) (n + 1) rest)) (sym is_before)
      ∙ ap (λ o. first_of o (twice_from (with_module numbers n m) (n + 1) rest)) (sym is_b)
      ∙ ap (λ t. first_of b (twice_from t (n + 1) rest)) (sym g)

  pub twice_end : (whole now : Option Offence) → length modules ≤ i → whole ≡ first_of now (twice_from numbers n (drop i modules)) → now ≡ whole
  twice_end whole now end h = sym (h ∙ ap (λ l. first_of now (twice_from numbers n l)) (drop_all i modules end))
