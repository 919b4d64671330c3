-- The last write to a word.
use Rattle.std.proofs.Common.{◌≡◌, ℕ, ◌+◌, ◌<◌, ◌≤◌, List, ◌∷◌, length, drop, get_or, refl, sym, ap, ◌∙◌}
use Rattle.std.specs.Prelude.{Option, Some, None}
use Rattle.std.specs.Option.{option_or}
use Rattle.std.proofs.lemmas.List.{drop_more, drop_all}
use Rattle.elab_firsts.specs.declared.values.FirstWrite.{FirstWrite}
use Rattle.elab_firsts.specs.Writes.{write_at, first_of}

pub or_none : {T : Type 0} (o : Option T) → option_or o None ≡ o
or_none None = refl
or_none (Some x) = refl

or_or : {T : Type 0} (a b c : Option T) → option_or (option_or a b) c ≡ option_or a (option_or b c)
or_or None b c = refl
or_or (Some x) b c = refl

module _ (ws : List FirstWrite) (signal at i : ℕ) (whole found : Option ℕ) (so_far : whole ≡ option_or (first_of (drop i ws) signal at) found) where
  pub latest_next : (w d : FirstWrite) (here new : Option ℕ) → i < length ws → w ≡ get_or ws i d → here ≡ write_at signal at w → new ≡ option_or here found →
      whole ≡ option_or (first_of (drop (i + 1) ws) signal at) new
  latest_next w d here new lt is is_here is_new =
      so_far ∙ ap (λ l. option_or (first_of l signal at) found) (drop_more ws i d lt ∙ ap (λ x. x ∷ drop (i + 1) ws) (sym is))
      ∙ or_or (first_of (drop (i + 1) ws) signal at) (write_at signal at w) found
      ∙ ap (option_or (first_of (drop (i + 1) ws) signal at)) (ap (λ o. option_or o found) (sym is_here) ∙ sym is_new)

  pub latest_end : length ws ≤ i → found ≡ whole
  latest_end end = sym (so_far ∙ ap (λ l. option_or (first_of l signal at) found) (drop_all i ws end))
