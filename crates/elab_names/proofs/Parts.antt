-- The parts of a concatenation, one by one.
use Rattle.std.proofs.Common.{◌≡◌, ℕ, ◌+◌, ◌<◌, List, ◌∷◌, length, drop, get_or, map, sym, ap, ◌∙◌}
use Rattle.std.specs.Prelude.{Option}
use Rattle.std.proofs.lemmas.List.{drop_more}
use Rattle.v_tree.specs.declared.expr.Expr.{Expr}
use Rattle.elab_names.specs.declared.constant.Standing.{Standing}
use Rattle.elab_names.specs.Measured.{with_part, with_parts}

pub parts_next : (f : Expr → Standing) (xs : List Expr) (i : ℕ) (x d : Expr) (s : Standing) (whole so_far new : Option Standing) → i < length xs → x ≡ get_or xs i d →
    whole ≡ with_parts so_far (map f (drop i xs)) → s ≡ f x → new ≡ with_part so_far s → whole ≡ with_parts new (map f (drop (i + 1) xs))
parts_next f xs i x d s whole so_far new lt is h hs hn =
    let rest : List Expr = drop (i + 1) xs in
    h ∙ ap (λ l. with_parts so_far (map f l)) (drop_more xs i d lt ∙ ap (λ q. q ∷ rest) (sym is))
    ∙ ap (λ v. with_parts v (map f rest)) (ap (with_part so_far) (sym hs) ∙ sym hn)
