-- Connections, one after another.
use Rattle.std.proofs.Common.{◌≡◌, ℕ, ◌+◌, ◌<◌, ◌≤◌, List, [], ◌∷◌, ◌++◌, length, take, get_or, refl, sym, ap, ◌∙◌, arith, append_assoc}
use Rattle.std.specs.Prelude.{flat_map, slice_get, Option, map}
use Rattle.std.proofs.lemmas.List.{take_more, append-nil, length-take-le}
use Rattle.v_tree.specs.declared.expr.Expr.{Expr}
use Rattle.v_tree.specs.declared.item.Connections.{Connections}
use Rattle.v_tree.specs.declared.item.Connections.TheVariants as connections
use Rattle.v_tree.specs.declared.item.DirectionKind.{DirectionKind}
use Rattle.v_tree.specs.declared.item.NamedConnection.{NamedConnection}
use Rattle.flat_tree.specs.declared.design.Driver.{Driver}
use Rattle.flat_tree.specs.declared.expr.FlatExpr.{FlatExpr}
use Rattle.name_table.specs.Tables.{find_in}
use Rattle.elab_names.specs.Names.{Scope}
use Rattle.elab_ports.specs.declared.ports.Ports.{Ports}
use Rattle.elab_ports.specs.Ports.{direction_of, place_from}
use Rattle.elab_ports.specs.Making.{IsPorts}
use Rattle.elab_connections.specs.Drivers.{place_drivers, ordered_drivers, found_drivers, named_drivers, joined_drivers, connection_drivers}

flat_map_same : {X Y : Type 0} (f g : X → List Y) → ((x : X) → f x ≡ g x) → (xs : List X) → flat_map f xs ≡ flat_map g xs
flat_map_same f g h [] = refl
flat_map_same f g h (x ∷ xs) = ap (λ l. l ++ flat_map f xs) (h x) ∙ ap (λ l. g x ++ l) (flat_map_same f g h xs)

module _ (names : Scope) (outer first : ℕ) where
  module _ (directions : List (Option DirectionKind)) where
    ordered : ℕ → List Expr → List (Driver FlatExpr)
    ordered n es = ordered_drivers names outer first directions n es

    here : ℕ → Expr → List (Driver FlatExpr)
    here n e = place_drivers names outer first (slice_get directions n) n e

    ordered_last : (es : List Expr) (e : Expr) (n : ℕ) → ordered n (es ++ e ∷ []) ≡ ordered n es ++ here (n + length es) e
    unfolding ordered here
    ordered_last [] e n = let q : n ≡ n + 0 = omega arith in append-nil (here n e) ∙ ap (λ k. here k e) q
    ordered_last (x ∷ es) e n =
        let q : (n + 1) + length es ≡ n + length (x ∷ es) = omega arith in
        ap (λ l. here n x ++ l) (ordered_last es e (n + 1) ∙ ap (λ k. ordered (n + 1) es ++ here k e) q)
        ∙ sym (append_assoc (here n x) (ordered (n + 1) es) (here (n + length (x ∷ es)) e))

    pub ordered_more : (es : List Expr) (i : ℕ) (e d : Expr) (so_far more new : List (Driver FlatExpr)) → i < length es → e ≡ get_or es i d →
        so_far ≡ ordered_drivers names outer first directions 0 (take i es) → more ≡ place_drivers names outer first (slice_get directions i) i e →
        new ≡ so_far ++ more → new ≡ ordered_drivers names outer first directions 0 (take (i + 1) es)
    unfolding ordered here
    ordered_more es i e d so_far more new lt is h g is_new =
        let m : length (take i es) ≡ i = length-take-le i es (omega arith) in
        let n : i ≡ 0 + length (take i es) = omega arith in
        is_new ∙ ap (λ l. l ++ more) h ∙ ap (λ l. ordered 0 (take i es) ++ l) (g ∙ ap (λ k. here k e) n)
        ∙ sym (ordered_last (take i es) e 0)
        ∙ ap (ordered 0) (ap (λ x. take i es ++ x ∷ []) is ∙ sym (take_more es i d lt))

  -- ports that are the ones of a list
  pub joined_is : (list : List (List ℕ × Option DirectionKind)) (ports : Ports) → IsPorts list ports → (c : Connections) →
      joined_drivers names outer first ports.directions (find_in ports.places) c ≡ connection_drivers names outer first list c
  joined_is list ports known connections.Absent = refl
  joined_is list ports known (connections.Ordered es) = ap (λ d. ordered_drivers names outer first d 0 es) known.directions
  joined_is list ports known (connections.Named cs) =
      ap (λ d. flat_map (named_drivers names outer first d (find_in ports.places)) cs) known.directions
      ∙ flat_map_same _ _ (λ c. ap (λ o. found_drivers names outer first (map direction_of list) o c.value) (known.places c.name.name)) cs
