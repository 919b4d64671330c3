-- Names, numbered one after another.
use Rattle.std.proofs.Common.{◌≡◌, ℕ, List, [], ◌∷◌, ◌++◌, refl}
use Rattle.elab_declarations.specs.Overrides.{with_number, numbered}

pub numbered_append : (numbers : List (List ℕ × ℕ)) (xs ys : List (List ℕ)) → numbered numbers (xs ++ ys) ≡ numbered (numbered numbers xs) ys
numbered_append numbers [] ys = refl
numbered_append numbers (x ∷ xs) ys = numbered_append (with_number numbers x) xs ys
