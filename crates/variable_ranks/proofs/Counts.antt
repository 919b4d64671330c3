-- How many variables are in a set.
use Rattle.std.proofs.Common.{◌≡◌, ℕ, zero, suc, ◌<◌, Bool, true, false, List, [], ◌∷◌, set, get_or, arith}
use Rattle.std.proofs.lemmas.Bool.{false≢true}

abbrev pub count : List Bool → ℕ
count [] = 0
count (true ∷ bs) = suc (count bs)
count (false ∷ bs) = count bs

-- one fewer after one is taken out
pub fewer : (bs : List Bool) (v : ℕ) → get_or bs v false ≡ true → count (set bs v false) < count bs
fewer [] v e = absurd (false≢true e)
fewer (true ∷ bs) zero e = omega arith
fewer (false ∷ bs) zero e = absurd (false≢true e)
fewer (true ∷ bs) (suc v) e = let r = fewer bs v e in omega (arith, r)
fewer (false ∷ bs) (suc v) e = fewer bs v e
