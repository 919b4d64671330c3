-- Longest fronts, piece by piece.
use Rattle.std.proofs.Common.{◌≡◌, ℕ, zero, suc, ◌<◌, ◌≤◌, ◌&&◌, Bool, true, false, cond, List, [], ◌∷◌, length, take, Option, None, Some, ◌∙◌, ap, arith}
use Rattle.std.specs.Option.{option_map}
use Rattle.std.specs.List.{list_all}
use Rattle.text_scan.specs.Words.{run_len}
use Rattle.text_scan.specs.Pieces.{longest_of}
use Rattle.text_scan.proofs.Longest.{longest_of-is, longest_of-none, run_len-le, run_passes, run_stops}
use Rattle.text_scan.specs.Fronts.{IsLongestFront}

-- no front of nothing
pub front_of_none : (test : List ℕ → Bool) → test [] ≡ false → IsLongestFront test [] None
front_of_none test e zero l = e
front_of_none test e (suc m) l = absurd (omega arith)

module _ (test next : List ℕ → Bool) (c : Bool) (b : ℕ) (bs : List ℕ) (none : test [] ≡ false) (some : (xs : List ℕ) → test (b ∷ xs) ≡ (c && next xs)) where
  -- the first byte doesn't pass
  pub front-stops : c ≡ false → IsLongestFront test (b ∷ bs) None
  front-stops e zero l = none
  front-stops e (suc m) l = some (take m bs) ∙ ap (λ x. x && next (take m bs)) e

  -- the first byte passes
  pub front-goes_on : c ≡ true → (r : Option ℕ) → IsLongestFront next bs r → IsLongestFront test (b ∷ bs) (option_map suc r)
  front-goes_on e None h = λ m l. by m l
    where
      by : (m : ℕ) → m ≤ length (b ∷ bs) → test (take m (b ∷ bs)) ≡ false
      by zero l = none
      by (suc m) l = some (take m bs) ∙ ap (λ x. x && next (take m bs)) e ∙ h m (omega arith)
  front-goes_on e (Some n) h = (let w = h.0 in omega arith, some (take n bs) ∙ ap (λ x. x && next (take n bs)) e ∙ h.1, by)
    where
      by : (m : ℕ) → suc n < m → m ≤ length (b ∷ bs) → test (take m (b ∷ bs)) ≡ false
      by zero g l = absurd (omega arith)
      by (suc m) g l = some (take m bs) ∙ ap (λ x. x && next (take m bs)) e ∙ h.2 m (omega arith) (omega arith)

-- all bytes that pass
pub front_of_run : (test : ℕ → Bool) (bs : List ℕ) → IsLongestFront (list_all test) bs (Some (run_len test bs))
front_of_run test bs = (run_len-le test bs, run_passes test bs, run_stops test bs)

-- a token that begins with b, and goes on as the longest front of what follows
pub front-longest : (kind_of : List ℕ → Option ℕ) (test : List ℕ → Bool) (kind b : ℕ) (bs : List ℕ) → ((xs : List ℕ) → kind_of (b ∷ xs) ≡ cond (test xs) (Some kind) None) →
    (r : Option ℕ) → IsLongestFront test bs r → longest_of kind_of (b ∷ bs) ≡ option_map (λ n. (kind, suc n)) r
front-longest kind_of test kind b bs is None h = longest_of-none kind_of (b ∷ bs) by
  where
    by : (m : ℕ) → 0 < m → m ≤ length (b ∷ bs) → kind_of (take m (b ∷ bs)) ≡ None
    by zero s l = absurd (omega arith)
    by (suc m) s l = is (take m bs) ∙ ap (λ t. cond t (Some kind) None) (h m (omega arith))
front-longest kind_of test kind b bs is (Some n) h =
    longest_of-is kind_of (b ∷ bs) kind (suc n) (omega arith) (let w = h.0 in omega arith) (is (take n bs) ∙ ap (λ t. cond t (Some kind) None) h.1) by
  where
    by : (m : ℕ) → suc n < m → m ≤ length (b ∷ bs) → kind_of (take m (b ∷ bs)) ≡ None
    by zero s l = absurd (omega arith)
    by (suc m) s l = is (take m bs) ∙ ap (λ t. cond t (Some kind) None) (h.2 m (omega arith) (omega arith))
