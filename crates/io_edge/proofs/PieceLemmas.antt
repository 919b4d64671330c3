-- The next piece of a file.
use Rattle.std.proofs.Common.{◌≡◌, ℕ, ◌<◌, List, ◌++◌, length, take, drop, ap, sym, ◌∙◌, arith}
use Rattle.std.proofs.lemmas.List.{take-append-drop, drop-drop}
use Rattle.std.proofs.Math.Seq.{take-append_seam}
use Rattle.io_edge.specs.Files.{IsNextPiece}

-- The front of what is left, copied to the front of a buffer, is the next piece.
pub IsNextPiece-copied : (text front back : List ℕ) (taken n : ℕ) → taken < length text → 0 < n → length front ≡ n → front ≡ take n (drop taken text)
    → IsNextPiece text taken n (take n (front ++ back))
IsNextPiece-copied text front back taken n inside some long is =
    let copied : take n (front ++ back) ≡ front = ap (λ k. take k (front ++ back)) (sym long) ∙ take-append_seam front back in
    record {
      next = sym (take-append-drop n (drop taken text)) ∙ ap (λ x. x ++ drop n (drop taken text)) (sym (copied ∙ is))
          ∙ ap (λ x. take n (front ++ back) ++ x) (drop-drop n taken text);
      end = (λ none. absurd (omega arith), λ past. absurd (omega arith));
    }
