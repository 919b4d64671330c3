-- Pieces that are written one after the other.
use Rattle.std.proofs.Common.{◌≡◌, ℕ, ◌+◌, List, ◌++◌, take, drop, Option, None, Some, append_assoc, ap, sym, ◌∙◌}
use Rattle.std.proofs.Math.Seq.{take-add}
use Rattle.io_edge.specs.Sink.{Appends}

-- After the bytes up to i the next n were written, so those up to i + n were.
pub Appends-more : (old between new : Option (List ℕ)) (i n : ℕ) (bytes rest : List ℕ) → rest ≡ drop i bytes
    → Appends old between (take i bytes) → Appends between new (take n rest) → Appends old new (take (i + n) bytes)
Appends-more None None new i n bytes rest is p q = q
Appends-more None (Some b) new i n bytes rest is p q = cc
Appends-more (Some a) None new i n bytes rest is p q = cc
Appends-more (Some a) (Some b) new i n bytes rest is p q =
    let b_is : b ≡ a ++ take i bytes = cc in
    q ∙ ap Some (ap (λ x. x ++ take n rest) b_is ∙ append_assoc a (take i bytes) (take n rest)
    ∙ ap (λ x. a ++ (take i bytes ++ take n x)) is ∙ ap (λ x. a ++ x) (sym (take-add i n bytes)))
