-- The text that ASCII bytes are is the bytes.
use Rattle.std.proofs.Common.{◌≡◌, ℕ, suc, zero, Bool, true, ◌&&◌, List, [], ◌∷◌, take, drop, nat_lt, arith}
use Rattle.std.proofs.lemmas.Bool.{and_parts, ltb-true}
use Rattle.std.proofs.lemmas.Str.{IsAscii-take, IsAscii-drop, IsUtf8-from_ascii, utf8_lossy-IsUtf8}
use Rattle.std.specs.Str.{IsAscii}
use Rattle.std.specs.Str.Lossy.{utf8_lossy}

abbrev pub are_ascii : List ℕ → Bool
are_ascii [] = true
are_ascii (b ∷ bs) = nat_lt b 128 && are_ascii bs

pub ascii : (bs : List ℕ) → are_ascii bs ≡ true → IsAscii bs
ascii [] h i = omega arith
ascii (b ∷ bs) h zero = ltb-true b 128 (and_parts (nat_lt b 128) (are_ascii bs) h).0
ascii (b ∷ bs) h (suc i) = ascii bs (and_parts (nat_lt b 128) (are_ascii bs) h).1 i

pub part : (bs : List ℕ) (len start : ℕ) → IsAscii bs → IsAscii (take len (drop start bs))
part bs len start h = IsAscii-take (drop start bs) len (IsAscii-drop bs start h)

pub spelled : (bs : List ℕ) → IsAscii bs → utf8_lossy bs ≡ bs
spelled bs h = utf8_lossy-IsUtf8 bs (IsUtf8-from_ascii bs h)
