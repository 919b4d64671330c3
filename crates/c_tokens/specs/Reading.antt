-- What the tokens of a text keep to, and what the functions that carry out directives keep.
use Rattle.std.specs.Prelude.{◌≡◌, ℕ, ◌+◌, ◌<◌, ◌≤◌, List, length, take, drop, Some}
use Rattle.std.specs.Option.{option_map}
use Rattle.std.specs.Ordering.{nat_cmp}
use Rattle.std.specs.Cmp.Lexicographic.{slice_cmp}
use Rattle.std.specs.BTreeMap.{BTreeMap, get_by}
use denote.Ref.{Bor}
use Rattle.text_scan.specs.declared.pieces.TheConstants.{STRAY}
use Rattle.text_scan.specs.declared.scanner.Token.{Token}
use Rattle.c_tokens.specs.Rules.{kind_of}
use Rattle.c_tokens.specs.Directives.{Names}
use Rattle.c_tokens.specs.declared.directives.CToken.{CToken}

-- A token is reported in the text, and spelled by bytes of the text that are a token of its kind.
pub record IsTokenOf (text : List ℕ) (t : CToken) : Type 0 where
  pub reported : t.at < length text
  pub inside : t.start + t.len ≤ length text
  pub spelled : t.kind < STRAY → kind_of (take t.len (drop t.start text)) ≡ Some t.kind

-- the bytes that spell a token are among those of the text
abbrev pub IsWithin : List ℕ → Token → Type 0
IsWithin text t = t.start + t.len ≤ length text

-- what each name stands for in a map
abbrev pub names_of : BTreeMap (Bor (List ℕ)) (Bor (List Token)) → Names
names_of map name = option_map (λ (constant : Bor (List Token)). constant.now) (get_by (λ key. slice_cmp nat_cmp name key.now) map)
