-- The trees of a C text and a Verilog text, and what refuses a text that has none.
use Rattle.std.specs.Prelude.{◌≡◌, ℕ, List}
use Rattle.src_text.specs.declared.refusal.Lang.{Lang}
use Rattle.src_text.specs.declared.refusal.Lang.TheVariants.{C, V}
use Rattle.src_text.specs.declared.refusal.Refusal.{Refusal}
use Rattle.c_tree.specs.declared.file.CTree.{CTree}
use Rattle.v_tree.specs.declared.item.VTree.{VTree}
use Rattle.c_parse.specs.Ends.{HasTree as HasCTree, RefusesBy as RefusesCBy}
use Rattle.c_parse.specs.declared.read.ParseEnd.{ParseEnd as CEnd}
use Rattle.c_parse.specs.declared.read.ParseEnd.TheVariants as c_ends
use Rattle.v_parse.specs.Ends.{HasTree as HasVTree, RefusesBy as RefusesVBy}
use Rattle.v_parse.specs.declared.read.ParseEnd.{ParseEnd as VEnd}
use Rattle.v_parse.specs.declared.read.ParseEnd.TheVariants as v_ends
use Rattle.hwcbmc_core.specs.declared.reading.TreesEnd.{TreesEnd}
use Rattle.hwcbmc_core.specs.declared.reading.TreesEnd.TheVariants.{CRefused, VRefused, Memory}

-- The text has a tree of this language.
abbrev pub HasTreeIn : Lang → List ℕ → Type 0
HasTreeIn C text = (tree : CTree) × HasCTree text tree
HasTreeIn V text = (tree : VTree) × HasVTree text tree
HasTreeIn _ text = ⊥

-- The text is refused so: for its syntax, or because its tree is too deep.
abbrev pub IsRefused : Lang → List ℕ → Refusal → Type 0
IsRefused C text refusal = (refusal.lang ≡ C) × RefusesCBy text refusal.kind refusal.place
IsRefused V text refusal = (refusal.lang ≡ V) × RefusesVBy text refusal.kind refusal.place
IsRefused _ text refusal = ⊥

-- The reading of both texts ends so: at the C text, else at the Verilog text; or memory is refused.
abbrev pub EndsAt : List ℕ → List ℕ → TreesEnd → Type 0
EndsAt c_text v_text (CRefused refusal) = IsRefused C c_text refusal
EndsAt c_text v_text (VRefused refusal) = HasTreeIn C c_text × IsRefused V v_text refusal
EndsAt c_text v_text Memory = Unit {0}

-- the end of one reader, as an end of both
abbrev pub of_c : CEnd → TreesEnd
of_c (c_ends.Refused refusal) = CRefused refusal
of_c c_ends.Memory = Memory

-- how the reading of both texts ends where the Verilog text gives no tree
abbrev pub of_v : VEnd → TreesEnd
of_v (v_ends.Refused refusal) = VRefused refusal
of_v v_ends.Memory = Memory
