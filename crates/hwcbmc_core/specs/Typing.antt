-- The first offence of a C text that has a tree, and the texts that have none.
use Rattle.std.specs.Prelude.{◌≡◌, ℕ, List, [], ◌∷◌}
use Rattle.src_text.specs.declared.refusal.Refusal.{Refusal}
use Rattle.c_tree.specs.declared.file.CTree.{CTree}
use Rattle.offence_order.specs.declared.Offence.{Offence}
use Rattle.offence_order.specs.Order.{IsHead}
use Rattle.c_parse.specs.Ends.{HasTree}
use Rattle.c_types.specs.Ends.{refusal_of}
use Rattle.c_types.specs.Files.{c_offences}

-- The text has a tree, and the refusal is for its first offence, by place and then by number.
abbrev pub Offends : List ℕ → Refusal → Type 0
Offends text refusal = (tree : CTree) × HasTree text tree × ((o : Offence) × IsHead (c_offences tree ∷ []) o × (refusal ≡ refusal_of o))

-- The text has a tree without offence.
abbrev pub IsClean : List ℕ → Type 0
IsClean text = (tree : CTree) × HasTree text tree × (c_offences tree ≡ [])
