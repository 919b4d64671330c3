-- Binary operators with the sites of divisions (IEEE 1364-2005, 5.1.5 and Table 5-22).
use Rattle.std.specs.Prelude.{ℕ, Bool, List, [], if◌then◌else◌}
use Rattle.bits_core.specs.Word.{at_zero}
use Rattle.flat_tree.specs.declared.expr.PlacedSite.{PlacedSite}
use Rattle.flat_tree.specs.Operators.{Form}
use Rattle.flat_tree.specs.Values.{site_at, site_number}
use Rattle.operand_contexts.specs.Contexts.{has_site, combined}
use Rattle.src_text.specs.declared.refusal.Place.{Place}

-- the site of an operator of w bits, if it has one
abbrev pub own_site : Form → Place → ℕ → List PlacedSite
own_site f p w = if has_site f then site_at p w else []

-- its width, and where there is none another
abbrev pub own_width : Form → ℕ → ℕ → ℕ
own_width f w n = if has_site f then w else n

-- its number, and where there is none another
abbrev pub own_number : Form → (ℕ → ℕ) → ℕ → ℕ → ℕ → ℕ
own_number f u w k n = if has_site f then site_number u w k else n

-- the value of an operator at a width and a sign, of operands that have one; a division by 0 gives the site's number
abbrev pub operated : Form → (ℕ → Bool → ℕ → ℕ → ℕ) → ℕ → Bool → ℕ → Bool → ℕ → ℕ → ℕ → ℕ
operated form f m t w s x site y = if has_site form then at_zero y site (f w s x y) else combined form f m t w s x y
