-- The parts of a module that is well-formed.
use Rattle.std.specs.Prelude.{◌≡◌, ◌<◌, ◌^◌, ◌++◌, All, length}
use Rattle.joint_ir.specs.declared.module.FlatModule.{FlatModule}
use Rattle.joint_ir.specs.declared.module.Role.TheVariants.{Input, Register, Wire}
use Rattle.joint_ir.specs.Views.{widths_of, site_widths}
use Rattle.joint_ir.specs.WellFormed.{FitsSignal, FitsSite, FitFirsts, AreTerms, IsWithin}

-- its signals, their first values, and its unknown words
pub record HasWords (m : FlatModule) : Type 0 where
  pub signals : All FitsSignal m.signals
  pub few : length m.signals < 2 ^ 32
  pub settle_sites : All FitsSite m.settle_sites
  pub edge_sites : All FitsSite m.edge_sites
  pub firsts : FitFirsts m.firsts (widths_of Register m.signals)

-- what settles
pub record Settles (m : FlatModule) : Type 0 where
  pub vars : m.settle_terms.vars ≡ widths_of Register m.signals ++ widths_of Input m.signals ++ site_widths m.settle_sites
  pub settled : AreTerms m.settle_terms m.settled (widths_of Wire m.signals)
  pub weight : IsWithin m.settle_terms (site_widths m.settle_sites) m.settle_weight

-- what a clock edge makes of the registers
pub record Steps (m : FlatModule) : Type 0 where
  pub vars : m.edge_terms.vars ≡ widths_of Register m.signals ++ widths_of Input m.signals ++ widths_of Wire m.signals ++ site_widths m.edge_sites
  pub next : AreTerms m.edge_terms m.next (widths_of Register m.signals)
  pub weight : IsWithin m.edge_terms (site_widths m.edge_sites) m.edge_weight
