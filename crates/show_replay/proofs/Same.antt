-- A pair whose parts are those of the counting one is well-formed.
use Rattle.std.proofs.Common.{◌≡◌, ℕ, ◌≤◌, List, [], ◌∷◌, subst, sym}
use Rattle.joint_ir.specs.declared.module.FlatModule.{FlatModule}
use Rattle.joint_ir.specs.declared.pair.Link.{Link}
use Rattle.joint_ir.specs.declared.pair.Pair.{Pair}
use Rattle.joint_ir.specs.declared.program.CProgram.{CProgram}
use Rattle.joint_ir.specs.WellFormed.{IsWellFormed}
use Rattle.joint_laws.specs.Counting.{counting, counting_program}
use Rattle.joint_laws.specs.Modules.{counter}
use Rattle.joint_laws.specs.Pairs.{adding_one}
use Rattle.joint_laws.proofs.Programs.{adding_one_fits}
use Rattle.joint_laws.proofs.Counting.{counting_fits}

same : (n : ℕ) (p : CProgram) (m : FlatModule) (links : List Link) → p ≡ counting_program n → m ≡ counter → links ≡ (record { member = 0; signal = 1 }) ∷ [] →
    Path Pair (record { program = p; «module» = m; binding = record { links = links } }) (counting n)
same n p m links hp hm hl = cc

pub well_formed : (n : ℕ) (p : CProgram) (m : FlatModule) (links : List Link) → p ≡ counting_program n → m ≡ counter → links ≡ (record { member = 0; signal = 1 }) ∷ [] →
    n ≤ 2147483647 → IsWellFormed (record { program = p; «module» = m; binding = record { links = links } })
well_formed n p m links hp hm hl le = subst IsWellFormed (sym (same n p m links hp hm hl)) (counting_fits n le)

adding_same : (p : CProgram) (m : FlatModule) (links : List Link) → p ≡ adding_one.program → m ≡ counter → links ≡ [] →
    Path Pair (record { program = p; «module» = m; binding = record { links = links } }) adding_one
adding_same p m links hp hm hl = cc

pub adding_well_formed : (p : CProgram) (m : FlatModule) (links : List Link) → p ≡ adding_one.program → m ≡ counter → links ≡ [] →
    IsWellFormed (record { program = p; «module» = m; binding = record { links = links } })
adding_well_formed p m links hp hm hl = subst IsWellFormed (sym (adding_same p m links hp hm hl)) adding_one_fits
