-- The small modules are well-formed.
use Rattle.std.proofs.Common.{ℕ, ◌<◌, ◌≤◌, refl, arith}
use Rattle.word_eqs.specs.declared.term.TermId.{TermId}
use Rattle.joint_ir.specs.declared.module.Role.TheVariants.{Input, Clock, Register, Wire}
use Rattle.joint_ir.specs.WellFormed.{FitsModule, FitsSignal, FitsSite}
use Rattle.joint_laws.specs.Words.{signal}
use Rattle.joint_laws.specs.Modules.{free_counter, enabled, divider, memory}
use Rattle.joint_laws.proofs.Lists.{all_none, all_one, all_two, all_three, all_four}

clock : FitsSignal (signal Clock 1 0)
clock = record { some = omega arith; few = omega arith; memory = λ lt. absurd (omega arith); clock = λ _. refl }

input : (bits : ℕ) → 1 ≤ bits → bits ≤ 64 → FitsSignal (signal Input bits 0)
input bits some few = record { some = some; few = few; memory = λ lt. absurd (omega arith); clock = λ e. absurd (cc) }

wire : (bits : ℕ) → 1 ≤ bits → bits ≤ 64 → FitsSignal (signal Wire bits 0)
wire bits some few = record { some = some; few = few; memory = λ lt. absurd (omega arith); clock = λ e. absurd (cc) }

register : (bits words : ℕ) → 1 ≤ bits → bits ≤ 64 → FitsSignal (signal Register bits words)
register bits words some few = record { some = some; few = few; memory = λ lt. refl; clock = λ e. absurd (cc) }

site : FitsSite (record { bits = 8 })
site = record { some = omega arith; few = omega arith }

pub free_counter_fits : FitsModule free_counter
free_counter_fits = record {
  signals = all_two FitsSignal _ _ clock (register 8 0 (omega arith) (omega arith));
  settle_sites = all_none _;
  edge_sites = all_none _;
  firsts = (tt, tt);
  settle_vars = refl;
  settled = record { there = all_none _; sized = refl };
  edge_vars = refl;
  next = record { there = all_one (λ (t : TermId). t.0 < 3) _ (omega arith); sized = refl };
  settle_weight = record { gates = omega arith; terms = omega arith };
  edge_weight = record { gates = omega arith; terms = omega arith };
  few_signals = omega arith;
}

pub enabled_fits : FitsModule enabled
enabled_fits = record {
  signals = all_three FitsSignal _ _ _ clock (input 1 (omega arith) (omega arith)) (register 8 0 (omega arith) (omega arith));
  settle_sites = all_none _;
  edge_sites = all_none _;
  firsts = (omega arith, tt);
  settle_vars = refl;
  settled = record { there = all_none _; sized = refl };
  edge_vars = refl;
  next = record { there = all_one (λ (t : TermId). t.0 < 5) _ (omega arith); sized = refl };
  settle_weight = record { gates = omega arith; terms = omega arith };
  edge_weight = record { gates = omega arith; terms = omega arith };
  few_signals = omega arith;
}

pub divider_fits : FitsModule divider
divider_fits = record {
  signals = all_three FitsSignal _ _ _ (input 8 (omega arith) (omega arith)) (input 8 (omega arith) (omega arith)) (wire 8 (omega arith) (omega arith));
  settle_sites = all_one FitsSite _ site;
  edge_sites = all_none _;
  firsts = tt;
  settle_vars = refl;
  settled = record { there = all_one (λ (t : TermId). t.0 < 7) _ (omega arith); sized = refl };
  edge_vars = refl;
  next = record { there = all_none _; sized = refl };
  settle_weight = record { gates = omega arith; terms = omega arith };
  edge_weight = record { gates = omega arith; terms = omega arith };
  few_signals = omega arith;
}

pub memory_fits : FitsModule memory
memory_fits = record {
  signals = all_four FitsSignal _ _ _ _ clock (input 2 (omega arith) (omega arith)) (wire 8 (omega arith) (omega arith)) (register 8 3 (omega arith) (omega arith));
  settle_sites = all_one FitsSite _ site;
  edge_sites = all_none _;
  firsts = (tt, (omega arith, (tt, tt)));
  settle_vars = refl;
  settled = record { there = all_one (λ (t : TermId). t.0 < 14) _ (omega arith); sized = refl };
  edge_vars = refl;
  next = record { there = all_three (λ (t : TermId). t.0 < 3) _ _ _ (omega arith) (omega arith) (omega arith); sized = refl };
  settle_weight = record { gates = omega arith; terms = omega arith };
  edge_weight = record { gates = omega arith; terms = omega arith };
  few_signals = omega arith;
}
