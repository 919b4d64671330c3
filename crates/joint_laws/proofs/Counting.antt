-- A small pair is well-formed.
use Rattle.std.proofs.Common.{◌≡◌, ℕ, ◌<◌, ◌≤◌, refl, arith}
use Rattle.std.specs.Prelude.{pos, true, false, count_by, eqb}
use Rattle.word_eqs.specs.declared.term.TermId.{TermId}
use Rattle.joint_ir.specs.declared.pair.Link.{Link}
use Rattle.std.proofs.lemmas.Int.{ints}
use Rattle.joint_ir.specs.Types.{Byte, Single, InRange, int}
use Rattle.joint_ir.specs.WellFormed.{IsWellFormed, FitsProgram, FitsModule, FitsBinding, FitsFunction, FitsSignal, FitsMember, FitsLink, links_of}
use denote.Hole.Carrier.{hidden}
use Rattle.joint_ir.specs.declared.expr.TNode.TheBlock.{hidden-the_row-TExpr-0}
use Rattle.joint_ir.specs.declared.stmt.SNode.TheBlock.{hidden-the_row-TStmt-0}
use Rattle.joint_laws.specs.Counting.{Examples, counting, counting_program}
use Rattle.joint_laws.specs.Modules.{counter}
use Rattle.joint_laws.proofs.Lists.{all_none, all_one, all_two, among_one}

pub in_int : (n : ℕ) → n ≤ 2147483647 → InRange int (pos n)
in_int n le = record { low = omega (arith, ints); high = omega (arith, ints) }

program_fits : (n : ℕ) → n ≤ 2147483647 → FitsProgram (counting_program n)
unfolding hidden-the_row-TStmt-0 hidden-the_row-TExpr-0 hidden
program_fits n le = record {
  functions = λ f fn is. among_one (FitsFunction (counting_program n)) _ fn f is (record {
    result = Single true;
    body = (
      omega arith,
      all_none _,
      (
        (_, refl, refl),
        (
          (
            (
              (refl, record { type = Single true; wide = omega arith }, refl, refl, refl),
              (Single true, (record { visible = (_, refl, refl); shape = refl }, refl)),
              (record { type = Single true; wide = omega arith }, in_int n le),
            ),
            (_, refl, refl),
          ),
          tt,
        ),
      ),
      refl,
      refl,
      refl,
    );
  });
  globals = all_none _;
  locals = all_none _;
  members = all_one FitsMember _ (record { type = Byte false });
  declared = λ x lt. absurd (omega arith);
  main = (_, refl, refl, refl);
  few_locals = omega arith;
  few_globals = omega arith;
  few_members = omega arith;
  few_props = omega arith;
  few_functions = omega arith;
}

pub counter_fits : FitsModule counter
counter_fits = record {
  signals = all_two FitsSignal _ _ (record { some = omega arith; few = omega arith; memory = λ lt. absurd (omega arith); clock = λ _. refl })
      (record { some = omega arith; few = omega arith; memory = λ lt. absurd (omega arith); clock = λ e. absurd (cc) });
  settle_sites = all_none _;
  edge_sites = all_none _;
  firsts = (omega arith, tt);
  settle_vars = refl;
  settled = record { there = all_none _; sized = refl };
  edge_vars = refl;
  next = record { there = all_one (λ (t : TermId). t.0 < 3) _ (omega arith); sized = refl };
  settle_weight = record { gates = omega arith; terms = omega arith };
  edge_weight = record { gates = omega arith; terms = omega arith };
  few_signals = omega arith;
}

binding_fits : (n : ℕ) → FitsBinding (counting n)
binding_fits n = record {
  links = all_one (FitsLink (counting n)) _ (_, _, refl, refl, refl, (refl, omega arith));
  members = λ i m is some. among_one (λ j _. links_of (counting n) j ≡ 1) _ m i is refl;
  signals = all_one (λ (link : Link). count_by (λ (other : Link). eqb other.signal link.signal) (counting n).binding.links ≡ 1) _ refl;
}

pub counting_fits : (n : ℕ) → n ≤ 2147483647 → IsWellFormed (counting n)
counting_fits n le = record { program = program_fits n le; module_ = counter_fits; binding = binding_fits n }

pub examples : Examples
unfolding hidden-the_row-TStmt-0 hidden-the_row-TExpr-0 hidden
examples = record { holds = counting_fits 1 (omega arith); ends = refl; fails = counting_fits 2 (omega arith); breaks = refl }
