-- The small pairs are well-formed.
use Rattle.std.proofs.Common.{◌≡◌, ℕ, ◌≤◌, List, [], ◌∷◌, inl, inr, refl, arith}
use Rattle.std.specs.Prelude.{pos, true, false, count_by, eqb}
use Rattle.std.proofs.lemmas.Int.{ints}
use denote.Hole.Carrier.{hidden}
use Rattle.joint_ir.specs.declared.expr.Slot.TheVariants.{Local}
use Rattle.joint_ir.specs.declared.expr.TExpr.{TExpr}
use Rattle.joint_ir.specs.declared.expr.TNode.TheBlock.{hidden-the_row-TExpr-0}
use Rattle.joint_ir.specs.declared.module.FlatModule.{FlatModule}
use Rattle.joint_ir.specs.declared.pair.Link.{Link}
use Rattle.joint_ir.specs.declared.pair.Pair.{Pair}
use Rattle.joint_ir.specs.declared.stmt.Label.TheVariants.{Case, Default}
use Rattle.joint_ir.specs.declared.stmt.SNode.TheBlock.{hidden-the_row-TStmt-0, hidden-the_row-TStmt-1, hidden-the_row-Group-2}
use Rattle.joint_ir.specs.Types.{Byte, Single, int}
use Rattle.joint_ir.specs.Weights.{slot_length}
use Rattle.joint_ir.specs.WellFormed.{Scope, FitsAs, FitsLabel, same_label, FitsFunction, FitsVar, FitsMember, FitsLink, FitsModule, IsWellFormed, links_of, declared_by}
use Rattle.joint_laws.specs.Words.{unsigned_int}
use Rattle.joint_laws.specs.Pairs.{two_edges_to, summing, endless, disabling, not_disabling, adding_one, adding_one_unsigned, shifting, dividing, least_divided, past_the_end, filling, recursive, without_value, assuming, falling_through, idle, reading_past_a_memory}
use Rattle.joint_laws.proofs.Lists.{all_none, all_one, all_two, all_three, all_four, among_none, among_one, among_two, among_three, below_one, below_two, below_three}
use Rattle.joint_laws.proofs.Counting.{in_int, counter_fits}
use Rattle.joint_laws.proofs.Modules.{enabled_fits, memory_fits}
use Rattle.joint_laws.proofs.Parts.{int_promoted, var_fits, a_member_fits, nondet_fits, program_fits}

-- where the statements of `main` stand
abbrev in_main : Pair → List ℕ → Scope
in_main p locals = record { program = p.program; here = 0; locals = locals; in_loop = false; may_break = false }

pub idle_fits : (m : FlatModule) → FitsModule m → IsWellFormed (idle m)
unfolding hidden-the_row-TStmt-0 hidden-the_row-TStmt-1 hidden-the_row-Group-2 hidden-the_row-TExpr-0 hidden
idle_fits m fits = record {
  program = program_fits (idle m).program (λ f fn is. among_one (FitsFunction (idle m).program) _ fn f is
      (record { result = Single true; body = (omega arith, all_none _, tt, refl, refl, refl) }))
      (all_none _) (all_none _) (all_none _) (λ x lt. absurd (omega arith)) (_, refl, refl, refl) (omega arith);
  module_ = fits;
  binding = record {
    links = all_none _;
    members = λ i x is some. among_none (λ j _. links_of (idle m) j ≡ 1) x i is;
    signals = all_none _;
  };
}

pub two_edges_fits : (n : ℕ) → n ≤ 2147483647 → IsWellFormed (two_edges_to n)
unfolding hidden-the_row-TStmt-0 hidden-the_row-TStmt-1 hidden-the_row-Group-2 hidden-the_row-TExpr-0 hidden
two_edges_fits n le = record {
  program = program_fits (two_edges_to n).program (λ f fn is. among_one (FitsFunction (two_edges_to n).program) _ fn f is
      (record { result = Single true; body = (omega arith, all_none _, ((_, refl, refl), ((_, refl, refl), ((((refl, int_promoted, refl, refl, refl), (Single true, (record { visible = (_, refl, refl); shape = refl }, refl)), (int_promoted, in_int n le)), (_, refl, refl)), tt))), refl, refl, refl) }))
      (all_none _) (all_none _) (all_one FitsMember _ (a_member_fits 0)) (λ x lt. absurd (omega arith)) (_, refl, refl, refl) (omega arith);
  module_ = counter_fits;
  binding = record {
    links = all_one (FitsLink (two_edges_to n)) _ (_, _, refl, refl, refl, (refl, omega arith));
    members = λ i x is some. among_one (λ j _. links_of (two_edges_to n) j ≡ 1) _ x i is refl;
    signals = all_one (λ (link : Link). count_by (λ (other : Link). eqb other.signal link.signal) (two_edges_to n).binding.links ≡ 1) _ refl;
  };
}

pub summing_fits : IsWellFormed summing
unfolding hidden-the_row-TStmt-0 hidden-the_row-TStmt-1 hidden-the_row-Group-2 hidden-the_row-TExpr-0 hidden
summing_fits = record {
  program = program_fits summing.program (λ f fn is. among_one (FitsFunction summing.program) _ fn f is
      (record { result = Single true; body = (omega arith, all_none _, ((_, refl, (_, refl, (refl, (int_promoted, in_int 0 (omega arith))))), ((((_, refl, (_, refl, (refl, (int_promoted, in_int 0 (omega arith))))), tt), refl, ((refl, int_promoted, refl, refl, refl), (record { visible = (omega arith, (0, omega arith, refl)); shape = refl }, refl), (int_promoted, in_int 3 (omega arith))), (refl, (record { object = record { visible = (omega arith, (0, omega arith, refl)); shape = refl }; stored = refl; index = refl }, record { updates = refl; operator = (int_promoted, refl, refl, refl, (_, refl, refl)); right = tt })), (record { object = record { visible = (omega arith, (1, omega arith, refl)); shape = refl }; stored = refl; index = refl }, (_, refl, (refl, ((int_promoted, refl, refl, refl, (_, refl, refl)), (record { visible = (omega arith, (1, omega arith, refl)); shape = refl }, refl), (record { visible = (omega arith, (0, omega arith, refl)); shape = refl }, refl))))), (_, refl, refl)), ((((refl, int_promoted, refl, refl, refl), (record { visible = (omega arith, (0, omega arith, refl)); shape = refl }, refl), (int_promoted, in_int 3 (omega arith))), (_, refl, refl)), tt))), refl, refl, refl) }))
      (all_none _) (all_two FitsVar _ _ (var_fits int 0 (Single true)) (var_fits int 0 (Single true))) (all_none _) (below_two (λ x. count_by (eqb x) (declared_by summing.program.functions) ≡ 1) refl refl) (_, refl, refl, refl) (omega arith);
  module_ = counter_fits;
  binding = record {
    links = all_none _;
    members = λ i x is some. among_none (λ j _. links_of summing j ≡ 1) x i is;
    signals = all_none _;
  };
}

pub endless_fits : IsWellFormed endless
unfolding hidden-the_row-TStmt-0 hidden-the_row-TStmt-1 hidden-the_row-Group-2 hidden-the_row-TExpr-0 hidden
endless_fits = record {
  program = program_fits endless.program (λ f fn is. among_one (FitsFunction endless.program) _ fn f is
      (record { result = Single true; body = (omega arith, all_none _, ((tt, refl, (int_promoted, in_int 1 (omega arith)), tt, (_, refl, refl), (_, refl, refl)), tt), refl, refl, refl) }))
      (all_none _) (all_none _) (all_one FitsMember _ (a_member_fits 0)) (λ x lt. absurd (omega arith)) (_, refl, refl, refl) (omega arith);
  module_ = counter_fits;
  binding = record {
    links = all_one (FitsLink endless) _ (_, _, refl, refl, refl, (refl, omega arith));
    members = λ i x is some. among_one (λ j _. links_of endless j ≡ 1) _ x i is refl;
    signals = all_one (λ (link : Link). count_by (λ (other : Link). eqb other.signal link.signal) endless.binding.links ≡ 1) _ refl;
  };
}

pub disabling_fits : IsWellFormed disabling
unfolding hidden-the_row-TStmt-0 hidden-the_row-TStmt-1 hidden-the_row-Group-2 hidden-the_row-TExpr-0 hidden
disabling_fits = record {
  program = program_fits disabling.program (λ f fn is. among_one (FitsFunction disabling.program) _ fn f is
      (record { result = Single true; body = (omega arith, all_none _, ((record { object = record { visible = (_, refl, refl); shape = refl }; stored = refl; index = refl }, (_, refl, (refl, (Byte false, (int_promoted, in_int 0 (omega arith)))))), (tt, ((_, refl, refl), ((((refl, int_promoted, refl, refl, refl), (Single true, (record { visible = (_, refl, refl); shape = refl }, refl)), (int_promoted, in_int 0 (omega arith))), (_, refl, refl)), tt)))), refl, refl, refl) }))
      (all_none _) (all_none _) (all_two FitsMember _ _ (a_member_fits 0) (a_member_fits 0)) (λ x lt. absurd (omega arith)) (_, refl, refl, refl) (omega arith);
  module_ = enabled_fits;
  binding = record {
    links = all_two (FitsLink disabling) _ _ (_, _, refl, refl, refl, (refl, omega arith)) (_, _, refl, refl, refl, (refl, omega arith));
    members = λ i x is some. among_two (λ j _. links_of disabling j ≡ 1) _ _ x i is refl refl;
    signals = all_two (λ (link : Link). count_by (λ (other : Link). eqb other.signal link.signal) disabling.binding.links ≡ 1) _ _ refl refl;
  };
}

pub not_disabling_fits : IsWellFormed not_disabling
unfolding hidden-the_row-TStmt-0 hidden-the_row-TStmt-1 hidden-the_row-Group-2 hidden-the_row-TExpr-0 hidden
not_disabling_fits = record {
  program = program_fits not_disabling.program (λ f fn is. among_one (FitsFunction not_disabling.program) _ fn f is
      (record { result = Single true; body = (omega arith, all_none _, ((record { object = record { visible = (_, refl, refl); shape = refl }; stored = refl; index = refl }, (_, refl, (refl, (Byte false, (int_promoted, in_int 0 (omega arith)))))), ((_, refl, refl), ((((refl, int_promoted, refl, refl, refl), (Single true, (record { visible = (_, refl, refl); shape = refl }, refl)), (int_promoted, in_int 0 (omega arith))), (_, refl, refl)), tt))), refl, refl, refl) }))
      (all_none _) (all_none _) (all_two FitsMember _ _ (a_member_fits 0) (a_member_fits 0)) (λ x lt. absurd (omega arith)) (_, refl, refl, refl) (omega arith);
  module_ = enabled_fits;
  binding = record {
    links = all_two (FitsLink not_disabling) _ _ (_, _, refl, refl, refl, (refl, omega arith)) (_, _, refl, refl, refl, (refl, omega arith));
    members = λ i x is some. among_two (λ j _. links_of not_disabling j ≡ 1) _ _ x i is refl refl;
    signals = all_two (λ (link : Link). count_by (λ (other : Link). eqb other.signal link.signal) not_disabling.binding.links ≡ 1) _ _ refl refl;
  };
}

pub adding_one_fits : IsWellFormed adding_one
unfolding hidden-the_row-TStmt-0 hidden-the_row-TStmt-1 hidden-the_row-Group-2 hidden-the_row-TExpr-0 hidden
adding_one_fits = record {
  program = program_fits adding_one.program (λ f fn is. among_two (FitsFunction adding_one.program) _ _ fn f is
      (record { result = Single true; body = (omega arith, all_none _, ((_, refl, ((_, refl, (refl, tt, inr refl)), (_, refl, refl))), ((record { object = record { visible = (omega arith, (0, omega arith, refl)); shape = refl }; stored = refl; index = refl }, (_, refl, (refl, ((int_promoted, refl, refl, refl, (_, refl, refl)), (record { visible = (omega arith, (0, omega arith, refl)); shape = refl }, refl), (int_promoted, in_int 1 (omega arith)))))), tt)), refl, refl, refl) })
      (nondet_fits _ 1 int (Single true)))
      (all_none _) (all_one FitsVar _ (var_fits int 0 (Single true))) (all_none _) (below_one (λ x. count_by (eqb x) (declared_by adding_one.program.functions) ≡ 1) refl) (_, refl, refl, refl) (omega arith);
  module_ = counter_fits;
  binding = record {
    links = all_none _;
    members = λ i x is some. among_none (λ j _. links_of adding_one j ≡ 1) x i is;
    signals = all_none _;
  };
}

pub adding_one_unsigned_fits : IsWellFormed adding_one_unsigned
unfolding hidden-the_row-TStmt-0 hidden-the_row-TStmt-1 hidden-the_row-Group-2 hidden-the_row-TExpr-0 hidden
adding_one_unsigned_fits = record {
  program = program_fits adding_one_unsigned.program (λ f fn is. among_two (FitsFunction adding_one_unsigned.program) _ _ fn f is
      (record { result = Single true; body = (omega arith, all_none _, ((_, refl, ((_, refl, (refl, tt, inr refl)), (_, refl, refl))), ((record { object = record { visible = (omega arith, (0, omega arith, refl)); shape = refl }; stored = refl; index = refl }, (_, refl, (refl, ((record { type = Single false; wide = omega arith }, refl, refl, refl, refl), (record { visible = (omega arith, (0, omega arith, refl)); shape = refl }, refl), (record { type = Single false; wide = omega arith }, record { low = omega (arith, ints); high = omega (arith, ints) }))))), tt)), refl, refl, refl) })
      (nondet_fits _ 1 unsigned_int (Single false)))
      (all_none _) (all_one FitsVar _ (var_fits unsigned_int 0 (Single false))) (all_none _) (below_one (λ x. count_by (eqb x) (declared_by adding_one_unsigned.program.functions) ≡ 1) refl) (_, refl, refl, refl) (omega arith);
  module_ = counter_fits;
  binding = record {
    links = all_none _;
    members = λ i x is some. among_none (λ j _. links_of adding_one_unsigned j ≡ 1) x i is;
    signals = all_none _;
  };
}

pub shifting_fits : IsWellFormed shifting
unfolding hidden-the_row-TStmt-0 hidden-the_row-TStmt-1 hidden-the_row-Group-2 hidden-the_row-TExpr-0 hidden
shifting_fits = record {
  program = program_fits shifting.program (λ f fn is. among_one (FitsFunction shifting.program) _ fn f is
      (record { result = Single true; body = (omega arith, all_none _, ((_, refl, (_, refl, (refl, (int_promoted, in_int 32 (omega arith))))), ((_, refl, (_, refl, (refl, ((int_promoted, int_promoted, refl, refl, (_, refl, refl)), (int_promoted, in_int 1 (omega arith)), (record { visible = (omega arith, (0, omega arith, refl)); shape = refl }, refl))))), tt)), refl, refl, refl) }))
      (all_none _) (all_two FitsVar _ _ (var_fits int 0 (Single true)) (var_fits int 0 (Single true))) (all_none _) (below_two (λ x. count_by (eqb x) (declared_by shifting.program.functions) ≡ 1) refl refl) (_, refl, refl, refl) (omega arith);
  module_ = counter_fits;
  binding = record {
    links = all_none _;
    members = λ i x is some. among_none (λ j _. links_of shifting j ≡ 1) x i is;
    signals = all_none _;
  };
}

pub dividing_fits : IsWellFormed dividing
unfolding hidden-the_row-TStmt-0 hidden-the_row-TStmt-1 hidden-the_row-Group-2 hidden-the_row-TExpr-0 hidden
dividing_fits = record {
  program = program_fits dividing.program (λ f fn is. among_one (FitsFunction dividing.program) _ fn f is
      (record { result = Single true; body = (omega arith, all_none _, ((_, refl, (_, refl, (refl, (int_promoted, in_int 0 (omega arith))))), ((_, refl, (_, refl, (refl, ((int_promoted, refl, refl, (_, refl, refl), (_, refl, refl)), (int_promoted, in_int 1 (omega arith)), (record { visible = (omega arith, (0, omega arith, refl)); shape = refl }, refl))))), tt)), refl, refl, refl) }))
      (all_none _) (all_two FitsVar _ _ (var_fits int 0 (Single true)) (var_fits int 0 (Single true))) (all_none _) (below_two (λ x. count_by (eqb x) (declared_by dividing.program.functions) ≡ 1) refl refl) (_, refl, refl, refl) (omega arith);
  module_ = counter_fits;
  binding = record {
    links = all_none _;
    members = λ i x is some. among_none (λ j _. links_of dividing j ≡ 1) x i is;
    signals = all_none _;
  };
}

pub least_divided_fits : IsWellFormed least_divided
unfolding hidden-the_row-TStmt-0 hidden-the_row-TStmt-1 hidden-the_row-Group-2 hidden-the_row-TExpr-0 hidden
least_divided_fits = record {
  program = program_fits least_divided.program (λ f fn is. among_one (FitsFunction least_divided.program) _ fn f is
      (record { result = Single true; body = (omega arith, all_none _, ((_, refl, (_, refl, (refl, ((int_promoted, refl, refl, refl, (_, refl, refl)), ((int_promoted, refl, (_, refl, refl)), (int_promoted, in_int 2147483647 (omega arith))), (int_promoted, in_int 1 (omega arith)))))), ((_, refl, (_, refl, (refl, ((int_promoted, refl, refl, (_, refl, refl), (_, refl, refl)), (record { visible = (omega arith, (0, omega arith, refl)); shape = refl }, refl), ((int_promoted, refl, (_, refl, refl)), (int_promoted, in_int 1 (omega arith))))))), tt)), refl, refl, refl) }))
      (all_none _) (all_two FitsVar _ _ (var_fits int 0 (Single true)) (var_fits int 0 (Single true))) (all_none _) (below_two (λ x. count_by (eqb x) (declared_by least_divided.program.functions) ≡ 1) refl refl) (_, refl, refl, refl) (omega arith);
  module_ = counter_fits;
  binding = record {
    links = all_none _;
    members = λ i x is some. among_none (λ j _. links_of least_divided j ≡ 1) x i is;
    signals = all_none _;
  };
}

pub past_the_end_fits : IsWellFormed past_the_end
unfolding hidden-the_row-TStmt-0 hidden-the_row-TStmt-1 hidden-the_row-Group-2 hidden-the_row-TExpr-0 hidden
past_the_end_fits = record {
  program = program_fits past_the_end.program (λ f fn is. among_one (FitsFunction past_the_end.program) _ fn f is
      (record { result = Single true; body = (omega arith, all_none _, ((_, refl, tt), ((_, refl, (_, refl, (refl, (record { visible = (omega arith, (0, omega arith, refl)); shape = refl }, refl, (_, refl, refl), (int_promoted, in_int 4 (omega arith)))))), tt)), refl, refl, refl) }))
      (all_none _) (all_two FitsVar _ _ (var_fits int 4 (Single true)) (var_fits int 0 (Single true))) (all_none _) (below_two (λ x. count_by (eqb x) (declared_by past_the_end.program.functions) ≡ 1) refl refl) (_, refl, refl, refl) (omega arith);
  module_ = counter_fits;
  binding = record {
    links = all_none _;
    members = λ i x is some. among_none (λ j _. links_of past_the_end j ≡ 1) x i is;
    signals = all_none _;
  };
}

pub filling_fits : IsWellFormed filling
unfolding hidden-the_row-TStmt-0 hidden-the_row-TStmt-1 hidden-the_row-Group-2 hidden-the_row-TExpr-0 hidden
filling_fits = record {
  program = program_fits filling.program (λ f fn is. among_one (FitsFunction filling.program) _ fn f is
      (record { result = Single true; body = (omega arith, all_none _, ((_, refl, (omega arith, all_two (λ (e : TExpr). FitsAs (in_main filling []) int e) _ _ (refl, (int_promoted, in_int 4 (omega arith))) (refl, (int_promoted, in_int 5 (omega arith))))), ((record { object = record { visible = (omega arith, (0, omega arith, refl)); shape = refl }; stored = refl; index = ((int_promoted, in_int 2 (omega arith)), (_, refl, refl)) }, (_, refl, (refl, (record { visible = (omega arith, (0, omega arith, refl)); shape = refl }, refl, (_, refl, refl), (int_promoted, in_int 0 (omega arith)))))), tt)), refl, refl, refl) }))
      (all_none _) (all_one FitsVar _ (var_fits int 3 (Single true))) (all_none _) (below_one (λ x. count_by (eqb x) (declared_by filling.program.functions) ≡ 1) refl) (_, refl, refl, refl) (omega arith);
  module_ = counter_fits;
  binding = record {
    links = all_none _;
    members = λ i x is some. among_none (λ j _. links_of filling j ≡ 1) x i is;
    signals = all_none _;
  };
}

pub recursive_fits : IsWellFormed recursive
unfolding hidden-the_row-TStmt-0 hidden-the_row-TStmt-1 hidden-the_row-Group-2 hidden-the_row-TExpr-0 hidden
recursive_fits = record {
  program = program_fits recursive.program (λ f fn is. among_two (FitsFunction recursive.program) _ _ fn f is
      (record { result = Single true; body = (omega arith, all_none _, ((_, refl, ((_, refl, (refl, ((refl, (int_promoted, in_int 1 (omega arith))), tt), inl refl)), (_, refl, refl))), tt), refl, refl, refl) })
      (record { result = Single true; body = (omega arith, all_one (λ x. slot_length recursive.program (Local x) ≡ 0) _ refl, ((_, refl, ((_, refl, (refl, ((refl, (record { visible = (omega arith, (0, omega arith, refl)); shape = refl }, refl)), tt), inl refl)), (_, refl, refl))), ((_, refl, (_, refl, (refl, (record { visible = (omega arith, (0, omega arith, refl)); shape = refl }, refl)))), tt)), refl, refl, refl) }))
      (all_none _) (all_three FitsVar _ _ _ (var_fits int 0 (Single true)) (var_fits int 0 (Single true)) (var_fits int 0 (Single true))) (all_none _) (below_three (λ x. count_by (eqb x) (declared_by recursive.program.functions) ≡ 1) refl refl refl) (_, refl, refl, refl) (omega arith);
  module_ = counter_fits;
  binding = record {
    links = all_none _;
    members = λ i x is some. among_none (λ j _. links_of recursive j ≡ 1) x i is;
    signals = all_none _;
  };
}

pub without_value_fits : IsWellFormed without_value
unfolding hidden-the_row-TStmt-0 hidden-the_row-TStmt-1 hidden-the_row-Group-2 hidden-the_row-TExpr-0 hidden
without_value_fits = record {
  program = program_fits without_value.program (λ f fn is. among_two (FitsFunction without_value.program) _ _ fn f is
      (record { result = Single true; body = (omega arith, all_none _, ((_, refl, ((_, refl, (refl, tt, inl refl)), (_, refl, refl))), tt), refl, refl, refl) })
      (record { result = Single true; body = (omega arith, all_none _, tt, refl, refl, refl) }))
      (all_none _) (all_one FitsVar _ (var_fits int 0 (Single true))) (all_none _) (below_one (λ x. count_by (eqb x) (declared_by without_value.program.functions) ≡ 1) refl) (_, refl, refl, refl) (omega arith);
  module_ = counter_fits;
  binding = record {
    links = all_none _;
    members = λ i x is some. among_none (λ j _. links_of without_value j ≡ 1) x i is;
    signals = all_none _;
  };
}

pub assuming_fits : IsWellFormed assuming
unfolding hidden-the_row-TStmt-0 hidden-the_row-TStmt-1 hidden-the_row-Group-2 hidden-the_row-TExpr-0 hidden
assuming_fits = record {
  program = program_fits assuming.program (λ f fn is. among_one (FitsFunction assuming.program) _ fn f is
      (record { result = Single true; body = (omega arith, all_none _, ((int_promoted, in_int 0 (omega arith)), (((int_promoted, in_int 0 (omega arith)), (_, refl, refl)), tt)), refl, refl, refl) }))
      (all_none _) (all_none _) (all_none _) (λ x lt. absurd (omega arith)) (_, refl, refl, refl) (omega arith);
  module_ = counter_fits;
  binding = record {
    links = all_none _;
    members = λ i x is some. among_none (λ j _. links_of assuming j ≡ 1) x i is;
    signals = all_none _;
  };
}

pub falling_through_fits : IsWellFormed falling_through
unfolding hidden-the_row-TStmt-0 hidden-the_row-TStmt-1 hidden-the_row-Group-2 hidden-the_row-TExpr-0 hidden
falling_through_fits = record {
  program = program_fits falling_through.program (λ f fn is. among_one (FitsFunction falling_through.program) _ fn f is
      (record { result = Single true; body = (omega arith, all_none _, ((_, refl, (_, refl, (refl, (int_promoted, in_int 1 (omega arith))))), (((record { visible = (omega arith, (0, omega arith, refl)); shape = refl }, refl), int_promoted, ((omega arith, all_one (FitsLabel int) _ (in_int 0 (omega arith)), ((record { object = record { visible = (omega arith, (0, omega arith, refl)); shape = refl }; stored = refl; index = refl }, (_, refl, (refl, (int_promoted, in_int 10 (omega arith))))), tt)), ((omega arith, all_one (FitsLabel int) _ (in_int 1 (omega arith)), ((record { object = record { visible = (omega arith, (0, omega arith, refl)); shape = refl }; stored = refl; index = refl }, (_, refl, (refl, (int_promoted, in_int 11 (omega arith))))), tt)), ((omega arith, all_one (FitsLabel int) _ (in_int 2 (omega arith)), ((record { object = record { visible = (omega arith, (0, omega arith, refl)); shape = refl }; stored = refl; index = refl }, (_, refl, (refl, (int_promoted, in_int 12 (omega arith))))), (refl, tt))), ((omega arith, all_one (FitsLabel int) _ tt, ((record { object = record { visible = (omega arith, (0, omega arith, refl)); shape = refl }; stored = refl; index = refl }, (_, refl, (refl, (int_promoted, in_int 13 (omega arith))))), tt)), tt)))), all_four (λ a. count_by (same_label a) (Case (pos 0) ∷ Case (pos 1) ∷ Case (pos 2) ∷ Default ∷ []) ≡ 1) _ _ _ _ refl refl refl refl), tt)), refl, refl, refl) }))
      (all_none _) (all_one FitsVar _ (var_fits int 0 (Single true))) (all_none _) (below_one (λ x. count_by (eqb x) (declared_by falling_through.program.functions) ≡ 1) refl) (_, refl, refl, refl) (omega arith);
  module_ = counter_fits;
  binding = record {
    links = all_none _;
    members = λ i x is some. among_none (λ j _. links_of falling_through j ≡ 1) x i is;
    signals = all_none _;
  };
}

pub memory_reader_fits : IsWellFormed reading_past_a_memory
unfolding hidden-the_row-TStmt-0 hidden-the_row-TStmt-1 hidden-the_row-Group-2 hidden-the_row-TExpr-0 hidden
memory_reader_fits = record {
  program = program_fits reading_past_a_memory.program (λ f fn is. among_one (FitsFunction reading_past_a_memory.program) _ fn f is
      (record { result = Single true; body = (omega arith, all_none _, ((record { object = record { visible = (_, refl, refl); shape = refl }; stored = refl; index = refl }, (_, refl, (refl, (Byte false, (int_promoted, in_int 3 (omega arith)))))), (tt, ((((refl, int_promoted, refl, refl, refl), (Single true, (record { visible = (_, refl, refl); shape = refl }, refl, (_, refl, refl), (int_promoted, in_int 1 (omega arith)))), (int_promoted, in_int 5 (omega arith))), (_, refl, refl)), ((((refl, int_promoted, refl, refl, refl), (Single true, (record { visible = (_, refl, refl); shape = refl }, refl)), (int_promoted, in_int 0 (omega arith))), (_, refl, refl)), tt)))), refl, refl, refl) }))
      (all_none _) (all_none _) (all_three FitsMember _ _ _ (a_member_fits 0) (a_member_fits 0) (a_member_fits 3)) (λ x lt. absurd (omega arith)) (_, refl, refl, refl) (omega arith);
  module_ = memory_fits;
  binding = record {
    links = all_three (FitsLink reading_past_a_memory) _ _ _ (_, _, refl, refl, refl, (refl, omega arith)) (_, _, refl, refl, refl, (refl, omega arith)) (_, _, refl, refl, refl, (refl, omega arith));
    members = λ i x is some. among_three (λ j _. links_of reading_past_a_memory j ≡ 1) _ _ _ x i is refl refl refl;
    signals = all_three (λ (link : Link). count_by (λ (other : Link). eqb other.signal link.signal) reading_past_a_memory.binding.links ≡ 1) _ _ _ refl refl refl;
  };
}
