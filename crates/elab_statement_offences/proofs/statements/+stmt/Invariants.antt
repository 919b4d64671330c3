use Rattle.std.proofs.Common.{◌≡◌, true, drop}
use Rattle.std.specs.Prelude.{flat_map}
use Rattle.offence_order.specs.Order.{first_of}
use Rattle.elab_names.specs.declared.constant.Worth.TheVariants.{Value}
use Rattle.elab_loops.specs.Loops.{with_turn}
use Rattle.elab_statement_offences.specs.Statements.{stmt_offences, item_offences}
use Rattle.elab_statement_offences.proofs.statements.+stmt.Given as goal

-- after some statements: what is wrong with the others is still to be noted
abbrev pub invariant-statements-loop-s : goal.invariant-statements-loop-s
invariant-statements-loop-s l =
    first_of l.initial.first.found (flat_map (λ s. stmt_offences l.names s l.live l.turns) l.body) ≡ first_of l.first.found (flat_map (λ s. stmt_offences l.names s l.live l.turns) (drop l.s-index l.body))

-- the same of case items
abbrev pub invariant-case_items-loop-c : goal.invariant-case_items-loop-c
invariant-case_items-loop-c l =
    first_of l.initial.first.found (flat_map (λ c. item_offences l.names l.kind c l.live l.turns) l.items) ≡ first_of l.first.found (flat_map (λ c. item_offences l.names l.kind c l.live l.turns) (drop l.c-index l.items))

-- the same of copies
abbrev pub invariant-each_copy-loop-v : goal.invariant-each_copy-loop-v
invariant-each_copy-loop-v l =
    first_of l.initial.first.found (flat_map (λ v. stmt_offences l.names l.body true (with_turn l.turns l.n (Value v))) l.taken) ≡ first_of l.first.found (flat_map (λ v. stmt_offences l.names l.body true (with_turn l.turns l.n (Value v))) (drop l.v-index l.taken))
