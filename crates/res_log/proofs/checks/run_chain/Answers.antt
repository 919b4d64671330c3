use Rattle.std.proofs.Common.{[], refl}
use Rattle.std.proofs.lemmas.Bool.{MatchBool-at_true, MatchBool-at_false}
use Rattle.res_log.specs.Origins.{book_of}
use Rattle.res_log.proofs.Chains.{tautology-chain}
use Rattle.res_log.proofs.checks.run_chain.Goals as goal

pub returns-then-not-branch : goal.returns-then-not-branch
returns-then-not-branch c =
    tautology-chain (book_of c.args.arena.now.clauses c.args.table.now) c.args.rest.now c.args.first.now c.requires.long
    (MatchBool-at_false _ _ c.if-not-branch.true (c.in_ok-add_all.ensures [] c.requires.blank))

pub loop-link-init : goal.loop-link-init
loop-link-init c =
    (c.args.first.now, refl, MatchBool-at_true _ _ c.if-not-branch.false (c.in_ok-add_all.ensures [] c.requires.blank))
