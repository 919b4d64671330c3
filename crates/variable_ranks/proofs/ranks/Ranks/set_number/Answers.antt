use Rattle.std.proofs.Common.{◌≡◌, ◌<◌, ℕ, Bool, true, false, List, length, get_or, set, sym, ap, ◌∙◌, arith, refl}
use Rattle.std.proofs.lemmas.List.{length-set, get_or_read, get_or-set_same}
use Rattle.variable_ranks.proofs.Playing.{flag-read}
use Rattle.variable_ranks.proofs.Winning.{played-number, back-in}
use Rattle.variable_ranks.proofs.ranks.Ranks.set_number.Goals as goal

pub invariant_of-self-clause-one_flag_each : goal.invariant_of-self-clause-one_flag_each
invariant_of-self-clause-one_flag_each c = c.args.self.now.one_flag_each ∙ sym (length-set c.args.self.now.numbers.items c.args.var c.args.number)

pub invariant_of-self-clause-one_winner_each : goal.invariant_of-self-clause-one_winner_each
invariant_of-self-clause-one_winner_each c = c.args.self.now.one_winner_each ∙ sym (length-set c.args.self.now.numbers.items c.args.var c.args.number)

pub invariant_of-self-clause-played : goal.invariant_of-self-clause-played
invariant_of-self-clause-played c =
    played-number c.args.self.now.numbers.items c.args.self.now.present.items c.args.self.now.winners.items c.args.var c.args.number
    (flag-read c.args.self.now.present.items c.args.var c.index.result.now false (omega (arith, c.requires, c.args.self.now.one_flag_each)) c.index.ensures c.if-not-index.true)
    c.args.self.now.played

pub invariant_of-self-2-clause-one_flag_each : goal.invariant_of-self-2-clause-one_flag_each
invariant_of-self-2-clause-one_flag_each c = c.take.new.self.one_flag_each ∙ sym (length-set c.take.new.self.numbers.items c.args.var c.args.number)

pub invariant_of-self-2-clause-one_winner_each : goal.invariant_of-self-2-clause-one_winner_each
invariant_of-self-2-clause-one_winner_each c = c.take.new.self.one_winner_each ∙ sym (length-set c.take.new.self.numbers.items c.args.var c.args.number)

pub invariant_of-self-2-clause-played : goal.invariant_of-self-2-clause-played
invariant_of-self-2-clause-played c =
    played-number c.take.new.self.numbers.items c.take.new.self.present.items c.take.new.self.winners.items c.args.var c.args.number
    (ap (λ (p : List Bool). get_or p c.args.var false) c.take.ensures.taken ∙ get_or-set_same c.args.self.now.present.items c.args.var false false (omega (arith, c.requires, c.args.self.now.one_flag_each)))
    c.take.new.self.played

pub returns-clause-same : goal.returns-clause-same
returns-clause-same c =
    c.put.ensures.put ∙ ap (λ (p : List Bool). set p c.args.var true) c.take.ensures.taken
    ∙ back-in c.args.self.now.present.items c.args.var
    (flag-read c.args.self.now.present.items c.args.var c.index.result.now true (omega (arith, c.requires, c.args.self.now.one_flag_each)) c.index.ensures c.if-not-index.false)
