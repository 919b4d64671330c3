use Rattle.std.proofs.Common.{ℕ, eqb, ◌<◌, ◌-◌, length, Vec, get_or, sym, ap, ◌∙◌, arith}
use Rattle.std.specs.Option.{option_map}
use Rattle.std.specs.declared.alloc.Global.{Global}
use Rattle.clause_arena.specs.declared.ClauseId.{ClauseId}
use Rattle.clause_arena.specs.declared.Lit.{Lit}
use Rattle.clause_arena.specs.Clause.{clause_at}
use Rattle.res_log.specs.Log.{book_before}
use Rattle.res_log.proofs.Replays.{result-along, last-empty, last-some}
use Rattle.res_log.proofs.Steps.{bare}
use Rattle.res_log.proofs.replay.is_last_empty.Goals as goal

pub returns-in-Some : goal.returns-in-Some
returns-in-Some c =
    last-empty c.args.arena.now.clauses c.args.log.now (c.len-last.result - 1) c.in-Some.result.items c.is_empty.result c.requires.some (ap (λ (n : ℕ). n - 1) c.len-last.ensures)
    (λ d. ap (option_map (λ (v : Vec Lit Global). v.items)) (sym c.in-Some.is) ∙ c.in_ok-result.ensures d
    ∙ result-along (clause_at c.in_ok-book.book) (book_before c.args.arena.now.clauses c.args.log.now (c.len-last.result - 1)) c.in_ok-book.ensures (get_or c.args.log.now (c.len-last.result - 1) d))
    (c.is_empty.ensures ∙ ap (λ (n : ℕ). eqb n 0) c.in-Some.result.ok.0)

pub returns : goal.returns
returns c =
    let z : ClauseId = record { 0 = 0 } in
    let d = bare z in
    let k = c.len-last.result - 1 in
    let l : c.len-last.result - 1 < length c.args.log.now = omega (arith, c.len-last.ensures, c.requires.some) in
    absurd (last-some c.args.arena.now.clauses c.args.log.now k d c.requires.sound l
    (sym (result-along (clause_at c.in_ok-book.book) (book_before c.args.arena.now.clauses c.args.log.now k) c.in_ok-book.ensures (get_or c.args.log.now k d))
    ∙ sym (c.in_ok-result.ensures d) ∙ ap (option_map (λ (v : Vec Lit Global). v.items)) c.in-None.is))
