use Rattle.std.proofs.Common.{◌<◌, length, Vec, ap, ◌∙◌, arith}
use Rattle.std.specs.Option.{option_map}
use Rattle.std.specs.declared.alloc.Global.{Global}
use Rattle.std.proofs.lemmas.List.{length-set}
use Rattle.clause_arena.specs.declared.Lit.{Lit}
use Rattle.clause_arena.specs.Clause.{Clauses, clause_at}
use Rattle.res_log.proofs.Replays.{enter-more, derived-in}
use Rattle.res_log.proofs.replay.book_after.Goals as goal

pub enter-requires : goal.enter-requires
enter-requires c =
    derived-in c.args.arena.now.clauses c.args.log.now c.loop-k.book c.loop-k.k c.derived.result c.requires.sound c.loop-k.invariant.0 (omega arith) c.derived.ensures

pub loop-k-preserved : goal.loop-k-preserved
loop-k-preserved c =
    let o = option_map (λ (v : Vec Lit Global). v.items) c.in_ok-result.result in
    let l : c.loop-k.k < length c.args.log.now = omega arith in
    let m = derived-in c.args.arena.now.clauses c.args.log.now c.loop-k.book c.loop-k.k c.derived.result c.requires.sound c.loop-k.invariant.0 l c.derived.ensures in (
      ap length c.enter.ensures ∙ length-set c.loop-k.book c.derived.result.0 o ∙ c.loop-k.invariant.0,
      λ id. ap (λ (x : Clauses). clause_at x id) c.enter.ensures
          ∙ enter-more c.args.arena.now.clauses c.args.log.now c.loop-k.book c.loop-k.k c.derived.result o l m c.derived.ensures c.in_ok-result.ensures c.loop-k.invariant.1 id,
    )
