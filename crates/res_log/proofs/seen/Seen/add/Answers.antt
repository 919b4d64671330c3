use Rattle.std.proofs.Common.{ℕ, List, sym, subst}
use Rattle.std.specs.declared.vec.Vec.{Vec}
use Rattle.std.specs.declared.alloc.Global.{Global}
use Rattle.res_log.specs.Keys.{Remembers}
use Rattle.res_log.proofs.Keying.{remembers-more}
use Rattle.res_log.proofs.seen.Seen.add.Goals as goal

pub returns : goal.returns
returns c = λ cs r.
    remembers-more (λ (v : Vec ℕ Global). v.items) c.self.inside.keys.keys c.insert.new.self.keys c.in_ok-key.field-0 c.in_ok-added.added
    c.in_ok-added.ensures.added c.in_ok-added.ensures.keys c.args.clause.now c.in_ok-key.ensures cs
    (subst (λ (ks : List (List ℕ)). Remembers ks cs) (sym c.self.view_is) r)
