-- The search goes back to the first decision.
use Rattle.std.proofs.Common.{◌≡◌, ℕ, ◌<◌, List, take, length, get_or, Option, None, refl, sym, ap, ◌∙◌, subst, arith}
use Rattle.std.proofs.lemmas.List.{length-take-le}
use Rattle.clause_arena.specs.declared.ClauseId.{ClauseId}
use Rattle.clause_arena.specs.Clause.{Clauses}
use Rattle.cdcl.specs.declared.trail.Trail.{Trail}
use Rattle.cdcl.specs.Trail.{Reasons}
use Rattle.cdcl.specs.Arrays.{reasons_along}
use Rattle.cdcl.specs.Held.{vars_of, reasons_of, IsKept}
use Rattle.cdcl.specs.Table.{Table}
use Rattle.cdcl.specs.Watched.{IsWatched}
use Rattle.cdcl.specs.Watching.{IsWatching}
use Rattle.cdcl.proofs.Gains.{state-take}
use Rattle.cdcl.proofs.Sweeps.{state-at}
use Rattle.cdcl.proofs.Learned.{reasons-back}
use Rattle.cdcl.proofs.Passing.{watched-back}
use Rattle.cdcl.proofs.Watching.{looked-before, learned-in}

back-reasons : (old new : Trail) (end : ℕ) → new.lits.items ≡ take end old.lits.items → new.reasons.items ≡ old.reasons.items → reasons_of new ≡ take end (reasons_of old)
back-reasons old new end e f = ap (λ (by : Reasons). reasons_along by new.lits.items) f ∙ reasons-back old.reasons.items old.lits.items new.lits.items end e

pub kept-restarted : (arena : Clauses) (old new : Trail) (end : ℕ) → IsKept arena old → end < length old.lits.items → new.lits.items ≡ take end old.lits.items → new.reasons.items ≡ old.reasons.items → vars_of new ≡ vars_of old → IsKept arena new
kept-restarted arena old new end s l e f v =
    state-at arena (vars_of new) (vars_of old) new.lits.items (take end old.lits.items) (reasons_of new) (take end (reasons_of old)) v e (back-reasons old new end e f)
    (state-take arena (vars_of old) old.lits.items (reasons_of old) end (omega arith) s)

pub watching-restarted : (arena : Clauses) (old new : Trail) (w x : Table) (end : ℕ) → IsKept arena old → end < length old.lits.items → ((o : Option ClauseId) → get_or (reasons_of old) end o ≡ None)
    → new.lits.items ≡ take end old.lits.items → new.reasons.items ≡ old.reasons.items → vars_of new ≡ vars_of old
    → x.head ≡ end → x.lists ≡ w.lists → x.pairs ≡ w.pairs → IsWatching arena old w → IsWatching arena new x
watching-restarted arena old new w x end s l d e f v xh xl xp g =
    let p = old.lits.items in
    let rs = reasons_of old in
    let n : length new.lits.items ≡ end = ap length e ∙ length-take-le end p (omega arith) in
    let m : length (reasons_of new) ≡ end = ap length (back-reasons old new end e f) ∙ length-take-le end rs (omega (arith, s.lengths)) in record {
      sized = record { one_pair_each = ap length xp ∙ g.sized.one_pair_each; one_list_each = omega (arith, ap length xl, g.sized.one_list_each, v) };
      watched =
          learned-in arena arena x.head end (take end p) new.lits.items (take end rs) (reasons_of new) x.lists w.pairs x.pairs refl e (back-reasons old new end e f) xh xp
          (subst (λ (ls : List (List ClauseId)). IsWatched arena (take end p) (take end rs) end ls w.pairs) (sym xl)
          (watched-back arena p rs w.head end w.lists w.pairs l (looked-before rs end w.head (omega (arith, s.lengths)) d g.forced) d g.watched));
      within = omega (arith, xh, n);
      forced = λ j o b h. absurd (omega (arith, b, h, xh, m));
    }
