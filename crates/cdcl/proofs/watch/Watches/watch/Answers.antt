use Rattle.std.proofs.Common.{List, ◌∷◌, [], ◌++◌, set, ap, ◌∙◌}
use Rattle.clause_arena.specs.declared.ClauseId.{ClauseId}
use Rattle.cdcl.specs.Table.{Table}
use Rattle.cdcl.specs.Watched.{slot_of, listed}
use Rattle.cdcl.proofs.Watching.{added-two}
use Rattle.cdcl.proofs.watch.Watches.watch.Goals as goal

pub returns : goal.returns
returns c =
    let e = ap (λ (t : Table). t.lists) c.self.view_is in
    let first = ap (λ (ls : List (List ClauseId)). set ls (slot_of c.args.two.first) (listed ls c.args.two.first ++ c.args.id ∷ [])) e in
    let w =
    added-two c.args.self.now.lists c.add_under.new.self.lists c.add_under-2.new.self.lists c.args.two.first c.args.two.second c.args.id c.requires.first c.requires.second
    (c.in_ok-add_under.ensures.lists ∙ first) c.in_ok-add_under-2.ensures.lists
    in record {
      pairs = c.add_under-2.ensures.pairs ∙ c.add_under.ensures.pairs ∙ c.in_ok-push.ensures.items ∙ ap (λ (t : Table). t.pairs ++ c.args.two ∷ []) c.self.view_is;
      kept = w.0;
      first = w.1;
      second = w.2;
      lists = w.3;
      head = c.add_under-2.ensures.head ∙ c.add_under.ensures.head ∙ ap (λ (t : Table). t.head) c.self.view_is;
    }
