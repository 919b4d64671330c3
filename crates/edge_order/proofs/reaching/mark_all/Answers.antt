use Rattle.std.proofs.Common.{◌≡◌, ◌+◌, ◌<◌, ℕ, List, Bool, true, false, get_or, length, sym, ap, ◌∙◌, subst, subst₂, refl}
use Rattle.std.specs.Global.{Vec}
use Rattle.std.proofs.lemmas.List.{get_or_read}
use Rattle.edge_order.specs.Marks.{Marks}
use Rattle.edge_order.proofs.Marking.{mark_old, mark_new}
use Rattle.edge_order.proofs.reaching.mark_all.Goals as goal
use Rattle.edge_order.proofs.reaching.mark_all.Goals.{then-not-index+in_ok-push, else-not-index}

pub loop-node-preserved : goal.loop-node-preserved
loop-node-preserved c =
    let nodes = c.args.nodes.now in
    let n = c.loop-node.node-index in
    let node : ℕ = get_or nodes n 0 in
    let marks = c.loop-node.marks.items in
    let pending = c.loop-node.pending.items in
    let lt : node < length marks = subst (λ k. node < k) (sym c.loop-node.invariant.size) (c.requires n 0 c.loop-node-test.true) in
    let read : c.index.result.now ≡ get_or marks node false = get_or_read marks node c.index.result.now lt c.index.ensures false in
    let P : List Bool → List ℕ → Type 0 = λ m p. Marks nodes (n + 1) c.args.marks.now.items m c.args.pending.now.items p in
    elim c.if-not-index.branch [
      | then-not-index+in_ok-push w ↦
          let f : c.index.result.now ≡ false = w.if-not-index.true in
          let M = mark_new nodes n c.args.marks.now.items marks c.args.pending.now.items pending node c.loop-node-test.true refl lt (sym read ∙ f) c.loop-node.invariant in
          subst₂ P (sym (ap (λ (v : Vec Bool). v.items) w.marks-is)) (sym (ap (λ (v : Vec ℕ). v.items) w.pending-is ∙ w.in_ok-push.ensures.items)) M
      | else-not-index w ↦
          let t : c.index.result.now ≡ true = w.if-not-index.false in
          let M = mark_old nodes n c.args.marks.now.items marks c.args.pending.now.items pending (sym read ∙ t) c.loop-node.invariant in
          subst₂ P (sym (ap (λ (v : Vec Bool). v.items) w.marks-is)) (sym (ap (λ (v : Vec ℕ). v.items) w.pending-is)) M
    ]
