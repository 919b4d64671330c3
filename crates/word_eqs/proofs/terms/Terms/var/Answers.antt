use Rattle.std.proofs.Common.{◌≡◌, sym, ap, ◌∙◌, subst}
use Rattle.word_eqs.specs.Graph.{Graph, graph, IsGraph, with_var}
use Rattle.word_eqs.proofs.Graphs.{graph_with_var}
use Rattle.word_eqs.proofs.terms.Terms.var.Goals as goal

pub invariant_of-self-2 : goal.invariant_of-self-2
invariant_of-self-2 c =
    let h : IsGraph c.args.self.now = subst IsGraph c.self.view_is c.self.invariant in
    let e : graph c.push.new.self.items c.self.inside.terms.items ≡ with_var c.args.self.now c.args.width = ap (λ l. graph l c.self.inside.terms.items) c.in_ok-push.ensures.items ∙ ap (λ (g : Graph). with_var g c.args.width) c.self.view_is in
    subst IsGraph (sym e) (graph_with_var c.args.self.now c.args.width h c.requires.some c.requires.within c.requires.room)

pub returns-clause-proper : goal.returns-clause-proper
returns-clause-proper c = invariant_of-self-2 c
