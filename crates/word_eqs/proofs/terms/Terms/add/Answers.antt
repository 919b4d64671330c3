use Rattle.std.proofs.Common.{◌≡◌, ◌++◌, ◌∷◌, [], length, sym, ap, ◌∙◌, subst, rules}
use Rattle.word_eqs.specs.Graph.{Graph, graph, node_width, IsGraph, with_term}
use Rattle.word_eqs.specs.Meaning.{Makes}
use Rattle.word_eqs.specs.Gates.{term_gates}
use Rattle.word_eqs.proofs.Graphs.{graph_with_term, makes}
use Rattle.word_eqs.proofs.Counts.{cost}
use Rattle.word_eqs.proofs.terms.Terms.add.Goals as goal

new_is : (c : goal.In_ok-push) → graph c.self.inside.vars.items c.push.new.self.items ≡ with_term c.args.self.now c.args.node
new_is c =
    ap (λ l. graph c.self.inside.vars.items l) c.in_ok-push.ensures.items
    ∙ ap (λ w. graph c.self.inside.vars.items (c.self.inside.terms.items ++ (record { node = c.args.node; width = w }) ∷ [])) c.width_of_node-width.ensures.width
    ∙ ap (λ (g : Graph). graph g.vars (g.terms ++ (record { node = c.args.node; width = node_width c.args.self.now c.args.node }) ∷ [])) c.self.view_is

pub invariant_of-self-2 : goal.invariant_of-self-2
invariant_of-self-2 c =
    let h : IsGraph c.args.self.now = subst IsGraph c.self.view_is c.self.invariant in
    subst IsGraph (sym (new_is c)) (graph_with_term c.args.self.now c.args.node h c.requires.fits c.requires.room)

pub returns-clause-proper : goal.returns-clause-proper
returns-clause-proper c = invariant_of-self-2 c

pub returns-clause-made : goal.returns-clause-made
returns-clause-made c =
    let i : c.len.result ≡ length c.self.inside.terms.items = search rules in
    let e : c.len.result ≡ length c.args.self.now.terms = i ∙ ap (λ (g : Graph). length g.terms) c.self.view_is in
    subst (λ g. Makes c.args.self.now g c.args.node c.len.result) (sym (new_is c)) (subst (λ t. Makes c.args.self.now (with_term c.args.self.now c.args.node) c.args.node t) (sym e) (makes c.args.self.now c.args.node))

pub returns-clause-cost : goal.returns-clause-cost
returns-clause-cost c =
    let h : IsGraph c.args.self.now = subst IsGraph c.self.view_is c.self.invariant in
    ap term_gates (new_is c) ∙ cost c.args.self.now c.args.node h c.requires.fits
