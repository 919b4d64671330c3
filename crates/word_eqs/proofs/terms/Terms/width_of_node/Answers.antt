use Rattle.std.proofs.Common.{length, subst, arith}
use Rattle.word_eqs.specs.declared.term.TermNode.TheVariants.{Slice}
use Rattle.word_eqs.specs.Graph.{IsGraph, FitsNode}
use Rattle.word_eqs.proofs.Graphs.{node_width_is}
use Rattle.word_eqs.proofs.terms.Terms.width_of_node.Goals as goal

pub overflow_add-result : goal.overflow_add-result
overflow_add-result c =
    let h : IsGraph c.args.self.now = subst IsGraph c.self.view_is c.self.invariant in
    let f : FitsNode c.args.self.now (length c.args.self.now.terms) (Slice c.in-Slice.field-0 c.in-Slice.high c.in-Slice.low) = subst (FitsNode c.args.self.now (length c.args.self.now.terms)) c.in-Slice.is c.requires in
    let w = node_width_is c.args.self.now (Slice c.in-Slice.field-0 c.in-Slice.high c.in-Slice.low) h f in
    record { fits = omega (arith, w.1) }

pub returns-in-Slice-clause-within : goal.returns-in-Slice-clause-within
returns-in-Slice-clause-within c =
    let h : IsGraph c.args.self.now = subst IsGraph c.self.view_is c.self.invariant in
    let f : FitsNode c.args.self.now (length c.args.self.now.terms) (Slice c.in-Slice.field-0 c.in-Slice.high c.in-Slice.low) = subst (FitsNode c.args.self.now (length c.args.self.now.terms)) c.in-Slice.is c.requires in
    let w = node_width_is c.args.self.now (Slice c.in-Slice.field-0 c.in-Slice.high c.in-Slice.low) h f in
    w.1
