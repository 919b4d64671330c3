use Rattle.element_terms.specs.Elements.{IsRead}
use Rattle.element_terms.proofs.read.Given as goal

abbrev pub invariant-loop-k : goal.invariant-loop-k
invariant-loop-k l = IsRead l.fn.terms l.terms l.index l.elements l.width l.k l.t
