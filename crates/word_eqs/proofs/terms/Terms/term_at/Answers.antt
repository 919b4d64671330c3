use Rattle.std.proofs.Common.{◌≡◌, ◌∙◌, length, get_or, refl, ap, subst}
use Rattle.std.proofs.lemmas.Option.{slice_get_read}
use Rattle.word_eqs.specs.Graph.{Graph, IsGraph}
use Rattle.word_eqs.proofs.terms.Terms.term_at.Goals as goal

pub returns-clause-fits : goal.returns-clause-fits
returns-clause-fits c =
    let h : IsGraph c.args.self.now = subst IsGraph c.self.view_is c.self.invariant in
    let e : c.index.result.now ≡ get_or c.args.self.now.terms c.args.k c.index.result.now = c.index.ensures ∙ ap (λ (g : Graph). get_or g.terms c.args.k c.index.result.now) c.self.view_is in
    (h.terms c.args.k c.index.result.now (slice_get_read c.args.self.now.terms (length c.args.self.now.terms) c.args.k c.index.result.now refl c.requires e))
