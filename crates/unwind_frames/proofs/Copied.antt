-- What settles, and what an edge makes of the registers, from copies.
use Rattle.std.proofs.Common.{◌≡◌, List, ◌++◌, sym, ap, ◌∙◌, subst}
use Rattle.std.proofs.lemmas.List.{map-append}
use Rattle.word_eqs.specs.declared.term.TermId.{TermId}
use Rattle.word_eqs.specs.Graph.{Graph, places}
use Rattle.word_eqs.specs.Import.{AreSubs}
use Rattle.word_eqs.specs.Meaning.{Values}
use Rattle.joint_ir.specs.declared.module.FlatModule.{FlatModule}
use Rattle.joint_ir.specs.declared.module.Role.TheVariants.{Input, Register, Wire}
use Rattle.joint_ir.specs.Views.{widths_of, site_widths, term_numbers}
use Rattle.joint_ir.specs.WellFormed.{AreTerms, FitsModule}
use Rattle.unrolled.specs.declared.Unrolled.{Unrolled}
use Rattle.unwind_state.specs.Images.{words}
use Rattle.unwind_module.proofs.Terms.{terms_append, terms_subs}
use Rattle.module_copies.specs.Copying.{AreCopied}
use Rattle.unwind_frames.specs.Frames.{AreSettled, AreNext}

words_append : (v : Values) (xs ys : List TermId) → words v (xs ++ ys) ≡ words v xs ++ words v ys
words_append v xs ys = map-append (λ (t : TermId). (v.term t.0).value) xs ys

module _ (m : FlatModule) (fits : FitsModule m) where
  pub settle_subs : (g : Graph) (R I U subs : List TermId) → subs ≡ R ++ I ++ U → AreTerms g R (widths_of Register m.signals) → AreTerms g I (widths_of Input m.signals) → AreTerms g U (site_widths m.settle_sites) → AreSubs g m.settle_terms (places subs)
  settle_subs g R I U subs e r i u =
      let two = terms_append g R I (widths_of Register m.signals) (widths_of Input m.signals) r i in
      let all = terms_append g (R ++ I) U (widths_of Register m.signals ++ widths_of Input m.signals) (site_widths m.settle_sites) two u in
      terms_subs g m.settle_terms subs (subst (AreTerms g subs) (sym fits.settle_vars) (subst (λ l. AreTerms g l (widths_of Register m.signals ++ widths_of Input m.signals ++ site_widths m.settle_sites)) (sym e) all))

  pub settled_made : (n0 n1 : Unrolled) (R I U subs ids : List TermId) → subs ≡ R ++ I ++ U → AreCopied n0 n1 m.settle_terms m.settled subs ids → AreSettled m n0 n1 R I U ids
  settled_made n0 n1 R I U subs ids e C = record {
    adds = C.adds;
    terms = subst (AreTerms n1.terms ids) fits.settled.sized C.terms;
    value = λ v r.
        C.value v r ∙ ap (λ l. term_numbers m.settle_terms l m.settled) (ap (words v) e ∙ words_append v (R ++ I) U ∙ ap (λ l. l ++ words v U) (words_append v R I));
  }

  pub edge_subs : (g : Graph) (R I W U subs : List TermId) → subs ≡ R ++ I ++ W ++ U → AreTerms g R (widths_of Register m.signals) → AreTerms g I (widths_of Input m.signals) → AreTerms g W (widths_of Wire m.signals) → AreTerms g U (site_widths m.edge_sites) →
      AreSubs g m.edge_terms (places subs)
  edge_subs g R I W U subs e r i w u =
      let two = terms_append g R I (widths_of Register m.signals) (widths_of Input m.signals) r i in
      let three = terms_append g (R ++ I) W (widths_of Register m.signals ++ widths_of Input m.signals) (widths_of Wire m.signals) two w in
      let all = terms_append g (R ++ I ++ W) U (widths_of Register m.signals ++ widths_of Input m.signals ++ widths_of Wire m.signals) (site_widths m.edge_sites) three u in
      terms_subs g m.edge_terms subs
      (subst (AreTerms g subs) (sym fits.edge_vars) (subst (λ l. AreTerms g l (widths_of Register m.signals ++ widths_of Input m.signals ++ widths_of Wire m.signals ++ site_widths m.edge_sites)) (sym e) all))

  pub next_made : (n0 n1 : Unrolled) (R I W U subs ids : List TermId) → subs ≡ R ++ I ++ W ++ U → AreCopied n0 n1 m.edge_terms m.next subs ids → AreNext m n0 n1 R I W U ids
  next_made n0 n1 R I W U subs ids e C = record {
    adds = C.adds;
    terms = subst (AreTerms n1.terms ids) fits.next.sized C.terms;
    value = λ v r.
        C.value v r
        ∙ ap (λ l. term_numbers m.edge_terms l m.next)
        (ap (words v) e ∙ words_append v (R ++ I ++ W) U ∙ ap (λ l. l ++ words v U) (words_append v (R ++ I) W ∙ ap (λ l. l ++ words v W) (words_append v R I)));
  }
