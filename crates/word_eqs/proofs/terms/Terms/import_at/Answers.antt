use Rattle.std.proofs.Common.{◌≡◌, ◌+◌, ◌<◌, ◌≤◌, true, [], ◌∷◌, length, sym, ap, ◌∙◌, subst, arith}
use Rattle.std.specs.Prelude.{slice_index, count_by}
use Rattle.word_eqs.specs.declared.term.Term.{Term}
use Rattle.word_eqs.specs.Graph.{Graph, FitsNode, IsGraph, with_term, places, is_made, is_no_var, MOST_TERMS}
use Rattle.word_eqs.specs.Import.{IsCopy, moved_node}
use Rattle.word_eqs.proofs.Importing.{some_is, moved_fits, made, count_made, copy_var, copy_node}
use Rattle.word_eqs.proofs.terms.Terms.import_at.Goals as goal

pub add-requires : goal.add-requires
add-requires c =
    let x : Term = c.term_at.result in
    let m : is_made x.node ≡ true = made x.node c.in_default.not-Var in
    let one : count_by is_no_var (x ∷ []) ≡ 1 = count_made x m in
    let room : length c.args.self.now.terms + count_by is_no_var (x ∷ []) ≤ MOST_TERMS = c.requires.room x c.term_at.ensures.at in
    record {
      fits = subst (FitsNode c.args.self.now (length c.args.self.now.terms)) (sym (c.moved.ensures x c.term_at.ensures.at))
          (moved_fits c.args.self.now c.args.from.now (places c.args.ids.now) c.args.k x.node m c.term_at.ensures.fits.fits c.requires.copies);
      room = omega (arith, one, room);
    }

pub returns-in-Var-clause-copy : goal.returns-in-Var-clause-copy
returns-in-Var-clause-copy c = λ x at.
    let g = c.args.self.now in
    let subs = places c.args.map.now in
    let ids = places c.args.ids.now in
    let h : IsGraph g = subst IsGraph c.self.view_is c.self.invariant in
    let r : Term = c.term_at.result in
    let same : r ≡ x = some_is (sym c.term_at.ensures.at ∙ at) in
    let copy : IsCopy g g c.args.from.now subs ids r (slice_index subs c.in-Var.x.0) = copy_var g c.args.from.now subs ids c.args.k r c.in-Var.x.0 h c.term_at.ensures.fits c.requires.subs c.in-Var.is in
    subst (IsCopy g g c.args.from.now subs ids x) (sym c.id_at.ensures) (subst (λ (y : Term). IsCopy g g c.args.from.now subs ids y (slice_index subs c.in-Var.x.0)) same copy)

pub returns-in_ok-id-in_default-clause-copy : goal.returns-in_ok-id-in_default-clause-copy
returns-in_ok-id-in_default-clause-copy c = λ x at.
    let g = c.args.self.now in
    let subs = places c.args.map.now in
    let ids = places c.args.ids.now in
    let h : IsGraph g = subst IsGraph c.self.view_is c.self.invariant in
    let r : Term = c.term_at.result in
    let same : r ≡ x = some_is (sym c.term_at.ensures.at ∙ at) in
    let m : is_made r.node ≡ true = made r.node c.in_default.not-Var in
    let one : count_by is_no_var (r ∷ []) ≡ 1 = count_made r m in
    let room : length g.terms + count_by is_no_var (r ∷ []) ≤ MOST_TERMS = c.requires.room r c.term_at.ensures.at in
    let lt : length g.terms < MOST_TERMS = omega (arith, one, room) in
    let copy : IsCopy g (with_term g (moved_node ids r.node)) c.args.from.now subs ids r (length g.terms) = copy_node g c.args.from.now subs ids c.args.k r h c.term_at.ensures.fits c.requires.copies m lt in
    let new : c.add.new.self ≡ with_term g (moved_node ids r.node) = c.in_ok-id-in_default.ensures.ok ∙ ap (with_term g) (c.moved.ensures r c.term_at.ensures.at) in
    subst (IsCopy g c.add.new.self c.args.from.now subs ids x) (sym c.in_ok-id-in_default.ensures.id)
    (subst (λ (n : Graph). IsCopy g n c.args.from.now subs ids x (length g.terms)) (sym new)
    (subst (λ (y : Term). IsCopy g (with_term g (moved_node ids r.node)) c.args.from.now subs ids y (length g.terms)) same copy))
