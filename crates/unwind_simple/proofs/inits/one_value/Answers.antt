use Rattle.std.proofs.Common.{◌≡◌, ◌≤◌, [], ◌∷◌, drop, length, sym, ap, ◌∙◌, arith}
use Rattle.std.proofs.lemmas.List.{drop_more}
use Rattle.std.proofs.Math.ListN.{drop_of_length-le}
use Rattle.unwind_simple.proofs.Returning.{one_asks, obtained_one}
use Rattle.unwind_simple.proofs.inits.one_value.Goals as goal

pub value-requires : goal.value-requires
value-requires c =
    let es = c.as_slice-es.result.now in
    let x = c.index-es-0.result in
    let h = c.if-es-ne1.false in
    let short : length es ≤ 1 = omega (arith, h) in
    let is_es : es ≡ x ∷ [] = drop_more es 0 x (omega (arith, h)) ∙ ap (λ y. y ∷ drop 1 es) (sym c.index-es-0.is) ∙ ap (λ l. x ∷ l) (drop_of_length-le es short) in
    one_asks c.args.at.now c.args.net.now c.args.state.now c.args.ty c.args.es.now x c.args.guard (sym c.as_slice-es.ensures ∙ is_es) c.requires

pub returns : goal.returns
returns c =
    let es = c.as_slice-es.result.now in
    let x = c.index-es-0.result in
    let h = c.if-es-ne1.false in
    let short : length es ≤ 1 = omega (arith, h) in
    let is_es : es ≡ x ∷ [] = drop_more es 0 x (omega (arith, h)) ∙ ap (λ y. y ∷ drop 1 es) (sym c.index-es-0.is) ∙ ap (λ l. x ∷ l) (drop_of_length-le es short) in
    obtained_one c.args.at.now c.args.net.now c.value.new.net c.args.state.now c.args.ty c.args.es.now x c.args.guard c.in_ok-t.t c.requires.scope c.requires.fits (sym c.as_slice-es.ensures ∙ is_es) c.in_ok-t.ensures
