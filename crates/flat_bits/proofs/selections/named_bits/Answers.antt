use Rattle.std.proofs.Common.{◌∙◌, ◌-◌, sym, refl, ap, subst}
use Rattle.flat_tree.specs.Values.{Shape}
use Rattle.flat_values.specs.Fits.{no_shape}
use Rattle.flat_bits.specs.declared.selections.Named.TheVariants as named
use Rattle.flat_bits.specs.Selections.{IsNamed, HasIndexes}
use Rattle.flat_bits.proofs.Naming.{named_whole, named_part, named_bit, named_up, named_down, names_by, less_none, close_of}
use Rattle.flat_bits.proofs.selections.named_bits.Goals as goal

pub indexed-requires-clause-close : goal.indexed-requires-clause-close
indexed-requires-clause-close c = close_of (λ g. no_shape) c.in-Bit.i c.constant_index.result (c.constant_index.ensures (λ g. no_shape))

pub indexed-requires-in-Up-clause-close : goal.indexed-requires-in-Up-clause-close
indexed-requires-in-Up-clause-close c = close_of (λ g. no_shape) c.in-Up.i c.constant_index-in-Up.result (c.constant_index-in-Up.ensures (λ g. no_shape))

pub indexed-requires-in-Down-clause-close : goal.indexed-requires-in-Down-clause-close
indexed-requires-in-Down-clause-close c = close_of (λ g. no_shape) c.in-Down.i c.constant_index-in-Down.result (c.constant_index-in-Down.ensures (λ g. no_shape))

pub returns-in-Whole : goal.returns-in-Whole
returns-in-Whole c shapes g e I =
    subst (λ s. IsNamed shapes g s (named.Mask c.span.result)) (sym c.in-Whole.is) (named_whole shapes g c.args.signal.now.bits c.span.result (ap (λ (x : Shape). x.bits) e) c.span.ensures)

pub returns-in-Bit : goal.returns-in-Bit
returns-in-Bit c shapes g e I =
    let s = c.args.signal.now in
    let names = names_by shapes g s.bits s.low 0 1 c.in-Bit.i c.constant_index.result c.indexed.result _ (ap (λ (x : Shape). x.bits) e) (ap (λ (x : Shape). x.low) e) (subst (HasIndexes shapes) c.in-Bit.is I) (c.constant_index.ensures shapes) c.indexed.ensures (sym (less_none _)) in
    subst (λ x. IsNamed shapes g x c.indexed.result) (sym c.in-Bit.is) (named_bit shapes g c.in-Bit.i c.indexed.result (ap (λ (x : Shape). x.words) e ∙ c.requires.vector) names)

pub returns-in-Part : goal.returns-in-Part
returns-in-Part c shapes g e I =
    let s = c.args.signal.now in
    subst (λ x. IsNamed shapes g x (named.Mask c.part.result)) (sym c.in-Part.is) (named_part shapes g s.bits s.low c.in-Part.high c.in-Part.end c.part.result _ _ (ap (λ (x : Shape). x.bits) e) (ap (λ (x : Shape). x.low) e) refl refl c.part.ensures)

pub returns-in-Up : goal.returns-in-Up
returns-in-Up c shapes g e I =
    let s = c.args.signal.now in
    let names = names_by shapes g s.bits s.low 0 c.in-Up.n c.in-Up.i c.constant_index-in-Up.result c.indexed-in-Up.result _ (ap (λ (x : Shape). x.bits) e) (ap (λ (x : Shape). x.low) e) (subst (HasIndexes shapes) c.in-Up.is I) (c.constant_index-in-Up.ensures shapes) c.indexed-in-Up.ensures (sym (less_none _)) in
    subst (λ x. IsNamed shapes g x c.indexed-in-Up.result) (sym c.in-Up.is) (named_up shapes g c.in-Up.n c.in-Up.i c.indexed-in-Up.result names)

pub returns-in-Down : goal.returns-in-Down
returns-in-Down c shapes g e I =
    let s = c.args.signal.now in
    let names = names_by shapes g s.bits s.low (c.in-Down.n - 1) c.in-Down.n c.in-Down.i c.constant_index-in-Down.result c.indexed-in-Down.result _ (ap (λ (x : Shape). x.bits) e) (ap (λ (x : Shape). x.low) e) (subst (HasIndexes shapes) c.in-Down.is I) (c.constant_index-in-Down.ensures shapes) c.indexed-in-Down.ensures refl in
    subst (λ x. IsNamed shapes g x c.indexed-in-Down.result) (sym c.in-Down.is) (named_down shapes g c.in-Down.n c.in-Down.i c.indexed-in-Down.result names)
