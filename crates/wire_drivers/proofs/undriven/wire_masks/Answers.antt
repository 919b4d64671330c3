use Rattle.std.proofs.Common.{◌≡◌, ◌<◌, ◌+◌, ◌++◌, ◌∷◌, [], suc, length, take, refl, ap, sym, subst, ◌∙◌, arith}
use Rattle.std.proofs.lemmas.List.{length-append}
use Rattle.std.proofs.lemmas.List.Elements.{All-push}
use Rattle.bit_sets.specs.declared.Bits.{Bits}
use Rattle.bit_sets.specs.Sets.{IsWithin}
use Rattle.wire_drivers.specs.Undriven.{wire_bit, AreMasks}
use Rattle.wire_drivers.proofs.Masks.{masks_more}
use Rattle.wire_drivers.proofs.undriven.wire_masks.Goals as goal

pub loop-g-preserved : goal.loop-g-preserved
loop-g-preserved c =
    let signals = c.args.signals.now in
    let n = length signals in
    let g = c.loop-g.g in
    let d = c.index-signals-g.result in
    let items = c.in_ok-push.ensures.items in
    let lt : g < n = c.loop-g-test.true in
    let next : suc g ≡ g + 1 = omega arith in
    record {
      within = subst (IsWithin n) (sym items) (All-push (λ (x : Bits). x.signal < n) c.loop-g.masks.items _ c.loop-g.invariant.within lt);
      len = ap length items ∙ length-append c.loop-g.masks.items _ ∙ ap (λ m. m + 1) c.loop-g.invariant.len;
      masks =
          subst (AreMasks (take (g + 1) signals)) (sym items)
          (subst (λ m. AreMasks (take m signals) (c.loop-g.masks.items ++ record { signal = g; mask = c.wire_mask-mask.result } ∷ [])) next
          (masks_more signals c.loop-g.masks.items g g c.wire_mask-mask.result d lt c.loop-g.invariant.len refl (λ k. c.wire_mask-mask.ensures k ∙ ap (λ s. wire_bit s k) c.index-signals-g.is) c.loop-g.invariant.masks));
    }
