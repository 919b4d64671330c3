use Rattle.std.proofs.Common.{◌≡◌, ◌∙◌, ap, subst, ℕ, get_or}
use Rattle.std.specs.Prelude.{◌&&◌, not}
use Rattle.bit_sets.specs.Sets.{is_set, is_in, IsWithin}
use Rattle.bit_sets.proofs.Masks.{cleared, filled_bits}
use Rattle.bit_sets.proofs.without.Goals as goal

pub returns : goal.returns
returns c =
    let a = c.args.a.now in
    let b = c.args.b.now in
    let size = c.as_slice.ensures.len ∙ c.fill.ensures.len in
    let filled : (g k : ℕ) → is_set (get_or c.as_slice.result.now g 0) k ≡ is_in b g k =
    λ g k. ap (λ l. is_set (get_or l g 0) k) c.as_slice.ensures.value ∙ filled_bits b c.args.table.now.items c.fill.new.table.items g k c.requires.empty c.fill.ensures.fills in
    record {
      len = c.clear.ensures.len ∙ c.fill.ensures.len;
      empty = cleared b c.args.table.now.items c.fill.new.table.items c.clear.new.table.items c.requires.empty c.fill.ensures.fills c.clear.ensures.clears;
      within = subst (λ n. IsWithin n c.in_ok-rest.rest.items) size c.in_ok-rest.ensures.within;
      without = λ g k. c.in_ok-rest.ensures.lacking g k ∙ ap (λ x. is_in a g k && not x) (filled g k);
    }
