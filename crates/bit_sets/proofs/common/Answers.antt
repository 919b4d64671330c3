use Rattle.std.proofs.Common.{◌≡◌, ◌∙◌, ap, subst, ℕ, get_or}
use Rattle.std.specs.Prelude.{◌&&◌}
use Rattle.bit_sets.specs.Sets.{is_set, is_in, IsWithin}
use Rattle.bit_sets.proofs.Masks.{cleared, filled_bits, and_comm}
use Rattle.bit_sets.proofs.common.Goals as goal

pub returns : goal.returns
returns c =
    let a = c.args.a.now in
    let b = c.args.b.now in
    let size = c.as_slice.ensures.len ∙ c.fill.ensures.len in
    let filled : (g k : ℕ) → is_set (get_or c.as_slice.result.now g 0) k ≡ is_in a g k =
    λ g k. ap (λ l. is_set (get_or l g 0) k) c.as_slice.ensures.value ∙ filled_bits a c.args.table.now.items c.fill.new.table.items g k c.requires.empty c.fill.ensures.fills in
    record {
      len = c.clear.ensures.len ∙ c.fill.ensures.len;
      empty = cleared a c.args.table.now.items c.fill.new.table.items c.clear.new.table.items c.requires.empty c.fill.ensures.fills c.clear.ensures.clears;
      within = subst (λ n. IsWithin n c.in_ok-both.both.items) size c.in_ok-both.ensures.within;
      common = λ g k. c.in_ok-both.ensures.shared g k ∙ ap (λ x. is_in b g k && x) (filled g k) ∙ and_comm (is_in b g k) (is_in a g k);
    }
