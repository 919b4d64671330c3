use Rattle.std.proofs.Common.{◌<◌, ◌+◌, length, take, get_or, sym, refl, subst}
use Rattle.std.proofs.lemmas.List.Elements.{All-push}
use Rattle.bit_sets.specs.declared.Bits.{Bits}
use Rattle.bit_sets.specs.Sets.{IsCommon, IsWithin}
use Rattle.bit_sets.proofs.Masks.{shared_more}
use Rattle.bit_sets.proofs.shared.Goals as goal

pub loop-bits-preserved : goal.loop-bits-preserved
loop-bits-preserved c =
    let d : Bits = record { signal = 0; mask = 0 } in
    let set = c.args.set.now in
    let table = c.args.table.now in
    let i = c.loop-bits.bits-index in
    let b : Bits = get_or set i d in
    let items = sym c.in_ok-push.ensures.items in
    record {
      within = subst (IsWithin (length table)) items (All-push (λ (x : Bits). x.signal < length table) c.loop-bits.both.items _ c.loop-bits.invariant.within (c.requires i d c.loop-bits-test.true));
      shared = subst (IsCommon table (take (i + 1) set)) items (shared_more table set c.loop-bits.both.items i d b _ c.loop-bits-test.true refl refl c.loop-bits.invariant.shared);
    }
