use Rattle.std.proofs.Common.{◌≡◌, List, ◌+◌, ◌∙◌, length, ap, sym, arith}
use Rattle.std.proofs.lemmas.List.{with_items_is, length-map}
use Rattle.std.specs.Prelude.{ℤ}
use Rattle.std.specs.Global.{Vec}
use Rattle.joint_value.specs.Elements.{row_items}
use Rattle.joint_value.proofs.Elements.{put_part, part_length}
use Rattle.joint_value.proofs.store.Rows.put_back.Goals as goal

pub overflow_add-end : goal.overflow_add-end
overflow_add-end c =
    let f : Vec ℤ → List ℤ = λ v. v.items in
    omega (
      arith,
      c.requires,
      ap length c.self.view_is,
      ap length c.others.view_is,
      length-map c.self.inside.rows.items f,
      length-map c.others.inside.rows.items f,
      c.self.inside.rows.ok.0,
      c.others.inside.rows.ok.0,
      c.len.ensures,
      c.self.inside.rows.small,
    )

pub returns : goal.returns
returns c =
    let f : Vec ℤ → List ℤ = λ v. v.items in
    let rows = c.deref_mut.result.now in
    let count : c.len.result ≡ length c.args.others =
    c.len.ensures ∙ c.others.inside.rows.ok.0 ∙ sym (length-map c.others.inside.rows.items f) ∙ ap length c.others.view_is in
    let all : length rows ≡ length c.args.self.now = ap length c.deref_mut.ensures.value ∙ sym (length-map c.self.inside.rows.items f) ∙ ap length c.self.view_is in
    ap row_items (with_items_is c.self.inside.rows _ (part_length rows c.swap_with_slice.new.self c.args.first _ (omega (arith, c.requires, all)) c.swap_with_slice.ensures.len ∙ c.deref_mut.ensures.len))
    ∙ put_part rows c.others.inside.rows.items c.swap_with_slice.new.self c.args.self.now c.args.others c.args.first (c.args.first + c.len.result)
    (ap row_items c.deref_mut.ensures.value ∙ c.self.view_is) c.others.view_is (c.swap_with_slice.ensures.after ∙ c.deref_mut-2.ensures.value) (omega (arith, count))
