-- The members of a struct, one step after another.
use Rattle.std.proofs.Common.{◌≡◌, ℕ, zero, suc, ◌+◌, ◌*◌, ◌<◌, ◌≤◌, List, [], ◌∷◌, ◌++◌, length, take, drop, Bool, true, false, slice_get, refl, sym, ap, ◌∙◌, arith, append_assoc, append-nil, length-append}
use Rattle.std.specs.Prelude.{cond, nat_lt, Option, Some, None}
use Rattle.std.proofs.lemmas.Bool.Decides.{nat_tests}
use Rattle.std.proofs.lemmas.Option.{slice_get_past}
use Rattle.c_tree.specs.declared.names.Identifier.{Identifier}
use Rattle.joint_ir.specs.declared.program.Member.{Member}
use Rattle.c_structs.specs.declared.tags.Part.{Part}
use Rattle.c_structs.specs.declared.tags.Shape.{Shape}
use Rattle.c_structs.specs.declared.tags.Shape.TheVariants as shape
use Rattle.c_structs.specs.declared.depths.Frame.{Frame}
use Rattle.c_structs.specs.Tags.{Ends, Tag}
use Rattle.c_structs.specs.Lists.{TagList, parts_in, inner_of, shaped_onto, onto, known_tags}
use Rattle.c_structs.specs.Under.{member_path, members_under}
use Rattle.c_structs.specs.Depths.{list_at, part_at, shape_type, shape_length, tag_before, inner_tag, inner_frames, frames_after, members_after, frame_members, pending, steps_left}

drop_none : {X : Type 0} (xs : List X) (i : ℕ) → slice_get xs i ≡ None → drop i xs ≡ []
drop_none [] zero h = refl
drop_none [] (suc i) h = refl
drop_none (x ∷ xs) zero h = cc
drop_none (x ∷ xs) (suc i) h = drop_none xs i h

drop_some : {X : Type 0} (xs : List X) (i : ℕ) (x : X) → slice_get xs i ≡ Some x → drop i xs ≡ x ∷ drop (suc i) xs
drop_some [] i x h = cc
drop_some (y ∷ xs) zero x h = let same : y ≡ x = cc in ap (λ z. z ∷ xs) same
drop_some (y ∷ xs) (suc i) x h = drop_some xs i x h

take_in : {X : Type 0} (xs : List X) (n i : ℕ) → i < n → slice_get (take n xs) i ≡ slice_get xs i
take_in [] zero i h = refl
take_in [] (suc n) i h = refl
take_in (x ∷ xs) zero i h = absurd (omega (arith, h))
take_in (x ∷ xs) (suc n) zero h = refl
take_in (x ∷ xs) (suc n) (suc i) h = take_in xs n i (omega (arith, h))

take_out : {X : Type 0} (xs : List X) (n i : ℕ) → n ≤ i → slice_get (take n xs) i ≡ None
take_out [] zero i h = refl
take_out [] (suc n) i h = refl
take_out (x ∷ xs) zero i h = refl
take_out (x ∷ xs) (suc n) zero h = absurd (omega (arith, h))
take_out (x ∷ xs) (suc n) (suc i) h = take_out xs n i (omega (arith, h))

-- the tags that lists declare stand behind those known before
known_front : (tags : List Tag) (ls : List TagList) → (more : List Tag) × (known_tags tags ls ≡ tags ++ more)
known_front tags [] = ([], sym (append-nil tags))
known_front tags (l ∷ ls) =
    let new : Tag = (l.0, onto tags l.1 Ends) in
    let rest = known_front (tags ++ new ∷ []) ls in
    (new ∷ rest.0, rest.1 ∙ append_assoc tags (new ∷ []) rest.0)

at_front : (tags : List Tag) (t : Tag) (more : List Tag) → slice_get (tags ++ t ∷ more) (length tags) ≡ Some t
at_front [] t more = refl
at_front (x ∷ tags) t more = at_front tags t more

take_front : (tags more : List Tag) → take (length tags) (tags ++ more) ≡ tags
take_front [] [] = refl
take_front [] (m ∷ more) = refl
take_front (x ∷ tags) more = ap (λ q. x ∷ q) (take_front tags more)

-- a tag by its place
known_later : (tags : List Tag) (ls : List TagList) (i : ℕ) →
    parts_in (slice_get (known_tags tags ls) (length tags + i)) ≡ onto (take (length tags + i) (known_tags tags ls)) (list_at ls i) Ends
known_later tags [] i = ap parts_in (slice_get_past tags (length tags + i) (omega arith))
known_later tags (l ∷ ls) zero =
    let new : Tag = (l.0, onto tags l.1 Ends) in
    let front = known_front (tags ++ new ∷ []) ls in
    let whole : known_tags (tags ++ new ∷ []) ls ≡ tags ++ new ∷ front.0 = front.1 ∙ append_assoc tags (new ∷ []) front.0 in
    let at : length tags + 0 ≡ length tags = omega arith in
    ap (λ n. parts_in (slice_get (known_tags (tags ++ new ∷ []) ls) n)) at
    ∙ ap (λ ts. parts_in (slice_get ts (length tags))) whole
    ∙ ap parts_in (at_front tags new front.0)
    ∙ ap (λ ts. onto ts l.1 Ends) (sym (take_front tags (new ∷ front.0)))
    ∙ ap (λ ts. onto (take (length tags) ts) l.1 Ends) (sym whole)
    ∙ ap (λ n. onto (take n (known_tags (tags ++ new ∷ []) ls)) l.1 Ends) (sym at)
known_later tags (l ∷ ls) (suc i) =
    let new : Tag = (l.0, onto tags l.1 Ends) in
    let long : length (tags ++ new ∷ []) + i ≡ length tags + suc i = omega (arith, length-append tags (new ∷ [])) in
    ap (λ n. parts_in (slice_get (known_tags (tags ++ new ∷ []) ls) n)) (sym long)
    ∙ known_later (tags ++ new ∷ []) ls i
    ∙ ap (λ n. onto (take n (known_tags (tags ++ new ∷ []) ls)) (list_at ls i) Ends) long

pub known_at : (ls : List TagList) (i : ℕ) → parts_in (slice_get (known_tags [] ls) i) ≡ onto (take i (known_tags [] ls)) (list_at ls i) Ends
known_at ls i =
    let e : 0 + i ≡ i = omega arith in
    ap (λ n. parts_in (slice_get (known_tags [] ls) n)) (sym e) ∙ known_later [] ls i ∙ ap (λ n. onto (take n (known_tags [] ls)) (list_at ls i) Ends) e

module _ (ls : List TagList) where
  pub enter_members : (whole : List ℕ) (i : Option ℕ) → members_under whole (inner_of (known_tags [] ls) i) ≡ pending ls (inner_frames whole i)
  enter_members whole None = refl
  enter_members whole (Some i) = ap (members_under whole) (known_at ls i)

  pub enter_first : (whole : List ℕ) (i : Option ℕ) (members : List Member) (empty stack : List Frame) → members ≡ [] → empty ≡ [] → stack ≡ empty ++ inner_frames whole i →
      members_under whole (inner_of (known_tags [] ls) i) ≡ members ++ pending ls stack
  enter_first whole i members empty stack none is is_stack =
      enter_members whole i ∙ ap (λ q. pending ls (q ++ inner_frames whole i)) (sym is) ∙ ap (pending ls) (sym is_stack) ∙ ap (λ q. q ++ pending ls stack) (sym none)

  -- a struct in a struct is one that was declared before
  inner_members : (whole : List ℕ) (tag : ℕ) (i : Option ℕ) → members_under whole (inner_of (take tag (known_tags [] ls)) i) ≡ pending ls (inner_frames whole (tag_before tag i))
  inner_members whole tag None = refl
  inner_members whole tag (Some i) = pick (nat_lt i tag) refl
    where
      pick : (b : Bool) → nat_lt i tag ≡ b → members_under whole (inner_of (take tag (known_tags [] ls)) (Some i)) ≡ pending ls (inner_frames whole (cond b (Some i) None))
      pick true h =
          let lt : i < tag = grind (arith, nat_tests) in
          ap (λ o. members_under whole (parts_in o)) (take_in (known_tags [] ls) tag i lt) ∙ enter_members whole (Some i)
      pick false h =
          let le : tag ≤ i = grind (arith, nat_tests) in
          ap (λ o. members_under whole (parts_in o)) (take_out (known_tags [] ls) tag i le)

  shape_members : (x : Identifier) (s : Shape) (whole : List ℕ) (tag next : ℕ) →
      members_under whole (shaped_onto (take tag (known_tags [] ls)) x s (onto (take tag (known_tags [] ls)) (drop next (list_at ls tag)) Ends))
      ≡ (record { path = member_path whole x.name; place = x.place; ty = shape_type s; length = shape_length s })
      ∷ pending ls ((record { path = whole; tag = tag; at = next }) ∷ inner_frames (member_path whole x.name) (inner_tag tag s))
  shape_members x (shape.Integer t n) whole tag next = refl
  shape_members x (shape.Struct i) whole tag next =
      ap (λ ms. (record { path = member_path whole x.name; place = x.place; ty = None; length = 0 }) ∷ (ms ++ members_under whole (onto (take tag (known_tags [] ls)) (drop next (list_at ls tag)) Ends)))
      (inner_members (member_path whole x.name) tag i)

  -- one step
  pub frame_step : (f : Frame) → frame_members ls f ≡ members_after f (part_at ls f.tag f.at) ++ pending ls (frames_after f (part_at ls f.tag f.at))
  frame_step f = pick (part_at ls f.tag f.at) refl
    where
      pick : (o : Option Part) → part_at ls f.tag f.at ≡ o → frame_members ls f ≡ members_after f o ++ pending ls (frames_after f o)
      pick None h = ap (λ ps. members_under f.path (onto (take f.tag (known_tags [] ls)) ps Ends)) (drop_none (list_at ls f.tag) f.at h)
      pick (Some p) h =
          let e : suc f.at ≡ f.at + 1 = omega arith in
          ap (λ ps. members_under f.path (onto (take f.tag (known_tags [] ls)) ps Ends)) (drop_some (list_at ls f.tag) f.at p h ∙ ap (λ n. p ∷ drop n (list_at ls f.tag)) e)
          ∙ shape_members p.name p.shape f.path f.tag (f.at + 1)

  pending-append : (fs gs : List Frame) → pending ls (fs ++ gs) ≡ pending ls gs ++ pending ls fs
  pending-append [] gs = sym (append-nil (pending ls gs))
  pending-append (f ∷ fs) gs = ap (λ q. q ++ frame_members ls f) (pending-append fs gs) ∙ append_assoc (pending ls gs) (pending ls fs) (frame_members ls f)

  -- what is left before a step and after it
  pending_step : (stack rest new : List Frame) (f : Frame) → stack ≡ rest ++ f ∷ [] → new ≡ rest ++ frames_after f (part_at ls f.tag f.at) →
      pending ls stack ≡ members_after f (part_at ls f.tag f.at) ++ pending ls new
  pending_step stack rest new f is is_new =
      let o : Option Part = part_at ls f.tag f.at in
      ap (pending ls) is ∙ pending-append rest (f ∷ []) ∙ ap (λ q. q ++ pending ls rest) (frame_step f)
      ∙ append_assoc (members_after f o) (pending ls (frames_after f o)) (pending ls rest)
      ∙ ap (λ q. members_after f o ++ q) (sym (pending-append rest (frames_after f o)))
      ∙ ap (λ q. members_after f o ++ pending ls q) (sym is_new)

  pub walk_next : (whole before after : List Member) (stack rest new : List Frame) (f : Frame) → whole ≡ before ++ pending ls stack → stack ≡ rest ++ f ∷ [] →
      new ≡ rest ++ frames_after f (part_at ls f.tag f.at) → after ≡ before ++ members_after f (part_at ls f.tag f.at) → whole ≡ after ++ pending ls new
  walk_next whole before after stack rest new f is is_stack is_new is_after =
      is ∙ ap (λ q. before ++ q) (pending_step stack rest new f is_stack is_new)
      ∙ sym (append_assoc before (members_after f (part_at ls f.tag f.at)) (pending ls new))
      ∙ ap (λ q. q ++ pending ls new) (sym is_after)

  few_frames : (f : Frame) (o : Option Part) → length (frames_after f o) ≤ 2 * length (members_after f o)
  few_frames f None = omega arith
  few_frames f (Some p) = pick (inner_tag f.tag p.shape)
    where
      pick : (i : Option ℕ) → suc (length (inner_frames (member_path f.path p.name.name) i)) ≤ 2
      pick None = omega arith
      pick (Some i) = omega arith

  pub walk_fewer : (stack rest new : List Frame) (f : Frame) → stack ≡ rest ++ f ∷ [] → new ≡ rest ++ frames_after f (part_at ls f.tag f.at) → steps_left ls new < steps_left ls stack
  walk_fewer stack rest new f is is_new =
      let o : Option Part = part_at ls f.tag f.at in
      let left : length (pending ls stack) ≡ length (members_after f o) + length (pending ls new) = ap length (pending_step stack rest new f is is_new) ∙ length-append (members_after f o) (pending ls new) in
      let long : length stack ≡ length rest + 1 = ap length is ∙ length-append rest (f ∷ []) in
      let long_new : length new ≡ length rest + length (frames_after f o) = ap length is_new ∙ length-append rest (frames_after f o) in
      omega (arith, left, long, long_new, few_frames f o)
