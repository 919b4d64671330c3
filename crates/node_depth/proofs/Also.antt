-- Trees beside others.
use Rattle.std.proofs.Common.{◌≡◌, ◌+◌, max, ◌∷◌, ◌++◌, refl, sym, ◌∙◌, ap, append_assoc, arith}
use Rattle.node_depth.specs.declared.depth.Node.{Node}
use Rattle.node_depth.specs.Nodes.{Trees, none, node, count, height, post, also}

pub count_also : (f g : Trees) → count (also f g) ≡ count f + count g
count_also none g = omega arith
count_also (node p a b) g = let h = count_also b g in omega (arith, h)

pub post_also : (f g : Trees) → post (also f g) ≡ post f ++ post g
post_also none g = refl
post_also (node p a b) g =
    let n : Node = record { inside = count a; place = p } in
    ap (λ x. post a ++ n ∷ x) (post_also b g) ∙ sym (append_assoc (post a) (n ∷ post b) (post g))

pub also_none : (f : Trees) → also f none ≡ f
also_none none = refl
also_none (node p a b) = ap (node p a) (also_none b)

pub also_assoc : (f g h : Trees) → also (also f g) h ≡ also f (also g h)
also_assoc none g h = refl
also_assoc (node p a b) g h = ap (node p a) (also_assoc b g h)

pub height_also : (f g : Trees) → height (also f g) ≡ max (height f) (height g)
height_also none g = omega arith
height_also (node p a b) g = let h = height_also b g in omega (arith, h)
