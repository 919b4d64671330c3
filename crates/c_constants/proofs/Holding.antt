-- Whether an expression holds a path, case by case.
use Rattle.std.proofs.Common.{◌≡◌, ℕ, ◌<◌, Bool, true, false, refl, sym, ap, subst, ◌∙◌}
use Rattle.std.specs.Prelude.{if◌then◌else◌}
use Rattle.std.specs.Bool.{OnFalse}
use Rattle.src_text.specs.declared.refusal.Place.{Place}
use Rattle.c_tree.specs.declared.declarations.TypeName.{TypeName}
use Rattle.c_tree.specs.declared.expressions.BinaryMark.{BinaryMark}
use Rattle.c_tree.specs.declared.expressions.UnaryMark.{UnaryMark}
use Rattle.c_tree.specs.declared.expressions.Expression.{Expression}
use Rattle.c_tree.specs.declared.expressions.Expression as expression
use Rattle.c_tree.specs.declared.expressions.Expression.TheBlock.{hidden-the_row-Expression-0}
use denote.Hole.Carrier.{hidden}
use Rattle.c_meaning.specs.Sound.{AreBytes}
use Rattle.c_constants.specs.Constants.{holds_path}
use Rattle.c_constants.specs.Holding.{Holds}

pub parentheses_held : (e a got : Expression) (p : Place) (b : Bool) → e ≡ expression.Parentheses p a → got ≡ a → Holds got b → Holds e b
unfolding hidden-the_row-Expression-0 hidden
parentheses_held e a got p b is is_a h =
    subst (λ z. Holds z b) (sym is) (record { is = h.is ∙ ap holds_path is_a; bytes = subst (λ z. OnFalse b (AreBytes z)) is_a h.bytes })

pub unary_held : (e a got : Expression) (mark : UnaryMark) (b : Bool) → e ≡ expression.Unary mark a → got ≡ a → Holds got b → Holds e b
unfolding hidden-the_row-Expression-0 hidden
unary_held e a got mark b is is_a h =
    subst (λ z. Holds z b) (sym is) (record { is = h.is ∙ ap holds_path is_a; bytes = subst (λ z. OnFalse b (AreBytes z)) is_a h.bytes })

pub cast_held : (e a got : Expression) (p : Place) (ty : TypeName) (b : Bool) → e ≡ expression.Cast p ty a → got ≡ a → Holds got b → Holds e b
unfolding hidden-the_row-Expression-0 hidden
cast_held e a got p ty b is is_a h =
    subst (λ z. Holds z b) (sym is) (record { is = h.is ∙ ap holds_path is_a; bytes = subst (λ z. OnFalse b (AreBytes z)) is_a h.bytes })

-- where an operand holds one
pub binary_first : (e x y got : Expression) (mark : BinaryMark) → e ≡ expression.Binary x mark y → got ≡ x → Holds got true → Holds e true
unfolding hidden-the_row-Expression-0 hidden
binary_first e x y got mark is is_x h = subst (λ z. Holds z true) (sym is) (record { is = ap (λ q. if q then true else holds_path y) (h.is ∙ ap holds_path is_x); bytes = tt })

pub binary_last : (e x y got other : Expression) (mark : BinaryMark) (b : Bool) → e ≡ expression.Binary x mark y → got ≡ x → other ≡ y → Holds got false → Holds other b → Holds e b
unfolding hidden-the_row-Expression-0 hidden
binary_last e x y got other mark b is is_x is_y h g =
    subst (λ z. Holds z b) (sym is) (record {
      is = g.is ∙ ap holds_path is_y ∙ ap (λ q. if q then true else holds_path y) (h.is ∙ ap holds_path is_x);
      bytes = pair b (subst (λ z. OnFalse b (AreBytes z)) is_y g.bytes);
    })
  where
    left : AreBytes x
    left = subst AreBytes is_x h.bytes

    pair : (q : Bool) → OnFalse q (AreBytes y) → OnFalse q (AreBytes x × AreBytes y)
    pair true m = m
    pair false m = (left, m)

pub conditional_first : (e c x y got : Expression) (p : Place) → e ≡ expression.Conditional c p x y → got ≡ c → Holds got true → Holds e true
unfolding hidden-the_row-Expression-0 hidden
conditional_first e c x y got p is is_c h =
    subst (λ z. Holds z true) (sym is) (record { is = ap (λ q. if q then true else if holds_path x then true else holds_path y) (h.is ∙ ap holds_path is_c); bytes = tt })

pub conditional_second : (e c x y got other : Expression) (p : Place) → e ≡ expression.Conditional c p x y → got ≡ c → other ≡ x → Holds got false → Holds other true → Holds e true
unfolding hidden-the_row-Expression-0 hidden
conditional_second e c x y got other p is is_c is_x h g =
    subst (λ z. Holds z true) (sym is) (record {
      is = ap (λ q. if q then true else holds_path y) (g.is ∙ ap holds_path is_x) ∙ ap (λ q. if q then true else if holds_path x then true else holds_path y) (h.is ∙ ap holds_path is_c);
      bytes = tt;
    })

pub conditional_last : (e c x y got other last : Expression) (p : Place) (b : Bool) → e ≡ expression.Conditional c p x y → got ≡ c → other ≡ x → last ≡ y → Holds got false → Holds other false → Holds last b → Holds e b
unfolding hidden-the_row-Expression-0 hidden
conditional_last e c x y got other last p b is is_c is_x is_y h g i =
    subst (λ z. Holds z b) (sym is) (record {
      is = i.is ∙ ap holds_path is_y ∙ ap (λ q. if q then true else holds_path y) (g.is ∙ ap holds_path is_x) ∙ ap (λ q. if q then true else if holds_path x then true else holds_path y) (h.is ∙ ap holds_path is_c);
      bytes = triple b (subst (λ z. OnFalse b (AreBytes z)) is_y i.bytes);
    })
  where
    one : AreBytes c
    one = subst AreBytes is_c h.bytes

    two : AreBytes x
    two = subst AreBytes is_x g.bytes

    triple : (q : Bool) → OnFalse q (AreBytes y) → OnFalse q (AreBytes c × AreBytes x × AreBytes y)
    triple true m = m
    triple false m = (one, two, m)
