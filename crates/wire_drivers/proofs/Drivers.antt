-- From drivers to their sets.
use Rattle.std.proofs.Common.{◌≡◌, ℕ, zero, suc, ◌<◌, List, [], ◌∷◌, length, take, map, get_or, Bool, true, false, Some, None, Option, refl, sym, ap, ◌∙◌, subst}
use Rattle.std.specs.Prelude.{◌||◌, slice_get}
use Rattle.std.specs.Global.{Vec}
use Rattle.std.specs.List.{list_any}
use Rattle.std.proofs.lemmas.List.{take-map, length-map}
use Rattle.bit_sets.specs.declared.Bits.{Bits}
use Rattle.bit_sets.specs.Sets.{is_in}
use Rattle.v_views.specs.Spots.{spot}
use Rattle.flat_tree.specs.declared.design.Driver.{Driver}
use Rattle.flat_tree.specs.declared.expr.FlatExpr.{FlatExpr}
use Rattle.flat_tree.specs.Values.{Shape}
use Rattle.flat_language.proofs.Local.{flat_language}
use Rattle.flat_writes.specs.declared.masks.Extent.{Extent}
use Rattle.flat_writes.specs.declared.masks.Extent.TheVariants.{Any}
use Rattle.frame_offences.specs.Drivers.{set_of, any_has, SharesBefore, IsSecond}
use Rattle.wire_drivers.specs.Wires.{writes_wire, any_writes, one_writes, AreSetsOf, WritesAgain, IsSecondDriver}

pub or_none : (a : Bool) → a ≡ (a || false)
or_none true = refl
or_none false = refl

-- whether one of some truths is true
abbrev some : List Bool → Bool
some bs = list_any (λ b. b) bs

any_some : {X : Type 0} (f : X → Bool) (xs : List X) → list_any f xs ≡ some (map f xs)
any_some f [] = refl
any_some f (x ∷ xs) = ap (λ b. f x || b) (any_some f xs)

abbrev set_bit : (g k : ℕ) → Vec Bits → Bool
set_bit g k s = is_in s.items g k

abbrev driver_bit : (ℕ → Shape) → Extent → (g k : ℕ) → Driver FlatExpr → Bool
driver_bit shapes extent g k d = writes_wire (flat_language shapes) extent d.work (spot g 0 k)

module _ (shapes : ℕ → Shape) (extent : Extent) (drivers : List (Driver FlatExpr)) (sets : List (Vec Bits)) (are : AreSetsOf shapes extent drivers sets) where
  -- what the first of them have
  before_is : (j g k : ℕ) → any_has (take j sets) g k ≡ any_writes (flat_language shapes) extent (take j drivers) (spot g 0 k)
  before_is j g k =
      any_some (set_bit g k) (take j sets)
      ∙ ap some (sym (take-map (set_bit g k) j sets) ∙ ap (take j) (are g k) ∙ take-map (driver_bit shapes extent g k) j drivers)
      ∙ sym (any_some (driver_bit shapes extent g k) (take j drivers))

  -- what all of them have
  pub all_is : (g k : ℕ) → any_has sets g k ≡ any_writes (flat_language shapes) extent drivers (spot g 0 k)
  all_is g k = any_some (set_bit g k) sets ∙ ap some (are g k) ∙ sym (any_some (driver_bit shapes extent g k) drivers)

  set_at : (sets : List (Vec Bits)) (j g k : ℕ) → is_in (set_of sets j) g k ≡ get_or (map (set_bit g k) sets) j false
  set_at [] j g k = refl
  set_at (s ∷ rest) zero g k = refl
  set_at (s ∷ rest) (suc j) g k = set_at rest j g k

  driver_at : (drivers : List (Driver FlatExpr)) (j g k : ℕ) → one_writes (flat_language shapes) extent (slice_get drivers j) (spot g 0 k) ≡ get_or (map (driver_bit shapes extent g k) drivers) j false
  driver_at [] j g k = refl
  driver_at (d ∷ rest) zero g k = refl
  driver_at (d ∷ rest) (suc j) g k = driver_at rest j g k

  -- what one of them has
  there_is : (j g k : ℕ) → is_in (set_of sets j) g k ≡ one_writes (flat_language shapes) extent (slice_get drivers j) (spot g 0 k)
  there_is j g k = set_at sets j g k ∙ ap (λ bs. get_or bs j false) (are g k) ∙ sym (driver_at drivers j g k)

  -- as many sets as drivers
  as_many : length sets ≡ length drivers
  as_many = sym (length-map sets (set_bit 0 0)) ∙ ap length (are 0 0) ∙ length-map drivers (driver_bit shapes extent 0 0)

module _ (shapes : ℕ → Shape) (drivers : List (Driver FlatExpr)) (sets : List (Vec Bits)) (are : AreSetsOf shapes Any drivers sets) where
  forth : (j : ℕ) → SharesBefore sets j → WritesAgain shapes drivers j
  forth j S = record {
    signal = S.signal;
    bit = S.bit;
    before = sym (before_is shapes Any drivers sets are j S.signal S.bit) ∙ S.before;
    there = sym (there_is shapes Any drivers sets are j S.signal S.bit) ∙ S.there;
  }

  back : (j : ℕ) → WritesAgain shapes drivers j → SharesBefore sets j
  back j W = record {
    signal = W.signal;
    bit = W.bit;
    before = before_is shapes Any drivers sets are j W.signal W.bit ∙ W.before;
    there = there_is shapes Any drivers sets are j W.signal W.bit ∙ W.there;
  }

  -- the first set that shares a bit is the first driver's
  pub second_is : (r : Option ℕ) → IsSecond sets r → IsSecondDriver shapes drivers r
  second_is None h = λ j l W. h j (subst (λ n. j < n) (sym (as_many shapes Any drivers sets are)) l) (back j W)
  second_is (Some j) h = (subst (λ n. j < n) (as_many shapes Any drivers sets are) h.0, forth j h.1, λ i l W. h.2 i l (back i W))
