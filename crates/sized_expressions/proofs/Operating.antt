-- An operator with its site.
use Rattle.std.proofs.Common.{◌≡◌, ℕ, ◌+◌, ◌-◌, ◌<◌, ◌≤◌, [], Bool, true, false, length, refl, sym, ap, subst, arith}
use Rattle.std.specs.Prelude.{if◌then◌else◌}
use Rattle.bits_core.specs.Word.{at_zero}
use Rattle.flat_tree.specs.Operators.{Form, InContext, Dividing, Comparing, Logical, Shifting}
use Rattle.flat_tree.specs.Values.{site_at, site_number}
use Rattle.operand_contexts.specs.Contexts.{FitForm, has_site, combined}
use Rattle.operand_contexts.proofs.Steps.{restate, kept}
use Rattle.site_terms.specs.Sizes.{Makes}
use Rattle.site_terms.proofs.Linking.{of_adds, loosen}
use Rattle.sized_expressions.specs.Operated.{own_site, own_width, own_number, operated}
use Rattle.src_text.specs.declared.refusal.Place.{Place}
use Rattle.term_steps.specs.Adds.{Adds}
use Rattle.word_eqs.specs.Graph.{Graph, IsGraph, width_in}

pub site_made : (f : Form) (g h : Graph) (w n left t : ℕ) → has_site f ≡ true →
    ((p : Place) (reads : ℕ) → reads ≤ length g.vars → Makes g h (site_at p w) w (λ v. site_number (λ k. (v.var (reads + k)).value) w (length g.vars - reads)) 0 3 t) →
    (p : Place) (reads : ℕ) → reads ≤ length g.vars → Makes g h (own_site f p w) (own_width f w n) (λ v. own_number f (λ k. (v.var (reads + k)).value) w (length g.vars - reads) (v.term left).value) 0 3 t
site_made f g h w n left t e m p reads le =
    subst (λ c. Makes g h (if c then site_at p w else []) (if c then w else n) (λ v. if c then site_number (λ k. (v.var (reads + k)).value) w (length g.vars - reads) else (v.term left).value) 0 3 t) (sym e) (m p reads le)

pub none_made : (f : Form) (g : Graph) (w left : ℕ) → has_site f ≡ false → IsGraph g → left < length g.terms →
    (p : Place) (reads : ℕ) → reads ≤ length g.vars → Makes g g (own_site f p w) (own_width f w (width_in g left)) (λ v. own_number f (λ k. (v.var (reads + k)).value) w (length g.vars - reads) (v.term left).value) 0 3 left
none_made f g w left e proper lt p reads le =
    subst (λ c. Makes g g (if c then site_at p w else []) (if c then w else width_in g left) (λ v. if c then site_number (λ k. (v.var (reads + k)).value) w (length g.vars - reads) else (v.term left).value) 0 3 left) (sym e)
    (loosen g g [] [] (width_in g left) (width_in g left) 0 0 0 3 left (λ v. (v.term left).value) (λ v. (v.term left).value) (of_adds g g (width_in g left) 0 0 left (λ v. (v.term left).value) (kept g left proper lt)) refl refl (λ v r. refl) (omega arith) (omega arith))

pub fit_divides : (f : Form) (w x y : ℕ) → has_site f ≡ true → FitForm f w x y → (x ≡ w) × (y ≡ w)
fit_divides Dividing w x y e h = h
fit_divides InContext w x y e h = absurd cc
fit_divides Comparing w x y e h = absurd cc
fit_divides Logical w x y e h = absurd cc
fit_divides Shifting w x y e h = absurd cc

pub divided_made : (f : Form) (F : ℕ → Bool → ℕ → ℕ → ℕ) (g h : Graph) (w x c y cost t : ℕ) (both s : Bool) → has_site f ≡ true → width_in g x ≡ w →
    Adds g h (width_in g x) (λ v. at_zero (v.term y).value (v.term c).value (F (width_in g x) s (v.term x).value (v.term y).value)) cost 4 t →
    Adds g h w (λ v. operated f F (width_in g x) both w s (v.term x).value (v.term c).value (v.term y).value) cost 4 t
divided_made f F g h w x c y cost t both s e wide a =
    subst (λ b. Adds g h w (λ v. if b then at_zero (v.term y).value (v.term c).value (F w s (v.term x).value (v.term y).value) else combined f F (width_in g x) both w s (v.term x).value (v.term y).value) cost 4 t) (sym e)
    (restate g h _ w cost cost 4 4 t _ _ a wide (λ v r. ap (λ z. at_zero (v.term y).value (v.term c).value (F z s (v.term x).value (v.term y).value)) wide) (omega arith) (omega arith))

pub combined_made : (f : Form) (F : ℕ → Bool → ℕ → ℕ → ℕ) (g h : Graph) (w x c y cost t : ℕ) (both s : Bool) → has_site f ≡ false →
    Adds g h w (λ v. combined f F (width_in g x) both w s (v.term x).value (v.term y).value) cost 4 t →
    Adds g h w (λ v. operated f F (width_in g x) both w s (v.term x).value (v.term c).value (v.term y).value) cost 4 t
combined_made f F g h w x c y cost t both s e a =
    subst (λ b. Adds g h w (λ v. if b then at_zero (v.term y).value (v.term c).value (F w s (v.term x).value (v.term y).value) else combined f F (width_in g x) both w s (v.term x).value (v.term y).value) cost 4 t) (sym e) a
