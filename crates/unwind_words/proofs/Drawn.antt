-- Words that are drawn, one more at a time.
use Rattle.std.proofs.Common.{◌≡◌, ℕ, zero, suc, ◌+◌, ◌%◌, ◌^◌, ◌<◌, ◌≤◌, List, [], ◌∷◌, ◌++◌, length, get_or, take, refl, sym, ap, ◌∙◌, subst, arith}
use Rattle.std.specs.Prelude.{Option, Some, None}
use Rattle.std.proofs.lemmas.List.{take_more, take_all}
use Rattle.std.proofs.Math.Nat.{mod-eq_of_lt}
use Rattle.word_eqs.specs.declared.term.TermId.{TermId}
use Rattle.joint_ir.specs.Effects.{preceded, drew, draw_all}
use Rattle.joint_ir.specs.Runs.{draw_registers}
use Rattle.sized_terms.specs.declared.SizedTerm.{SizedTerm}
use Rattle.sized_terms.specs.Sized.{IsMade}
use Rattle.unrolled.specs.declared.Unrolled.{Unrolled}
use Rattle.unwind_state.specs.declared.state.Guard.{Guard}
use Rattle.unwind_state.specs.declared.state.Guard.TheVariants.{Always}
use Rattle.unwind_state.specs.Unwinding.{IsDrawn}
use Rattle.unwind_state.specs.Writing.{IsChosen}
use Rattle.unwind_state.proofs.Gates.{adds_built}
use Rattle.unwind_module.specs.Drawing.{Onwards, AreDrawn, IsFirst}
use Rattle.unwind_module.proofs.Draws.{one_drawn, one_known, draw_all_push}

pub more_taken : {A : Type 0} → (xs : List A) (k : ℕ) (x : A) → k < length xs → x ≡ get_or xs k x → take (k + 1) xs ≡ take k xs ++ x ∷ []
more_taken xs k x lt e = take_more xs k x lt ∙ ap (λ y. take k xs ++ y ∷ []) (sym e)

pub drawn_more : (n0 n1 n2 : Unrolled) (g : Guard) (ws : List ℕ) (ids : List TermId) (k w : ℕ) (t : SizedTerm) → k < length ws → w ≡ get_or ws k w →
    AreDrawn n0 n1 g (draw_all (take k ws)) (take k ws) ids → IsDrawn n1 n2 w g t → AreDrawn n0 n2 g (draw_all (take (k + 1) ws)) (take (k + 1) ws) (ids ++ t.term ∷ [])
drawn_more n0 n1 n2 g ws ids k w t lt e A D =
    subst (λ l. AreDrawn n0 n2 g (draw_all l) l (ids ++ t.term ∷ [])) (sym (more_taken ws k w lt e))
    (one_drawn n0 n1 n2 g (draw_all (take k ws)) (draw_all (take k ws ++ w ∷ [])) (take k ws) ids w t (draw_all_push (take k ws) w) A D)

-- one register more is drawn behind the others
registers_push : (fs : List (Option ℕ)) (ws : List ℕ) (f : Option ℕ) (w : ℕ) → length fs ≡ length ws → (c : List ℕ) (go : Onwards) →
    draw_registers (fs ++ f ∷ []) (ws ++ w ∷ []) c go ≡ draw_registers fs ws c (λ ns c'. draw_registers (f ∷ []) (w ∷ []) c' (λ ms rest. go (ns ++ ms) rest))
registers_push [] [] f w e c go = refl
registers_push [] (b ∷ ws) f w e c go = absurd (omega arith)
registers_push (h ∷ fs) [] f w e c go = absurd (omega arith)
registers_push (Some n ∷ fs) (b ∷ ws) f w e c go = registers_push fs ws f w (omega arith) c (λ ns. go (n ∷ ns))
registers_push (None ∷ fs) (b ∷ ws) f w e [] go = refl
registers_push (None ∷ fs) (b ∷ ws) f w e (n ∷ c) go = ap (preceded (drew b)) (registers_push fs ws f w (omega arith) c (λ ns. go (n % 2 ^ b ∷ ns)))

register_made : (n0 n1 n2 : Unrolled) (fs : List (Option ℕ)) (ws : List ℕ) (ids : List TermId) (f : Option ℕ) (w : ℕ) (t : SizedTerm) → length fs ≡ length ws →
    AreDrawn n0 n1 Always (draw_registers fs ws) ws ids → IsFirst n1 n2 f w t → AreDrawn n0 n2 Always (draw_registers (fs ++ f ∷ []) (ws ++ w ∷ [])) (ws ++ w ∷ []) (ids ++ t.term ∷ [])
register_made n0 n1 n2 fs ws ids None w t e A D =
    one_drawn n0 n1 n2 Always (draw_registers fs ws) (draw_registers (fs ++ None ∷ []) (ws ++ w ∷ [])) ws ids w t (registers_push fs ws None w e) A D
register_made n0 n1 n2 fs ws ids (Some n) w t e A D =
    one_known n0 n1 n2 Always (draw_registers fs ws) (draw_registers (fs ++ Some n ∷ []) (ws ++ w ∷ [])) ws ids w n t (registers_push fs ws (Some n) w e) A D.adds D.has D.width D.value

pub registers_more : (n0 n1 n2 : Unrolled) (fs : List (Option ℕ)) (ws : List ℕ) (ids : List TermId) (k : ℕ) (f : Option ℕ) (w : ℕ) (t : SizedTerm) → k < length ws → length fs ≡ length ws → f ≡ get_or fs k f → w ≡ get_or ws k w →
    AreDrawn n0 n1 Always (draw_registers (take k fs) (take k ws)) (take k ws) ids → IsFirst n1 n2 f w t →
    AreDrawn n0 n2 Always (draw_registers (take (k + 1) fs) (take (k + 1) ws)) (take (k + 1) ws) (ids ++ t.term ∷ [])
registers_more n0 n1 n2 fs ws ids k f w t lt same ef ew A D =
    let there : k < length fs = omega arith in
    let fewer : length (take k fs) ≡ length (take k ws) = taken fs ws k same in
    subst (λ l. AreDrawn n0 n2 Always (draw_registers l (take (k + 1) ws)) (take (k + 1) ws) (ids ++ t.term ∷ [])) (sym (more_taken fs k f there ef))
    (subst (λ l. AreDrawn n0 n2 Always (draw_registers (take k fs ++ f ∷ []) l) l (ids ++ t.term ∷ [])) (sym (more_taken ws k w lt ew))
    (register_made n0 n1 n2 (take k fs) (take k ws) ids f w t fewer A D))
  where
    taken : {A B : Type 0} → (xs : List A) (ys : List B) (k : ℕ) → length xs ≡ length ys → length (take k xs) ≡ length (take k ys)
    taken xs ys zero e = refl
    taken [] [] (suc k) e = refl
    taken [] (y ∷ ys) (suc k) e = absurd (omega arith)
    taken (x ∷ xs) [] (suc k) e = absurd (omega arith)
    taken (x ∷ xs) (y ∷ ys) (suc k) e = ap suc (taken xs ys k (omega arith))

-- all registers are drawn
pub all_registers : (n0 n1 : Unrolled) (fs : List (Option ℕ)) (ws : List ℕ) (ids : List TermId) (k : ℕ) → length ws ≤ k → length fs ≡ length ws →
    AreDrawn n0 n1 Always (draw_registers (take k fs) (take k ws)) (take k ws) ids → AreDrawn n0 n1 Always (draw_registers fs ws) ws ids
all_registers n0 n1 fs ws ids k le same A =
    subst (λ l. AreDrawn n0 n1 Always (draw_registers l ws) ws ids) (take_all k fs (omega arith)) (subst (λ l. AreDrawn n0 n1 Always (draw_registers (take k fs) l) l ids) (take_all k ws le) A)

-- a number that is known
pub first_known : (n0 n1 : Unrolled) (w n : ℕ) (t : SizedTerm) → IsMade n0.terms n1.terms w 0 1 t (λ v. n % 2 ^ w) → n1.list ≡ n0.list → n < 2 ^ w → IsChosen n0 n1 w t (λ v. n)
first_known n0 n1 w n t M e lt = record { adds = adds_built n0 n1 0 1 M.builds e; has = M.has; width = M.width; value = λ v r. M.value v r ∙ mod-eq_of_lt lt }
