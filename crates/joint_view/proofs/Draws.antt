-- Draws, one after the other.
use Rattle.std.proofs.Common.{◌≡◌, ℕ, ◌+◌, ◌<◌, List, [], ◌∷◌, ◌++◌, length, get_or, drop, refl, sym, ap, ◌∙◌, arith, append_assoc}
use Rattle.std.specs.Prelude.{Option, Some, None}
use Rattle.std.proofs.lemmas.List.{at_drop_more, drop_more}
use Rattle.joint_ir.specs.Effects.{Effect, Goes, Stops, TooFew, preceded, drew, draw, draw_all}
use Rattle.joint_ir.specs.Runs.{draw_registers}
use Rattle.joint_view.specs.declared.halt.Halt.{Halt}
use Rattle.joint_view.specs.declared.halt.Halt.TheVariants as halt
use Rattle.joint_view.specs.Halts.{Draws, HaltsDraws, unmeasured}

-- what is drawn is seen without its width
pub drawn_unmeasured : (bits : ℕ) (e : Effect) → unmeasured (preceded (drew bits) e) ≡ unmeasured e
drawn_unmeasured bits (Goes way s told c) = refl
drawn_unmeasured bits (Stops o told c) = refl
drawn_unmeasured bits TooFew = refl

-- what begins with draws that halt halts as these do
pub halts_first : (h : Halt) (one all : (List ℕ → List ℕ → Effect) → Effect) (more : (List ℕ → List ℕ → Effect) → List ℕ → List ℕ → Effect) →
    ((go : List ℕ → List ℕ → Effect) → unmeasured (all go) ≡ unmeasured (one (more go))) → HaltsDraws h one → HaltsDraws h all
halts_first (halt.Stop o) one all more same h = h
halts_first halt.TooFew one all more same h = λ go. same go ∙ h (more go)
halts_first halt.Memory one all more same h = tt

-- a register is drawn, and then the others
one_register : (first : Option ℕ) (bits : ℕ) (firsts : List (Option ℕ)) (widths c : List ℕ) (go : List ℕ → List ℕ → Effect) →
    draw_registers (first ∷ firsts) (bits ∷ widths) c go ≡ draw_registers (first ∷ []) (bits ∷ []) c (λ ns rest. draw_registers firsts widths rest (λ ms. go (ns ++ ms)))
one_register (Some n) bits firsts widths c go = refl
one_register None bits firsts widths c go = refl

pub register_at : (firsts : List (Option ℕ)) (widths c : List ℕ) (k : ℕ) (first : Option ℕ) → k < length widths → length firsts ≡ length widths → first ≡ get_or firsts k first →
    (go : List ℕ → List ℕ → Effect) → draw_registers (drop k firsts) (drop k widths) c go
    ≡ draw_registers (first ∷ []) (get_or widths k 0 ∷ []) c (λ ns rest. draw_registers (drop (k + 1) firsts) (drop (k + 1) widths) rest (λ ms. go (ns ++ ms)))
register_at firsts widths c k first lt same at go =
    let there : k < length firsts = omega arith in
    let e : drop k firsts ≡ first ∷ drop (k + 1) firsts = drop_more firsts k first there ∙ ap (λ x. x ∷ drop (k + 1) firsts) (sym at) in
    ap (λ fs. draw_registers fs (drop k widths) c go) e
    ∙ ap (λ ws. draw_registers (first ∷ drop (k + 1) firsts) ws c go) (drop_more widths k 0 lt)
    ∙ one_register first (get_or widths k 0) (drop (k + 1) firsts) (drop (k + 1) widths) c go

module _ (choices : List ℕ) (next : ℕ) (numbers all : List ℕ) (k n : ℕ) (is : all ≡ numbers ++ n ∷ []) where
  -- the draws of the widths that are left, after one more
  pub draw_all_more : (widths from : List ℕ) → k < length widths →
      ((go : ℕ → List ℕ → Effect) → unmeasured (draw (get_or widths k 0) (drop next choices) go) ≡ unmeasured (go n (drop (next + 1) choices))) →
      ((go : List ℕ → List ℕ → Effect) → unmeasured (draw_all widths from go) ≡ unmeasured (draw_all (drop k widths) (drop next choices) (λ ns. go (numbers ++ ns)))) →
      (go : List ℕ → List ℕ → Effect) → unmeasured (draw_all widths from go) ≡ unmeasured (draw_all (drop (k + 1) widths) (drop (next + 1) choices) (λ ns. go (all ++ ns)))
  draw_all_more widths from lt drawn so_far go =
      so_far go
      ∙ at_drop_more (λ ws. unmeasured (draw_all ws (drop next choices) (λ ns. go (numbers ++ ns)))) widths k 0 lt
      ∙ drawn (λ m rest. draw_all (drop (k + 1) widths) rest (λ ns. go (numbers ++ m ∷ ns)))
      ∙ rw is (simp append_assoc)

  -- the same for registers
  pub draw_registers_more : (firsts : List (Option ℕ)) (widths from : List ℕ) (first : Option ℕ) (behind : ℕ) → k < length widths → length firsts ≡ length widths → first ≡ get_or firsts k first →
      Draws (draw_registers (first ∷ []) (get_or widths k 0 ∷ []) (drop next choices)) (n ∷ []) (drop behind choices) →
      ((go : List ℕ → List ℕ → Effect) → unmeasured (draw_registers firsts widths from go) ≡ unmeasured (draw_registers (drop k firsts) (drop k widths) (drop next choices) (λ ns. go (numbers ++ ns)))) →
      (go : List ℕ → List ℕ → Effect) → unmeasured (draw_registers firsts widths from go) ≡ unmeasured (draw_registers (drop (k + 1) firsts) (drop (k + 1) widths) (drop behind choices) (λ ns. go (all ++ ns)))
  draw_registers_more firsts widths from first behind lt same at drawn so_far go =
      so_far go
      ∙ ap unmeasured (register_at firsts widths (drop next choices) k first lt same at (λ ns. go (numbers ++ ns)))
      ∙ drawn (λ ns rest. draw_registers (drop (k + 1) firsts) (drop (k + 1) widths) rest (λ ms. go (numbers ++ (ns ++ ms))))
      ∙ rw is (simp append_assoc)
