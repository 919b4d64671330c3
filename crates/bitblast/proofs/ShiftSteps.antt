-- The circuits of shifts.
use Rattle.std.proofs.Common.{◌≡◌, ℕ, zero, suc, ◌+◌, ◌-◌, ◌*◌, ◌/◌, ◌%◌, ◌^◌, ◌<◌, ◌≤◌, Bool, true, false, not, List, [], ◌++◌, length, take, drop, get_or, refl, sym, ap, ◌∙◌, subst, arith}
use Rattle.std.specs.Prelude.{min, nat_lt, if◌then◌else◌}
use Rattle.std.proofs.Math.Nat.{mod-eq_of_lt, mul-le-mul_left}
use Rattle.std.proofs.Math.Seq.{length-take-le, take-length}
use Rattle.std.proofs.lemmas.Bool.Decides.{nat_tests}
use Rattle.std.proofs.lemmas.List.{length-drop}
use Rattle.std.proofs.lemmas.Nat.{pow_pos}
use Rattle.bits_core.specs.declared.op.Op2.{Op2}
use Rattle.bits_core.specs.declared.op.Op2.TheVariants.{ShrU}
use Rattle.bits_core.specs.Ops.{value2, width2}
use Rattle.word_eqs.specs.Gates.{gates2}
use Rattle.bits_core.specs.Word.{bit, floor_div, read_signed, wrap}
use Rattle.bits_core.proofs.Laws.{pow_le, shr_high, shr_low, signed_low}
use Rattle.gate_net.specs.declared.net.Edge.{Edge}
use Rattle.gate_net.specs.declared.net.Node.{Node}
use Rattle.gate_net.specs.Edge.{edge_value}
use Rattle.gate_net.specs.Net.{IsValuation}
use Rattle.bitblast.specs.declared.shifts.Direction.{Direction}
use Rattle.bitblast.specs.declared.shifts.Direction.TheVariants.{Right}
use Rattle.bitblast.specs.Circuit.{AreBelow, MakesEdge, MakesWord, number_of}
use Rattle.bitblast.specs.Shifts.{shifted}
use Rattle.bitblast.proofs.Numbers.{number_of-below, number_of-split, number_of-take_more, number_of-top, twice_pow}
use Rattle.bitblast.proofs.Growth.{grows_none, grows_then, grows_within}
use Rattle.bitblast.proofs.SumLaws.{below_width}
use Rattle.bitblast.proofs.ShiftLaws.{shifted-again, shifted-below, shifted-min, shifted-none, shifted-out}

pub stage_start : (d : Direction) (o : List Node) (xs ys news made : List Edge) → made ≡ news ++ xs → news ≡ [] → AreBelow (length o) xs
    → MakesWord o o (3 * (length xs * 0)) (length xs) (λ a. shifted d (length xs) (number_of a xs) (number_of a (take 0 ys))) made
stage_start d o xs ys news made e f b =
    let g : made ≡ xs = e ∙ ap (λ k. k ++ xs) f in
    record {
      grows = grows_within o o 0 _ (omega arith) (grows_none o);
      there = subst (AreBelow (length o)) (sym g) b;
      bits = ap length g;
      value = λ a v. ap (number_of a) g ∙ sym (shifted-none d (length xs) (number_of a xs) (number_of-below a xs));
    }

stage_value : (d : Direction) (w x j t : ℕ) (b : Bool) → x < 2 ^ w → (if b then shifted d w (shifted d w x j) (min t w) else shifted d w x j) ≡ shifted d w x (j + t * bit b)
stage_value d w x j t true h =
    shifted-min d w (shifted d w x j) t (shifted-below d w x j h) ∙ shifted-again d w x j t ∙ ap (shifted d w x) (let e : j + t ≡ j + t * 1 = omega arith in e)
stage_value d w x j t false h = ap (shifted d w x) (let e : j ≡ j + t * 0 = omega arith in e)

pub stage_step : (d : Direction) (o m n : List Node) (xs ys made ds far fs ms es : List Edge) (e z : Edge) (k s : ℕ)
    → k < length ys → length ys ≤ 7 → ds ≡ made → s ≡ min ((1 * 2 ^ k) % 18446744073709551616) (length xs) → length far ≡ length ds
    → ((a : ℕ → Bool) → edge_value a z ≡ false → number_of a far ≡ shifted d (length ds) (number_of a ds) s)
    → ((a : ℕ → Bool) → IsValuation o a → edge_value a z ≡ false)
    → fs ≡ far → ms ≡ made
    → MakesWord o m (3 * (length xs * k)) (length xs) (λ a. shifted d (length xs) (number_of a xs) (number_of a (take k ys))) made
    → MakesWord m n (3 * length fs) (length fs) (λ a. if edge_value a (get_or ys k e) then number_of a fs else number_of a ms) es
    → MakesWord o n (3 * (length xs * (k + 1))) (length xs) (λ a. shifted d (length xs) (number_of a xs) (number_of a (take (k + 1) ys))) es
stage_step d o m n xs ys made ds far fs ms es e z k s lt seven h i l f g p q x y =
    let w : length fs ≡ length xs = ap length p ∙ l ∙ ap length h ∙ x.bits in
    let le = pow_le k 7 (omega arith) in
    let small : 1 * 2 ^ k < 18446744073709551616 = omega arith in
    let si : s ≡ min (2 ^ k) (length xs) = i ∙ ap (λ t. min t (length xs)) (mod-eq_of_lt small ∙ (let t : 1 * 2 ^ k ≡ 2 ^ k = omega arith in t)) in
    record {
      grows = grows_within o n (3 * (length xs * k) + 3 * length fs) _ (omega arith) (grows_then o m n _ _ x.grows y.grows);
      there = y.there;
      bits = y.bits ∙ w;
      value = λ a v.
          let b = edge_value a (get_or ys k e) in
          let v1 = y.grows.values a v in
          let here : number_of a made ≡ shifted d (length xs) (number_of a xs) (number_of a (take k ys)) = x.value a v1 in
          let there : number_of a fs ≡ shifted d (length xs) (shifted d (length xs) (number_of a xs) (number_of a (take k ys))) (min (2 ^ k) (length xs)) =
          ap (number_of a) p ∙ f a (g a (x.grows.values a v1)) ∙ ap (λ t. shifted d t (number_of a ds) s) (ap length h ∙ x.bits)
          ∙ ap (λ t. shifted d (length xs) t s) (ap (number_of a) h ∙ here) ∙ ap (shifted d (length xs) (shifted d (length xs) (number_of a xs) (number_of a (take k ys)))) si in
          y.value a v ∙ ap (λ t. if b then t else number_of a ms) there
          ∙ ap (λ t. if b then shifted d (length xs) (shifted d (length xs) (number_of a xs) (number_of a (take k ys))) (min (2 ^ k) (length xs)) else t) (ap (number_of a) q ∙ here)
          ∙ stage_value d (length xs) (number_of a xs) (number_of a (take k ys)) (2 ^ k) b (number_of-below a xs)
          ∙ ap (shifted d (length xs) (number_of a xs)) (sym (number_of-take_more a ys k e lt));
    }

positive : (h : ℕ) → nat_lt 0 (suc h) ≡ true
positive h = grind (arith, nat_tests)

far_value : (d : Direction) (w x j t h : ℕ) → x < 2 ^ w → w ≤ t → bit (not (nat_lt 0 h)) * shifted d w x j ≡ shifted d w x (j + t * h)
far_value d w x j t zero b l =
    (let e : 1 * shifted d w x j ≡ shifted d w x j = omega arith in e) ∙ ap (shifted d w x) (let e : j ≡ j + t * 0 = omega arith in e)
far_value d w x j t (suc h) b l =
    ap (λ k. bit (not k) * shifted d w x j) (positive h) ∙ (let e : 0 * shifted d w x j ≡ 0 = omega arith in e) ∙ sym (shifted-out d w x (j + t * suc h) b (let e : t * suc h ≡ t * h + t = omega arith in omega arith))

pub shift_word : (d : Direction) (o m n k : List Node) (xs ys near ns es : List Edge) (f g : Edge) (s : ℕ)
    → length xs ≡ length ys → length xs ≤ 2 ^ s → s ≤ 7 → s ≤ length xs → ns ≡ near → ((a : ℕ → Bool) → edge_value a g ≡ not (edge_value a f))
    → MakesWord o m (3 * (length xs * length (take s ys))) (length xs) (λ a. shifted d (length xs) (number_of a xs) (number_of a (take s ys))) near
    → MakesEdge m n (length (take (length ys - s) (drop s ys))) (λ a. nat_lt 0 (number_of a (take (length ys - s) (drop s ys)))) f
    → MakesWord n k (length ns) (length ns) (λ a. bit (edge_value a g) * number_of a ns) es
    → MakesWord o k (23 * length xs) (length xs) (λ a. shifted d (length xs) (number_of a xs) (number_of a ys)) es
shift_word d o m n k xs ys near ns es f g s l p q r h t x y z =
    let w : length ns ≡ length xs = ap length h ∙ x.bits in
    let sy : s ≤ length ys = omega arith in
    let high : take (length ys - s) (drop s ys) ≡ drop s ys = ap (λ i. take i (drop s ys)) (sym (length-drop s ys)) ∙ take-length (drop s ys) in
    let lh : length (take (length ys - s) (drop s ys)) ≡ length ys - s = ap length high ∙ length-drop s ys in
    let ls : length (take s ys) ≡ s = length-take-le s ys sy in
    let c : length xs * length (take s ys) ≤ length xs * 7 = mul-le-mul_left (length xs) (let i : length (take s ys) ≤ 7 = omega arith in i) in
    record {
      grows = grows_within o k (3 * (length xs * length (take s ys)) + length (take (length ys - s) (drop s ys)) + length ns) _ (omega arith)
          (grows_then o n k _ _ (grows_then o m n _ _ x.grows y.grows) z.grows);
      there = z.there;
      bits = z.bits ∙ w;
      value = λ a v.
          let v1 = z.grows.values a v in
          z.value a v ∙ ap (λ i. bit i * number_of a ns) (t a ∙ ap not (y.value a v1 ∙ ap (λ i. nat_lt 0 (number_of a i)) high))
          ∙ ap (λ i. bit (not (nat_lt 0 (number_of a (drop s ys)))) * i) (ap (number_of a) h ∙ x.value a (y.grows.values a v1))
          ∙ far_value d (length xs) (number_of a xs) (number_of a (take s ys)) (2 ^ s) (number_of a (drop s ys)) (number_of-below a xs) p
          ∙ ap (shifted d (length xs) (number_of a xs)) (sym (number_of-split a ys s sy));
    }

-- the highest bit says in which half a word is
pub top_low : (a : ℕ → Bool) (xs : List Edge) (e : Edge) → 0 < length xs → edge_value a (get_or xs (length xs - 1) e) ≡ false → number_of a xs + number_of a xs < 2 ^ length xs
top_low a xs e h f =
    let p : ℕ = length xs - 1 in
    let l : length xs ≡ p + 1 = omega arith in
    let split = number_of-top a xs p e l in
    let b : number_of a (take p xs) < 2 ^ p = below_width a (take p xs) p (length-take-le p xs (omega arith)) in
    let z : 2 ^ p * bit (edge_value a (get_or xs p e)) ≡ 2 ^ p * 0 = ap (λ k. 2 ^ p * bit k) f in
    let m : 2 ^ length xs ≡ 2 * 2 ^ p = ap (λ k. 2 ^ k) l ∙ twice_pow p in
    omega (arith, split, z, m, b)

pub top_high : (a : ℕ → Bool) (xs : List Edge) (e : Edge) → 0 < length xs → edge_value a (get_or xs (length xs - 1) e) ≡ true → 2 ^ length xs ≤ number_of a xs + number_of a xs
top_high a xs e h f =
    let p : ℕ = length xs - 1 in
    let l : length xs ≡ p + 1 = omega arith in
    let split = number_of-top a xs p e l in
    let z : 2 ^ p * bit (edge_value a (get_or xs p e)) ≡ 2 ^ p * 1 = ap (λ k. 2 ^ p * bit k) f in
    let m : 2 ^ length xs ≡ 2 * 2 ^ p = ap (λ k. 2 ^ k) l ∙ twice_pow p in
    omega (arith, split, z, m)

signed_shift : (m x d : ℕ) (s : Bool) → 0 < m → x < m → (s ≡ false → x + x < m) → (s ≡ true → m ≤ x + x)
    → (if s then m - 1 - (if s then m - 1 - x else x) / d else (if s then m - 1 - x else x) / d) ≡ wrap m (floor_div (read_signed m x) d)
signed_shift m x d true p h f g =
    shr_high m x (m - 1) (m - 1 - x) d ((m - 1 - x) / d) (omega arith) h refl (shr_low m (m - 1 - x) d (omega arith)) (g refl)
signed_shift m x d false p h f g =
    shr_low m x d h ∙ sym (ap (λ k. wrap m (floor_div k d)) (signed_low m x (f refl)))

pub signed_shift_word : (o m n k : List Node) (xs ys turned ts plain ps mv ms back bs qs es : List Edge) (e : Edge)
    → 0 < length xs → length turned ≡ length xs → ((a : ℕ → Bool) → number_of a turned ≡ 2 ^ length xs - 1 - number_of a xs) → ts ≡ turned → ps ≡ plain → ms ≡ mv → bs ≡ back → qs ≡ mv
    → length back ≡ length ms → ((a : ℕ → Bool) → number_of a back ≡ 2 ^ length ms - 1 - number_of a ms)
    → MakesWord o m (3 * length ts) (length ts) (λ a. if edge_value a (get_or xs (length xs - 1) e) then number_of a ts else number_of a xs) plain
    → MakesWord m n (23 * length ps) (length ps) (λ a. shifted Right (length ps) (number_of a ps) (number_of a ys)) mv
    → MakesWord n k (3 * length bs) (length bs) (λ a. if edge_value a (get_or xs (length xs - 1) e) then number_of a bs else number_of a qs) es
    → MakesWord o k (29 * length xs) (length xs) (λ a. wrap (2 ^ length xs) (floor_div (read_signed (2 ^ length xs) (number_of a xs)) (2 ^ number_of a ys))) es
signed_shift_word o m n k xs ys turned ts plain ps mv ms back bs qs es e h l f i j p q r b g x y z =
    let lt : length ts ≡ length xs = ap length i ∙ l in
    let lp : length ps ≡ length xs = ap length j ∙ x.bits ∙ lt in
    let lm : length ms ≡ length xs = ap length p ∙ y.bits ∙ lp in
    let lb : length bs ≡ length xs = ap length q ∙ b ∙ lm in
    record {
      grows = grows_within o k (3 * length ts + 23 * length ps + 3 * length bs) _ (omega arith) (grows_then o n k _ _ (grows_then o m n _ _ x.grows y.grows) z.grows);
      there = z.there;
      bits = z.bits ∙ lb;
      value = λ a v.
          let s = edge_value a (get_or xs (length xs - 1) e) in
          let v1 = z.grows.values a v in
          let X = number_of a xs in
          let D = 2 ^ number_of a ys in
          let M = 2 ^ length xs in
          let pl : number_of a plain ≡ (if s then M - 1 - X else X) = x.value a (y.grows.values a v1) ∙ ap (λ t. if s then t else X) (ap (number_of a) i ∙ f a) in
          let mo : number_of a mv ≡ (if s then M - 1 - X else X) / D = y.value a v1 ∙ ap (λ t. t / D) (ap (number_of a) j ∙ pl) in
          let ba : number_of a bs ≡ M - 1 - (if s then M - 1 - X else X) / D =
          ap (number_of a) q ∙ g a ∙ ap (λ t. 2 ^ t - 1 - number_of a ms) lm ∙ ap (λ t. M - 1 - t) (ap (number_of a) p ∙ mo) in
          z.value a v ∙ ap (λ t. if s then t else number_of a qs) ba ∙ ap (λ t. if s then M - 1 - (if s then M - 1 - X else X) / D else t) (ap (number_of a) r ∙ mo)
          ∙ signed_shift M X D s (pow_pos (length xs)) (number_of-below a xs) (top_low a xs e h) (top_high a xs e h);
    }

pub unsigned_shift_word : (op : Op2) (o n : List Node) (xs ys es : List Edge) → op ≡ ShrU
    → MakesWord o n (23 * length xs) (length xs) (λ a. shifted Right (length xs) (number_of a xs) (number_of a ys)) es
    → MakesWord o n (gates2 op (length xs)) (width2 op (length xs)) (λ a. value2 op (length xs) (number_of a xs) (number_of a ys)) es
unsigned_shift_word op o n xs ys es e x =
    subst (λ (p : Op2). MakesWord o n (gates2 p (length xs)) (width2 p (length xs)) (λ a. value2 p (length xs) (number_of a xs) (number_of a ys)) es) (sym e)
    (record {
      grows = grows_within o n (23 * length xs) _ (omega arith) x.grows;
      there = x.there;
      bits = x.bits;
      value = λ a v. x.value a v ∙ shr_low (2 ^ length xs) (number_of a xs) (2 ^ number_of a ys) (number_of-below a xs);
    })
