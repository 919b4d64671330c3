-- Lists of lists, as vectors of vectors.
use Rattle.std.proofs.Common.{◌≡◌, ℕ, ◌<◌, List, [], set, get_or, map, length, sym, ap, ◌∙◌, arith, Vec}
use Rattle.std.specs.List.{swap_remove}
use Rattle.std.specs.declared.alloc.Global.{Global}
use Rattle.std.proofs.lemmas.List.{map-set, length-map, get_or-map}
use Rattle.clause_arena.specs.declared.ClauseId.{ClauseId}
use Rattle.cdcl.proofs.Back.{get_or-any}

abbrev pub Lists : Type 0
Lists = List (List ClauseId)

pub put-list : (vs : List (Vec ClauseId Global)) (lists : Lists) (a b : ℕ) (v : Vec ClauseId Global) (xs : List ClauseId) → map (λ (u : Vec ClauseId Global). u.items) vs ≡ lists → a ≡ b → v.items ≡ xs → map (λ (u : Vec ClauseId Global). u.items) (set vs a v) ≡ set lists b xs
put-list vs lists a b v xs e f g =
    map-set (λ (u : Vec ClauseId Global). u.items) vs a v
    ∙ ap (λ (l : Lists). set l a v.items) e ∙ ap (λ (k : ℕ). set lists k v.items) f ∙ ap (λ (ys : List ClauseId). set lists b ys) g

pub item-list : (vs : List (Vec ClauseId Global)) (lists : Lists) (a b : ℕ) (v : Vec ClauseId Global) → map (λ (u : Vec ClauseId Global). u.items) vs ≡ lists → a ≡ b → v ≡ get_or vs a v → b < length lists → v.items ≡ get_or lists b []
item-list vs lists a b v e f g lt =
    let n : length (map (λ (u : Vec ClauseId Global). u.items) vs) ≡ length vs = length-map vs (λ (u : Vec ClauseId Global). u.items) in
    let k : a < length vs = omega (arith, n, ap length e, f, lt) in
    ap (λ (u : Vec ClauseId Global). u.items) g ∙ sym (get_or-map (λ (u : Vec ClauseId Global). u.items) vs a v [] k)
    ∙ ap (λ (l : Lists). get_or l a []) e ∙ ap (λ (j : ℕ). get_or lists j []) f

pub removed-list : (vs : List (Vec ClauseId Global)) (lists : Lists) (a b i : ℕ) (v u : Vec ClauseId Global) (r d : ClauseId) → map (λ (u : Vec ClauseId Global). u.items) vs ≡ lists → a ≡ b → v ≡ get_or vs a v → b < length lists → r ≡ get_or v.items i r → u.items ≡ swap_remove v.items i r → i < length (get_or lists b []) → get_or (get_or lists b []) i d ≡ d → map (λ (u : Vec ClauseId Global). u.items) (set vs a u) ≡ set lists b (swap_remove (get_or lists b []) i d)
removed-list vs lists a b i v u r d e f g lt h s n q =
    let w : v.items ≡ get_or lists b [] = item-list vs lists a b v e f g lt in
    let m : r ≡ d = h ∙ ap (λ (xs : List ClauseId). get_or xs i r) w ∙ get_or-any (get_or lists b []) i r d n ∙ q in
    put-list vs lists a b u (swap_remove (get_or lists b []) i d) e f (s ∙ ap (λ (xs : List ClauseId). swap_remove xs i r) w ∙ ap (swap_remove (get_or lists b []) i) m)
