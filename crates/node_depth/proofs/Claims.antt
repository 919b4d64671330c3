-- A token is right before each action whose value begins at one.
use Rattle.std.proofs.Common.{◌≡◌, ℕ, suc, zero, ◌<◌, Bool, true, false, cond, ◌&&◌, not, List, [], ◌∷◌, sym, ◌∙◌, ap}
use Rattle.std.proofs.lemmas.Bool.{and_parts}
use Rattle.ll_actions.specs.After.{kinds_before, IsAfter, is_claimed}
use Rattle.node_depth.specs.declared.weave.Weave.{Weave}
use Rattle.node_depth.specs.Weaves.{weave_of}

-- each action whose value begins at a token comes right after a token of a kind that is known
abbrev pub do_claim : List Weave → List (List ℕ) → Bool
do_claim [] after = true
do_claim (w ∷ ws) [] = not w.own && do_claim ws []
do_claim (w ∷ ws) (ks ∷ after) = cond w.own (is_claimed ks) true && do_claim ws after

pub claimed : (ws : List Weave) (after : List (List ℕ)) (a : ℕ) → do_claim ws after ≡ true → (weave_of ws a).own ≡ true → is_claimed (kinds_before after a) ≡ true
claimed [] after a h own = absurd (let z : false ≡ true = own in cc)
claimed (w ∷ ws) [] zero h own = absurd (let p = and_parts (not w.own) (do_claim ws []) h in let q : not w.own ≡ true = p.0 in cc)
claimed (w ∷ ws) [] (suc a) h own = claimed ws [] a (and_parts (not w.own) (do_claim ws []) h).1 own
claimed (w ∷ ws) (ks ∷ after) zero h own =
    let p = and_parts (cond w.own (is_claimed ks) true) (do_claim ws after) h in ap (λ b. cond b (is_claimed ks) true) (sym own) ∙ p.0
claimed (w ∷ ws) (ks ∷ after) (suc a) h own = claimed ws after a (and_parts (cond w.own (is_claimed ks) true) (do_claim ws after) h).1 own

pub after_some : (kinds tokens : List ℕ) (i : ℕ) → is_claimed kinds ≡ true → IsAfter kinds tokens i → 0 < i
after_some [] tokens i c h = absurd (let z : false ≡ true = c in cc)
after_some (k ∷ ks) tokens i c h = h.0
