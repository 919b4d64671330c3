-- Steps that were pushed, and words that were drawn.
use Rattle.std.proofs.Common.{◌≡◌, ℕ, zero, suc, ◌+◌, ◌<◌, ◌≤◌, List, [], ◌∷◌, ◌++◌, length, get_or, refl, sym, ap, ◌∙◌, subst, arith, length-append}
use Rattle.bits_core.specs.Word.{Word}
use Rattle.word_eqs.specs.declared.list.Act.{Act}
use Rattle.word_eqs.specs.declared.list.Act.TheVariants.{Free}
use Rattle.word_eqs.specs.declared.list.Step.{Step}
use Rattle.word_eqs.specs.declared.term.TermId.{TermId}
use Rattle.word_eqs.specs.declared.term.TermNode.TheVariants.{Var}
use Rattle.word_eqs.specs.declared.term.VarId.{VarId}
use Rattle.word_eqs.specs.Graph.{Graph, IsGraph, IsTyped, width_in, width_of_var, node_width, with_var, with_term}
use Rattle.word_eqs.specs.Meaning.{Values, Respects, Makes, IsWordOf, FitsVars}
use Rattle.sized_terms.specs.declared.SizedTerm.{SizedTerm}
use Rattle.sized_terms.specs.Sized.{Has, IsMade, bits}
use Rattle.unrolled.specs.declared.Unrolled.{Unrolled}
use Rattle.unwind_state.specs.declared.state.Guard.{Guard}
use Rattle.unwind_state.specs.declared.state.Guard.TheVariants.{Never, Always, When}
use Rattle.unwind_state.specs.Guards.{bit_at, HasGuard, Adds}
use Rattle.unwind_state.specs.Unwinding.{Grows, IsTerm, IsPushed, IsVariable, IsDrawn}
use Rattle.unwind_state.proofs.Gates.{adds_none, adds_built, guard_kept}

pub term_made : (n0 n1 : Unrolled) (g : Guard) (gates k : ℕ) (t : SizedTerm) → IsMade n0.terms n1.terms 1 gates 1 t (λ v. k) → ((v : Values) → k ≡ bit_at v g) → n1.list ≡ n0.list → IsTerm n0 n1 g t
term_made n0 n1 g gates k t m e l = record { adds = adds_built n0 n1 gates 1 m.builds l; has = m.has; width = m.width; value = λ v r. m.value v r ∙ e v }

pub term_there : (n : Unrolled) (t : SizedTerm) → IsGraph n.terms → HasGuard n.terms (When t) → IsTerm n n (When t) t
term_there n t p h = record { adds = adds_none n p; has = h.0; width = h.1; value = λ v r. refl }

pub pushed_made : (n0 n1 n2 : Unrolled) (g : Guard) (act : Act) (t : SizedTerm) → IsTerm n0 n1 g t → n2.terms ≡ n1.terms → n2.list ≡ n1.list ++ (record { guard = t.term; act = act }) ∷ [] → IsPushed n0 n2 g act
pushed_made n0 n1 n2 g act t T e l = record {
  grows = subst (Grows n0.terms) (sym e) (record { grown = T.adds.grown; kept = T.adds.kept; proper = T.adds.proper });
  guard = t.term;
  list = l ∙ ap (λ m. m ++ (record { guard = t.term; act = act }) ∷ []) T.adds.list;
  value = λ v r. T.value v (subst (Respects v) e r);
}

-- terms keep their widths where a variable is added, and where a term is
kept_var : (g h : Graph) (w : ℕ) (x : SizedTerm) → h ≡ with_var g w → Has g x → Has h x
kept_var g h w x e p = subst (λ (k : Graph). Has k x) (sym e) (record { there = p.there; width = p.width })

kept_term : (g h : Graph) (w t : ℕ) (x : SizedTerm) → IsTyped g h w t → Has g x → Has h x
kept_term g h w t x ty p = record { there = let i = ty.longer in let j = p.there in omega arith; width = ty.kept x.term.0 p.there ∙ p.width }

last_width : (vars : List ℕ) (w : ℕ) → get_or (vars ++ w ∷ []) (length vars) 0 ≡ w
last_width [] w = refl
last_width (x ∷ vars) w = last_width vars w

pub variable_made : (n0 n2 : Unrolled) (g1 : Graph) (w : ℕ) (x : VarId) (t : TermId) → g1 ≡ with_var n0.terms w → x.0 ≡ length n0.terms.vars → ((v : Values) → Respects v g1 → Respects v n0.terms) → n2.terms ≡ with_term g1 (Var x) →
    Makes g1 n2.terms (Var x) t.0 → IsTyped g1 n2.terms (node_width g1 (Var x)) t.0 → IsGraph n2.terms → n2.list ≡ n0.list → IsVariable n0 n2 w x (record { term = t; width = w })
variable_made n0 n2 g1 w x t is id grown is2 made ty proper l =
    let wide : width_of_var g1 x.0 ≡ w = ap (λ (k : Graph). width_of_var k x.0) is ∙ ap (λ k. get_or (n0.terms.vars ++ w ∷ []) k 0) id ∙ last_width n0.terms.vars w in
    let lt : x.0 < length g1.vars = let a = ap (λ (k : Graph). length k.vars) is in let b = length-append n0.terms.vars (w ∷ []) in omega (arith, a, b, id) in
    record {
      adds = record {
        grown = λ v r. grown v (made.grown v r);
        kept = λ y h. kept_term g1 n2.terms (node_width g1 (Var x)) t.0 y ty (kept_var n0.terms g1 w y is h);
        proper = proper;
        list = l;
      };
      has = record { there = ty.there; width = ty.width ∙ wide };
      width = refl;
      word = λ v r. subst (λ k. IsWordOf k (v.var x.0)) wide ((made.grown v r).vars.at x.0 lt);
      value = λ v r. ap (λ (a : Word). a.value) (made.value v r);
    }

pub draw_made : (n0 n1 n2 : Unrolled) (w : ℕ) (g : Guard) (x : VarId) (t : SizedTerm) → IsVariable n0 n1 w x t → IsPushed n1 n2 g (Free x) → IsDrawn n0 n2 w g t
draw_made n0 n1 n2 w g x t V P = record {
  variable = x;
  pushed = record {
    grows = record { grown = λ v r. V.adds.grown v (P.grows.grown v r); kept = λ y h. P.grows.kept y (V.adds.kept y h); proper = P.grows.proper };
    guard = P.guard;
    list = P.list ∙ ap (λ m. m ++ (record { guard = P.guard; act = Free x }) ∷ []) V.adds.list;
    value = P.value;
  };
  has = P.grows.kept t V.has;
  width = V.width;
  word = λ v r. V.word v (P.grows.grown v r);
  value = λ v r. V.value v (P.grows.grown v r);
}
