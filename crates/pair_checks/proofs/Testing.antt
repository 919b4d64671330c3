-- Lists that are tested one item after another.
use Rattle.std.proofs.Common.{◌≡◌, ℕ, suc, ◌+◌, ◌<◌, ◌≤◌, ◌^◌, List, [], ◌∷◌, ◌++◌, length, map, take, get_or, Option, Some, None, refl, sym, ap, ◌∙◌, subst, arith}
use Rattle.std.specs.Prelude.{IfSome, All, count_by, slice_get, option_map, cond}
use Rattle.std.proofs.lemmas.List.{take_all, take_more, map-append}
use Rattle.std.proofs.lemmas.List.Elements.{All-push}
use Rattle.std.proofs.lemmas.List.Sums.{sum_by_more}
use Rattle.std.proofs.lemmas.Option.{slice_get_within, get_or_from_slice_get}
use Rattle.word_eqs.specs.declared.term.Term.{Term}
use Rattle.word_eqs.specs.declared.term.TermNode.{TermNode}
use Rattle.word_eqs.specs.declared.term.TermId.{TermId}
use Rattle.word_eqs.specs.Graph.{Graph, width_in, node_at, is_made, is_no_var}
use Rattle.joint_ir.specs.declared.pair.Link.{Link}
use Rattle.joint_ir.specs.declared.pair.Pair.{Pair}
use Rattle.joint_ir.specs.declared.program.Member.{Member}
use Rattle.joint_ir.specs.Views.{members_of}
use Rattle.joint_ir.specs.WellFormed.{AreTerms, FitFirsts, FitsLink, FitsBinding, FitsModule}
use Rattle.joint_ir.specs.declared.module.FlatModule.{FlatModule}
use Rattle.pair_checks.specs.Bound.{HaveLinks, IsApart}
use Rattle.pair_checks.specs.Parts.{HasWords, Settles, Steps}

-- each first value is below 2^bits
pub firsts_fit : (fs : List (Option ℕ)) (ws : List ℕ) → length fs ≡ length ws → ((k : ℕ) → k < length fs → IfSome (get_or fs k None) (λ n. n < 2 ^ get_or ws k 0)) → FitFirsts fs ws
firsts_fit [] [] e h = tt
firsts_fit [] (w ∷ ws) e h = absurd (omega (arith, e))
firsts_fit (f ∷ fs) [] e h = absurd (omega (arith, e))
firsts_fit (f ∷ fs) (w ∷ ws) e h = (h 0 (omega arith), firsts_fit fs ws (omega (arith, e)) (λ k lt. h (suc k) (omega (arith, lt))))

-- terms of widths, and one more of them
pub term_more : (g : Graph) (ids : List TermId) (ws : List ℕ) (k : ℕ) (t : TermId) (w : ℕ) → k < length ids → k < length ws → t ≡ get_or ids k t → w ≡ get_or ws k w →
    AreTerms g (take k ids) (take k ws) → t.0 < length g.terms → width_in g t.0 ≡ w → AreTerms g (take (k + 1) ids) (take (k + 1) ws)
term_more g ids ws k t w lt lt' et ew A there sized =
    let more : take (k + 1) ids ≡ take k ids ++ t ∷ [] = take_more ids k t lt ∙ ap (λ y. take k ids ++ y ∷ []) (sym et) in
    let wider : take (k + 1) ws ≡ take k ws ++ w ∷ [] = take_more ws k w lt' ∙ ap (λ y. take k ws ++ y ∷ []) (sym ew) in
    let width : (TermId → ℕ) = λ (t : TermId). width_in g t.0 in record {
      there = subst (All (λ (t : TermId). t.0 < length g.terms)) (sym more) (All-push (λ (t : TermId). t.0 < length g.terms) (take k ids) t A.there there);
      sized = ap (map width) more ∙ map-append width (take k ids) (t ∷ []) ∙ ap (λ l. l ++ width t ∷ []) A.sized ∙ ap (λ n. take k ws ++ n ∷ []) sized ∙ sym wider;
    }

pub all_terms : (g : Graph) (ids : List TermId) (ws : List ℕ) (k : ℕ) → length ids ≤ k → length ws ≤ k → AreTerms g (take k ids) (take k ws) → AreTerms g ids ws
all_terms g ids ws k le le' A = subst (λ l. AreTerms g l ws) (take_all k ids le) (subst (λ l. AreTerms g (take k ids) l) (take_all k ws le') A)

-- lists that agree as far as both go are the same
pub same_lists : (xs ys : List ℕ) (k : ℕ) → length xs ≤ k → length ys ≤ k → take k xs ≡ take k ys → xs ≡ ys
same_lists xs ys k le le' e = sym (take_all k xs le) ∙ e ∙ take_all k ys le'

-- the term of a node
node_of : (o : Option Term) (node : TermNode) → option_map (λ (x : Term). x.node) o ≡ Some node → (x : Term) × (o ≡ Some x) × (x.node ≡ node)
node_of None node e = let d : None ≡ Some node = e in cc
node_of (Some x) node e = let d : Some x.node ≡ Some node = e in (x, refl, cc)

-- one term more, which may be a variable
pub one_more_made : (g : Graph) (k : ℕ) (node : TermNode) → node_at g k ≡ Some node →
    count_by is_no_var (take (k + 1) g.terms) ≡ count_by is_no_var (take k g.terms) + cond (is_made node) 1 0
one_more_made g k node e =
    let t = node_of (slice_get g.terms k) node e in
    let l = slice_get_within g.terms k t.0 t.1 in
    let before : ℕ = count_by is_no_var (take k g.terms) in
    sum_by_more (λ (x : Term). cond (is_no_var x) 1 0) g.terms k t.0 l
    ∙ ap (λ (x : Term). before + cond (is_no_var x) 1 0) (get_or_from_slice_get g.terms k t.0 t.0 t.1) ∙ ap (λ n. before + cond (is_made n) 1 0) t.2

-- the parts of a binding that fits
pub bound : (p : Pair) (links : List Link) (members : List Member) → links ≡ p.binding.links → members ≡ members_of p.program.mirror →
    All (FitsLink p) links → HaveLinks links members → All (IsApart links) links → FitsBinding p
bound p links members e e' fit have apart =
    let alone : All (IsApart p.binding.links) p.binding.links = subst (λ ls. All (IsApart ls) ls) e apart in record {
      links = subst (All (FitsLink p)) e fit;
      members = subst (λ ms. HaveLinks p.binding.links ms) e' (subst (λ ls. HaveLinks ls members) e have);
      signals = λ k d lt. (alone k d lt).one;
    }

-- the parts of a module that is well-formed
pub whole : (m : FlatModule) → HasWords m → Settles m → Steps m → FitsModule m
whole m words settles steps = record {
  signals = words.signals;
  settle_sites = words.settle_sites;
  edge_sites = words.edge_sites;
  firsts = words.firsts;
  settle_vars = settles.vars;
  settled = settles.settled;
  edge_vars = steps.vars;
  next = steps.next;
  settle_weight = settles.weight;
  edge_weight = steps.weight;
  few_signals = words.few;
}
