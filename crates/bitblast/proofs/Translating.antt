-- Terms that are made one after the other.
use Rattle.std.proofs.Common.{◌≡◌, ◌≢◌, ◌⊎◌, inl, inr, ℕ, ◌+◌, ◌<◌, ◌≤◌, Bool, false, List, [], ◌∷◌, length, get_or, Some, sym, ap, ◌∙◌, subst, arith}
use Rattle.std.specs.Prelude.{slice_get, slice_set, option_map}
use Rattle.std.proofs.lemmas.Bool.{cases_eq}
use Rattle.std.proofs.lemmas.List.{length-set}
use Rattle.std.proofs.lemmas.Option.{slice_get-get_or, same_Some}
use Rattle.arrayvec.specs.ArrayVec.{ArrayVec}
use Rattle.bits_core.specs.Word.{Word}
use Rattle.gate_net.specs.declared.net.Edge.{Edge}
use Rattle.gate_net.specs.declared.net.Node.{Node}
use Rattle.word_eqs.specs.declared.term.Term.{Term}
use Rattle.word_eqs.specs.declared.term.TermNode.{TermNode}
use Rattle.word_eqs.specs.Graph.{Graph, FitsNode, node_at, node_width, width_in, width_of_var}
use Rattle.word_eqs.specs.Gates.{node_gates}
use Rattle.word_eqs.specs.Guarded.{is_var}
use Rattle.word_eqs.specs.Meaning.{node_word}
use Rattle.word_eqs.proofs.Graphs.{no_term, width_is}
use Rattle.bitblast.specs.Circuit.{AreBelow, Grows, number_of}
use Rattle.bitblast.specs.Wires.{AreWires, AreWords, IsMade, IsReady, MakesNode, edges_at}
use Rattle.bitblast.specs.Making.{IsNext, MakesOne, Translates, gates_left}
use Rattle.bitblast.proofs.Growth.{are_below_more, grows_none, grows_then}
use Rattle.bitblast.proofs.Placing.{at_other, at_same, fits_more, gates_put}

-- a term, with its node
pub record IsTerm (g : Graph) (t : ℕ) (node : TermNode) (x : Term) : Type 0 where
  pub at : slice_get g.terms t ≡ Some x
  pub is : x.node ≡ node

pub term_of : (g : Graph) (t : ℕ) (node : TermNode) → t < length g.terms → node_at g t ≡ Some node → IsTerm g t node (get_or g.terms t no_term)
term_of g t node l e =
    let at = slice_get-get_or g.terms t no_term l in
    let here : node_at g t ≡ Some (get_or g.terms t no_term).node = ap (option_map (λ (y : Term). y.node)) at in
    record { at = at; is = same_Some (get_or g.terms t no_term).node node (sym here ∙ e) }

-- a word that makes something of nothing, to count with
abbrev some_word : ArrayVec Edge
some_word = record { items = record { node = 0; negated = false } ∷ [] }

pub one_ready : (net : List Node) (g : Graph) (vars words : List (ArrayVec Edge)) (t : ℕ) (node : TermNode) → node_at g t ≡ Some node → IsNext net g vars words t → IsReady net g vars words node
one_ready net g vars words t node e h =
    let w = h.wanted in
    let x : Term = get_or g.terms t no_term in
    let i = term_of g t node w.there e in
    let there : t < length words = let p = w.proper.places in let q = w.there in omega arith in
    let left : gates_left g g.terms words ≡ node_gates g x.node + gates_left g g.terms (slice_set words t some_word) = gates_put g g.terms words t x some_word i.at there h.none (omega arith) in
    let same : node_gates g x.node ≡ node_gates g node = ap (node_gates g) i.is in
    let le : t ≤ length g.terms = let q = w.there in omega arith in
    record {
      words = w.proper;
      fits = fits_more g t (length g.terms) node le (subst (FitsNode g t) i.is (w.proper.graph.terms t x i.at).fits);
      parts = h.parts node e;
      given = λ y is. w.given y.0 (is_var t y.0 (e ∙ ap Some is));
      room = let r = w.room in omega arith;
    }

pub wires_more : (m n : ℕ) (width : ℕ → ℕ) (ws : List (ArrayVec Edge)) → m ≤ n → AreWires m width ws → AreWires n width ws
wires_more m n width ws l w = record { bits = w.bits; there = λ k. are_below_more m n (edges_at ws k) l (w.there k) }

-- a word more
pub wires_put : (n : ℕ) (width : ℕ → ℕ) (ws : List (ArrayVec Edge)) (t : ℕ) (w : ArrayVec Edge) → t < length ws → AreWires n width ws → length w.items ≡ width t → AreBelow n w.items → AreWires n width (slice_set ws t w)
wires_put n width ws t w l a e b = record { bits = λ k m. wide k (cases_eq k t) m; there = λ k. below k (cases_eq k t) }
  where
    wide : (k : ℕ) → (k ≡ t) ⊎ (k ≢ t) → IsMade (slice_set ws t w) k → length (edges_at (slice_set ws t w) k) ≡ width k
    wide k (inl is) m = ap (λ k. length (edges_at (slice_set ws t w) k)) is ∙ ap length (at_same ws t w l) ∙ e ∙ ap width (sym is)
    wide k (inr other) m =
        let same = at_other ws t k w other in
        ap length same ∙ a.bits k (subst (λ (es : List Edge). 0 < length es) same m)

    below : (k : ℕ) → (k ≡ t) ⊎ (k ≢ t) → AreBelow n (edges_at (slice_set ws t w) k)
    below k (inl is) = subst (λ k. AreBelow n (edges_at (slice_set ws t w) k)) (sym is) (subst (AreBelow n) (sym (at_same ws t w l)) b)
    below k (inr other) = subst (AreBelow n) (sym (at_other ws t k w other)) (a.there k)

pub made_put : (ws : List (ArrayVec Edge)) (t : ℕ) (w : ArrayVec Edge) (k : ℕ) → t < length ws → 0 < length w.items → IsMade ws k → IsMade (slice_set ws t w) k
made_put ws t w k l s m = on (cases_eq k t)
  where
    on : (k ≡ t) ⊎ (k ≢ t) → IsMade (slice_set ws t w) k
    on (inl is) = subst (λ k. IsMade (slice_set ws t w) k) (sym is) (subst (λ (es : List Edge). 0 < length es) (sym (at_same ws t w l)) s)
    on (inr other) = subst (λ (es : List Edge). 0 < length es) (sym (at_other ws t k w other)) m

-- numbers of words, with one more
pub fits_put : (a : ℕ → Bool) (value : ℕ → ℕ) (ws : List (ArrayVec Edge)) (t : ℕ) (w : ArrayVec Edge) → t < length ws → ((k : ℕ) → IsMade ws k → number_of a (edges_at ws k) ≡ value k) → number_of a w.items ≡ value t
    → (k : ℕ) → IsMade (slice_set ws t w) k → number_of a (edges_at (slice_set ws t w) k) ≡ value k
fits_put a value ws t w l f e k m = on (cases_eq k t)
  where
    on : (k ≡ t) ⊎ (k ≢ t) → number_of a (edges_at (slice_set ws t w) k) ≡ value k
    on (inl is) = ap (λ k. number_of a (edges_at (slice_set ws t w) k)) is ∙ ap (number_of a) (at_same ws t w l) ∙ e ∙ ap value (sym is)
    on (inr other) =
        let same = at_other ws t k w other in
        ap (number_of a) same ∙ f k (subst (λ (es : List Edge). 0 < length es) same m)

pub one_made : (o n : List Node) (g : Graph) (vars words made : List (ArrayVec Edge)) (t : ℕ) (node : TermNode) (es : ArrayVec Edge) → node_at g t ≡ Some node → IsNext o g vars words t → MakesNode o n g vars words node es.items → made ≡ slice_set words t es
    → MakesOne o n g vars words made t
one_made o n g vars words made t node es e h x p =
    let w = h.wanted in
    let y : Term = get_or g.terms t no_term in
    let i = term_of g t node w.there e in
    let term = w.proper.graph.terms t y i.at in
    let there : t < length words = let p = w.proper.places in let q = w.there in omega arith in
    let wide : length es.items ≡ width_in g t = x.bits ∙ ap (node_width g) (sym i.is) ∙ sym term.width ∙ sym (width_is g t y i.at) in
    let some : 0 < length es.items = let k : length es.items ≡ y.width = wide ∙ width_is g t y i.at in let s = term.some in omega arith in
    let left : gates_left g g.terms words ≡ node_gates g y.node + gates_left g g.terms (slice_set words t es) = gates_put g g.terms words t y es i.at there h.none some in
    let same : node_gates g y.node ≡ node_gates g node = ap (node_gates g) i.is in
    let all : Translates o n g vars words (slice_set words t es) 0 = record {
      spent = node_gates g node;
      grows = x.grows;
      cost = omega arith;
      proper = record {
        graph = w.proper.graph;
        places = length-set words t es ∙ w.proper.places;
        names = w.proper.names;
        widths = wires_put (length n) (width_in g) words t es there (wires_more (length o) (length n) (width_in g) words x.grows.longer w.proper.widths) wide x.there;
        var_widths = wires_more (length o) (length n) (width_of_var g) vars x.grows.longer w.proper.var_widths;
      };
      kept = λ k m. made_put words t es k there some m;
      fits = λ a v z r f. record {
        of_vars = f.of_vars;
        of_terms = fits_put a (λ k. (v.term k).value) words t es there f.of_terms (x.value a v z r f ∙ ap (λ m. (node_word v m).value) (sym i.is) ∙ sym (ap (λ (q : Word). q.value) (r.terms.at t y i.at)));
      };
    } in
    record { rest = subst (λ m. Translates o n g vars words m 0) (sym p) all; word = es; some = some; put = p }

-- one after the other

pub translates_none : (o : List Node) (g : Graph) (vars words : List (ArrayVec Edge)) → AreWords o g vars words → Translates o o g vars words words 0
translates_none o g vars words w = record { spent = 0; grows = grows_none o; cost = omega arith; proper = w; kept = λ k m. m; fits = λ a v z r f. f }

pub translates_then : (o m n : List Node) (g : Graph) (vars xs ys zs : List (ArrayVec Edge)) (c d : ℕ) → Translates o m g vars xs ys c → Translates m n g vars ys zs d → Translates o n g vars xs zs (c + d)
translates_then o m n g vars xs ys zs c d p q = record {
  spent = p.spent + q.spent;
  grows = grows_then o m n p.spent q.spent p.grows q.grows;
  cost = let k = p.cost in let l = q.cost in omega arith;
  proper = q.proper;
  kept = λ k m. q.kept k (p.kept k m);
  fits = λ a v z r f. q.fits a v z r (p.fits a v (q.grows.values a z) r f);
}

-- words of a net that grew
pub words_more : (o n : List Node) (g : Graph) (vars words : List (ArrayVec Edge)) → length o ≤ length n → AreWords o g vars words → AreWords n g vars words
words_more o n g vars words l w = record {
  graph = w.graph;
  places = w.places;
  names = w.names;
  widths = wires_more (length o) (length n) (width_in g) words l w.widths;
  var_widths = wires_more (length o) (length n) (width_of_var g) vars l w.var_widths;
}

pub translates_more : (o m n : List Node) (g : Graph) (vars xs ys : List (ArrayVec Edge)) (c d : ℕ) → Translates o m g vars xs ys c → Grows m n d → Translates o n g vars xs ys (c + d)
translates_more o m n g vars xs ys c d p q = record {
  spent = p.spent + d;
  grows = grows_then o m n p.spent d p.grows q;
  cost = let k = p.cost in omega arith;
  proper = words_more m n g vars ys q.longer p.proper;
  kept = p.kept;
  fits = λ a v z r f. p.fits a v (q.values a z) r f;
}

pub translates_within : (o n : List Node) (g : Graph) (vars xs ys : List (ArrayVec Edge)) (c d : ℕ) → c ≤ d → Translates o n g vars xs ys c → Translates o n g vars xs ys d
translates_within o n g vars xs ys c d l p = record {
  spent = p.spent;
  grows = p.grows;
  cost = let k = p.cost in omega arith;
  proper = p.proper;
  kept = p.kept;
  fits = p.fits;
}
