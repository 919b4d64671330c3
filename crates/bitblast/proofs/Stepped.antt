-- What is translated after one more step.
use Rattle.std.proofs.Common.{◌≡◌, ◌≢◌, ◌⊎◌, inl, inr, ℕ, ◌+◌, ◌<◌, ◌≤◌, Bool, true, false, cond, ◌&&◌, ◌||◌, not, List, [], ◌∷◌, ◌++◌, length, length-append, take, replicate, Some, refl, sym, ap, ◌∙◌, subst, arith, append-nil}
use Rattle.std.specs.Prelude.{slice_get, slice_set, nat_eq, Contains}
use Rattle.std.proofs.lemmas.Bool.{cases_eq}
use Rattle.std.proofs.lemmas.Bool.Decides.{nat_tests}
use Rattle.std.proofs.lemmas.List.{length-set, length-replicate}
use Rattle.arrayvec.specs.ArrayVec.{ArrayVec}
use Rattle.bits_core.specs.Word.{Word}
use Rattle.gate_net.specs.declared.net.Edge.{Edge}
use Rattle.gate_net.specs.declared.net.Node.TheVariants.{Input}
use Rattle.gate_net.specs.Edge.{edge_value}
use Rattle.word_eqs.specs.declared.term.VarId.{VarId}
use Rattle.word_eqs.specs.declared.term.TermId.{TermId}
use Rattle.word_eqs.specs.declared.list.Act.TheVariants.{Free, Set, Cut, Prop}
use Rattle.word_eqs.specs.declared.list.Step.{Step}
use Rattle.word_eqs.specs.Graph.{Graph, width_in, width_of_var}
use Rattle.word_eqs.specs.Gates.{act_gates, gate_count}
use Rattle.word_eqs.specs.Guarded.{walk, gives, givers, act_terms, Uses, SetsAs, FitsAct, IsOrdered}
use Rattle.word_eqs.specs.Meaning.{Values as Valuation}
use Rattle.word_eqs.proofs.Graphs.{get_last}
use Rattle.word_eqs.proofs.Uses.{uses_there}
use Rattle.bitblast.specs.declared.blasting.Maker.{Maker}
use Rattle.bitblast.specs.Circuit.{number_of}
use Rattle.bitblast.specs.Wires.{AreWords, Fits, IsMade, edges_at}
use Rattle.bitblast.specs.Blasted.{AreFreeBits, act_free, free_edges, inputs, inputs_from}
use Rattle.bitblast.specs.Making.{Frees, Gives, IsAt, IsTest, IsWanted, MayEnd, fails, gates_left, is_broken, is_live}
use Rattle.bitblast.proofs.Inputs.{below_new_inputs, inputs_added, inputs_kept, length-new_inputs, values_of_first}
use Rattle.bitblast.proofs.Placing.{at_other, at_same}
use Rattle.bitblast.proofs.Stepping.{IsNextStep, Does, broken_more, does_cut, does_prop, does_free, does_set, free_bits_first, free_bits_put, free_edges_push, free_edges_put, givers_push, live_more, next_step, same_var, step_gates_rest, ungiven}
use Rattle.bitblast.proofs.Translating.{fits_put, wires_put, words_more}
use Rattle.gate_net.specs.Net.{MOST_NODES}

-- what stands for a term that a step names
pub given_before : (g : Graph) (list : List Step) (k : ℕ) (s : Step) (m : Maker) (t : ℕ) → IsOrdered g list → IsAt g list k m → slice_get list k ≡ Some s → Contains (s.guard.0 ∷ act_terms s.act) t → (x : ℕ) → Uses g t x → IsMade m.wires x
given_before g list k s m t o h at c x u = h.given x (uses_there g h.proper.graph u) (o.before k s at t x c u)

and_true : (b : Bool) → (b && true) ≡ b
and_true true = refl
and_true false = refl

or_and_false : (b c : Bool) → (b || (c && false)) ≡ b
or_and_false true c = refl
or_and_false false true = refl
or_and_false false false = refl

or_swap : (r l b f : Bool) → (r || (b && (l && f))) ≡ (r || (l && (b && f)))
or_swap true l b f = refl
or_swap false true true f = refl
or_swap false true false f = refl
or_swap false false true f = refl
or_swap false false false f = refl

-- a step that may end the list

pub record IsEnding (g : Graph) (s : Step) (t : ℕ) (breaks : Bool) : Type 0 where
  pub gates : act_gates g s.act ≡ width_in g t + 8
  pub gives_none : (x : ℕ) → gives x s.act ≡ false
  pub frees_none : (wires : List (ArrayVec Edge)) → act_free wires s.act ≡ []
  pub does : (v : Valuation) → Does v s (not (fails (v.term s.guard.0).value (v.term t).value)) (breaks && fails (v.term s.guard.0).value (v.term t).value)

pub at_end : (g : Graph) (list : List Step) (k : ℕ) (s : Step) (old new : Maker) (t : ℕ) (breaks : Bool) → IsAt g list k old → slice_get list k ≡ Some s → IsEnding g s t breaks → MayEnd g old new s.guard.0 t breaks → IsAt g list (k + 1) new
at_end g list k s old new t breaks h at e m =
    let n = next_step list k s at in
    let names : AreWords new.net g new.wires new.words = subst (λ w. AreWords new.net g w new.words) (sym m.wires) m.rest.proper in
    let gates = step_gates_rest g list k s n in
    record {
      proper = names;
      given = λ x l one.
          let c : givers x (take (k + 1) list) ≡ givers x (take k list) + 0 = ap (givers x) n.more ∙ givers_push x (take k list) s ∙ ap (λ b. givers x (take k list) + cond b 1 0) (e.gives_none x) in
          subst (λ w. IsMade w x) (sym m.wires) (h.given x l (omega arith));
      one_to_one =
          inputs_kept old.net new.net m.rest.spent m.rest.grows ∙ h.one_to_one ∙ sym (append-nil (free_edges old.wires (take k list))) ∙ ap (λ l. free_edges old.wires (take k list) ++ l) (sym (e.frees_none old.wires))
          ∙ sym (free_edges_push old.wires (take k list) s) ∙ ap (free_edges old.wires) (sym n.more) ∙ ap (λ w. free_edges w (take (k + 1) list)) (sym m.wires);
      live_there = m.live_there;
      root_there = m.root_there;
      count =
          let c = h.count in
          let d = m.rest.cost in
          let f = m.rest.grows.cost in
          let i = e.gates in
          omega arith;
      shows = λ a v z r f.
          let fb : AreFreeBits a v old.wires (take k list) = free_bits_first a v old.wires (take k list) (s ∷ []) (subst (AreFreeBits a v old.wires) n.more (subst (λ w. AreFreeBits a v w (take (k + 1) list)) m.wires f)) in
          let was = h.shows a v (m.rest.grows.values a z) r fb in
          let fits : Fits a v old.wires new.words = m.rest.fits a v z r.respects was.fits in
          let w = walk v (take k list) in
          let b = fails (v.term s.guard.0).value (v.term t).value in
          record {
            fits = subst (λ w. Fits a v w new.words) (sym m.wires) fits;
            live = m.live a v z r.respects was.fits ∙ ap (λ x. x && not b) was.live ∙ sym (live_more v list k s (not b) (breaks && b) n (e.does v));
            root =
                m.root a v z r.respects was.fits ∙ ap (λ x. x || (breaks && (edge_value a old.live && b))) was.root ∙ ap (λ x. is_broken w || (breaks && (x && b))) was.live
                ∙ or_swap (is_broken w) (is_live w) breaks b ∙ sym (broken_more v list k s (not b) (breaks && b) n (e.does v));
          };
    }

-- a step that gives a variable its word

pub record IsGiving (g : Graph) (s : Step) (x gates : ℕ) : Type 0 where
  pub gates_are : act_gates g s.act ≡ gates
  pub gives_as : (y : ℕ) → gives y s.act ≡ nat_eq y x
  pub does : (v : Valuation) → Does v s true false

given_put : (g : Graph) (list : List Step) (k : ℕ) (s : Step) (wires : List (ArrayVec Edge)) (x : ℕ) (w : ArrayVec Edge) (gates : ℕ) → IsNextStep list k s → IsGiving g s x gates → x < length wires → 0 < length w.items
    → ((y : ℕ) → y < length g.vars → givers y (take k list) ≡ 1 → IsMade wires y) → (y : ℕ) → y < length g.vars → givers y (take (k + 1) list) ≡ 1 → IsMade (slice_set wires x w) y
given_put g list k s wires x w gates n i there some before y l one = on (cases_eq y x)
  where
    on : (y ≡ x) ⊎ (y ≢ x) → IsMade (slice_set wires x w) y
    on (inl is) = subst (λ y. IsMade (slice_set wires x w) y) (sym is) (subst (λ (es : List Edge). 0 < length es) (sym (at_same wires x w there)) some)
    on (inr other) =
        let no_eq : nat_eq y x ≡ false = grind (arith, nat_tests) in
        let c : givers y (take (k + 1) list) ≡ givers y (take k list) + 0 = ap (givers y) n.more ∙ givers_push y (take k list) s ∙ ap (λ b. givers y (take k list) + cond b 1 0) (i.gives_as y ∙ no_eq) in
        subst (λ (es : List Edge). 0 < length es) (sym (at_other wires x y w other)) (before y l (omega arith))

live_same : (v : Valuation) (list : List Step) (k : ℕ) (s : Step) → IsNextStep list k s → Does v s true false → is_live (walk v (take (k + 1) list)) ≡ is_live (walk v (take k list))
live_same v list k s n d = live_more v list k s true false n d ∙ and_true (is_live (walk v (take k list)))

broken_same : (v : Valuation) (list : List Step) (k : ℕ) (s : Step) → IsNextStep list k s → Does v s true false → is_broken (walk v (take (k + 1) list)) ≡ is_broken (walk v (take k list))
broken_same v list k s n d = broken_more v list k s true false n d ∙ or_and_false (is_broken (walk v (take k list))) (is_live (walk v (take k list)))

pub at_give : (g : Graph) (list : List Step) (k : ℕ) (s : Step) (old new : Maker) (x : VarId) (t : TermId) → IsOrdered g list → IsAt g list k old → slice_get list k ≡ Some s → s.act ≡ Set x t → Gives g old new x.0 t.0 → IsAt g list (k + 1) new
at_give g list k s old new x t o h at e m =
    let n = next_step list k s at in
    let fit : FitsAct g (Set x t) = subst (FitsAct g) e (o.steps k s at).act in
    let gv : IsGiving g s x.0 0 = record { gates_are = ap (act_gates g) e; gives_as = λ y. ap (gives y) e; does = λ v. does_set v s x t e } in
    let w : ArrayVec Edge = record { items = edges_at new.words t.0 } in
    let there : x.0 < length old.wires = let l = h.proper.names in let q = fit.0 in omega arith in
    let wide : length (edges_at new.words t.0) ≡ width_of_var g x.0 = m.rest.proper.widths.bits t.0 m.made ∙ fit.2 in
    let zero_before : givers x.0 (take k list) ≡ 0 = ungiven list k s x.0 n (o.once x.0 fit.0) (gv.gives_as x.0 ∙ same_var x.0) in
    let gates = step_gates_rest g list k s n in
    let ws : List (ArrayVec Edge) = slice_set old.wires x.0 w in
    record {
      proper = subst (λ u. AreWords new.net g u new.words) (sym m.wires) (record {
        graph = m.rest.proper.graph;
        places = m.rest.proper.places;
        names = length-set old.wires x.0 w ∙ m.rest.proper.names;
        widths = m.rest.proper.widths;
        var_widths = wires_put (length new.net) (width_of_var g) old.wires x.0 w there m.rest.proper.var_widths wide (m.rest.proper.widths.there t.0);
      });
      given = λ y l one. subst (λ u. IsMade u y) (sym m.wires) (given_put g list k s old.wires x.0 w 0 n gv there m.made h.given y l one);
      one_to_one =
          inputs_kept old.net new.net m.rest.spent m.rest.grows ∙ h.one_to_one ∙ sym (free_edges_put old.wires x.0 w (take k list) zero_before) ∙ sym (append-nil (free_edges ws (take k list)))
          ∙ ap (λ l. free_edges ws (take k list) ++ l) (sym (ap (act_free ws) e)) ∙ sym (free_edges_push ws (take k list) s) ∙ ap (free_edges ws) (sym n.more) ∙ ap (λ u. free_edges u (take (k + 1) list)) (sym m.wires);
      live_there = let l = h.live_there in let q = m.rest.grows.longer in subst (λ (e : Edge). e.node < length new.net) (sym m.live) (omega arith);
      root_there = let l = h.root_there in let q = m.rest.grows.longer in subst (λ (e : Edge). e.node < length new.net) (sym m.root) (omega arith);
      count =
          let c = h.count in
          let d = m.rest.cost in
          let f = m.rest.grows.cost in
          let i = gv.gates_are in
          omega arith;
      shows = λ a v z r f.
          let all : AreFreeBits a v ws (take k list) = free_bits_first a v ws (take k list) (s ∷ []) (subst (AreFreeBits a v ws) n.more (subst (λ u. AreFreeBits a v u (take (k + 1) list)) m.wires f)) in
          let was = h.shows a v (m.rest.grows.values a z) r (free_bits_put a v old.wires x.0 w (take k list) zero_before all) in
          let fits : Fits a v old.wires new.words = m.rest.fits a v z r.respects was.fits in
          let sets : v.var x.0 ≡ v.term t.0 = subst (SetsAs v) e (r.sets.at k s at) in
          record {
            fits = subst (λ u. Fits a v u new.words) (sym m.wires) (record {
              of_vars = fits_put a (λ y. (v.var y).value) old.wires x.0 w there fits.of_vars (fits.of_terms t.0 m.made ∙ sym (ap (λ (q : Word). q.value) sets));
              of_terms = fits.of_terms;
            });
            live = ap (edge_value a) m.live ∙ was.live ∙ sym (live_same v list k s n (gv.does v));
            root = ap (edge_value a) m.root ∙ was.root ∙ sym (broken_same v list k s n (gv.does v));
          };
    }

pub at_free : (g : Graph) (list : List Step) (k : ℕ) (s : Step) (old new : Maker) (x : VarId) (width : ℕ) → IsOrdered g list → IsAt g list k old → slice_get list k ≡ Some s → s.act ≡ Free x → width ≡ width_of_var g x.0 → 0 < width → Frees old new x.0 width → IsAt g list (k + 1) new
at_free g list k s old new x width o h at e same some m =
    let n = next_step list k s at in
    let fit : x.0 < length g.vars = subst (FitsAct g) e (o.steps k s at).act in
    let gv : IsGiving g s x.0 width = record { gates_are = ap (act_gates g) e ∙ sym same; gives_as = λ y. ap (gives y) e; does = λ v. does_free v s x e } in
    let w : ArrayVec Edge = record { items = inputs_from (length old.net) (replicate width Input) } in
    let there : x.0 < length old.wires = let l = h.proper.names in omega arith in
    let wide : length w.items ≡ width = length-new_inputs (length old.net) width in
    let zero_before : givers x.0 (take k list) ≡ 0 = ungiven list k s x.0 n (o.once x.0 fit) (gv.gives_as x.0 ∙ same_var x.0) in
    let gates = step_gates_rest g list k s n in
    let ws : List (ArrayVec Edge) = slice_set old.wires x.0 w in
    let long : length new.net ≡ length old.net + width = ap length m.net ∙ length-append old.net (replicate width Input) ∙ ap (λ i. length old.net + i) (length-replicate width Input) in
    let more : length old.net ≤ length new.net = omega arith in
    let all_words : AreWords new.net g old.wires old.words = words_more old.net new.net g old.wires old.words more h.proper in
    let here : edges_at ws x.0 ≡ w.items = at_same old.wires x.0 w there in
    record {
      proper = subst (λ q. AreWords new.net g new.wires q) (sym m.words) (subst (λ u. AreWords new.net g u old.words) (sym m.wires) (record {
        graph = h.proper.graph;
        places = h.proper.places;
        names = length-set old.wires x.0 w ∙ h.proper.names;
        widths = all_words.widths;
        var_widths = wires_put (length new.net) (width_of_var g) old.wires x.0 w there all_words.var_widths (wide ∙ same) (below_new_inputs (length old.net) width (length new.net) (omega arith));
      }));
      given = λ y l one. subst (λ u. IsMade u y) (sym m.wires) (given_put g list k s old.wires x.0 w width n gv there (omega arith) h.given y l one);
      one_to_one =
          ap inputs m.net ∙ inputs_added old.net width ∙ ap (λ l. l ++ w.items) (h.one_to_one ∙ sym (free_edges_put old.wires x.0 w (take k list) zero_before))
          ∙ ap (λ l. free_edges ws (take k list) ++ l) (sym here ∙ sym (ap (act_free ws) e)) ∙ sym (free_edges_push ws (take k list) s) ∙ ap (free_edges ws) (sym n.more) ∙ ap (λ u. free_edges u (take (k + 1) list)) (sym m.wires);
      live_there = let l = h.live_there in subst (λ (e : Edge). e.node < length new.net) (sym m.live) (omega arith);
      root_there = let l = h.root_there in subst (λ (e : Edge). e.node < length new.net) (sym m.root) (omega arith);
      count =
          let c = h.count in
          let i = gv.gates_are in
          let j : gates_left g g.terms new.words ≡ gates_left g g.terms old.words = ap (gates_left g g.terms) m.words in
          omega arith;
      shows = λ a v z r f.
          let now : AreFreeBits a v ws (take k list ++ s ∷ []) = subst (AreFreeBits a v ws) n.more (subst (λ u. AreFreeBits a v u (take (k + 1) list)) m.wires f) in
          let all : AreFreeBits a v ws (take k list) = free_bits_first a v ws (take k list) (s ∷ []) now in
          let was = h.shows a v (values_of_first old.net (replicate width Input) new.net a m.net z) r (free_bits_put a v old.wires x.0 w (take k list) zero_before all) in
          let bits : number_of a w.items ≡ (v.var x.0).value = ap (number_of a) (sym here) ∙ now.at (length (take k list)) s x (get_last (take k list) s) e in
          record {
            fits = subst (λ q. Fits a v new.wires q) (sym m.words) (subst (λ u. Fits a v u old.words) (sym m.wires) (record {
              of_vars = fits_put a (λ y. (v.var y).value) old.wires x.0 w there was.fits.of_vars bits;
              of_terms = was.fits.of_terms;
            }));
            live = ap (edge_value a) m.live ∙ was.live ∙ sym (live_same v list k s n (gv.does v));
            root = ap (edge_value a) m.root ∙ was.root ∙ sym (broken_same v list k s n (gv.does v));
          };
    }

-- what a step may ask for

pub room_at : (g : Graph) (list : List Step) (k : ℕ) (s : Step) (m : Maker) → IsAt g list k m → slice_get list k ≡ Some s → 1 + gate_count g list ≤ MOST_NODES → length m.net + gates_left g g.terms m.words + act_gates g s.act ≤ MOST_NODES
room_at g list k s m h at r =
    let n = step_gates_rest g list k s (next_step list k s at) in
    let c = h.count in
    omega arith

pub free_room : (g : Graph) (list : List Step) (k : ℕ) (s : Step) (m : Maker) (x : VarId) → IsAt g list k m → slice_get list k ≡ Some s → 1 + gate_count g list ≤ MOST_NODES → s.act ≡ Free x → length m.net + width_of_var g x.0 ≤ MOST_NODES
free_room g list k s m x h at r e =
    let l = room_at g list k s m h at r in
    let i : act_gates g s.act ≡ width_of_var g x.0 = ap (act_gates g) e in
    omega arith

pub set_there : (g : Graph) (list : List Step) (k : ℕ) (s : Step) (m : Maker) (x : VarId) (t : TermId) → IsOrdered g list → IsAt g list k m → slice_get list k ≡ Some s → s.act ≡ Set x t → x.0 < length m.wires
set_there g list k s m x t o h at e =
    let fit : FitsAct g (Set x t) = subst (FitsAct g) e (o.steps k s at).act in
    let l = h.proper.names in
    let q = fit.0 in
    omega arith

pub set_wanted : (g : Graph) (list : List Step) (k : ℕ) (s : Step) (m : Maker) (x : VarId) (t : TermId) → IsOrdered g list → IsAt g list k m → slice_get list k ≡ Some s → 1 + gate_count g list ≤ MOST_NODES → s.act ≡ Set x t → IsWanted m.net g m.wires m.words t.0 0
set_wanted g list k s m x t o h at r e =
    let fit : FitsAct g (Set x t) = subst (FitsAct g) e (o.steps k s at).act in
    let l = room_at g list k s m h at r in
    record {
      proper = h.proper;
      there = fit.1;
      given = given_before g list k s m t.0 o h at (subst (λ a. Contains (s.guard.0 ∷ act_terms a) t.0) (sym e) (1, omega arith, refl));
      room = omega arith;
    }

pub test_at : (g : Graph) (list : List Step) (k : ℕ) (s : Step) (m : Maker) (t : ℕ) (breaks : Bool) → IsOrdered g list → IsAt g list k m → slice_get list k ≡ Some s → 1 + gate_count g list ≤ MOST_NODES → IsEnding g s t breaks → t < length g.terms → Contains (s.guard.0 ∷ act_terms s.act) t → IsTest m.net g m.wires m.words s.guard.0 t
test_at g list k s m t breaks o h at r e l c =
    let room = room_at g list k s m h at r in
    let i = e.gates in
    record {
      wanted = record { proper = h.proper; there = (o.steps k s at).guard; given = given_before g list k s m s.guard.0 o h at (0, omega arith, refl); room = omega arith };
      bit = (o.steps k s at).bit;
      there = l;
      given = given_before g list k s m t o h at c;
    }

pub ends_cut : (g : Graph) (s : Step) (t : TermId) → s.act ≡ Cut t → IsEnding g s t.0 false
ends_cut g s t e = record { gates = ap (act_gates g) e; gives_none = λ x. ap (gives x) e; frees_none = λ w. ap (act_free w) e; does = λ v. does_cut v s t e }

pub ends_prop : (g : Graph) (s : Step) (p : ℕ) (t : TermId) → s.act ≡ Prop p t → IsEnding g s t.0 true
ends_prop g s p t e = record { gates = ap (act_gates g) e; gives_none = λ x. ap (gives x) e; frees_none = λ w. ap (act_free w) e; does = λ v. does_prop v s p t e }

pub test_cut : (g : Graph) (list : List Step) (k : ℕ) (s : Step) (m : Maker) (t : TermId) → IsOrdered g list → IsAt g list k m → slice_get list k ≡ Some s → 1 + gate_count g list ≤ MOST_NODES → s.act ≡ Cut t → IsTest m.net g m.wires m.words s.guard.0 t.0
test_cut g list k s m t o h at r e =
    test_at g list k s m t.0 false o h at r (ends_cut g s t e) (subst (FitsAct g) e (o.steps k s at).act) (subst (λ a. Contains (s.guard.0 ∷ act_terms a) t.0) (sym e) (1, omega arith, refl))

pub test_prop : (g : Graph) (list : List Step) (k : ℕ) (s : Step) (m : Maker) (p : ℕ) (t : TermId) → IsOrdered g list → IsAt g list k m → slice_get list k ≡ Some s → 1 + gate_count g list ≤ MOST_NODES → s.act ≡ Prop p t → IsTest m.net g m.wires m.words s.guard.0 t.0
test_prop g list k s m p t o h at r e =
    test_at g list k s m t.0 true o h at r (ends_prop g s p t e) (subst (FitsAct g) e (o.steps k s at).act) (subst (λ a. Contains (s.guard.0 ∷ act_terms a) t.0) (sym e) (1, omega arith, refl))
