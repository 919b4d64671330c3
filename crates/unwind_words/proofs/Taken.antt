-- The words of signals, one signal at a time.
use Rattle.std.proofs.Common.{◌≡◌, ℕ, zero, suc, ◌+◌, ◌<◌, ◌≤◌, List, [], ◌∷◌, ◌++◌, length, map, get_or, take, drop, false, true, refl, sym, ap, ◌∙◌, subst, arith, append_assoc, append-nil}
use Rattle.std.proofs.lemmas.List.{map-append, take-map, drop-map, drop_more, drop_all, take_all}
use Rattle.word_eqs.specs.declared.term.TermId.{TermId}
use Rattle.word_eqs.specs.Graph.{Graph, IsGraph}
use Rattle.word_eqs.specs.Meaning.{Values, Respects}
use Rattle.joint_ir.specs.declared.module.Role.{Role}
use Rattle.joint_ir.specs.declared.module.Role.TheVariants.{Input, Clock, Register, Wire}
use Rattle.joint_ir.specs.declared.module.Signal.{Signal}
use Rattle.joint_ir.specs.States.{copies, element_count}
use Rattle.joint_ir.specs.Views.{same_role, widths_of, signal_words}
use Rattle.joint_ir.specs.WellFormed.{AreTerms, FitsSignal}
use Rattle.sized_terms.specs.Sized.{Has}
use Rattle.unrolled.specs.declared.Unrolled.{Unrolled}
use Rattle.unwind_state.specs.Guards.{Adds}
use Rattle.unwind_state.specs.Images.{words}
use Rattle.unwind_state.specs.Writing.{sized}
use Rattle.unwind_state.proofs.Gates.{adds_none, adds_then}
use Rattle.unwind_module.proofs.Terms.{grows_adds, terms_none, terms_cons, terms_kept, terms_split}
use Rattle.unwind_words.specs.Rows.{AreRows, HaveTerms, HasSignals, signal_widths}
use Rattle.unwind_words.proofs.Drawn.{more_taken}
use Rattle.unwind_words.proofs.Rows.{rows_push, rows_kept}

-- a signal that is no register has one word
no_words : (s : Signal) → FitsSignal s → (s.role ≡ Register → ⊥) → element_count s.words ≡ 1
no_words s f h = by s.words refl
  where
    by : (n : ℕ) → s.words ≡ n → element_count s.words ≡ 1
    by zero e = ap element_count e
    by (suc n) e = absurd (h (f.memory (omega arith)))

own_widths : (s : Signal) (signals : List Signal) (role : Role) → same_role role s.role ≡ true → widths_of role (s ∷ signals) ≡ copies (element_count s.words) s.bits ++ widths_of role signals
own_widths s signals role e = rw e

other_widths : (s : Signal) (signals : List Signal) (role : Role) → same_role role s.role ≡ false → widths_of role (s ∷ signals) ≡ widths_of role signals
other_widths s signals role e = rw e

-- the row of a signal was taken from the words that are left
pub record IsTaken (g : Graph) (s : Signal) (signals : List Signal) (R I W R' I' W' row : List TermId) : Type 0 where
  pub terms : AreTerms g row (copies (element_count s.words) s.bits)
  pub left : HaveTerms g signals R' I' W'
  pub stand : (v : Values) → Respects v g → signal_words (s ∷ signals) (words v R) (words v I) (words v W) ≡ words v row ∷ signal_words signals (words v R') (words v I') (words v W')

module _ (g : Graph) (s : Signal) (signals : List Signal) (fits : FitsSignal s) (R I W : List TermId) (have : HaveTerms g (s ∷ signals) R I W) where
  pub taken_clock : (t : TermId) → s.role ≡ Clock → Has g (sized t 1) → ((v : Values) → Respects v g → (v.term t.0).value ≡ 0) → IsTaken g s signals R I W R I W (t ∷ [])
  taken_clock t e h z = record {
    terms = subst (λ n. AreTerms g (t ∷ []) (copies n s.bits)) (sym (no_words s fits (λ q. cc)))
        (subst (λ w. AreTerms g (t ∷ []) (copies 1 w)) (sym (fits.clock e)) (terms_cons g t [] 1 [] h (terms_none g)));
    left = record {
      registers_ = subst (AreTerms g R) (other_widths s signals Register (rw e)) have.registers_;
      inputs_ = subst (AreTerms g I) (other_widths s signals Input (rw e)) have.inputs_;
      wires_ = subst (AreTerms g W) (other_widths s signals Wire (rw e)) have.wires_;
    };
    stand = λ v r.
        let own : signal_words (s ∷ signals) (words v R) (words v I) (words v W) ≡ (0 ∷ []) ∷ signal_words signals (words v R) (words v I) (words v W) = rw e in
        own ∙ ap (λ n. (n ∷ []) ∷ signal_words signals (words v R) (words v I) (words v W)) (sym (z v r));
  }

  pub taken_input : s.role ≡ Input → IsTaken g s signals R I W R (drop 1 I) W (take 1 I)
  taken_input e =
      let one = no_words s fits (λ q. cc) in
      let p = terms_split g 1 s.bits (widths_of Input signals) I (subst (AreTerms g I) (own_widths s signals Input (rw e) ∙ ap (λ n. copies n s.bits ++ widths_of Input signals) one) have.inputs_) in
      record {
        terms = subst (λ n. AreTerms g (take 1 I) (copies n s.bits)) (sym one) p.0;
        left = record {
          registers_ = subst (AreTerms g R) (other_widths s signals Register (rw e)) have.registers_;
          inputs_ = p.1;
          wires_ = subst (AreTerms g W) (other_widths s signals Wire (rw e)) have.wires_;
        };
        stand = λ v r.
            let own : signal_words (s ∷ signals) (words v R) (words v I) (words v W) ≡ take 1 (words v I) ∷ signal_words signals (words v R) (drop 1 (words v I)) (words v W) = rw e in
            let f : TermId → ℕ = λ t. (v.term t.0).value in
            own ∙ ap (λ l. l ∷ signal_words signals (words v R) (drop 1 (words v I)) (words v W)) (take-map f 1 I)
            ∙ ap (λ l. words v (take 1 I) ∷ signal_words signals (words v R) l (words v W)) (drop-map f 1 I);
      }

  pub taken_wire : s.role ≡ Wire → IsTaken g s signals R I W R I (drop 1 W) (take 1 W)
  taken_wire e =
      let one = no_words s fits (λ q. cc) in
      let p = terms_split g 1 s.bits (widths_of Wire signals) W (subst (AreTerms g W) (own_widths s signals Wire (rw e) ∙ ap (λ n. copies n s.bits ++ widths_of Wire signals) one) have.wires_) in
      record {
        terms = subst (λ n. AreTerms g (take 1 W) (copies n s.bits)) (sym one) p.0;
        left = record {
          registers_ = subst (AreTerms g R) (other_widths s signals Register (rw e)) have.registers_;
          inputs_ = subst (AreTerms g I) (other_widths s signals Input (rw e)) have.inputs_;
          wires_ = p.1;
        };
        stand = λ v r.
            let own : signal_words (s ∷ signals) (words v R) (words v I) (words v W) ≡ take 1 (words v W) ∷ signal_words signals (words v R) (words v I) (drop 1 (words v W)) = rw e in
            let f : TermId → ℕ = λ t. (v.term t.0).value in
            own ∙ ap (λ l. l ∷ signal_words signals (words v R) (words v I) (drop 1 (words v W))) (take-map f 1 W)
            ∙ ap (λ l. words v (take 1 W) ∷ signal_words signals (words v R) (words v I) l) (drop-map f 1 W);
      }

  pub taken_register : s.role ≡ Register → IsTaken g s signals R I W (drop (element_count s.words) R) I W (take (element_count s.words) R)
  taken_register e =
      let n = element_count s.words in
      let p = terms_split g n s.bits (widths_of Register signals) R (subst (AreTerms g R) (own_widths s signals Register (rw e)) have.registers_) in
      record {
        terms = p.0;
        left = record {
          registers_ = p.1;
          inputs_ = subst (AreTerms g I) (other_widths s signals Input (rw e)) have.inputs_;
          wires_ = subst (AreTerms g W) (other_widths s signals Wire (rw e)) have.wires_;
        };
        stand = λ v r.
            let own : signal_words (s ∷ signals) (words v R) (words v I) (words v W) ≡ take n (words v R) ∷ signal_words signals (drop n (words v R)) (words v I) (words v W) = rw e in
            let f : TermId → ℕ = λ t. (v.term t.0).value in
            own ∙ ap (λ l. l ∷ signal_words signals (drop n (words v R)) (words v I) (words v W)) (take-map f n R)
            ∙ ap (λ l. words v (take n R) ∷ signal_words signals l (words v I) (words v W)) (drop-map f n R);
      }

-- words are left as a graph grows
pub have_kept : (n m : Unrolled) (signals : List Signal) (R I W : List TermId) → Adds n m → HaveTerms n.terms signals R I W → HaveTerms m.terms signals R I W
have_kept n m signals R I W L h =
    let G = grows_adds n m L in
    record {
      registers_ = terms_kept n.terms m.terms R (widths_of Register signals) G h.registers_;
      inputs_ = terms_kept n.terms m.terms I (widths_of Input signals) G h.inputs_;
      wires_ = terms_kept n.terms m.terms W (widths_of Wire signals) G h.wires_;
    }

-- the rows of the first k signals were made
pub record AreTaken (n0 n1 : Unrolled) (signals : List Signal) (k : ℕ) (R I W : List TermId) (rows : List (List TermId)) (R' I' W' : List TermId) : Type 0 where
  pub adds : Adds n0 n1
  pub terms : AreRows n1.terms rows (signal_widths (take k signals))
  pub left : HaveTerms n1.terms (drop k signals) R' I' W'
  pub stand : (v : Values) → Respects v n1.terms →
      map (words v) rows ++ signal_words (drop k signals) (words v R') (words v I') (words v W') ≡ signal_words signals (words v R) (words v I) (words v W)

pub none_taken : (n : Unrolled) (signals : List Signal) (R I W : List TermId) → IsGraph n.terms → HaveTerms n.terms signals R I W → AreTaken n n signals 0 R I W [] R I W
none_taken n signals R I W p h = record { adds = adds_none n p; terms = tt; left = h; stand = λ v r. refl }

pub at_signal : (signals : List Signal) (k : ℕ) (s : Signal) → k < length signals → s ≡ get_or signals k s → drop k signals ≡ s ∷ drop (k + 1) signals
at_signal signals k s lt at = drop_more signals k s lt ∙ ap (λ x. x ∷ drop (k + 1) signals) (sym at)

pub one_taken : (n0 n1 n2 : Unrolled) (signals : List Signal) (k : ℕ) (s : Signal) (R I W : List TermId) (rows : List (List TermId)) (R' I' W' R'' I'' W'' row : List TermId) → k < length signals → s ≡ get_or signals k s →
    AreTaken n0 n1 signals k R I W rows R' I' W' → Adds n1 n2 → IsTaken n2.terms s (drop (k + 1) signals) R' I' W' R'' I'' W'' row → AreTaken n0 n2 signals (k + 1) R I W (rows ++ row ∷ []) R'' I'' W''
one_taken n0 n1 n2 signals k s R I W rows R' I' W' R'' I'' W'' row lt at A L T = record {
  adds = adds_then n0 n1 n2 A.adds L;
  terms = subst (AreRows n2.terms (rows ++ row ∷ []))
      (sym (ap signal_widths (more_taken signals k s lt at) ∙ map-append (λ (x : Signal). copies (element_count x.words) x.bits) (take k signals) (s ∷ [])))
      (rows_push n2.terms rows (signal_widths (take k signals)) row (copies (element_count s.words) s.bits) (rows_kept n1.terms n2.terms rows (signal_widths (take k signals)) (grows_adds n1 n2 L) A.terms) T.terms);
  left = T.left;
  stand = λ v r.
      ap (λ l. l ++ signal_words (drop (k + 1) signals) (words v R'') (words v I'') (words v W'')) (map-append (words v) rows (row ∷ []))
      ∙ append_assoc (map (words v) rows) (words v row ∷ []) (signal_words (drop (k + 1) signals) (words v R'') (words v I'') (words v W''))
      ∙ ap (λ l. map (words v) rows ++ l) (sym (T.stand v r))
      ∙ ap (λ l. map (words v) rows ++ signal_words l (words v R') (words v I') (words v W')) (sym (at_signal signals k s lt at))
      ∙ A.stand v (L.grown v r);
}

pub all_taken : (n0 n1 : Unrolled) (signals : List Signal) (k : ℕ) (R I W : List TermId) (rows : List (List TermId)) (R' I' W' : List TermId) → length signals ≤ k → AreTaken n0 n1 signals k R I W rows R' I' W' → HasSignals n0 n1 signals R I W rows
all_taken n0 n1 signals k R I W rows R' I' W' le A = record {
  adds = A.adds;
  terms = subst (λ l. AreRows n1.terms rows (signal_widths l)) (take_all k signals le) A.terms;
  stand = λ v r.
      sym (append-nil (map (words v) rows)) ∙ ap (λ l. map (words v) rows ++ signal_words l (words v R') (words v I') (words v W')) (sym (drop_all k signals le)) ∙ A.stand v r;
}

-- the same, in other words
pub taken_as : (n0 n1 n1' : Unrolled) (signals : List Signal) (k : ℕ) (R I W : List TermId) (rows rows' : List (List TermId)) (R' I' W' R'' I'' W'' : List TermId) → n1' ≡ n1 → rows' ≡ rows → R'' ≡ R' → I'' ≡ I' → W'' ≡ W' →
    AreTaken n0 n1 signals k R I W rows R' I' W' → AreTaken n0 n1' signals k R I W rows' R'' I'' W''
taken_as n0 n1 n1' signals k R I W rows rows' R' I' W' R'' I'' W'' en er eR eI eW A =
    subst (λ n. AreTaken n0 n signals k R I W rows' R'' I'' W'') (sym en) (subst (λ l. AreTaken n0 n1 signals k R I W l R'' I'' W'') (sym er)
    (subst (λ l. AreTaken n0 n1 signals k R I W rows l I'' W'') (sym eR) (subst (λ l. AreTaken n0 n1 signals k R I W rows R' l W'') (sym eI) (subst (λ l. AreTaken n0 n1 signals k R I W rows R' I' l) (sym eW) A))))

-- the words that are left, for the next signal
pub have_here : (g : Graph) (signals : List Signal) (k : ℕ) (s : Signal) (R I W : List TermId) → k < length signals → s ≡ get_or signals k s → HaveTerms g (drop k signals) R I W → HaveTerms g (s ∷ drop (k + 1) signals) R I W
have_here g signals k s R I W lt at h = subst (λ l. HaveTerms g l R I W) (at_signal signals k s lt at) h
