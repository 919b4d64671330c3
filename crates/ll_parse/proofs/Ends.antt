-- How a run ends.
use Rattle.std.proofs.Common.{◌≡◌, ◌≢◌, ℕ, ◌+◌, ◌<◌, ◌≤◌, true, List, [], ◌∷◌, ◌++◌, length, take, drop, get_or, refl, sym, ◌∙◌, ap, subst, arith}
use Rattle.std.proofs.lemmas.List.{take-append-drop, take_more, take_all}
use Rattle.std.proofs.Math.Seq.{take-length}
use Rattle.ll_parse.specs.Conditions.{IsLl}
use Rattle.ll_parse.specs.Grammar.{Derives, Parses, Begins, Refuses}
use Rattle.ll_parse.specs.Machine.{HasRead, IsKept, MatchTop}
use Rattle.ll_parse.specs.Tables.{Lists, grammar_of, cell_of, follow_of, witness_of, rank_of}
use Rattle.ll_parse.proofs.Alive.{stands}
use Rattle.ll_parse.proofs.Theory.{read_token, read_stuck, read_ends, read_all, read_only, token_of, no_end, empty_of}
use Rattle.ll_parse.specs.declared.machine.Top.TheVariants.{Token, End}

module _ (t : Lists) (ll : IsLl t) where
  begins : (seen productions stack : List ℕ) → HasRead (grammar_of t) seen productions stack → IsKept t stack → Begins (grammar_of t) seen
  begins seen productions stack h k =
      let w = stands (grammar_of t) (witness_of t) (rank_of t) ll.completes stack k.1 in
      (w.1, productions ++ w.0, h.sound w.0 w.1 w.3)

  pub start_kept : IsKept t (t.start ∷ [])
  start_kept = ((λ big a e. subst (λ x. follow_of t t.start x ≡ true) (sym e) ll.decides.ends, tt), (ll.completes.first, tt))

  pub refuse_here : (tokens productions stack : List ℕ) (i : ℕ) → i < length tokens → HasRead (grammar_of t) (take i tokens) productions stack → IsKept t stack →
      ((ps us : List ℕ) → Derives (grammar_of t) stack ps (get_or tokens i 0 ∷ us) → ⊥) → Refuses (grammar_of t) tokens i
  refuse_here tokens productions stack i small h k never =
      let more : take (i + 1) tokens ≡ take i tokens ++ get_or tokens i 0 ∷ [] = take_more tokens i 0 small in
      let stuck : Begins (grammar_of t) (take (i + 1) tokens) → ⊥ =
      λ b. read_stuck (grammar_of t) (cell_of t) (follow_of t) ll.decides (take i tokens) productions stack (get_or tokens i 0) h never (subst (λ x. Begins (grammar_of t) x) more b) in
      record {
        within = omega arith;
        before = begins (take i tokens) productions stack h k;
        least = λ _. stuck;
        none = λ ps d. stuck (drop (i + 1) tokens, ps, subst (λ x. Parses (grammar_of t) x ps) (sym (take-append-drop (i + 1) tokens)) d);
      }

  pub refuse_end : (tokens productions stack : List ℕ) → HasRead (grammar_of t) tokens productions stack → IsKept t stack →
      ((ps : List ℕ) → Derives (grammar_of t) stack ps [] → ⊥) → Refuses (grammar_of t) tokens (length tokens)
  refuse_end tokens productions stack h k never = record {
    within = omega arith;
    before = subst (λ x. Begins (grammar_of t) x) (sym (take-length tokens)) (begins tokens productions stack h k);
    least = λ l b. absurd (omega arith);
    none = read_ends (grammar_of t) (cell_of t) (follow_of t) ll.decides tokens productions stack h never;
  }

  pub other_token : (a k : ℕ) (stack qs new ps us : List ℕ) → k ≢ a → MatchTop t a stack qs new (Token k) → Derives (grammar_of t) stack ps (a ∷ us) → ⊥
  other_token a k stack qs new ps us ne h d =
      let w = h.1.whole ps (a ∷ us) refl d in
      ne (sym (token_of (grammar_of t) (cell_of t) (follow_of t) ll.decides k a new w.0 us h.0 w.2).0)

  pub no_more : (a : ℕ) (stack qs new ps us : List ℕ) → MatchTop t a stack qs new End → Derives (grammar_of t) stack ps (a ∷ us) → ⊥
  no_more a stack qs new ps us h d =
      let w = h.whole ps (a ∷ us) refl d in
      let e = (empty_of (grammar_of t) (cell_of t) (follow_of t) ll.decides w.0 (a ∷ us) w.2).1 in cc

  pub not_ended : (k : ℕ) (stack qs new ps : List ℕ) → MatchTop t 0 stack qs new (Token k) → Derives (grammar_of t) stack ps [] → ⊥
  not_ended k stack qs new ps h d = let w = h.1.whole ps [] refl d in no_end (grammar_of t) (cell_of t) (follow_of t) ll.decides k new w.0 h.0 w.2

  -- the token at i came off the stack
  pub goes_on : (tokens productions productions' qs stack new : List ℕ) (i k : ℕ) → i < length tokens → k ≡ get_or tokens i 0 →
      HasRead (grammar_of t) (take i tokens) productions stack → productions' ≡ productions ++ qs → MatchTop t (get_or tokens i 0) stack qs new (Token k) →
      HasRead (grammar_of t) (take (i + 1) tokens) productions' new × IsKept t new
  goes_on tokens productions productions' qs stack new i k small is h e tops =
      let same = subst (λ x. MatchTop t x stack qs new (Token k)) (sym is) tops in
      let more : take (i + 1) tokens ≡ take i tokens ++ k ∷ [] = take_more tokens i 0 small ∙ ap (λ x. take i tokens ++ x ∷ []) (sym is) in (
        subst (λ x. HasRead (grammar_of t) x productions' new) (sym more) (subst (λ x. HasRead (grammar_of t) (take i tokens ++ k ∷ []) x new) (sym e)
            (read_token (grammar_of t) (cell_of t) (follow_of t) ll.decides (take i tokens) productions qs stack new k tops.0 h same.1)),
        tops.2,
      )

  pub ends_parsed : (tokens productions productions' qs stack new : List ℕ) (i : ℕ) → length tokens ≤ i → HasRead (grammar_of t) (take i tokens) productions stack → productions' ≡ productions ++ qs → MatchTop t 0 stack qs new End → Parses (grammar_of t) tokens productions'
  ends_parsed tokens productions productions' qs stack new i le h e tops =
      subst (λ x. Parses (grammar_of t) tokens x) (sym e) (read_all (grammar_of t) (cell_of t) (follow_of t) ll.decides tokens productions qs stack (subst (λ x. HasRead (grammar_of t) x productions stack) (take_all i tokens le) h) tops)

  pub ends_only : (tokens productions productions' qs stack new : List ℕ) (i : ℕ) → length tokens ≤ i → HasRead (grammar_of t) (take i tokens) productions stack → productions' ≡ productions ++ qs → MatchTop t 0 stack qs new End → (ps : List ℕ) → Parses (grammar_of t) tokens ps → ps ≡ productions'
  ends_only tokens productions productions' qs stack new i le h e tops ps d =
      read_only (grammar_of t) (cell_of t) (follow_of t) ll.decides tokens productions qs stack (subst (λ x. HasRead (grammar_of t) x productions stack) (take_all i tokens le) h) tops ps d ∙ sym e

  pub ends_refused : (tokens productions stack : List ℕ) (i : ℕ) → length tokens ≤ i → HasRead (grammar_of t) (take i tokens) productions stack → IsKept t stack →
      ((ps : List ℕ) → Derives (grammar_of t) stack ps [] → ⊥) → Refuses (grammar_of t) tokens (length tokens)
  ends_refused tokens productions stack i le h k never = refuse_end tokens productions stack (subst (λ x. HasRead (grammar_of t) x productions stack) (take_all i tokens le) h) k never
