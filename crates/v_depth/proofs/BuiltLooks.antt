-- What the steps weave over tokens is how the values look that they build.
use Rattle.std.proofs.Common.{◌≡◌, ℕ, suc, ◌-◌, ◌<◌, true, List, [], ◌∷◌, ◌++◌, length, map, get_or, Option, Some, None, refl, sym, ◌∙◌, ap, option_and_then, arith}
use Rattle.std.proofs.lemmas.List.{get_or-map, length-map}
use Rattle.src_text.specs.declared.refusal.Place.{Place}
use Rattle.src_text.specs.Place.{place_at}
use Rattle.text_scan.specs.declared.scanner.Token.{Token}
use Rattle.ll_actions.specs.After.{kinds_before, IsPlaced, are_placed}
use Rattle.ll_actions.specs.Sorts.{Signature, sorts_after, signature_of}
use Rattle.ll_actions.specs.declared.step.Step.{Step}
use Rattle.ll_actions.proofs.Typed.{next_step}
use Rattle.node_depth.specs.declared.weave.Weave.{Weave}
use Rattle.node_depth.specs.Weaves.{Look, weave_of, weaves, woven}
use Rattle.node_depth.proofs.Claims.{do_claim, claimed, after_some}
use Rattle.v_grammar.specs.Sorts.{SIGNATURES}
use Rattle.v_grammar.specs.Verilog.{VERILOG}
use Rattle.v_grammar.specs.declared.TheConstants.{MARKS, WEAVES}
use Rattle.v_stack.specs.Values.{Values}
use Rattle.v_actions.specs.Acts.{act, built}
use Rattle.v_actions.specs.Numbers.{action_of}
use Rattle.v_actions.specs.Reading.{kinds_of, places_of}
use Rattle.v_actions.specs.Sorts.{sorts_of}
use Rattle.v_actions.specs.Tokens.{Lexemes, place_in}
use Rattle.v_actions.proofs.Fitting.{Makes, signature, signature_at, fit}
use Rattle.v_depth.specs.After.{AFTER, SPOTS}
use Rattle.v_depth.specs.Depth.{place_of_token}
use Rattle.node_places.proofs.Looks.{PlaceLook, map_look, placed_weaves, weaves_map, own_place}
use Rattle.v_depth.proofs.ActionLooks.{weave, weave_at, look_action}
use Rattle.v_depth.proofs.Values.{looks_of, Looks}

-- each action that makes a value of a token comes right after one
pub verilog_is_placed : are_placed VERILOG MARKS AFTER SPOTS ≡ true
unfolding VERILOG AFTER SPOTS
verilog_is_placed = refl

-- each action whose value begins at a token comes right after a token of a kind that is known
claim : do_claim WEAVES AFTER ≡ true
unfolding AFTER
claim = refl

-- the token right before a step of its own has the place of its number
own_token : (text : List ℕ) (tokens : List Token) (s : Step) → IsPlaced AFTER (kinds_of tokens) s → (weave_of WEAVES s.action).own ≡ true →
    place_in (places_of text tokens) (s.token - 1) ≡ place_of_token text tokens (s.token - 1)
own_token text tokens s h own =
    let some = after_some (kinds_before AFTER s.action) (kinds_of tokens) s.token (claimed WEAVES AFTER s.action claim own) h.comes_after in
    let within = h.within in
    let n = length-map tokens (λ (t : Token). t.kind) in
    let small : s.token - 1 < length tokens = omega (arith, some, within, n) in
    let none : Token = record { kind = 0; start = 0; len = 0 } in
    get_or-map (λ (t : Token). place_at text t.start) tokens (s.token - 1) none (record { line = 1; column = 1 }) small
    ∙ ap (place_at text) (sym (get_or-map (λ (t : Token). t.start) tokens (s.token - 1) none (length text) small))

module _ (text : List ℕ) (tokens : List Token) where
  abbrev place_of : ℕ → Place
  place_of i = place_of_token text tokens i

  abbrev nothing : Place
  nothing = place_of 0

  abbrev looks : Values → List PlaceLook
  looks st = looks_of nothing st

  abbrev x : Lexemes
  x = record { text = text; tokens = tokens; places = places_of text tokens }

  next : (st : Values) (rest : List ℕ) (o : Option Values) (final : Values) (goal : List PlaceLook) (go : Values → Option Values) (g : Signature) (w : Weave) (p : Place) →
      Makes g.gives rest st o → Looks nothing w p st o →
      ((new : Values) → sorts_of new ≡ g.gives ∷ rest → looks new ≡ placed_weaves nothing w p (looks st) → go new ≡ Some final → looks final ≡ goal) →
      option_and_then go o ≡ Some final → looks final ≡ goal
  next st rest None final goal go g w p m l k e = absurd m
  next st rest (Some new) final goal go g w p m l k e = k new m l e

  pub looks_woven : (ss : List Step) (st final : Values) (xs r : List ℕ) (ls : List Look) → sorts_of st ≡ xs → sorts_after SIGNATURES ss xs ≡ Some r →
      ((k : ℕ) (d : Step) → k < length ss → IsPlaced AFTER (kinds_of tokens) (get_or ss k d)) → looks st ≡ map (map_look place_of) ls →
      built x ss st ≡ Some final → looks final ≡ map (map_look place_of) (woven WEAVES ss ls)
  looks_woven [] st final xs r ls e h placed l b = ap looks (let z : final ≡ st = cc in z) ∙ l
  looks_woven (s ∷ ss) st final xs r ls e h placed l b =
      let f = next_step SIGNATURES s ss xs r h in
      let a = action_of s.action in
      let g = signature a in
      let p = place_in (places_of text tokens) (s.token - 1) in
      let finds : sorts_of st ≡ g.takes ++ f.rest = e ∙ (f.is ∙ ap (λ (y : Signature). y.takes ++ f.rest) (signature_at s.action)) in
      let own : (weave a).own ≡ true → p ≡ place_of (s.token - 1) = (λ z. own_token text tokens s (placed 0 s (omega arith)) (ap (λ (w : Weave). w.own) (weave_at s.action) ∙ z)) in
      next st f.rest (act x s st) final (map (map_look place_of) (woven WEAVES (s ∷ ss) ls)) (built x ss) g (weave a) p
      (fit x a s.token st f.rest finds) (look_action x a s.token nothing st f.rest finds)
      (λ new m v. looks_woven ss new final ((signature_of SIGNATURES s.action).gives ∷ f.rest) r (weaves (weave_of WEAVES s.action) s.token ls)
      (m ∙ ap (λ (y : Signature). y.gives ∷ f.rest) (sym (signature_at s.action))) f.goes (λ k d small. placed (suc k) d (omega (arith, small)))
      (v ∙ (ap (placed_weaves nothing (weave a) p) l ∙ (own_place nothing (weave a) p (place_of (s.token - 1)) (map (map_look place_of) ls) own
      ∙ (ap (λ w. placed_weaves nothing w (place_of (s.token - 1)) (map (map_look place_of) ls)) (sym (weave_at s.action))
      ∙ sym (weaves_map place_of (weave_of WEAVES s.action) s.token ls))))))
      b
