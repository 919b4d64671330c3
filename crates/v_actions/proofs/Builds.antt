-- The actions of a derivation build a tree.
use Rattle.std.proofs.Common.{◌≡◌, ℕ, List, [], ◌∷◌, ◌++◌, Option, Some, None, refl, sym, ap, ◌∙◌, option_and_then}
use Rattle.ll_parse.specs.Grammar.{Parses}
use Rattle.ll_actions.specs.Sorts.{Signature, sorts_after, signature_of}
use Rattle.ll_actions.specs.declared.step.Step.{Step}
use Rattle.ll_actions.proofs.Typed.{next_step}
use Rattle.v_actions.specs.Acts.{act, built}
use Rattle.v_actions.specs.Numbers.{action_of}
use Rattle.v_actions.specs.Tokens.{Lexemes}
use Rattle.v_stack.specs.Values.{Values}
use Rattle.v_actions.specs.Sorts.{sorts_of}
use Rattle.v_actions.specs.Reading.{V, kinds_of, tokens_in, lexemes, actions_of, BuildsTree}
use Rattle.v_actions.proofs.TopOfSort.{one_tree}
use Rattle.v_actions.proofs.Fitting.{Makes, signature, signature_at, fit}
use Rattle.v_grammar.specs.Sorts.{SIGNATURES}
use Rattle.v_grammar.proofs.Fit.{verilog_is_typed}

-- steps leave a stack of these sorts
pub record Builds (r : List ℕ) (o : Option Values) : Type 0 where
  pub new : Values
  pub is : o ≡ Some new
  pub sorts : sorts_of new ≡ r

made : (sort : ℕ) (rest : List ℕ) (st : Values) (o : Option Values) → Makes sort rest st o → Builds (sort ∷ rest) o
made sort rest st None h = absurd h
made sort rest st (Some new) h = record { new = new; is = refl; sorts = h }

same : {xs ys : List ℕ} → Some xs ≡ Some ys → xs ≡ ys
same e = cc

pub builds : (x : Lexemes) (ss : List Step) (st : Values) (xs r : List ℕ) → sorts_of st ≡ xs → sorts_after SIGNATURES ss xs ≡ Some r →
    Builds r (built x ss st)
builds x [] st xs r e h = record { new = st; is = refl; sorts = e ∙ same h }
builds x (s ∷ ss) st xs r e h =
    let f = next_step SIGNATURES s ss xs r h in
    let g = signature (action_of s.action) in
    let finds : sorts_of st ≡ g.takes ++ f.rest = e ∙ (f.is ∙ ap (λ (y : Signature). y.takes ++ f.rest) (signature_at s.action)) in
    let m = made g.gives f.rest st (act x s st) (fit x (action_of s.action) s.token st f.rest finds) in
    let goes = m.sorts ∙ ap (λ (y : Signature). y.gives ∷ f.rest) (sym (signature_at s.action)) in
    let b = builds x ss m.new ((signature_of SIGNATURES s.action).gives ∷ f.rest) r goes f.goes in
    record { new = b.new; is = ap (λ y. option_and_then (built x ss) y) m.is ∙ b.is; sorts = b.sorts }

pub builds_tree : (text ps : List ℕ) → Parses V (kinds_of (tokens_in text)) ps → BuildsTree (built (lexemes text) (actions_of ps) [])
builds_tree text ps parses =
    let b = builds (lexemes text) (actions_of ps) [] [] (51 ∷ []) refl (verilog_is_typed (kinds_of (tokens_in text)) ps parses) in
    let t = one_tree b.new b.sorts in
    record { tree = t.tree; is = b.is ∙ t.is }
