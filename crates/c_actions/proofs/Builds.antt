-- The actions of a derivation build a tree.
use Rattle.std.proofs.Common.{◌≡◌, ℕ, List, [], ◌∷◌, ◌++◌, Option, Some, None, refl, sym, ap, ◌∙◌, option_and_then}
use Rattle.src_text.specs.Place.{place_at}
use Rattle.ll_parse.specs.Grammar.{Parses}
use Rattle.ll_actions.specs.Sorts.{Signature, sorts_after, signature_of}
use Rattle.ll_actions.specs.declared.step.Step.{Step}
use Rattle.ll_actions.proofs.Typed.{next_step, typed_steps}
use Rattle.c_tokens.specs.declared.directives.CToken.{CToken}
use Rattle.c_tokens.specs.Directives.{c_tokens}
use Rattle.c_actions.specs.Acts.{after_action}
use Rattle.c_actions.specs.Numbers.{action_of}
use Rattle.c_stack.specs.Values.{Values}
use Rattle.c_stack.specs.declared.values.Value.TheVariants as value
use Rattle.c_stack.specs.declared.values.FileValue.TheVariants as file_value
use Rattle.c_grammar.specs.Table.{TABLE}
use Rattle.c_grammar.specs.Actions.{SIGNATURES, EFFECTS}
use Rattle.c_grammar.specs.declared.TheConstants.{MARKS}
use Rattle.c_grammar.proofs.Fit.{c_is_ll, c_is_typed}
use Rattle.c_actions.specs.Sorts.{sorts_of}
use Rattle.c_actions.specs.Reading.{C, kinds_of, token_before, end_of, spelling, built, actions_of, BuildsTree}
use Rattle.c_actions.proofs.Fitting.{Makes}
use Rattle.c_actions.proofs.TopOfSort.{has_tree}
use Rattle.c_actions.proofs.EachFits.{signature, signature_at, fit}

-- steps leave a stack of these sorts
pub record Builds (r : List ℕ) (o : Option Values) : Type 0 where
  pub new : Values
  pub is : o ≡ Some new
  pub sorts : sorts_of new ≡ r

made : (sort : ℕ) (rest : List ℕ) (st : Values) (o : Option Values) → Makes sort rest st o → Builds (sort ∷ rest) o
made sort rest st None h = absurd h
made sort rest st (Some new) h = record { new = new; is = refl; sorts = h }

same : {xs ys : List ℕ} → Some xs ≡ Some ys → xs ≡ ys
same e = cc

pub builds : (text : List ℕ) (tokens : List CToken) (ss : List Step) (st : Values) (xs r : List ℕ) → sorts_of st ≡ xs → sorts_after SIGNATURES ss xs ≡ Some r →
    Builds r (built text tokens ss st)
builds text tokens [] st xs r e h = record { new = st; is = refl; sorts = e ∙ same h }
builds text tokens (s ∷ ss) st xs r e h =
    let f = next_step SIGNATURES s ss xs r h in
    let t = token_before tokens s.token in
    let g = signature (action_of s.action) in
    let o = after_action (action_of s.action) (end_of text) (place_at text t.at) (spelling text t) st in
    let finds : sorts_of st ≡ g.takes ++ f.rest = e ∙ (f.is ∙ ap (λ (x : Signature). x.takes ++ f.rest) (signature_at s.action)) in
    let m = made g.gives f.rest st o (fit (action_of s.action) (end_of text) (place_at text t.at) (spelling text t) st f.rest finds) in
    let goes = m.sorts ∙ ap (λ (x : Signature). x.gives ∷ f.rest) (sym (signature_at s.action)) in
    let b = builds text tokens ss m.new ((signature_of SIGNATURES s.action).gives ∷ f.rest) r goes f.goes in
    record { new = b.new; is = ap (λ x. option_and_then (built text tokens ss) x) m.is ∙ b.is; sorts = b.sorts }

abbrev OneTree : Values → Option Values → Type 0
OneTree st _ = BuildsTree (Some st)

empty : (rest : Values) → sorts_of rest ≡ [] → rest ≡ []
empty [] e = refl
empty (v ∷ st) e = let f : ⊥ = cc in absurd f

one_tree : (st : Values) → sorts_of st ≡ 1 ∷ [] → BuildsTree (Some st)
one_tree st e = has_tree OneTree (λ _ _. None) st [] e (λ tree rest h. record { tree = tree; is = ap (λ x. Some (value.File (file_value.Tree tree) ∷ x)) (empty rest h) })

pub builds_tree : (text ps : List ℕ) → Parses C (kinds_of (c_tokens text)) ps → BuildsTree (built text (c_tokens text) (actions_of ps) [])
builds_tree text ps parses =
    let b = builds text (c_tokens text) (actions_of ps) [] [] (1 ∷ []) refl (typed_steps TABLE c_is_ll MARKS SIGNATURES EFFECTS 1 c_is_typed (kinds_of (c_tokens text)) ps parses) in
    let t = one_tree b.new b.sorts in
    record { tree = t.tree; is = b.is ∙ t.is }
