-- What it means that a text has a tree: its tokens have a derivation, and the actions of that, in order, build the tree.
use Rattle.std.specs.Prelude.{◌≡◌, ℕ, ◌-◌, List, [], ◌∷◌, length, map, take, drop, slice_index_or, Option, Some, option_and_then}
use Rattle.src_text.specs.declared.refusal.Place.{Place}
use Rattle.src_text.specs.Place.{place_at}
use Rattle.ll_parse.specs.Grammar.{Grammar, Parses}
use Rattle.ll_parse.specs.Places.{placed}
use Rattle.ll_parse.specs.Tables.{grammar_of}
use Rattle.ll_actions.specs.Steps.{steps_of}
use Rattle.ll_actions.specs.declared.step.Step.{Step}
use Rattle.c_tokens.specs.Directives.{c_tokens}
use Rattle.c_tokens.specs.declared.directives.CToken.{CToken}
use Rattle.c_tree.specs.declared.file.CTree.{CTree}
use Rattle.c_actions.specs.Acts.{after_action}
use Rattle.c_actions.specs.Numbers.{action_of}
use Rattle.c_stack.specs.Values.{Values}
use Rattle.c_stack.specs.declared.values.Value.TheVariants as value
use Rattle.c_stack.specs.declared.values.FileValue.TheVariants as file_value
use Rattle.c_grammar.specs.Table.{TABLE}
use Rattle.c_grammar.specs.declared.TheConstants.{MARKS}

-- the grammar of the C profile
abbrev pub C : Grammar
C = grammar_of TABLE

-- the kinds of tokens, which the table is read by
abbrev pub kinds_of : List CToken → List ℕ
kinds_of tokens = map (λ (t : CToken). t.kind) tokens

-- what stands for a token that isn't there
abbrev pub NO_TOKEN : CToken
NO_TOKEN = record { kind = 0; at = 0; start = 0; len = 0 }

-- the token right before which i tokens come, less one
abbrev pub token_before : List CToken → ℕ → CToken
token_before tokens i = slice_index_or tokens (i - 1) NO_TOKEN

-- the place behind the text
abbrev pub end_of : List ℕ → Place
end_of text = place_at text (length text)

-- the bytes that spell a token
abbrev pub spelling : List ℕ → CToken → List ℕ
spelling text t = take t.len (drop t.start text)

-- What steps leave on the stack. Each acts on the token right before it.
abbrev pub built : (text : List ℕ) → List CToken → List Step → Values → Option Values
built text tokens [] st = Some st
built text tokens (s ∷ ss) st =
    let t = token_before tokens s.token in
    option_and_then (built text tokens ss) (after_action (action_of s.action) (end_of text) (place_at text t.at) (spelling text t) st)

-- the actions of a derivation, in the order of the text
abbrev pub actions_of : List ℕ → List Step
actions_of productions = steps_of MARKS (placed C 0 (C.start ∷ []) productions)

-- the place of token i, or that of the end
abbrev pub place_of_token : (text : List ℕ) → List CToken → ℕ → Place
place_of_token text tokens i = place_at text (slice_index_or (map (λ (t : CToken). t.at) tokens) i (length text))

-- what builds a tree, and that tree
pub record BuildsTree (o : Option Values) : Type 0 where
  pub tree : CTree
  pub is : o ≡ Some (value.File (file_value.Tree tree) ∷ [])

-- The text is C, and this is its tree.
pub record IsCSource (text : List ℕ) (tree : CTree) : Type 0 where
  pub productions : List ℕ
  pub parses : Parses C (kinds_of (c_tokens text)) productions
  pub builds : built text (c_tokens text) (actions_of productions) [] ≡ Some (value.File (file_value.Tree tree) ∷ [])
