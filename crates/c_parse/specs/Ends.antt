-- How the reading of a text ends.
use Rattle.std.specs.Prelude.{◌≡◌, ℕ, ◌≤◌, List}
use Rattle.src_text.specs.declared.kind.Kind.{Kind}
use Rattle.src_text.specs.declared.kind.Kind.TheVariants as kind
use Rattle.src_text.specs.declared.refusal.Lang.TheVariants as lang
use Rattle.src_text.specs.declared.refusal.Place.{Place}
use Rattle.src_text.specs.declared.refusal.Refusal.{Refusal}
use Rattle.ll_parse.specs.Grammar.{Parses, Refuses}
use Rattle.ll_actions.specs.declared.step.Step.{Step}
use Rattle.c_tokens.specs.Directives.{c_tokens}
use Rattle.c_tokens.specs.declared.directives.CToken.{CToken}
use Rattle.c_tree.specs.declared.file.CTree.{CTree}
use Rattle.c_tree.specs.Nodes.{trees_of}
use Rattle.src_text.specs.Trees.{height}
use Rattle.c_actions.specs.Reading.{C, kinds_of, actions_of, place_of_token, IsCSource}
use Rattle.c_depth.specs.Depth.{IsDeepAt}
use Rattle.c_parse.specs.declared.read.ParseEnd.{ParseEnd}
use Rattle.c_parse.specs.declared.read.ParseEnd.TheVariants as ends

-- how deep a node may stand: the file stands 1 deep, and each other node one deeper than the one that it stands in
abbrev pub DEEPEST : ℕ
DEEPEST = 256

-- the steps are the actions of a derivation of the tokens
pub record AreSteps (tokens : List CToken) (ss : List Step) : Type 0 where
  pub productions : List ℕ
  pub parses : Parses C (kinds_of tokens) productions
  pub is : ss ≡ actions_of productions

-- The text has this tree and no other, and no node of it stands too deep.
pub record HasTree (text : List ℕ) (tree : CTree) : Type 0 where
  pub is : IsCSource text tree
  pub only : (other : CTree) → IsCSource text other → other ≡ tree
  pub low : height (trees_of tree) ≤ DEEPEST

-- The text has no tree. The tokens before this place begin a text that has one, and those up to and with the token there
-- begin none; or it is the place after the last byte, and all of them begin such a text.
pub record RefusesSyntax (text : List ℕ) (place : Place) : Type 0 where
  pub token : ℕ
  pub refuses : Refuses C (kinds_of (c_tokens text)) token
  pub is : place ≡ place_of_token text (c_tokens text) token

-- The text has a tree in which a node stands too deep, and this is the place of the first one, in the order of the tokens.
pub record RefusesDepth (text : List ℕ) (place : Place) : Type 0 where
  pub tree : CTree
  pub has : IsCSource text tree
  pub token : ℕ
  pub deep : IsDeepAt text DEEPEST tree token
  pub is : place ≡ place_of_token text (c_tokens text) token

-- a text is refused for its syntax or its depth, at this place, and for nothing else
abbrev pub RefusesBy : List ℕ → Kind → Place → Type 0
RefusesBy text kind.Syntax place = RefusesSyntax text place
RefusesBy text kind.TooDeep place = RefusesDepth text place
RefusesBy text _ place = ⊥

-- a refusal of a C text
abbrev pub refusal_at : Place → Kind → Refusal
refusal_at place kind = record { lang = lang.C; place = place; kind = kind }

-- a text ends so, or memory is refused
abbrev pub EndsAt : List ℕ → ParseEnd → Type 0
EndsAt text (ends.Refused r) = (r.lang ≡ lang.C) × RefusesBy text r.kind r.place
EndsAt text ends.Memory = Unit {0}
