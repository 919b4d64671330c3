-- The words of terms.
use Rattle.std.specs.Prelude.{◌≡◌, ℕ, ◌<◌, ◌^◌, List, [], ◌∷◌, ◌++◌, Some, length, slice_get}
use Rattle.std.specs.List.{slice_index_or}
use Rattle.bits_core.specs.Word.{Word, word, at_zero, resized_word, sliced, joined}
use Rattle.bits_core.specs.Ops.{word1, word2}
use Rattle.word_eqs.specs.declared.term.TermNode.{TermNode}
use Rattle.word_eqs.specs.declared.term.TermNode.TheVariants.{Const, Var, One, Two, Choose, Resize, Slice, Join}
use Rattle.word_eqs.specs.declared.term.Term.{Term}
use Rattle.word_eqs.specs.Graph.{Graph, width_of_var}

-- a valuation: a word for each variable, and one for each term
pub record Values : Type 0 where
  pub var : ℕ → Word
  pub term : ℕ → Word

-- the word of a node, by those of its parts
abbrev pub node_word : Values → TermNode → Word
node_word v (Const a) = a
node_word v (Var x) = v.var x.0
node_word v (One op a) = word1 op (v.term a.0)
node_word v (Two op a b) = word2 op (v.term a.0) (v.term b.0)
node_word v (Choose c a b) = at_zero (v.term c.0).value (v.term b.0) (v.term a.0)
node_word v (Resize a to signed) = resized_word to signed (v.term a.0)
node_word v (Slice a high low) = sliced high low (v.term a.0)
node_word v (Join a b) = joined (v.term a.0) (v.term b.0)

-- each term has the word that its parts make
pub record AreValues (v : Values) (terms : List Term) : Type 0 where
  pub at : (k : ℕ) (x : Term) → slice_get terms k ≡ Some x → v.term k ≡ node_word v x.node

-- the word is w bits wide, and its value fits in w bits
pub record IsWordOf (w : ℕ) (a : Word) : Type 0 where
  pub width : a.width ≡ w
  pub below : a.value < 2 ^ w

-- each variable has a word of its width
pub record FitsVars (a : ℕ → Word) (g : Graph) : Type 0 where
  pub at : (x : ℕ) → x < length g.vars → IsWordOf (width_of_var g x) (a x)

-- a valuation respects a graph: variables have words of their widths, and terms what their parts make
pub record Respects (v : Values) (g : Graph) : Type 0 where
  pub vars : FitsVars v.var g
  pub terms : AreValues v g.terms

-- the word at a place of the list, and a word of no bits past its end
abbrev pub word_at : List Word → ℕ → Word
word_at words k = slice_index_or words k (word 0 0)

-- a word for each variable, and for each term that of a list
abbrev pub look : (ℕ → Word) → List Word → Values
look a words = record { var = a; term = word_at words }

-- the words of terms, one after the other, after those of the terms before
abbrev pub eval : (ℕ → Word) → List Word → List Term → List Word
eval a words [] = words
eval a words (x ∷ terms) = eval a (words ++ node_word (look a words) x.node ∷ []) terms

-- the valuation of a graph that an assignment of its variables makes
abbrev pub meaning : (ℕ → Word) → Graph → Values
meaning a g = look a (eval a [] g.terms)

-- t is the term of a node: the parts' words make its own, and what was respected before still is
pub record Makes (old new : Graph) (node : TermNode) (t : ℕ) : Type 0 where
  pub grown : (v : Values) → Respects v new → Respects v old
  pub value : (v : Values) → Respects v new → v.term t ≡ node_word v node
