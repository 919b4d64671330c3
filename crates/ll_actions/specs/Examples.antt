-- The lists of the table of the example, and its actions.
use Rattle.std.specs.Prelude.{ℕ, List, [], ◌∷◌}
use Rattle.ll_parse.specs.Tables.{Lists}
use Rattle.ll_actions.specs.Sorts.{Signature, Effect}
use Rattle.ll_actions.specs.declared.examples.TheConstants.{SUM_HEADS, SUM_BODIES, SUM_SYMBOLS, SUM_NOT_BEFORE, SUM_ROWS, SUM_FOLLOWS, SUM_WITNESSES, SUM_RANKS, SUM_COSTS, SUM_NULLABLE}

unfoldable pub SUMS : Lists
SUMS = record {
  start = 256;
  heads = SUM_HEADS;
  bodies = SUM_BODIES;
  symbols = SUM_SYMBOLS;
  not_before = SUM_NOT_BEFORE;
  rows = SUM_ROWS;
  follows = SUM_FOLLOWS;
  witnesses = SUM_WITNESSES;
  ranks = SUM_RANKS;
  costs = SUM_COSTS;
  nullable = SUM_NULLABLE;
  per_token = 3;
}

-- the sorts: a number 0, a place 1
abbrev pub NUMBER : ℕ
NUMBER = 0

unfoldable pub SIGNATURES : List Signature
SIGNATURES =
    record { takes = []; gives = 0 } ∷  -- 0, number: -> Number
    record { takes = 0 ∷ 0 ∷ []; gives = 0 } ∷  -- 1, add: Number Number -> Number
    record { takes = []; gives = 1 } ∷  -- 2, open: -> Place
    record { takes = 0 ∷ 1 ∷ []; gives = 0 } ∷  -- 3, group: Place Number -> Number
    []

unfoldable pub EFFECTS : List Effect
EFFECTS =
    record { takes = []; gives = 0 ∷ [] } ∷  -- 256, Sum: -> Number
    record { takes = 0 ∷ []; gives = 0 ∷ [] } ∷  -- 257, Rest: Number -> Number
    record { takes = []; gives = 0 ∷ [] } ∷  -- 258, Item: -> Number
    record { takes = 0 ∷ 0 ∷ []; gives = 0 ∷ [] } ∷  -- 259, {add}: Number Number -> Number
    record { takes = []; gives = 0 ∷ [] } ∷  -- 260, <number>: -> Number
    record { takes = []; gives = 1 ∷ [] } ∷  -- 261, <open>: -> Place
    record { takes = 0 ∷ 1 ∷ []; gives = 0 ∷ [] } ∷  -- 262, {group}: Place Number -> Number
    []

-- the kinds of token that each action comes right after
unfoldable pub AFTER : List (List ℕ)
AFTER =
    (1 ∷ []) ∷  -- 0, number
    ([]) ∷  -- 1, add
    (3 ∷ []) ∷  -- 2, open
    ([]) ∷  -- 3, group
    []

unfoldable pub SPOTS : List ℕ
SPOTS = 0 ∷ 0 ∷ 0 ∷ 0 ∷ 1 ∷ 3 ∷ 0 ∷ []
