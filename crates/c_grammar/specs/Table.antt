-- The lists of the table of the C profile.
use Rattle.ll_parse.specs.Tables.{Lists}
use Rattle.c_grammar.specs.declared.TheConstants.{HEADS, BODIES, SYMBOLS, NOT_BEFORE, ROWS, FOLLOWS, WITNESSES, RANKS, COSTS, NULLABLE}

-- the table by which a text of tokens is read
unfoldable pub TABLE : Lists
TABLE = record {
  start = 256;
  heads = HEADS;
  bodies = BODIES;
  symbols = SYMBOLS;
  not_before = NOT_BEFORE;
  rows = ROWS;
  follows = FOLLOWS;
  witnesses = WITNESSES;
  ranks = RANKS;
  costs = COSTS;
  nullable = NULLABLE;
  per_token = 26;
}
