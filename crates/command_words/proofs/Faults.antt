-- What a parse refuses, from any point of its walk on, and that the end of the words refuses nothing of its own.
use Rattle.std.proofs.Common.{◌≡◌, ◌∙◌, refl, ap, Bool, true, false, List, [], ◌∷◌, if◌then◌else◌, ◌||◌, fold}
use Rattle.clap.specs.Words.{Rule, Row, Text}
use Rattle.clap.specs.Walk.{Held, Walk, walked, settled, finished, has_row, with_default}
use Rattle.clap.specs.Kinds.{Kinds, or_else}
use Rattle.clap.specs.Faults.{settle_fault, defaults_fault, default_fault, check_fault, walk_fault, turn_fault}
use Rattle.command_words.specs.Words.{Named, Top, Bound, Unwind, UnwindSet, Budget, Decide}
use Rattle.command_words.proofs.Rules.{rules, top, option_rule, flag_rule, c_rule, v_rule}

-- nothing is refused
abbrev pub is_quiet : Kinds → Bool
is_quiet [] = true
is_quiet (k ∷ ks) = false

pub quiet-or : (a b : Kinds) → is_quiet a ≡ false → is_quiet (or_else a b) ≡ false
quiet-or [] b h = let z : true ≡ false = h in cc
quiet-or (k ∷ ks) b h = refl

or_else-assoc : (a b c : Kinds) → or_else (or_else a b) c ≡ or_else a (or_else b c)
or_else-assoc [] b c = refl
or_else-assoc (k ∷ ks) b c = refl

abbrev pub end_fault : Held → Kinds
end_fault h =
    or_else (settle_fault rules false h) (or_else (defaults_fault (settled rules h).rows rules) (check_fault top (finished rules h) false))

abbrev pub walked_on : Walk → List Text → Walk
walked_on w words = fold (walked rules []) w words

-- what is refused of the words that are left
abbrev pub fault : Walk → List Text → Kinds
fault w words = or_else (walk_fault top [] w words) (end_fault (walked_on w words).held)

pub fault-next : (w : Walk) (word : Text) (rest : List Text)
    → fault w (word ∷ rest) ≡ or_else (turn_fault top [] w word) (fault (walked rules [] w word) rest)
unfolding walk_fault
fault-next w word rest = or_else-assoc (turn_fault top [] w word) (walk_fault top [] (walked rules [] w word) rest) _

abbrev nothing : Kinds
nothing = []

-- no default is refused
if-or : (b : Bool) (X : Kinds) → (if b || true then [] else X) ≡ []
if-or true X = refl
if-or false X = refl

option_default : (rows : List Row) (o : Named) → default_fault rows (option_rule o) ≡ []
option_default rows o = if-or (has_row (option_rule o).id rows) _

if-same : (b : Bool) → (if b || false then [] else []) ≡ nothing
if-same true = refl
if-same false = refl

flag_default : (rows : List Row) → default_fault rows flag_rule ≡ []
flag_default rows = if-same (has_row flag_rule.id rows)

c_default : (rows : List Row) → default_fault rows c_rule ≡ []
c_default rows = if-or (has_row c_rule.id rows) _

v_default : (rows : List Row) → default_fault rows v_rule ≡ []
v_default rows = if-or (has_row v_rule.id rows) _

more : (a : Rule) (rest : List Rule) → ((rows : List Row) → default_fault rows a ≡ []) → ((rows : List Row) → defaults_fault rows rest ≡ [])
    → (rows : List Row) → defaults_fault rows (a ∷ rest) ≡ []
unfolding defaults_fault
more a rest h k rows = ap (λ x. or_else x (defaults_fault (with_default rows a) rest)) (h rows) ∙ k (with_default rows a)

none : (rows : List Row) → defaults_fault rows [] ≡ []
unfolding defaults_fault
none rows = refl

defaults_quiet : (rows : List Row) → defaults_fault rows rules ≡ []
defaults_quiet =
    more (option_rule Top) _ (λ rows. option_default rows Top) (more (option_rule Bound) _ (λ rows. option_default rows Bound)
    (more (option_rule Unwind) _ (λ rows. option_default rows Unwind) (more (option_rule UnwindSet) _ (λ rows. option_default rows UnwindSet)
    (more (option_rule Budget) _ (λ rows. option_default rows Budget) (more (option_rule Decide) _ (λ rows. option_default rows Decide)
    (more flag_rule _ flag_default (more c_rule _ c_default (more v_rule [] v_default none))))))))

-- where what is pending may be used, the end of the words refuses nothing
pub end_quiet : (h : Held) → settle_fault rules false h ≡ [] → end_fault h ≡ []
end_quiet h e =
    ap (λ x. or_else x (or_else (defaults_fault (settled rules h).rows rules) (check_fault top (finished rules h) false))) e
    ∙ ap (λ x. or_else x (check_fault top (finished rules h) false)) (defaults_quiet (settled rules h).rows)
