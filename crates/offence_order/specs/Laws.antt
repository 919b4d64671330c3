-- What the first offence of some groups is: the head of the list that has the groups one after another, each ordered by
-- place, then number.
use Rattle.std.specs.Prelude.{◌≡◌, List, [], ◌∷◌, ◌++◌, Some, None, All}
use Rattle.std.specs.Option.{option_or}
use Rattle.offence_order.specs.declared.Offence.{Offence}
use Rattle.offence_order.specs.Order.{first_of, leading, IsHead}

-- it is one of them, and none comes before it
abbrev pub LeadingIsHead : Type 0
LeadingIsHead = (groups : List (List Offence)) (o : Offence) → leading groups ≡ Some o → IsHead groups o

-- there is none only where each group is empty
abbrev pub NoneWhereClean : Type 0
NoneWhereClean = (groups : List (List Offence)) → leading groups ≡ None → All (λ group. group ≡ []) groups

-- one group, as that of C, is ordered by place, then number alone
abbrev pub LeadingOfOne : Type 0
LeadingOfOne = (group : List Offence) → leading (group ∷ []) ≡ first_of None group

-- of groups one after another, the later ones count only where the earlier ones have none
abbrev pub LeadingInParts : Type 0
LeadingInParts = (earlier later : List (List Offence)) → leading (earlier ++ later) ≡ option_or (leading earlier) (leading later)
