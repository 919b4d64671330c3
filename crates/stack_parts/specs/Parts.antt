-- Values that were all found.
use Rattle.std.specs.Prelude.{Option, Some, None}

-- both values, and none where one is missing
abbrev pub all_two : {A B : Type 0} → Option A → Option B → Option (A × B)
all_two (Some a) (Some b) = Some (a, b)
all_two _ _ = None

-- three values, and none where one is missing
abbrev pub all_three : {A B C : Type 0} → Option A → Option B → Option C → Option (A × B × C)
all_three (Some a) (Some b) (Some c) = Some (a, b, c)
all_three _ _ _ = None

-- four values, and none where one is missing
abbrev pub all_four : {A B C D : Type 0} → Option A → Option B → Option C → Option D → Option (A × B × C × D)
all_four (Some a) (Some b) (Some c) (Some d) = Some (a, b, c, d)
all_four _ _ _ _ = None

-- five values, and none where one is missing
abbrev pub all_five : {A B C D E : Type 0} → Option A → Option B → Option C → Option D → Option E → Option (A × B × C × D × E)
all_five (Some a) (Some b) (Some c) (Some d) (Some e) = Some (a, b, c, d, e)
all_five _ _ _ _ _ = None

-- six values, and none where one is missing
abbrev pub all_six : {A B C D E F : Type 0} → Option A → Option B → Option C → Option D → Option E → Option F → Option (A × B × C × D × E × F)
all_six (Some a) (Some b) (Some c) (Some d) (Some e) (Some f) = Some (a, b, c, d, e, f)
all_six _ _ _ _ _ _ = None

-- seven values, and none where one is missing
abbrev pub all_seven : {A B C D E F G : Type 0} → Option A → Option B → Option C → Option D → Option E → Option F → Option G → Option (A × B × C × D × E × F × G)
all_seven (Some a) (Some b) (Some c) (Some d) (Some e) (Some f) (Some g) = Some (a, b, c, d, e, f, g)
all_seven _ _ _ _ _ _ _ = None
