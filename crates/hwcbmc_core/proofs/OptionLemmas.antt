-- What a fact by cases on an option says of each case.
use Rattle.std.proofs.Common.{Option, None, Some}
use Rattle.std.specs.Prelude.{MatchOption, IfSome, IfNone}

pub IfSome-from_match : {X : Type 0} (P : Type 0) (Q : X → Type 0) (r : Option X) → MatchOption r P Q → IfSome r Q
IfSome-from_match P Q None h = tt
IfSome-from_match P Q (Some x) h = h

pub IfNone-from_match : {X : Type 0} (P : Type 0) (Q : X → Type 0) (r : Option X) → MatchOption r P Q → IfNone r P
IfNone-from_match P Q None h = h
IfNone-from_match P Q (Some x) h = tt
