-- Members of structs as lists, by which a proof tells them apart.
use Rattle.std.specs.Prelude.{◌≡◌, ℕ, List, [], ◌∷◌, ◌++◌, Bool, ◌⊎◌}
use Rattle.std.proofs.Common.{refl, sym, ap, ◌∙◌, inl, inr, append_assoc, append-nil}
use Rattle.std.specs.Coded.{Coded, code_by, coded_ℕ, coded_bool, coded_list, coded×, coded⊎}
use Rattle.c_tree.specs.declared.names.Identifier.{Identifier}
use Rattle.joint_ir.specs.declared.ctype.IntType.{IntType}
use Rattle.c_structs.specs.Tags.{Parts, Ends, Integer, Struct, Tag}

-- an identifier, as its place and its bytes
abbrev coded_name : Coded Identifier
coded_name =
    code_by (ℕ × (ℕ × List ℕ)) (coded× coded_ℕ (coded× coded_ℕ (coded_list coded_ℕ))) (λ x. (x.place.line, (x.place.column, x.name)))
    (λ p. record { place = record { line = p.0; column = p.1.0 }; name = p.1.1 }) (λ _. refl)

-- an integer type, as its parts
abbrev coded_type : Coded IntType
coded_type =
    code_by (ℕ × (Bool × Bool)) (coded× coded_ℕ (coded× coded_bool coded_bool)) (λ t. (t.bits, (t.signed, t.truth)))
    (λ p. record { bits = p.0; signed = p.1.0; truth = p.1.1 }) (λ _. refl)

-- the end of members, an integer, or a struct
abbrev Word : Type 0
Word = ℕ ⊎ ((Identifier × (IntType × ℕ)) ⊎ Identifier)

-- a word, as the choice that it is
abbrev coded_word : Coded Word
coded_word = coded⊎ coded_ℕ (coded⊎ (coded× coded_name (coded× coded_type coded_ℕ)) coded_name)

-- members in order: one word for each, and one for each end
abbrev words_of : Parts → List Word
words_of Ends = inl 0 ∷ []
words_of (Integer x t n rest) = inr (inl (x, (t, n))) ∷ words_of rest
words_of (Struct x inner rest) = inr (inr x) ∷ (words_of inner ++ words_of rest)

-- the first members, and none where there are none
abbrev first_of : List Parts → Parts
first_of [] = Ends
first_of (p ∷ ps) = p

-- all but the first
abbrev but_first : List Parts → List Parts
but_first [] = []
but_first (p ∷ ps) = ps

-- a word takes from those read behind it what belongs to it
abbrev put_word : Word → List Parts → List Parts
put_word (inl _) ps = Ends ∷ ps
put_word (inr (inl w)) ps = Integer w.0 w.1.0 w.1.1 (first_of ps) ∷ but_first ps
put_word (inr (inr x)) ps = Struct x (first_of ps) (first_of (but_first ps)) ∷ but_first (but_first ps)

-- members from words, read from the last to the first
abbrev parts_from : List Word → List Parts
parts_from [] = []
parts_from (w ∷ ws) = put_word w (parts_from ws)

-- reading the words of members gives the members, with words behind them read alike
pub parts_back : (p : Parts) (ws : List Word) → parts_from (words_of p ++ ws) ≡ p ∷ parts_from ws
parts_back Ends ws = refl
parts_back (Integer x t n rest) ws = ap (put_word (inr (inl (x, (t, n))))) (parts_back rest ws)
parts_back (Struct x inner rest) ws =
    ap (put_word (inr (inr x))) (ap parts_from (append_assoc (words_of inner) (words_of rest) ws) ∙ parts_back inner (words_of rest ++ ws) ∙ ap (λ ps. inner ∷ ps) (parts_back rest ws))

-- reading the words of members gives the members
pub parts_again : (p : Parts) → first_of (parts_from (words_of p)) ≡ p
parts_again p = ap (λ ws. first_of (parts_from ws)) (sym (append-nil (words_of p))) ∙ ap first_of (parts_back p [])

-- members, as their words
abbrev coded_parts : Coded Parts
coded_parts = code_by (List Word) (coded_list coded_word) words_of (λ ws. first_of (parts_from ws)) parts_again

-- tags with their members
abbrev pub coded_tags : Coded (List Tag)
coded_tags = coded_list (coded× (coded_list coded_ℕ) coded_parts)
