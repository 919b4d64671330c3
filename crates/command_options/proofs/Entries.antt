-- A list of entries, piece by piece.
use Rattle.std.proofs.Common.{◌≡◌, ◌∙◌, ◌++◌, ◌≤◌, refl, sym, ap, arith, ℕ, Bool, true, false, ltb, cond, List, [], ◌∷◌, ◌==◌, Option, Some, None, length, option_map}
use Rattle.std.specs.List.{position_or_len, before_first, after_first, slice_split}
use Rattle.std.proofs.lemmas.List.{append_assoc}
use Rattle.std.proofs.lemmas.List.Splits.{slice_split_first, slice_split_none}
use Rattle.std.proofs.lemmas.List.Sums.{fails_before_first}
use Rattle.joint_ir.specs.declared.naming.NamedLimit.{NamedLimit}
use Rattle.command_options.specs.Limits.{cut, with_entry, entries_of, entry_in}
use borrow.Author.Tests.{ltb-true, ltb-false}

-- entries behind those that are there
abbrev pub after : List NamedLimit → Option (List NamedLimit) → Option (List NamedLimit)
after es o = option_map (λ more. es ++ more) o

abbrev pub is_comma : ℕ → Bool
is_comma b = b == 44

abbrev pub listed : List ℕ → Option (List NamedLimit)
listed text = entries_of (slice_split is_comma text)

-- what a text lists, by what stands before its first comma and behind it
abbrev by_cut : (text : List ℕ) → Option (List ℕ × List ℕ) → Option (List NamedLimit)
by_cut text None = with_entry (entry_in text) (Some [])
by_cut text (Some p) = with_entry (entry_in p.0) (listed p.1)

by_test : (text : List ℕ) (b : Bool) → ltb (position_or_len is_comma text) (length text) ≡ b
    → listed text ≡ by_cut text (cond b (Some (before_first is_comma text, after_first is_comma text)) None)
by_test text true h = ap entries_of (slice_split_first is_comma text 0 (ltb-true (position_or_len is_comma text) (length text) h))
by_test text false h =
    let whole : length text ≤ position_or_len is_comma text = ltb-false (position_or_len is_comma text) (length text) h in
    ap entries_of (slice_split_none is_comma text (λ k d l. fails_before_first is_comma text k d (omega arith)))

listed_by_cut : (text : List ℕ) → listed text ≡ by_cut text (cut 44 text)
listed_by_cut text = by_test text _ refl

one_more : (es : List NamedLimit) (e : NamedLimit) (o : Option (List NamedLimit)) → after es (option_map (λ more. e ∷ more) o) ≡ after (es ++ e ∷ []) o
one_more es e None = refl
one_more es e (Some more) = ap Some (sym (append_assoc es (e ∷ []) more))

-- a piece that is no entry
pub stops : (text rest : List ℕ) (es : List NamedLimit) (p : List ℕ × List ℕ) → listed text ≡ after es (listed rest) → cut 44 rest ≡ Some p → entry_in p.0 ≡ None → None ≡ listed text
stops text rest es p h cuts none = sym (h ∙ ap (after es) (listed_by_cut rest ∙ ap (by_cut rest) cuts ∙ ap (λ e. with_entry e (listed p.1)) none))

-- a piece that is one
pub goes_on : (text rest : List ℕ) (es : List NamedLimit) (e : NamedLimit) (p : List ℕ × List ℕ) → listed text ≡ after es (listed rest) → cut 44 rest ≡ Some p → entry_in p.0 ≡ Some e
    → listed text ≡ after (es ++ e ∷ []) (listed p.1)
goes_on text rest es e p h cuts some = h ∙ ap (after es) (listed_by_cut rest ∙ ap (by_cut rest) cuts ∙ ap (λ o. with_entry o (listed p.1)) some) ∙ one_more es e (listed p.1)

-- the last piece, where it is no entry
pub ends_without : (text rest : List ℕ) (es : List NamedLimit) → listed text ≡ after es (listed rest) → cut 44 rest ≡ None → entry_in rest ≡ None → None ≡ listed text
ends_without text rest es h cuts none = sym (h ∙ ap (after es) (listed_by_cut rest ∙ ap (by_cut rest) cuts ∙ ap (λ e. with_entry e (Some [])) none))

-- the last piece, where it is one
pub ends_with : (text rest : List ℕ) (es : List NamedLimit) (e : NamedLimit) → listed text ≡ after es (listed rest) → cut 44 rest ≡ None → entry_in rest ≡ Some e → Some (es ++ e ∷ []) ≡ listed text
ends_with text rest es e h cuts some = sym (h ∙ ap (after es) (listed_by_cut rest ∙ ap (by_cut rest) cuts ∙ ap (λ o. with_entry o (Some [])) some))
