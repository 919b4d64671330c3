-- The names of options, as the definition and as `clap` looks them up.
use Rattle.std.proofs.Common.{◌≡◌, refl, Bool, true, false, Some, None, codes}
use Rattle.std.specs.Str.{bytes_eq}
use Rattle.clap.specs.Words.{Text}
use Rattle.clap.specs.Walk.{arg_by_long}
use Rattle.command_words.specs.Words.{Named, Top, Bound, Unwind, UnwindSet, Budget, Decide, named, check_name}
use Rattle.command_words.proofs.Rules.{rules, option_rule, flag_rule}

-- a name is that of an option, `check-bound`, or unknown
pub data Asks (name : Text) : Type 0 where
  an_option : (o : Named) → named name ≡ Some o → arg_by_long rules name ≡ Some (option_rule o) → Asks name
  the_check : named name ≡ None → bytes_eq check_name name ≡ true → arg_by_long rules name ≡ Some flag_rule → Asks name
  unknown : named name ≡ None → bytes_eq check_name name ≡ false → arg_by_long rules name ≡ None → Asks name

-- the seven comparisons, in order
by_tests : (name : Text) (a b c d e f g : Bool) → bytes_eq (codes "module") name ≡ a → bytes_eq (codes "bound") name ≡ b → bytes_eq (codes "unwind") name ≡ c
    → bytes_eq (codes "unwindset") name ≡ d → bytes_eq (codes "budget") name ≡ e → bytes_eq (codes "decide") name ≡ f → bytes_eq (codes "check-bound") name ≡ g → Asks name
by_tests name true b c d e f g h1 h2 h3 h4 h5 h6 h7 = an_option Top (rw h1 refl) (rw h1 refl)
by_tests name false true c d e f g h1 h2 h3 h4 h5 h6 h7 = an_option Bound (rw (h1, h2) refl) (rw (h1, h2) refl)
by_tests name false false true d e f g h1 h2 h3 h4 h5 h6 h7 = an_option Unwind (rw (h1, h2, h3) refl) (rw (h1, h2, h3) refl)
by_tests name false false false true e f g h1 h2 h3 h4 h5 h6 h7 = an_option UnwindSet (rw (h1, h2, h3, h4) refl) (rw (h1, h2, h3, h4) refl)
by_tests name false false false false true f g h1 h2 h3 h4 h5 h6 h7 = an_option Budget (rw (h1, h2, h3, h4, h5) refl) (rw (h1, h2, h3, h4, h5) refl)
by_tests name false false false false false true g h1 h2 h3 h4 h5 h6 h7 = an_option Decide (rw (h1, h2, h3, h4, h5, h6) refl) (rw (h1, h2, h3, h4, h5, h6) refl)
by_tests name false false false false false false true h1 h2 h3 h4 h5 h6 h7 = the_check (rw (h1, h2, h3, h4, h5, h6) refl) h7 (rw (h1, h2, h3, h4, h5, h6, h7) refl)
by_tests name false false false false false false false h1 h2 h3 h4 h5 h6 h7 = unknown (rw (h1, h2, h3, h4, h5, h6) refl) h7 (rw (h1, h2, h3, h4, h5, h6, h7) refl)

pub asks : (name : Text) → Asks name
asks name = by_tests name _ _ _ _ _ _ _ refl refl refl refl refl refl refl
