-- What the words of the command say, before any value is looked at.
--
-- Options may stand in any order, before, between or behind the two file names; each may stand once. A value is the next
-- word, or follows `=` in the same word; a next word that asks for an option, or is `--`, is no value. `--check-bound` takes no value. The
-- first `--` ends the options: every later word is a file name. Before it, a word that begins with `-` and isn't just `-`
-- has to be an option, whose name is written whole.
use Rattle.std.specs.Prelude.{ℕ, ◌==◌, Bool, true, false, if◌then◌else◌, List, [], ◌∷◌, map, Option, Some, None, is_some, option_map, option_and_then, codes, bytes_eq}
use Rattle.std.specs.List.{list_any, before_first, after_first}

-- a word, as its bytes
abbrev pub Text : Type 0
Text = List ℕ

-- the options that take a value
pub data Named : Type 0 where
  Top : Named
  Bound : Named
  Unwind : Named
  UnwindSet : Named
  Budget : Named
  Decide : Named

-- the name of an option, behind its two hyphens
abbrev pub name_of : Named → Text
name_of Top = codes "module"
name_of Bound = codes "bound"
name_of Unwind = codes "unwind"
name_of UnwindSet = codes "unwindset"
name_of Budget = codes "budget"
name_of Decide = codes "decide"

-- the option of a name
abbrev pub named : (name : Text) → Option Named
named name =
    if bytes_eq (name_of Top) name then Some Top
    else if bytes_eq (name_of Bound) name then Some Bound
    else if bytes_eq (name_of Unwind) name then Some Unwind
    else if bytes_eq (name_of UnwindSet) name then Some UnwindSet
    else if bytes_eq (name_of Budget) name then Some Budget
    else if bytes_eq (name_of Decide) name then Some Decide
    else None

-- the option without a value
abbrev pub check_name : Text
check_name = codes "check-bound"

-- one thing that the words say: an option has a value, `--check-bound`, or a file is named
pub data Thing : Type 0 where
  Sets : (option : Named) (value : Text) → Thing
  Checks : Thing
  Names : (file : Text) → Thing

-- what follows a first `-` (45)
abbrev pub behind_hyphen : Text → Option Text
behind_hyphen [] = None
behind_hyphen (x ∷ xs) = if x == 45 then Some xs else None

-- the word begins with `-`
abbrev pub begins_with_hyphen : Text → Bool
begins_with_hyphen word = is_some (behind_hyphen word)

-- the word is `--`
abbrev pub ends_options : Text → Bool
ends_options word = bytes_eq word (codes "--")

-- the word asks for an option: it begins with `-` and isn't just `-`
abbrev pub is_option : Text → Bool
is_option word = if bytes_eq word (codes "-") then false else begins_with_hyphen word

-- a name, and what stands behind the first `=` (61) if there is one
abbrev pub name_and_value : Text → Text × Option Text
name_and_value text =
    (before_first (λ x. x == 61) text, if list_any (λ x. x == 61) text then Some (after_first (λ x. x == 61) text) else None)

-- what stands behind two hyphens
abbrev pub asked_option : Text → Option (Text × Option Text)
asked_option word = option_map name_and_value (option_and_then behind_hyphen (behind_hyphen word))

-- one thing before those that later words say, if these are right
abbrev pub beside : Thing → Option (List Thing) → Option (List Thing)
beside x things = option_map (λ xs. x ∷ xs) things

-- an option that takes a value: it is in the word, or it is the next word
abbrev pub with_value : Named → (value : Option Text) (now later : Option (List Thing)) → Option (List Thing)
with_value option (Some v) now later = beside (Sets option v) now
with_value option None now later = later

-- an option that takes no value, with what stands behind its `=`, which is an error
abbrev pub without_value : (value : Option Text) (now : Option (List Thing)) → Option (List Thing)
without_value (Some v) now = None
without_value None now = beside Checks now

-- an option of a name: the things of the words behind it are `now`, and `later` where the next word is its value
abbrev pub option_things : Option Named → (is_check : Bool) (value : Option Text) (now : Option (List Thing)) (later : Named → Option (List Thing)) → Option (List Thing)
option_things (Some option) is_check value now later = with_value option value now (later option)
option_things None true value now later = without_value value now
option_things None false value now later = None

-- the things that an option's word and the words behind it say; `later` leaves out the next word, which is its value
abbrev pub asked_things : Option (Text × Option Text) → (now : Option (List Thing)) (later : Named → Option (List Thing)) → Option (List Thing)
asked_things None now later = None
asked_things (Some p) now later = option_things (named p.0) (bytes_eq check_name p.0) p.1 now later

-- what the words say, where an option may wait for its value; None where they aren't of this form
unfoldable pub things_of : (waiting : Option Named) → List Text → Option (List Thing)
things_of None [] = Some []
things_of (Some option) [] = None
things_of (Some option) (word ∷ rest) =
    if ends_options word then None
    else if is_option word then None
    else beside (Sets option word) (things_of None rest)
things_of None (word ∷ rest) =
    if ends_options word then Some (map Names rest)
    else if is_option word then asked_things (asked_option word) (things_of None rest) (λ option. things_of (Some option) rest)
    else beside (Names word) (things_of None rest)

-- whether two options are the same
abbrev pub is_same : Named → Named → Bool
is_same a b = bytes_eq (name_of a) (name_of b)

-- the value that an option has
abbrev pub value_of : Named → List Thing → Option Text
value_of option [] = None
value_of option (Sets o v ∷ things) = if is_same o option then Some v else value_of option things
value_of option (Checks ∷ things) = value_of option things
value_of option (Names f ∷ things) = value_of option things

-- `--check-bound` stands
abbrev pub checks : List Thing → Bool
checks [] = false
checks (Sets o v ∷ things) = checks things
checks (Checks ∷ things) = true
checks (Names f ∷ things) = checks things

-- the files that are named, in order
abbrev pub files_of : List Thing → List Text
files_of [] = []
files_of (Sets o v ∷ things) = files_of things
files_of (Checks ∷ things) = files_of things
files_of (Names f ∷ things) = f ∷ files_of things

-- each option stands once at most
abbrev pub are_once : List Thing → Bool
are_once [] = true
are_once (Sets o v ∷ things) = if is_some (value_of o things) then false else are_once things
are_once (Checks ∷ things) = if checks things then false else are_once things
are_once (Names f ∷ things) = are_once things

-- what the words give
pub record Said : Type 0 where
  pub top : Option Text
  pub bound : Option Text
  pub unwind : Option Text
  pub unwindset : Option Text
  pub budget : Option Text
  pub decide : Option Text
  pub check_bound : Bool
  pub c_file : Text
  pub v_file : Text

-- there are two files, the C file first
abbrev pub with_files : List Thing → List Text → Option Said
with_files things [] = None
with_files things (c ∷ []) = None
with_files things (c ∷ v ∷ []) = Some (record {
  top = value_of Top things;
  bound = value_of Bound things;
  unwind = value_of Unwind things;
  unwindset = value_of UnwindSet things;
  budget = value_of Budget things;
  decide = value_of Decide things;
  check_bound = checks things;
  c_file = c;
  v_file = v;
})
with_files things (c ∷ v ∷ x ∷ rest) = None

-- what the words say, if no option stands twice and two files are named
abbrev pub with_things : List Thing → Option Said
with_things things = if are_once things then with_files things (files_of things) else None

-- what the words give, if they are of the command's form
abbrev pub given_of : List Text → Option Said
given_of words = option_and_then with_things (things_of None words)
