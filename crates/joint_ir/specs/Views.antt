-- The module in a run: what settles, what an edge makes of the registers, what the mirror shows and what it drives.
use Rattle.std.specs.Prelude.{ℕ, ◌+◌, List, [], ◌∷◌, ◌++◌, map, take, drop, slice_index, slice_get, slice_index_or, eqb, if◌then◌else◌, Bool, true, false}
use Rattle.std.specs.Prelude.{ℤ, Option, Some, None, option_map}
use Rattle.std.specs.List.{find}
use Rattle.bits_core.specs.Word.{Word, word, number, modulo}
use Rattle.word_eqs.specs.declared.term.TermId.{TermId}
use Rattle.word_eqs.specs.Graph.{Graph}
use Rattle.word_eqs.specs.Meaning.{word_at, meaning}
use Rattle.joint_ir.specs.declared.ctype.IntType.{IntType}
use Rattle.joint_ir.specs.declared.event.Shown.{Shown}
use Rattle.joint_ir.specs.declared.module.FlatModule.{FlatModule}
use Rattle.joint_ir.specs.declared.module.Role.{Role}
use Rattle.joint_ir.specs.declared.module.Role.TheVariants.{Input, Clock, Register, Wire}
use Rattle.joint_ir.specs.declared.module.Signal.{Signal}
use Rattle.joint_ir.specs.declared.module.Site.{Site}
use Rattle.joint_ir.specs.declared.pair.Link.{Link}
use Rattle.joint_ir.specs.declared.pair.Pair.{Pair}
use Rattle.joint_ir.specs.declared.program.Member.{Member}
use Rattle.joint_ir.specs.declared.program.MirrorDecl.{MirrorDecl}
use Rattle.joint_ir.specs.Types.{converted}
use Rattle.joint_ir.specs.Values.{first_of}
use Rattle.joint_ir.specs.States.{View, element_count, row_at, copies}

-- the numbers of bits of the words of a role, in flat order and by index
abbrev pub same_role : Role → Role → Bool
same_role Input Input = true
same_role Clock Clock = true
same_role Register Register = true
same_role Wire Wire = true
same_role _ _ = false

-- the widths of all words of the signals of a role, in flat order and by index
abbrev pub widths_of : Role → List Signal → List ℕ
widths_of role [] = []
widths_of role (s ∷ signals) =
    if same_role role s.role then copies (element_count s.words) s.bits ++ widths_of role signals else widths_of role signals

-- the widths of unknown words, in the order in which they are drawn
abbrev pub site_widths : List Site → List ℕ
site_widths sites = map (λ s. s.bits) sites

-- numbers as words of given widths
abbrev pub worded : (widths numbers : List ℕ) → List Word
worded [] numbers = []
worded (w ∷ widths) [] = []
worded (w ∷ widths) (n ∷ numbers) = word w n ∷ worded widths numbers

-- the numbers of terms, given those of the variables
abbrev pub term_numbers : Graph → List ℕ → List TermId → List ℕ
term_numbers g numbers ids =
    let v = meaning (word_at (worded g.vars numbers)) g in
    map (λ (t : TermId). (v.term t.0).value) ids

-- the wires that settle, given the words of the registers, the inputs and the unknown words
abbrev pub settled_wires : FlatModule → (registers inputs unknown : List ℕ) → List ℕ
settled_wires m registers inputs unknown = term_numbers m.settle_terms (registers ++ inputs ++ unknown) m.settled

-- the register words after a clock edge, given the view before it and the unknown words
abbrev pub next_registers : FlatModule → View → (unknown : List ℕ) → List ℕ
next_registers m v unknown = term_numbers m.edge_terms (v.registers ++ v.inputs ++ v.wires ++ unknown) m.next

-- the words of each signal; the clock's is 0
abbrev pub signal_words : List Signal → (registers inputs wires : List ℕ) → List (List ℕ)
signal_words [] registers inputs wires = []
signal_words (s ∷ signals) registers inputs wires =
    elim s.role [
      | Clock ↦ (0 ∷ []) ∷ signal_words signals registers inputs wires
      | Input ↦ take 1 inputs ∷ signal_words signals registers (drop 1 inputs) wires
      | Wire ↦ take 1 wires ∷ signal_words signals registers inputs (drop 1 wires)
      | Register ↦ take (element_count s.words) registers ∷ signal_words signals (drop (element_count s.words) registers) inputs wires
    ]

-- the words of each signal, in flat order; the clock reads 0
abbrev pub view_words : FlatModule → View → List (List ℕ)
view_words m v = signal_words m.signals v.registers v.inputs v.wires

-- the signal that a member mirrors, and the member that mirrors a signal
abbrev pub mirrored_signal : List Link → (member : ℕ) → Option ℕ
mirrored_signal links member = option_map (λ link. link.signal) (find (λ link. eqb link.member member) links)

-- the member that is linked to a signal
abbrev pub mirroring_member : List Link → (signal : ℕ) → Option ℕ
mirroring_member links signal = option_map (λ link. link.member) (find (λ link. eqb link.signal signal) links)

-- a word of a signal as a number: with a sign where the signal has one
abbrev pub word_number : Signal → ℕ → ℤ
word_number s n = number s.signed s.bits n

-- the elements of an integer member: the numbers of its signal's words, converted to its type
abbrev pub mirror_row : IntType → Option Signal → List ℕ → List ℤ
mirror_row ty None words = []
mirror_row ty (Some s) words = map (λ n. converted ty (word_number s n)) words

-- what a member holds: the numbers of its signal, converted to its type; a struct holds nothing
abbrev pub member_row : List Signal → List (List ℕ) → Option IntType → Option ℕ → List ℤ
member_row signals words None signal = []
member_row signals words (Some ty) None = []
member_row signals words (Some ty) (Some g) = mirror_row ty (slice_get signals g) (slice_index_or words g [])

-- the whole mirror, filled from the words of the signals; k is the number of the first of these members
abbrev pub filled_from : List Link → List Signal → List (List ℕ) → (k : ℕ) → List Member → List (List ℤ)
filled_from links signals words k [] = []
filled_from links signals words k (m ∷ members) =
    member_row signals words m.ty (mirrored_signal links k) ∷ filled_from links signals words (k + 1) members

-- the members of the mirror, none where there is no mirror
abbrev pub members_of : Option MirrorDecl → List Member
members_of None = []
members_of (Some mirror) = mirror.members

-- what the whole mirror holds when it is filled from a view
abbrev pub filled : Pair → View → List (List ℤ)
filled p v = filled_from p.binding.links p.module.signals (view_words p.module v) 0 (members_of p.program.mirror)

-- an input: the low bits of the member that mirrors it, if there is one
abbrev pub driven_input : Signal → Option ℕ → List (List ℤ) → ℕ → ℕ
driven_input s None members old = old
driven_input s (Some m) members old = modulo s.bits (first_of (row_at members m))

-- the inputs as the mirror drives them; k is the number of the first of these signals
abbrev pub driven_from : List Link → List (List ℤ) → (k : ℕ) → List Signal → (inputs : List ℕ) → List ℕ
driven_from links members k [] inputs = []
driven_from links members k (s ∷ signals) inputs =
    elim s.role [
      | Input ↦ driven_input s (mirroring_member links k) members (slice_index inputs 0) ∷ driven_from links members (k + 1) signals (drop 1 inputs)
      | _ ↦ driven_from links members (k + 1) signals inputs
    ]

-- the inputs after `set_inputs()`: those with a member take its low bits, the others stay
abbrev pub driven : Pair → List (List ℤ) → List ℕ → List ℕ
driven p members inputs = driven_from p.binding.links members 0 p.module.signals inputs

-- the words of a signal, to be shown, from its i-th on
abbrev pub shown_words : (signal i : ℕ) → List ℕ → List Shown
shown_words g i [] = []
shown_words g i (n ∷ words) = (record { signal = g; word = i; value = n }) ∷ shown_words g (i + 1) words

-- all words of all signals but the clock, in flat order; k is the number of the first of these signals
abbrev pub shown_from : (k : ℕ) → List Signal → List (List ℕ) → List Shown
shown_from k [] words = []
shown_from k (s ∷ signals) words =
    elim s.role [
      | Clock ↦ shown_from (k + 1) signals (drop 1 words)
      | _ ↦ shown_words k 0 (slice_index_or words 0 []) ++ shown_from (k + 1) signals (drop 1 words)
    ]

-- all words of all signals but the clock
abbrev pub shown : FlatModule → View → List Shown
shown m v = shown_from 0 m.signals (view_words m v)

-- those of the second list whose value isn't that of the first at the same place
abbrev pub changes : (before after : List Shown) → List Shown
changes [] after = []
changes (x ∷ before) [] = []
changes (x ∷ before) (y ∷ after) = if eqb x.value y.value then changes before after else y ∷ changes before after

-- what a view shows that the one before it doesn't
abbrev pub changed : FlatModule → (before after : View) → List Shown
changed m before after = changes (shown m before) (shown m after)
