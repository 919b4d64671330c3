-- What a map names after a write.
use Rattle.std.proofs.Common.{◌≡◌, ℕ, ◌+◌, ◌-◌, ◌<◌, ◌≤◌, List, [], ◌∷◌, length, drop, get_or, Bool, true, false, refl, sym, ap, ◌∙◌, arith}
use mathlib.Core.Path.{fun_ext}
use Rattle.std.specs.Prelude.{cond, Option, Some, bytes_eq, String, string_bytes, string_eq}
use Rattle.std.proofs.lemmas.Slice.Eq.{bytes_eq-Decides}
use Rattle.std.proofs.lemmas.List.{drop_more}
use Rattle.std.specs.Map.{lookup as lookup_entries}
use Rattle.std.specs.HashMap.{HashMap, get_by}
use Rattle.indexmap.specs.IndexMap.{insert_entry}
use Rattle.joint_ir.specs.declared.module.Signal.{Signal as ASignal}
use Rattle.bind_struct.specs.declared.paths.Thing.{Thing}
use Rattle.bind_struct.specs.declared.paths.Thing.TheVariants.{Signal, Instance}
use Rattle.bind_struct.specs.Pairs.{pairs_of}
use Rattle.bind_struct.specs.Paths.{Naming, named, with_path, instance_paths, signal_paths}

same_bytes : (a b : List ℕ) → bytes_eq a b ≡ true → a ≡ b
same_bytes a b h = (bytes_eq-Decides a b).0 h

bytes_same : (a b : List ℕ) → a ≡ b → bytes_eq a b ≡ true
bytes_same a b h = (bytes_eq-Decides a b).1 h

-- a key that is there
over : (n k e : List ℕ) (v w : Thing) (rest : Option Thing) → k ≡ e → cond (bytes_eq n e) (Some v) rest ≡ cond (bytes_eq n k) (Some v) (cond (bytes_eq n e) (Some w) rest)
over n k e v w rest h = ap (λ z. cond (bytes_eq n z) (Some v) rest) (sym h) ∙ pick (bytes_eq n k) ∙ ap (λ z. cond (bytes_eq n k) (Some v) (cond (bytes_eq n z) (Some w) rest)) h
  where
    pick : (b : Bool) → cond b (Some v) rest ≡ cond b (Some v) (cond b (Some w) rest)
    pick true = refl
    pick false = refl

-- another key
beside : (n k e : List ℕ) (v w : Thing) (rest : Option Thing) → bytes_eq k e ≡ false → cond (bytes_eq n e) (Some w) (cond (bytes_eq n k) (Some v) rest) ≡ cond (bytes_eq n k) (Some v) (cond (bytes_eq n e) (Some w) rest)
beside n k e v w rest h = pick (bytes_eq n e) (bytes_eq n k) refl refl
  where
    clash : true ≡ false → (x : Option Thing) → x ≡ cond true (Some v) rest
    clash g x = cc

    pick : (a b : Bool) → bytes_eq n e ≡ a → bytes_eq n k ≡ b → cond a (Some w) (cond b (Some v) rest) ≡ cond b (Some v) (cond a (Some w) rest)
    pick true true f g = clash (sym (bytes_same k e (sym (same_bytes n k g) ∙ same_bytes n e f)) ∙ h) (Some w)
    pick true false f g = refl
    pick false true f g = refl
    pick false false f g = refl

named_entries : {Y : Type 0} (es : List (String Y × Thing)) (n : List ℕ) → named (pairs_of es) n ≡ lookup_entries (λ k. bytes_eq n (string_bytes k)) es
named_entries [] n = refl
named_entries (e ∷ es) n = ap (λ o. cond (bytes_eq n (string_bytes e.0)) (Some e.1) o) (named_entries es n)

pub find_is : {Y S : Type 0} (m : HashMap (String Y) Thing S) (old : List (List ℕ × Thing)) (n t : List ℕ) (o : Option Thing) → pairs_of m.entries ≡ old → t ≡ n →
    o ≡ get_by (λ k. bytes_eq t (string_bytes k)) m → o ≡ named old n
find_is m old n t o is is_t is_o =
    is_o
    ∙ ap (λ u. lookup_entries (λ k. bytes_eq u (string_bytes k)) m.entries) is_t
    ∙ sym (named_entries m.entries n)
    ∙ ap (λ l. named l n) is

named_new : {Y : Type 0} (es : List (String Y × Thing)) (k : String Y) (v : Thing) (n : List ℕ) →
    named (pairs_of (insert_entry string_eq es k v)) n ≡ cond (bytes_eq n (string_bytes k)) (Some v) (named (pairs_of es) n)
named_new [] k v n = refl
named_new (e ∷ es) k v n = pick (string_eq k e.0) refl (named_new es k v n)
  where
    pick : (b : Bool) → string_eq k e.0 ≡ b → named (pairs_of (insert_entry string_eq es k v)) n ≡ cond (bytes_eq n (string_bytes k)) (Some v) (named (pairs_of es) n) →
        named (pairs_of (cond b ((e.0, v) ∷ es) (e ∷ insert_entry string_eq es k v))) n ≡ cond (bytes_eq n (string_bytes k)) (Some v) (cond (bytes_eq n (string_bytes e.0)) (Some e.1) (named (pairs_of es) n))
    pick true h i = over n (string_bytes k) (string_bytes e.0) v e.1 (named (pairs_of es) n) (same_bytes (string_bytes k) (string_bytes e.0) h)
    pick false h i = ap (cond (bytes_eq n (string_bytes e.0)) (Some e.1)) i ∙ beside n (string_bytes k) (string_bytes e.0) v e.1 (named (pairs_of es) n) h

pub put_is : {Y : Type 0} (es new : List (String Y × Thing)) (old : List (List ℕ × Thing)) (k : String Y) (name text : List ℕ) (v : Thing) →
    pairs_of es ≡ old → text ≡ name → string_bytes k ≡ text → new ≡ insert_entry string_eq es k v → named (pairs_of new) ≡ with_path name v (named old)
put_is es new old k name text v is is_text is_k is_new =
    ap (λ l. named (pairs_of l)) is_new
    ∙ fun_ext (named_new es k v)
    ∙ ap (λ z. with_path z v (named (pairs_of es))) (is_k ∙ is_text)
    ∙ ap (λ l. with_path name v (named l)) is

pub instance_next : (names : List (List ℕ)) (at : ℕ) (name : List ℕ) (old new : Naming) → 0 < at → at ≤ length names → name ≡ get_or names (at - 1) name → old ≡ instance_paths (drop at names) → new ≡ with_path name Instance old →
    new ≡ instance_paths (drop (at - 1) names)
instance_next names at name old new some few is h is_new =
    is_new
    ∙ ap (with_path name Instance) (h ∙ ap (λ i. instance_paths (drop i names)) more)
    ∙ ap instance_paths (sym split)
  where
    more : at ≡ at - 1 + 1
    more = omega (arith, some)

    split : drop (at - 1) names ≡ name ∷ drop (at - 1 + 1) names
    split = drop_more names (at - 1) name (omega (arith, some, few)) ∙ ap (λ q. q ∷ drop (at - 1 + 1) names) (sym is)

pub signal_next : (signals : List ASignal) (others : Naming) (at : ℕ) (s : ASignal) (name : List ℕ) (old new : Naming) → 0 < at → at ≤ length signals → s ≡ get_or signals (at - 1) s → name ≡ s.path →
    old ≡ signal_paths at (drop at signals) others → new ≡ with_path name (Signal (at - 1)) old → new ≡ signal_paths (at - 1) (drop (at - 1) signals) others
signal_next signals others at s name old new some few is is_name h is_new =
    is_new
    ∙ ap (λ z. with_path z (Signal (at - 1)) old) is_name
    ∙ ap (with_path s.path (Signal (at - 1))) (h ∙ ap (λ i. signal_paths i (drop i signals) others) more)
    ∙ ap (λ l. signal_paths (at - 1) l others) (sym split)
  where
    more : at ≡ at - 1 + 1
    more = omega (arith, some)

    split : drop (at - 1) signals ≡ s ∷ drop (at - 1 + 1) signals
    split = drop_more signals (at - 1) s (omega (arith, some, few)) ∙ ap (λ q. q ∷ drop (at - 1 + 1) signals) (sym is)
