-- The table of a file's functions: each name once, by its first declaration.
use Rattle.std.proofs.Common.{◌≡◌, ℕ, zero, suc, ◌+◌, ◌<◌, ◌≤◌, List, [], ◌∷◌, ◌++◌, length, map, Bool, true, false, ◌||◌, refl, sym, ap, subst, ◌∙◌, arith, inl, inr, length-append}
use Rattle.std.specs.Prelude.{◌⊎◌, Option, Some, None, bytes_eq, codes, cond, slice_get}
use Rattle.std.specs.List.{fold, list_any}
use Rattle.std.proofs.Math.Nat.{mod-eq_of_lt}
use Rattle.std.proofs.lemmas.List.{length-map, map-append}
use Rattle.std.proofs.lemmas.Option.{slice_get_within}
use Rattle.std.proofs.lemmas.Slice.Eq.{bytes_eq-Decides}
use Rattle.c_tree.specs.declared.declarations.FunctionHead.{FunctionHead}
use Rattle.c_tree.specs.declared.file.External.{External}
use Rattle.c_tree.specs.declared.file.External.TheVariants as external
use Rattle.c_tree.specs.declared.statements.Block.{Block}
use Rattle.c_words.specs.Marks.{number_of}
use Rattle.c_names.specs.declared.scope.Entry.{Entry}
use Rattle.c_names.specs.declared.scope.Entry.TheVariants as entry
use Rattle.c_names.specs.Scope.{Scope, declare, declared_in, find_in, lookup, or_else, put}
use Rattle.c_statements.specs.Statements.{is_some}
use Rattle.c_functions.specs.declared.table.Table.{Table}
use Rattle.c_functions.specs.Tables.{added, added_if, bodies_of, entered, entered_head, function_number, no_functions, number_in, signature_of, with_body, without_body}
use Rattle.c_types.specs.Files.{defines_main, has_main, main_name}
use Rattle.c_statement_laws.specs.Agreeing.{IsPrefix}
use Rattle.c_statement_laws.proofs.Declaring.{get_end, length_end, prefix_append, prefix_then}
use Rattle.c_program_laws.proofs.Lists.{get_before}

same_bytes : (name : List ℕ) → bytes_eq name name ≡ true
same_bytes name = (bytes_eq-Decides name name).1 refl

pub are_same : (a b : List ℕ) → bytes_eq a b ≡ true → a ≡ b
are_same a b h = (bytes_eq-Decides a b).0 h

pub bytes_same : (a b : List ℕ) → a ≡ b → bytes_eq a b ≡ true
bytes_same a b h = (bytes_eq-Decides a b).1 h

-- a name means what was declared last, or what it meant before
twice : {A : Type 0} (q r : Bool) → q ≡ r → (a b c : A) → cond q a c ≡ cond r a (cond q b c)
twice true true h a b c = refl
twice true false h a b c = absurd (cc)
twice false true h a b c = absurd (cc)
twice false false h a b c = refl

swap : {A : Type 0} (q r : Bool) → (q ≡ true → r ≡ true → ⊥) → (a b c : A) → cond q b (cond r a c) ≡ cond r a (cond q b c)
swap true true h a b c = absurd (h refl refl)
swap true false h a b c = refl
swap false true h a b c = refl
swap false false h a b c = refl

find_put : (name x : List ℕ) (v : Entry) (s : Scope) → find_in (put x v s) name ≡ cond (bytes_eq name x) (Some v) (find_in s name)
find_put name x v [] = refl
find_put name x v (e ∷ s) = pick (bytes_eq x e.0) refl (find_put name x v s)
  where
    pick : (p : Bool) → bytes_eq x e.0 ≡ p → find_in (put x v s) name ≡ cond (bytes_eq name x) (Some v) (find_in s name) →
        find_in (cond p ((e.0, v) ∷ s) (e ∷ put x v s)) name ≡ cond (bytes_eq name x) (Some v) (cond (bytes_eq name e.0) (Some e.1) (find_in s name))
    pick true h g = twice (bytes_eq name e.0) (bytes_eq name x) (ap (bytes_eq name) (sym (are_same x e.0 h))) (Some v) (Some e.1) (find_in s name)
    pick false h g =
        ap (λ o. cond (bytes_eq name e.0) (Some e.1) o) g
        ∙ swap (bytes_eq name e.0) (bytes_eq name x)
        (λ a b. (let is : bytes_eq x e.0 ≡ true = bytes_same x e.0 (sym (are_same name x b) ∙ are_same name e.0 a) in absurd (cc)))
        (Some v) (Some e.1) (find_in s name)

-- there is one scope: that of the file
abbrev pub IsOne : List Scope → Type 0
IsOne env = (s : Scope) × (env ≡ s ∷ [])

or_none : (o : Option Entry) → or_else o None ≡ o
or_none None = refl
or_none (Some e) = refl

lookup_put : (s : Scope) (x : List ℕ) (v : Entry) (name : List ℕ) → lookup (declare (s ∷ []) x v) name ≡ cond (bytes_eq name x) (Some v) (lookup (s ∷ []) name)
lookup_put s x v name = or_none (find_in (put x v s) name) ∙ find_put name x v s ∙ ap (λ o. cond (bytes_eq name x) (Some v) o) (sym (or_none (find_in s name)))

pub lookup_with : (env : List Scope) → IsOne env → (x : List ℕ) (v : Entry) (name : List ℕ) → lookup (declare env x v) name ≡ cond (bytes_eq name x) (Some v) (lookup env name)
lookup_with env one x v name = subst (λ ss. lookup (declare ss x v) name ≡ cond (bytes_eq name x) (Some v) (lookup ss name)) (sym one.1) (lookup_put one.0 x v name)

pub one_with : (env : List Scope) → IsOne env → (x : List ℕ) (v : Entry) → IsOne (declare env x v)
one_with env one x v = (put x v one.0, ap (λ ss. declare ss x v) one.1)

pub declared_one : (env : List Scope) → IsOne env → (name : List ℕ) → declared_in env name ≡ lookup env name
declared_one env one name = subst (λ ss. declared_in ss name ≡ lookup ss name) (sym one.1) (sym (or_none (find_in one.0 name)))

pub lookup_same : (env : List Scope) → IsOne env → (x : List ℕ) (v : Entry) → lookup (declare env x v) x ≡ Some v
lookup_same env one x v = lookup_with env one x v x ∙ ap (λ q. cond q (Some v) (lookup env x)) (same_bytes x)

-- what is declared is what was, or what is new
pub lookup_cases : (env : List Scope) → IsOne env → (x : List ℕ) (v : Entry) (name : List ℕ) (e : Entry) → lookup (declare env x v) name ≡ Some e → ((name ≡ x) × (e ≡ v)) ⊎ (lookup env name ≡ Some e)
lookup_cases env one x v name e h = pick (bytes_eq name x) refl (sym (lookup_with env one x v name) ∙ h)
  where
    pick : (q : Bool) → bytes_eq name x ≡ q → cond q (Some v) (lookup env name) ≡ Some e → ((name ≡ x) × (e ≡ v)) ⊎ (lookup env name ≡ Some e)
    pick true is g = inl (are_same name x is, cc)
    pick false is g = inr g

-- no name is forgotten
pub lookup_kept : (env : List Scope) → IsOne env → (x : List ℕ) (v : Entry) (name : List ℕ) → lookup (declare env x v) name ≡ None → lookup env name ≡ None
lookup_kept env one x v name h = pick (bytes_eq name x) (sym (lookup_with env one x v name) ∙ h)
  where
    pick : (q : Bool) → cond q (Some v) (lookup env name) ≡ None → lookup env name ≡ None
    pick true g = absurd (cc)
    pick false g = g

end_cases : {A : Type 0} (xs : List A) (y z : A) (n : ℕ) → slice_get (xs ++ y ∷ []) n ≡ Some z → (slice_get xs n ≡ Some z) ⊎ ((n ≡ length xs) × (z ≡ y))
end_cases [] y z zero h = inr (refl, cc)
end_cases [] y z (suc n) h = absurd (cc)
end_cases (x ∷ xs) y z zero h = inl h
end_cases (x ∷ xs) y z (suc n) h = pick (end_cases xs y z n h)
  where
    pick : (slice_get xs n ≡ Some z) ⊎ ((n ≡ length xs) × (z ≡ y)) → (slice_get xs n ≡ Some z) ⊎ ((suc n ≡ suc (length xs)) × (z ≡ y))
    pick (inl e) = inl e
    pick (inr e) = inr (ap suc e.0, e.1)

-- a table of the functions with these first declarations
pub record IsTable (bodies : List Scope) (t : Table) (hs : List FunctionHead) : Type 0 where
  pub functions : t.functions ≡ map without_body hs
  pub signatures : t.signatures ≡ map (signature_of bodies) hs
  pub one : IsOne t.names
  pub there : (n : ℕ) (h : FunctionHead) → slice_get hs n ≡ Some h → lookup t.names h.name.name ≡ Some (entry.Function n)
  pub back : (name : List ℕ) (e : Entry) → lookup t.names name ≡ Some e → (n : ℕ) × (h : FunctionHead) × (e ≡ entry.Function n) × (slice_get hs n ≡ Some h) × (h.name.name ≡ name)

-- what a table becomes where more is entered
pub record Extended (bodies : List Scope) (old new : Table) (hs : List FunctionHead) : Type 0 where
  pub heads : List FunctionHead
  pub table : IsTable bodies new heads
  pub before : IsPrefix hs heads
  pub kept : (name : List ℕ) (e : Entry) → lookup old.names name ≡ Some e → lookup new.names name ≡ Some e

-- and where a function is: it has a place, and what stands there has its name
pub record Entered (bodies : List Scope) (old new : Table) (hs : List FunctionHead) (h : FunctionHead) : Type 0 where
  pub extended : Extended bodies old new hs
  pub only : (name : List ℕ) (e : Entry) → lookup new.names name ≡ Some e → (name ≡ h.name.name) ⊎ (lookup old.names name ≡ Some e)
  pub place : ℕ
  pub first : FunctionHead
  pub named : lookup new.names h.name.name ≡ Some (entry.Function place)
  pub here : slice_get extended.heads place ≡ Some first
  pub same : first.name.name ≡ h.name.name
  pub is_first : lookup old.names h.name.name ≡ None → first ≡ h

module _ (bodies : List Scope) where
  added_table : (t : Table) (hs : List FunctionHead) → IsTable bodies t hs → length t.functions < 4294967296 → (h : FunctionHead) → lookup t.names h.name.name ≡ None →
      IsTable bodies (added bodies t h) (hs ++ h ∷ [])
  added_table t hs is few h new =
      let count : length t.functions ≡ length hs = ap length is.functions ∙ length-map hs without_body in
      let n = number_of (length t.functions) in
      let small : n ≡ length hs = mod-eq_of_lt few ∙ count in
      record {
        functions = ap (λ l. l ++ without_body h ∷ []) is.functions ∙ sym (map-append without_body hs (h ∷ []));
        signatures = ap (λ l. l ++ signature_of bodies h ∷ []) is.signatures ∙ sym (map-append (signature_of bodies) hs (h ∷ []));
        one = one_with t.names is.one h.name.name (entry.Function n);
        there = λ m g e. there m g (end_cases hs h g m e);
        back = λ name e f. back name e (lookup_cases t.names is.one h.name.name (entry.Function n) name e f);
      }
    where
      there : (m : ℕ) (g : FunctionHead) → (slice_get hs m ≡ Some g) ⊎ ((m ≡ length hs) × (g ≡ h)) → lookup (declare t.names h.name.name (entry.Function (number_of (length t.functions)))) g.name.name ≡ Some (entry.Function m)
      there m g (inl e) = pick (bytes_eq g.name.name h.name.name) refl
        where
          pick : (q : Bool) → bytes_eq g.name.name h.name.name ≡ q → lookup (declare t.names h.name.name (entry.Function (number_of (length t.functions)))) g.name.name ≡ Some (entry.Function m)
          pick true f = absurd (let there' : lookup t.names h.name.name ≡ Some (entry.Function m) = ap (lookup t.names) (sym (are_same g.name.name h.name.name f)) ∙ is.there m g e in cc)
          pick false f =
              lookup_with t.names is.one h.name.name (entry.Function (number_of (length t.functions))) g.name.name
              ∙ ap (λ q. cond q (Some (entry.Function (number_of (length t.functions)))) (lookup t.names g.name.name)) f ∙ is.there m g e
      there m g (inr e) =
          ap (lookup (declare t.names h.name.name (entry.Function (number_of (length t.functions))))) (ap (λ (x : FunctionHead). x.name.name) e.1)
          ∙ lookup_same t.names is.one h.name.name (entry.Function (number_of (length t.functions)))
          ∙ ap (λ k. Some (entry.Function k)) (mod-eq_of_lt few ∙ ap length is.functions ∙ length-map hs without_body ∙ sym e.0)

      back : (name : List ℕ) (e : Entry) → ((name ≡ h.name.name) × (e ≡ entry.Function (number_of (length t.functions)))) ⊎ (lookup t.names name ≡ Some e) →
          (n : ℕ) × (g : FunctionHead) × (e ≡ entry.Function n) × (slice_get (hs ++ h ∷ []) n ≡ Some g) × (g.name.name ≡ name)
      back name e (inl f) = (length hs, h, f.1 ∙ ap entry.Function (mod-eq_of_lt few ∙ ap length is.functions ∙ length-map hs without_body), get_end hs h [], sym f.0)
      back name e (inr f) = let old = is.back name e f in (old.0, old.1, old.2, get_before hs (h ∷ []) old.0 old.1 old.3, old.4)

  pub head_entered : (t : Table) (hs : List FunctionHead) → IsTable bodies t hs → length t.functions < 4294967296 → (h : FunctionHead) → Entered bodies t (entered_head bodies t h) hs h
  head_entered t hs is few h = pick (lookup t.names h.name.name) refl
    where
      pick : (o : Option Entry) → lookup t.names h.name.name ≡ o → Entered bodies t (added_if o bodies t h) hs h
      pick None new =
          let count : length t.functions ≡ length hs = ap length is.functions ∙ length-map hs without_body in
          let n = number_of (length t.functions) in
          let small : n ≡ length hs = mod-eq_of_lt few ∙ count in
          record {
            extended = record {
              heads = hs ++ h ∷ [];
              table = added_table t hs is few h new;
              before = prefix_append hs (h ∷ []);
              kept = λ name e f. stays name e f (bytes_eq name h.name.name) refl;
            };
            only = λ name e f. others name e (lookup_cases t.names is.one h.name.name (entry.Function n) name e f);
            place = length hs;
            first = h;
            named = lookup_same t.names is.one h.name.name (entry.Function n) ∙ ap (λ k. Some (entry.Function k)) small;
            here = get_end hs h [];
            same = refl;
            is_first = λ _. refl;
          }
        where
          stays : (name : List ℕ) (e : Entry) → lookup t.names name ≡ Some e → (q : Bool) → bytes_eq name h.name.name ≡ q → lookup (declare t.names h.name.name (entry.Function (number_of (length t.functions)))) name ≡ Some e
          stays name e f true g = absurd (let there' : lookup t.names h.name.name ≡ Some e = ap (lookup t.names) (sym (are_same name h.name.name g)) ∙ f in cc)
          stays name e f false g =
              lookup_with t.names is.one h.name.name (entry.Function (number_of (length t.functions))) name
              ∙ ap (λ q. cond q (Some (entry.Function (number_of (length t.functions)))) (lookup t.names name)) g ∙ f

          others : (name : List ℕ) (e : Entry) → ((name ≡ h.name.name) × (e ≡ entry.Function (number_of (length t.functions)))) ⊎ (lookup t.names name ≡ Some e) → (name ≡ h.name.name) ⊎ (lookup t.names name ≡ Some e)
          others name e (inl f) = inl f.0
          others name e (inr f) = inr f
      pick (Some e) old =
          let found = is.back h.name.name e old in
          record {
            extended = record { heads = hs; table = is; before = λ i x g. g; kept = λ name e' g. g };
            only = λ name e' g. inr g;
            place = found.0;
            first = found.1;
            named = old ∙ ap Some found.2;
            here = found.3;
            same = found.4;
            is_first = λ none. absurd (cc);
          }

  -- an external declaration
  abbrev pub external_entered : (t : Table) (hs : List FunctionHead) → IsTable bodies t hs → length t.functions < 4294967296 → (x : External) → Extended bodies t (entered bodies t x) hs
  external_entered t hs is few (external.Struct p tag members) = record { heads = hs; table = is; before = λ i x g. g; kept = λ name e g. g }
  external_entered t hs is few (external.Mirror p tag x) = record { heads = hs; table = is; before = λ i x g. g; kept = λ name e g. g }
  external_entered t hs is few (external.Bound p ty x) = record { heads = hs; table = is; before = λ i x g. g; kept = λ name e g. g }
  external_entered t hs is few (external.Function head) = (head_entered t hs is few head).extended
  external_entered t hs is few (external.Definition head body) = (head_entered t hs is few head).extended
  external_entered t hs is few (external.Objects g) = record { heads = hs; table = is; before = λ i x g. g; kept = λ name e g. g }

  head_longer : (t : Table) (h : FunctionHead) → length t.functions ≤ length (entered_head bodies t h).functions
  head_longer t h = pick (lookup t.names h.name.name)
    where
      pick : (o : Option Entry) → length t.functions ≤ length (added_if o bodies t h).functions
      pick None = let e = length_end t.functions (without_body h) in omega (arith, e)
      pick (Some e) = omega arith

  external_longer : (t : Table) (x : External) → length t.functions ≤ length (entered bodies t x).functions
  external_longer t (external.Struct p tag members) = omega arith
  external_longer t (external.Mirror p tag x) = omega arith
  external_longer t (external.Bound p ty x) = omega arith
  external_longer t (external.Function head) = head_longer t head
  external_longer t (external.Definition head body) = head_longer t head
  external_longer t (external.Objects g) = omega arith

  pub table_longer : (xs : List External) (t : Table) → length t.functions ≤ length (fold (entered bodies) t xs).functions
  table_longer [] t = omega arith
  table_longer (x ∷ xs) t = let a = external_longer t x in let b = table_longer xs (entered bodies t x) in omega (arith, a, b)

  pub all_entered : (xs : List External) (t : Table) (hs : List FunctionHead) → IsTable bodies t hs → length (fold (entered bodies) t xs).functions < 4294967296 → Extended bodies t (fold (entered bodies) t xs) hs
  all_entered [] t hs is few = record { heads = hs; table = is; before = λ i x g. g; kept = λ name e g. g }
  all_entered (x ∷ xs) t hs is few =
      let longer = table_longer (x ∷ xs) t in
      let one = external_entered t hs is (omega (arith, longer, few)) x in
      let rest = all_entered xs (entered bodies t x) one.heads one.table few in
      record {
        heads = rest.heads;
        table = rest.table;
        before = prefix_then hs one.heads rest.heads one.before rest.before;
        kept = λ name e g. rest.kept name e (one.kept name e g);
      }

  -- a function with a body is in the table
  pub defined_named : (xs : List External) (t : Table) (hs : List FunctionHead) → IsTable bodies t hs → length (fold (entered bodies) t xs).functions < 4294967296 → (i : ℕ) (head : FunctionHead) (body : Block) →
      slice_get xs i ≡ Some (external.Definition head body) → (e : Entry) × (lookup (fold (entered bodies) t xs).names head.name.name ≡ Some e)
  defined_named [] t hs is few i head body h = absurd (cc)
  defined_named (x ∷ xs) t hs is few zero head body h =
      let longer = table_longer (x ∷ xs) t in
      let e : x ≡ external.Definition head body = cc in
      let one = head_entered t hs is (omega (arith, longer, few)) head in
      let small : length (fold (entered bodies) (entered_head bodies t head) xs).functions < 4294967296 = subst (λ y. length (fold (entered bodies) (entered bodies t y) xs).functions < 4294967296) e few in
      let rest = all_entered xs (entered_head bodies t head) one.extended.heads one.extended.table small in
      (entry.Function one.place, ap (λ y. lookup (fold (entered bodies) (entered bodies t y) xs).names head.name.name) e ∙ rest.kept head.name.name (entry.Function one.place) one.named)
  defined_named (x ∷ xs) t hs is few (suc i) head body h =
      let longer = table_longer (x ∷ xs) t in
      let one = external_entered t hs is (omega (arith, longer, few)) x in
      defined_named xs (entered bodies t x) one.heads one.table few i head body h

  pub nothing_entered : IsTable bodies no_functions []
  nothing_entered = record { functions = refl; signatures = refl; one = ([], refl); there = λ n h e. absurd (cc); back = λ name e f. absurd (cc) }

-- a text gives a function of this name a body
abbrev pub Defines : List External → List ℕ → Type 0
Defines xs name = (i : ℕ) × (head : FunctionHead) × (body : Block) × (slice_get xs i ≡ Some (external.Definition head body)) × (head.name.name ≡ name)

later : (x : External) (xs : List External) (name : List ℕ) → Defines xs name → Defines (x ∷ xs) name
later x xs name d = (suc d.0, d.1, d.2, d.3, d.4)

-- a name with a body is that of a definition
pub body_defined : (xs : List External) (env : List Scope) → IsOne env → (name : List ℕ) → is_some (lookup (fold with_body env xs) name) ≡ true → (is_some (lookup env name) ≡ true) ⊎ Defines xs name
body_defined [] env one name h = inl h
body_defined (x ∷ xs) env one name h = pick x (λ ss single g. body_defined xs ss single name g) h
  where
    same : (y : External) → ((ss : List Scope) → IsOne ss → is_some (lookup (fold with_body ss xs) name) ≡ true → (is_some (lookup ss name) ≡ true) ⊎ Defines xs name) →
        is_some (lookup (fold with_body env xs) name) ≡ true → (is_some (lookup env name) ≡ true) ⊎ Defines (y ∷ xs) name
    same y rest g = onward (rest env one g)
      where
        onward : (is_some (lookup env name) ≡ true) ⊎ Defines xs name → (is_some (lookup env name) ≡ true) ⊎ Defines (y ∷ xs) name
        onward (inl e) = inl e
        onward (inr d) = inr (later y xs name d)

    pick : (y : External) → ((ss : List Scope) → IsOne ss → is_some (lookup (fold with_body ss xs) name) ≡ true → (is_some (lookup ss name) ≡ true) ⊎ Defines xs name) →
        is_some (lookup (fold with_body (with_body env y) xs) name) ≡ true → (is_some (lookup env name) ≡ true) ⊎ Defines (y ∷ xs) name
    pick (external.Struct p tag members) rest g = same (external.Struct p tag members) rest g
    pick (external.Mirror p tag z) rest g = same (external.Mirror p tag z) rest g
    pick (external.Bound p ty z) rest g = same (external.Bound p ty z) rest g
    pick (external.Function head) rest g = same (external.Function head) rest g
    pick (external.Objects os) rest g = same (external.Objects os) rest g
    pick (external.Definition head body) rest g = onward (rest (declare env head.name.name (entry.Function 0)) (one_with env one head.name.name (entry.Function 0)) g)
      where
        here : (q : Bool) → bytes_eq name head.name.name ≡ q → is_some (cond q (Some (entry.Function 0)) (lookup env name)) ≡ true → (is_some (lookup env name) ≡ true) ⊎ Defines (external.Definition head body ∷ xs) name
        here true e f = inr (0, head, body, refl, sym (are_same name head.name.name e))
        here false e f = inl f

        onward : (is_some (lookup (declare env head.name.name (entry.Function 0)) name) ≡ true) ⊎ Defines xs name → (is_some (lookup env name) ≡ true) ⊎ Defines (external.Definition head body ∷ xs) name
        onward (inl e) = here (bytes_eq name head.name.name) refl (ap is_some (sym (lookup_with env one head.name.name (entry.Function 0) name)) ∙ e)
        onward (inr d) = inr (later (external.Definition head body) xs name d)

pub bodies_defined : (xs : List External) (name : List ℕ) → is_some (lookup (bodies_of xs) name) ≡ true → Defines xs name
bodies_defined xs name h = pick (body_defined xs ([] ∷ []) ([], refl) name h)
  where
    pick : (is_some (lookup ([] ∷ []) name) ≡ true) ⊎ Defines xs name → Defines xs name
    pick (inl e) = absurd (cc)
    pick (inr d) = d

-- and so is `main`
pub main_defined : (xs : List External) → has_main xs ≡ true → Defines xs main_name
main_defined [] h = absurd (cc)
main_defined (x ∷ xs) h = pick x (defines_main x) refl (λ g. main_defined xs g) h
  where
    pick : (y : External) (q : Bool) → defines_main y ≡ q → (has_main xs ≡ true → Defines xs main_name) → q || has_main xs ≡ true → Defines (y ∷ xs) main_name
    pick y false e rest g = later y xs main_name (rest g)
    pick (external.Struct p tag members) true e rest g = absurd (cc)
    pick (external.Mirror p tag z) true e rest g = absurd (cc)
    pick (external.Bound p ty z) true e rest g = absurd (cc)
    pick (external.Function head) true e rest g = absurd (cc)
    pick (external.Objects os) true e rest g = absurd (cc)
    pick (external.Definition head body) true e rest g = (0, head, body, refl, are_same head.name.name main_name e)
