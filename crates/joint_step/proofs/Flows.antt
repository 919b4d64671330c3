-- How a machine's stretches follow one another, where a stretch may leave a list, a loop or a switch.
use Rattle.std.proofs.Common.{◌≡◌, ◌+◌, ◌<◌, ◌≤◌, ℕ, zero, suc, Bool, false, List, ◌∷◌, length, drop, refl, sym, ap, subst, ◌∙◌}
use Rattle.std.specs.Prelude.{ℤ, pos, negsuc, Option, Some, None, Result, Ok, Err, IfOk, get_or, if◌then◌else◌}
use Rattle.std.proofs.lemmas.List.{append-nil, drop_more, at_drop_all}
use Rattle.joint_ir.specs.declared.expr.TExpr.{TExpr}
use Rattle.joint_ir.specs.declared.event.Outcome.TheVariants.{Broken}
use Rattle.joint_ir.specs.declared.pair.Pair.{Pair}
use Rattle.joint_ir.specs.declared.program.PropId.{PropId}
use Rattle.joint_ir.specs.declared.stmt.Group.{Group, out-Group}
use Rattle.joint_ir.specs.declared.stmt.TStmt.{TStmt}
use Rattle.joint_ir.specs.Values.{Answer, Value, Fault, value_of, is_zero}
use Rattle.joint_ir.specs.Effects.{Effect, Onward, nothing, Goes, then_do, after_groups, with_value}
use Rattle.joint_ir.specs.declared.way.Way.TheVariants.{Next, Returning}
use Rattle.joint_ir.specs.Steps.{Setting, Calls, rows_in, returning}
use Rattle.joint_ir.specs.Statements.{after, at_entry}
use Rattle.joint_ir.specs.declared.event.Event.{Event}
use Rattle.joint_view.specs.Halts.{only_seen}
use Rattle.joint_view.specs.declared.halt.Halt.{Halt}
use Rattle.joint_view.specs.declared.halt.Halt.TheVariants as halt
use Rattle.joint_machine.specs.declared.machine.Machine.{Machine}
use Rattle.joint_ir.specs.declared.way.Way.{Way}
use Rattle.joint_ir.specs.declared.way.Way.TheVariants as way
use Rattle.joint_machine.specs.Moments.{state_of, left_of, told_of, Halts, Shows, Does, IsKept, IsReady, from_here}
use Rattle.joint_machine.proofs.Flow.{onward, then_law, groups_law, then_passes, then_halts, halts_groups, nothing_done}
use Rattle.joint_lists.specs.Lists.{after_items, after_option, after_cases, entered_case}
use Rattle.joint_lists.proofs.Rows.{chosen, switched}
use Rattle.joint_step.specs.Parts.{other_way}

-- ---- the same stretch, and one that begins as another

pub does_as : (r : Result Way Halt) (old new : Machine) (f g : Onward) → f ≡ g → Does r old new g → Does r old new f
does_as r old new f g e d = subst (λ (h : Onward). Does r old new h) (sym e) d

pub does_after : (r : Result Way Halt) (old mid new : Machine) (f g : Onward) → from_here old f ≡ from_here mid g → Does r mid new g → Does r old new f
does_after r old mid new f g e d = subst (λ (x : Effect). Shows r new x) (sym e) d

-- ---- what is kept

pub kept_then : (a b c : Machine) → IsKept a b → IsKept b c → IsKept a c
kept_then a b c h i = record { choices = i.choices ∙ h.choices; standing = i.standing ∙ h.standing }

pub goes_then : {A : Type 0} (r : Result A Halt) (p : Pair) (old mid new : Machine) → IsKept old mid →
    IfOk r (λ _. IsKept mid new × IsReady p new) → IfOk r (λ _. IsKept old new × IsReady p new)
goes_then (Ok x) p old mid new h i = (kept_then old mid new h i.0, i.1)
goes_then (Err e) p old mid new h i = tt

pub goes_both : {A : Type 0} (r : Result A Halt) (p : Pair) (old new : Machine) → IsKept old new → IfOk r (λ _. IsReady p new) → IfOk r (λ _. IsKept old new × IsReady p new)
goes_both (Ok x) p old new h i = (h, i)
goes_both (Err e) p old new h i = tt

-- ---- values

pub value_goes : (m : Machine) (a : Answer) (n : ℤ) (go : ℤ → Onward) → a ≡ Value n → from_here m (λ s c. with_value a c (λ n. go n s c)) ≡ from_here m (go n)
value_goes m a n go e = ap (λ (x : Answer). from_here m (λ s c. with_value x c (λ n. go n s c))) e

pub value_halts : (h : Halt) (m : Machine) (a : Answer) (p : PropId) (go : ℤ → Onward) → h ≡ halt.Stop (Broken p) → a ≡ Fault p →
    Halts h m (from_here m (λ s c. with_value a c (λ n. go n s c)))
value_halts h m a p go is e =
    subst (λ (h' : Halt). Halts h' m (from_here m (λ s c. with_value a c (λ n. go n s c)))) (sym is)
    (ap (λ (x : Answer). from_here m (λ s c. with_value x c (λ n. go n s c))) e)

not_zero : (n : ℤ) → (n ≡ pos 0 → ⊥) → is_zero n ≡ false
not_zero (pos zero) h = absurd (h refl)
not_zero (pos (suc n)) h = refl
not_zero (negsuc n) h = refl

-- ---- an `if`

module _ (k : Setting) (calls : Calls) (m : Machine) (e : TExpr) (a : TStmt) (other : Option TStmt) where
  abbrev branches : ℤ → Onward
  branches n s c = if is_zero n then after_option k calls other s c else after k calls a.place a.node s c

  pub if_zero : (r : Result Way Halt) (new : Machine) (n : ℤ) → value_of (rows_in k (state_of m)) e ≡ Value n → n ≡ pos 0 →
      Does r m new (after_option k calls other) → Does r m new (chosen k calls e a other)
  if_zero r new n is zero_ d =
      does_after r m m new (chosen k calls e a other) (after_option k calls other)
      (value_goes m (value_of (rows_in k (state_of m)) e) n branches is ∙ ap (λ (x : ℤ). from_here m (branches x)) zero_) d

  pub if_other : (r : Result Way Halt) (new : Machine) (n : ℤ) → value_of (rows_in k (state_of m)) e ≡ Value n → (n ≡ pos 0 → ⊥) →
      Does r m new (after k calls a.place a.node) → Does r m new (chosen k calls e a other)
  if_other r new n is other_ d =
      does_after r m m new (chosen k calls e a other) (after k calls a.place a.node)
      (value_goes m (value_of (rows_in k (state_of m)) e) n branches is
      ∙ ap (λ (b : Bool). from_here m (λ s c. if b then after_option k calls other s c else after k calls a.place a.node s c)) (not_zero n other_)) d

  pub if_halts : (h : Halt) (p : PropId) → h ≡ halt.Stop (Broken p) → value_of (rows_in k (state_of m)) e ≡ Fault p →
      Halts h m (from_here m (chosen k calls e a other))
  if_halts h p is fault = value_halts h m (value_of (rows_in k (state_of m)) e) p branches is fault

-- ---- a switch

module _ (k : Setting) (calls : Calls) (m : Machine) (e : TExpr) (groups : List Group) where
  abbrev from_entry : ℤ → Onward
  from_entry n s c = at_entry (entered_case n groups) (λ i. after_cases k calls (drop i groups)) s c

  pub switch_none : (n : ℤ) → value_of (rows_in k (state_of m)) e ≡ Value n → entered_case n groups ≡ None →
      from_here m (switched k calls e groups) ≡ Goes Next (state_of m) (told_of m) (left_of m)
  switch_none n is none =
      value_goes m (value_of (rows_in k (state_of m)) e) n from_entry is
      ∙ ap (λ (o : Option ℕ). from_here m (λ s c. at_entry o (λ i. after_cases k calls (drop i groups)) s c)) none
      ∙ nothing_done m

  pub switch_some : (r : Result Way Halt) (new : Machine) (n : ℤ) (i : ℕ) → value_of (rows_in k (state_of m)) e ≡ Value n → entered_case n groups ≡ Some i →
      Does r m new (λ s c. after_groups (after_cases k calls (drop i groups) s c)) → Does r m new (switched k calls e groups)
  switch_some r new n i is some d =
      does_after r m m new (switched k calls e groups) (λ s c. after_groups (after_cases k calls (drop i groups) s c))
      (value_goes m (value_of (rows_in k (state_of m)) e) n from_entry is
      ∙ ap (λ (o : Option ℕ). from_here m (λ s c. at_entry o (λ i. after_cases k calls (drop i groups)) s c)) some) d

  pub switch_halts : (h : Halt) (p : PropId) → h ≡ halt.Stop (Broken p) → value_of (rows_in k (state_of m)) e ≡ Fault p →
      Halts h m (from_here m (switched k calls e groups))
  switch_halts h p is fault = value_halts h m (value_of (rows_in k (state_of m)) e) p from_entry is fault

-- behind the groups: `break` leaves the switch
pub groups_done : (w : Way) (old new : Machine) (f : Onward) → from_here old f ≡ Goes w (state_of new) (told_of new) (left_of new) →
    from_here old (λ s c. after_groups (f s c)) ≡ after_groups (Goes w (state_of new) (told_of new) (left_of new))
groups_done w old new f e = groups_law (told_of old) (f (state_of old) (left_of old)) ∙ ap (λ (x : Effect). after_groups x) e

pub groups_halt : (h : Halt) (old new : Machine) (f : Onward) → Halts h new (from_here old f) → Halts h new (from_here old (λ s c. after_groups (f s c)))
groups_halt h old new f p =
    subst (λ (x : Effect). Halts h new x) (sym (groups_law (told_of old) (f (state_of old) (left_of old)))) (halts_groups h new (from_here old f) p)

-- ---- a return

pub returned_gone : (m : Machine) (v w : ℤ) → v ≡ w →
    from_here m (λ s c. Goes Returning (returning s v) nothing c) ≡ Goes Returning (returning (state_of m) w) (told_of m) (left_of m)
returned_gone m v w is =
    ap (λ (es : List Event). Goes Returning (returning (state_of m) v) (only_seen es) (left_of m)) (append-nil m.events.items)
    ∙ ap (λ (x : ℤ). Goes Returning (returning (state_of m) x) (told_of m) (left_of m)) is

-- ---- what follows a stretch that goes another way

abbrev pub is_there : Option Way → Type 0
is_there None = ⊥
is_there (Some w) = Unit {0}

abbrev pub way_or : Way → Option Way → Way
way_or d None = d
way_or d (Some w) = w

pub then_leaves : (w v : Way) (old new : Machine) (f go : Onward) → other_way w ≡ Some v →
    from_here old f ≡ Goes w (state_of new) (told_of new) (left_of new) →
    from_here old (λ s c. then_do (f s c) go) ≡ Goes v (state_of new) (told_of new) (left_of new)
then_leaves way.Next v old new f go other e = absurd (subst is_there (sym other) tt)
then_leaves way.Breaking v old new f go other e =
    then_law (told_of old) (f (state_of old) (left_of old)) go ∙ ap (λ (x : Effect). then_do x (onward go)) e
    ∙ ap (λ (u : Way). Goes u (state_of new) (told_of new) (left_of new)) (ap (way_or v) other)
then_leaves way.Continuing v old new f go other e =
    then_law (told_of old) (f (state_of old) (left_of old)) go ∙ ap (λ (x : Effect). then_do x (onward go)) e
    ∙ ap (λ (u : Way). Goes u (state_of new) (told_of new) (left_of new)) (ap (way_or v) other)
then_leaves way.Returning v old new f go other e =
    then_law (told_of old) (f (state_of old) (left_of old)) go ∙ ap (λ (x : Effect). then_do x (onward go)) e
    ∙ ap (λ (u : Way). Goes u (state_of new) (told_of new) (left_of new)) (ap (way_or v) other)

pub passes_next : (w : Way) (old new : Machine) (f : Onward) → other_way w ≡ None → from_here old f ≡ Goes w (state_of new) (told_of new) (left_of new) →
    from_here old f ≡ Goes Next (state_of new) (told_of new) (left_of new)
passes_next way.Next old new f is e = e
passes_next way.Breaking old new f is e = absurd (subst is_there is tt)
passes_next way.Continuing old new f is e = absurd (subst is_there is tt)
passes_next way.Returning old new f is e = absurd (subst is_there is tt)

-- ---- statements one after another

module _ (k : Setting) (calls : Calls) (items : List TStmt) (i : ℕ) (x : TStmt) (old m : Machine) (lt : i < length items) (is : x ≡ get_or items i x)
    (so_far : from_here old (after_items k calls items) ≡ from_here m (after_items k calls (drop i items))) where
  items_now : from_here old (after_items k calls items) ≡ from_here m (λ s c. then_do (after k calls x.place x.node s c) (after_items k calls (drop (i + 1) items)))
  items_now = so_far ∙ ap (λ (l : List TStmt). from_here m (after_items k calls l)) (drop_more items i x lt ∙ ap (λ y. y ∷ drop (i + 1) items) (sym is))

  pub items_step : (w : Way) (new : Machine) → other_way w ≡ None → from_here m (after k calls x.place x.node) ≡ Goes w (state_of new) (told_of new) (left_of new) →
      from_here old (after_items k calls items) ≡ from_here new (after_items k calls (drop (i + 1) items))
  items_step w new next e =
      items_now ∙ then_passes m new (after k calls x.place x.node) (after_items k calls (drop (i + 1) items)) (passes_next w m new (after k calls x.place x.node) next e)

  pub items_leave : (w v : Way) (new : Machine) → other_way w ≡ Some v → from_here m (after k calls x.place x.node) ≡ Goes w (state_of new) (told_of new) (left_of new) →
      from_here old (after_items k calls items) ≡ Goes v (state_of new) (told_of new) (left_of new)
  items_leave w v new other e = items_now ∙ then_leaves w v m new (after k calls x.place x.node) (after_items k calls (drop (i + 1) items)) other e

  pub items_halt : (h : Halt) (new : Machine) → Halts h new (from_here m (after k calls x.place x.node)) → Halts h new (from_here old (after_items k calls items))
  items_halt h new p =
      subst (λ (e : Effect). Halts h new e) (sym items_now) (then_halts h m new (after k calls x.place x.node) (after_items k calls (drop (i + 1) items)) p)

pub items_done : (k : Setting) (calls : Calls) (items : List TStmt) (i : ℕ) (old m : Machine) → length items ≤ i →
    from_here old (after_items k calls items) ≡ from_here m (after_items k calls (drop i items)) →
    from_here old (after_items k calls items) ≡ Goes Next (state_of m) (told_of m) (left_of m)
items_done k calls items i old m le so_far = so_far ∙ at_drop_all (λ (l : List TStmt). from_here m (after_items k calls l)) items i le ∙ nothing_done m

-- ---- the groups of a switch, one after another

module _ (k : Setting) (calls : Calls) (groups : List Group) (from i : ℕ) (g : Group) (body : List TStmt) (old m : Machine) (lt : i < length groups) (is : g ≡ get_or groups i g)
    (its : body ≡ (out-Group g).body) (so_far : from_here old (after_cases k calls (drop from groups)) ≡ from_here m (after_cases k calls (drop i groups))) where
  cases_now : from_here old (after_cases k calls (drop from groups)) ≡ from_here m (λ s c. then_do (after_items k calls body s c) (after_cases k calls (drop (i + 1) groups)))
  cases_now = so_far ∙ ap (λ (l : List Group). from_here m (after_cases k calls l)) (drop_more groups i g lt ∙ ap (λ y. y ∷ drop (i + 1) groups) (sym is))
      ∙ ap (λ (l : List TStmt). from_here m (λ s c. then_do (after_items k calls l s c) (after_cases k calls (drop (i + 1) groups)))) (sym its)

  pub cases_step : (w : Way) (new : Machine) → other_way w ≡ None → from_here m (after_items k calls body) ≡ Goes w (state_of new) (told_of new) (left_of new) →
      from_here old (after_cases k calls (drop from groups)) ≡ from_here new (after_cases k calls (drop (i + 1) groups))
  cases_step w new next e =
      cases_now ∙ then_passes m new (after_items k calls body) (after_cases k calls (drop (i + 1) groups)) (passes_next w m new (after_items k calls body) next e)

  pub cases_leave : (w v : Way) (new : Machine) → other_way w ≡ Some v → from_here m (after_items k calls body) ≡ Goes w (state_of new) (told_of new) (left_of new) →
      from_here old (after_cases k calls (drop from groups)) ≡ Goes v (state_of new) (told_of new) (left_of new)
  cases_leave w v new other e = cases_now ∙ then_leaves w v m new (after_items k calls body) (after_cases k calls (drop (i + 1) groups)) other e

  pub cases_halt : (h : Halt) (new : Machine) → Halts h new (from_here m (after_items k calls body)) → Halts h new (from_here old (after_cases k calls (drop from groups)))
  cases_halt h new p =
      subst (λ (e : Effect). Halts h new e) (sym cases_now) (then_halts h m new (after_items k calls body) (after_cases k calls (drop (i + 1) groups)) p)

pub cases_done : (k : Setting) (calls : Calls) (groups : List Group) (from i : ℕ) (old m : Machine) → length groups ≤ i →
    from_here old (after_cases k calls (drop from groups)) ≡ from_here m (after_cases k calls (drop i groups)) →
    from_here old (after_cases k calls (drop from groups)) ≡ Goes Next (state_of m) (told_of m) (left_of m)
cases_done k calls groups from i old m le so_far = so_far ∙ at_drop_all (λ (l : List Group). from_here m (after_cases k calls l)) groups i le ∙ nothing_done m
