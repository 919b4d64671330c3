-- Statements one after another.
use Rattle.std.proofs.Common.{◌≡◌, ℕ, zero, suc, List, [], ◌∷◌, take, drop, refl, sym, ap, subst}
use Rattle.std.specs.Prelude.{Contains, Option, Some, None}
use Rattle.std.proofs.lemmas.List.Elements.{Contains-append_right}
use Rattle.joint_ir.specs.declared.ctype.IntType.{IntType}
use Rattle.joint_ir.specs.declared.stmt.SNode.{SNode, Declare}
use Rattle.joint_ir.specs.declared.stmt.TStmt.{TStmt}
use Rattle.joint_ir.specs.declared.way.Way.{Way}
use Rattle.joint_ir.specs.declared.way.Way.TheVariants.{Next, Breaking, Continuing, Returning}
use Rattle.joint_ir.specs.Effects.{Effect, Told, nothing, Goes, Stops, TooFew, Onward, preceded, then_do}
use Rattle.joint_ir.specs.States.{JointState}
use Rattle.joint_ir.specs.Statements.{after}
use Rattle.joint_ir.specs.Steps.{Calls}
use Rattle.joint_ir.specs.WellFormed.{Scope, FitsStmt, with_scope_locals, declared_behind}
use Rattle.joint_lists.specs.Lists.{after_items, FitsItems}
use Rattle.unrolled.specs.declared.Unrolled.{Unrolled}
use Rattle.trails.specs.Following.{goes}
use Rattle.trails.proofs.Ways.{IsAfter, preceded_twice, preceded_nothing}
use Rattle.unwind_state.specs.declared.state.Flow.{Flow}
use Rattle.unwind_state.specs.declared.state.Guard.{Guard}
use Rattle.unwind_state.specs.declared.state.State.{State}
use Rattle.unwind_state.specs.Guards.{HasFlow, flow_at, IsFlow, bits_of, merge_of}
use Rattle.unwind_state.specs.Images.{Image, IsState, IsSettled, HasReturned, IsBehind}
use Rattle.unwind_state.specs.Unwinding.{Grows, Unwinds}
use Rattle.unwind_state.specs.Writing.{HasObjects, HasResult}
use Rattle.unwind_state.proofs.Stretches.{unwinds_as, unwinds_mapped, chain, begun}
use Rattle.unwind_simple.specs.declared.simple.Activation.{Activation}
use Rattle.unwind_simple.specs.Simple.{setting_of, calls_in, result_in, is_in}
use Rattle.unwind_blocks.specs.Blocks.{IsUnwound, behind_items, between}

-- how a run goes on behind the first of some statements
abbrev pub rest_out : Onward → Way → Onward
rest_out go Next s c = go s c
rest_out go Breaking s c = Goes Breaking s nothing c
rest_out go Continuing s c = Goes Continuing s nothing c
rest_out go Returning s c = Goes Returning s nothing c

pub then_after : (go : Onward) → IsAfter (λ e. then_do e go)
then_after go = record { stops = λ o told c. refl; precedes = precedes }
  where
    precedes : (told : Told) (e : Effect) → then_do (preceded told e) go ≡ preceded told (then_do e go)
    precedes told (Goes Next s more c) = sym (preceded_twice told more (go s c))
    precedes told (Goes Breaking s more c) = refl
    precedes told (Goes Continuing s more c) = refl
    precedes told (Goes Returning s more c) = refl
    precedes told (Stops o more c) = refl
    precedes told TooFew = refl

pub then_outs : (go : Onward) (way : Way) (s : JointState) (c : List ℕ) → then_do (goes way s c) go ≡ rest_out go way s c
then_outs go Next s c = preceded_nothing (go s c)
then_outs go Breaking s c = refl
then_outs go Continuing s c = refl
then_outs go Returning s c = refl

pub rest_goes : (way : Way) (s : JointState) (c : List ℕ) → rest_out (goes Next) way s c ≡ goes way s c
rest_goes Next s c = refl
rest_goes Breaking s c = refl
rest_goes Continuing s c = refl
rest_goes Returning s c = refl

pub rest_leaves : (go go' : Onward) (way : Way) (s : JointState) (c : List ℕ) → (way ≡ Next → ⊥) → rest_out go way s c ≡ rest_out go' way s c
rest_leaves go go' Next s c isnt = absurd (isnt refl)
rest_leaves go go' Breaking s c isnt = refl
rest_leaves go go' Continuing s c isnt = refl
rest_leaves go go' Returning s c isnt = refl

-- what is declared behind statements

abbrev pub scope_behind : Scope → List TStmt → Scope
scope_behind c items = with_scope_locals c (behind_items items c.locals)

pub declares : (node : SNode) (xs : List ℕ) (j : ℕ) → Contains xs j → Contains (declared_behind node xs) j
declares (Declare x init) xs j h = Contains-append_right (x ∷ []) xs j h
declares _ xs j h = h

pub items_declare : (items : List TStmt) (xs : List ℕ) (j : ℕ) → Contains xs j → Contains (behind_items items xs) j
items_declare [] xs j h = h
items_declare (x ∷ items) xs j h = items_declare items (declared_behind x.node xs) j (declares x.node xs j h)

no_item : (x : TStmt) (l : List TStmt) → [] ≡ x ∷ l → ⊥
no_item x l e = cc

same_item : (y x : TStmt) (l m : List TStmt) → y ∷ l ≡ x ∷ m → y ≡ x
same_item y x l m e = cc

one_more : (items : List TStmt) (i : ℕ) (x : TStmt) (xs : List ℕ) → drop i items ≡ x ∷ drop (suc i) items → behind_items (take (suc i) items) xs ≡ declared_behind x.node (behind_items (take i items) xs)
one_more [] zero x xs e = absurd (no_item x [] e)
one_more [] (suc i) x xs e = absurd (no_item x [] e)
one_more (y ∷ items) zero x xs e = ap (λ (z : TStmt). declared_behind z.node xs) (same_item y x items items e)
one_more (y ∷ items) (suc i) x xs e = one_more items i x (declared_behind y.node xs) e

all_taken : (items : List TStmt) (i : ℕ) → drop i items ≡ [] → take i items ≡ items
all_taken [] zero e = refl
all_taken [] (suc i) e = refl
all_taken (x ∷ items) zero e = absurd (no_item x items (sym e))
all_taken (x ∷ items) (suc i) e = ap (λ (l : List TStmt). x ∷ l) (all_taken items i e)

pub fits_behind : (items : List TStmt) (i : ℕ) (c : Scope) → FitsItems c items → FitsItems (scope_behind c (take i items)) (drop i items)
fits_behind [] zero c h = tt
fits_behind [] (suc i) c h = tt
fits_behind (x ∷ items) zero c h = h
fits_behind (x ∷ items) (suc i) c h = fits_behind items i (with_scope_locals c (declared_behind x.node c.locals)) h.1

module _ (a : Activation) where
  abbrev pub fixed : Image → Type 0
  fixed = IsSettled a.pair.now

  abbrev pub state : List ℕ → Image → JointState → Type 0
  state visible = IsState a.pair.now visible

  abbrev pub behind : List ℕ → Way → Image → JointState → Type 0
  behind visible = IsBehind a.pair.now visible (result_in a)

  -- fewer locals
  pub fewer : (few many : List ℕ) → ((j : ℕ) → Contains few j → Contains many j) → (way : Way) (x : Image) (s : JointState) → behind many way x s → behind few way x s
  fewer few many sub way x s h = record {
    state = record {
      globals = h.state.globals;
      locals = λ j q. h.state.locals j (sub j q);
      members = h.state.members;
      global_count = h.state.global_count;
      local_count = h.state.local_count;
      member_count = h.state.member_count;
      local_lengths = h.state.local_lengths;
      registers = h.state.registers;
      inputs = h.state.inputs;
      wires = h.state.wires;
      edges = h.state.edges;
    };
    returned = h.returned;
  }

  pub into : (outer inner : List ℕ) → ((j : ℕ) → Contains outer j → Contains inner j) → (way : Way) (x : Image) (s : JointState) → behind inner way x s → between a outer inner way x s
  into outer inner sub Next x s h = h
  into outer inner sub Breaking x s h = fewer outer inner sub Breaking x s h
  into outer inner sub Continuing x s h = fewer outer inner sub Continuing x s h
  into outer inner sub Returning x s h = fewer outer inner sub Returning x s h

  pub out_of : (outer inner : List ℕ) → ((j : ℕ) → Contains outer j → Contains inner j) → (way : Way) (x : Image) (s : JointState) → between a outer inner way x s → behind outer way x s
  out_of outer inner sub Next x s h = fewer outer inner sub Next x s h
  out_of outer inner sub Breaking x s h = h
  out_of outer inner sub Continuing x s h = h
  out_of outer inner sub Returning x s h = h

  left_so : (outer inner inner' : List ℕ) (way : Way) (x : Image) (s : JointState) → (way ≡ Next → ⊥) → between a outer inner way x s → between a outer inner' way x s
  left_so outer inner inner' Next x s isnt h = absurd (isnt refl)
  left_so outer inner inner' Breaking x s isnt h = h
  left_so outer inner inner' Continuing x s isnt h = h
  left_so outer inner inner' Returning x s isnt h = h

  nothing_returned : (t : Option IntType) (x : Image) (s : JointState) → HasReturned t Next x s
  nothing_returned None x s = tt
  nothing_returned (Some t) x s = tt

  pub stays : (visible : List ℕ) (x : Image) (s : JointState) → state visible x s → behind visible Next x s
  stays visible x s h = record { state = h; returned = nothing_returned (result_in a) x s }

  -- what calls do
  abbrev pub calls : Calls
  calls = calls_in a

  -- what statements do
  abbrev pub items_do : List TStmt → Onward
  items_do items = after_items (setting_of a) (calls_in a) items

  -- statements are left behind those that were unwound
  abbrev pub LeftOver : (n0 n : Unrolled) (s0 s : State) (items : List TStmt) (i : ℕ) (g : Guard) (ways : Flow) → Scope → Type 0
  LeftOver n0 n s0 s items i g ways c =
      Unwinds fixed n0 n s0 s (λ v. items_do items) g ways (state c.locals) (between a c.locals (behind_items (take i items) c.locals)) (rest_out (items_do (drop i items)))

  pub left_first : (n : Unrolled) (s : State) (items : List TStmt) (g : Guard) (c : Scope) → LeftOver n n s s items 0 g (flow_at Next g) c
  left_first n s items g c = begun fixed n s Next g (state c.locals) (between a c.locals (behind_items (take 0 items) c.locals)) (rest_out (items_do (drop 0 items))) (stays c.locals)

  pub left_more : (n0 n1 n2 n3 : Unrolled) (s0 s1 s2 : State) (items : List TStmt) (i : ℕ) (x : TStmt) (g : Guard) (ways f ways' : Flow) (c : Scope) → drop i items ≡ x ∷ drop (suc i) items → is_in a c → FitsItems c items →
      LeftOver n0 n1 s0 s1 items i g ways c →
      ((d : Scope) → is_in a d → FitsStmt d x.node → IsUnwound a n1 n2 s1 s2 ways.next f d.locals (declared_behind x.node d.locals) (after (setting_of a) calls x.place x.node)) →
      IsFlow n2 n3 ways' (λ v way. merge_of way (bits_of v ways way) (bits_of v f way)) → LeftOver n0 n3 s0 s2 items (suc i) g ways' c
  left_more n0 n1 n2 n3 s0 s1 s2 items i x g ways f ways' c here inside fits A D E =
      let inner : List ℕ = behind_items (take i items) c.locals in
      let next : List ℕ = declared_behind x.node inner in
      let go : Onward = items_do (drop (suc i) items) in
      let one : Onward = after (setting_of a) calls x.place x.node in
      let sub : (j : ℕ) → Contains c.locals j → Contains next j = λ j h. declares x.node inner j (items_declare (take i items) c.locals j h) in
      let F : FitsItems (scope_behind c (take i items)) (x ∷ drop (suc i) items) = subst (FitsItems (scope_behind c (take i items))) here (fits_behind items i c fits) in
      let B = (D (scope_behind c (take i items)) inside F.0).does in
      let A' = subst (λ (l : List TStmt). Unwinds fixed n0 n1 s0 s1 (λ v. items_do items) g ways (state c.locals) (between a c.locals inner) (rest_out (items_do l))) here A in
      let M = unwinds_mapped fixed (λ e. then_do e go) (then_after go) n1 n2 s1 s2 (λ v. one) ways.next f (state inner) (behind next) goes B in
      let M' = unwinds_as fixed n1 n2 s1 s2 (λ v s c. then_do (one s c) go) (λ v s c. then_do (one s c) go) ways.next f (state inner) (behind inner Next) (behind next) (between a c.locals next) (λ way s c. then_do (goes way s c) go) (rest_out go)
      (λ y s h. h.state) (λ v r s h c. refl) (into c.locals next sub) (then_outs go) M in
      let C = chain fixed n0 n1 n2 n3 s0 s1 s2 (λ v. items_do items) g ways f ways' (state c.locals) (between a c.locals inner) (between a c.locals next) (rest_out (λ s c. then_do (one s c) go)) (rest_out go)
      (λ way y s isnt h. left_so c.locals inner next way y s isnt h) (λ way s c isnt. rest_leaves (λ s c. then_do (one s c) go) go way s c isnt) A' M' E in
      subst (λ (xs : List ℕ). Unwinds fixed n0 n3 s0 s2 (λ v. items_do items) g ways' (state c.locals) (between a c.locals xs) (rest_out go)) (sym (one_more items i x c.locals here)) C

  pub left_none : (n0 n1 : Unrolled) (s0 s1 : State) (items : List TStmt) (i : ℕ) (g : Guard) (ways : Flow) (c : Scope) → drop i items ≡ [] → LeftOver n0 n1 s0 s1 items i g ways c →
      Unwinds fixed n0 n1 s0 s1 (λ v. items_do items) g ways (state c.locals) (between a c.locals (behind_items items c.locals)) goes
  left_none n0 n1 s0 s1 items i g ways c over A =
      let inner : List ℕ = behind_items items c.locals in
      let A' = subst (λ (l : List TStmt). Unwinds fixed n0 n1 s0 s1 (λ v. items_do items) g ways (state c.locals) (between a c.locals (behind_items l c.locals)) (rest_out (items_do (drop i items)))) (all_taken items i over) A in
      let A'' = subst (λ (l : List TStmt). Unwinds fixed n0 n1 s0 s1 (λ v. items_do items) g ways (state c.locals) (between a c.locals inner) (rest_out (items_do l))) over A' in
      unwinds_as fixed n0 n1 s0 s1 (λ v. items_do items) (λ v. items_do items) g ways (state c.locals) (state c.locals) (between a c.locals inner) (between a c.locals inner) (rest_out (goes Next)) goes
      (λ x s h. h) (λ v r s h c. refl) (λ w x s h. h) rest_goes A''

-- the first i statements were unwound
pub record Sofar (a : Activation) (n0 n : Unrolled) (s0 s : State) (items : List TStmt) (i : ℕ) (g : Guard) (ways : Flow) : Type 0 where
  pub grows : Grows n0.terms n.terms
  pub objects : HasObjects a.pair.now.program n.terms s.objects
  pub result : HasResult (result_in a) n0.terms s0.result → HasResult (result_in a) n.terms s.result
  pub flow : HasFlow n.terms ways
  pub does : (c : Scope) → is_in a c → FitsItems c items → LeftOver a n0 n s0 s items i g ways c

-- the next statement of a list fits behind those before it
pub next_fits : (items : List TStmt) (i : ℕ) (x : TStmt) (c : Scope) → drop i items ≡ x ∷ drop (suc i) items → FitsItems c items → FitsStmt (scope_behind c (take i items)) x.node
next_fits items i x c here h = let f : FitsItems (scope_behind c (take i items)) (x ∷ drop (suc i) items) = subst (FitsItems (scope_behind c (take i items))) here (fits_behind items i c h) in f.0
