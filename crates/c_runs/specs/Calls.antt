-- What calls of functions do, by recursion on the activations left (C99 6.5.2.2, 6.9.1).
use Rattle.std.specs.Prelude.{ℕ, zero, suc, ◌+◌, Bool, true, false, nat_lt, eqb, List, [], ◌∷◌, ◌++◌, slice_get, count_by}
use Rattle.std.specs.Prelude.{ℤ, pos, Option, Some, None}
use Rattle.src_text.specs.declared.refusal.Place.{Place}
use Rattle.c_tree.specs.declared.statements.BlockItem.{BlockItem}
use Rattle.joint_ir.specs.declared.ctype.IntType.{IntType}
use Rattle.joint_ir.specs.declared.expr.Slot.TheVariants.{Local as Automatic}
use Rattle.joint_ir.specs.declared.program.PropKind.TheVariants as kind
use Rattle.joint_ir.specs.Types.{converted}
use Rattle.joint_ir.specs.Effects.{nothing}
use Rattle.joint_ir.specs.declared.way.Way.TheVariants.{Next, Breaking, Continuing, Returning}
use Rattle.joint_ir.specs.Steps.{returning, with_locals}
use Rattle.c_words.specs.Marks.{number_of}
use Rattle.c_runs.specs.Effects.{CEffect, Goes, Stops, TooFew, Ended, Onward, then_do, draw}
use Rattle.c_runs.specs.Texts.{CFunction, Given, Here, past_item}
use Rattle.c_runs.specs.Simple.{Calls, store_at, broken}
use Rattle.c_runs.specs.Statements.{idle, after_item}

-- the parts of a function's body, in order (C99 6.8.2p3)
abbrev pub after_body_items : Given → Calls → Here → List BlockItem → Onward
after_body_items g calls h [] s c = idle s c
after_body_items g calls h (x ∷ items) s c = then_do (after_item g calls h x s c) (after_body_items g calls (past_item x h) items)

-- each parameter takes the value of its argument, which is seen with the line of the call (C99 6.9.1p10)
abbrev pub set_params : (line x : ℕ) → List ℤ → Onward
set_params line x [] s c = idle s c
set_params line x (n ∷ args) s c = then_do (store_at line (Automatic (number_of x)) None n s c) (set_params line (x + 1) args)

-- any value of a type is returned
abbrev pub any_result : Option IntType → Onward
any_result None s c = Goes Next s nothing c
any_result (Some t) s c = draw t.bits c (λ n rest. Goes Next (returning s (converted t (pos n))) nothing rest)

-- at the closing brace `main` gives 0 (C99 5.1.2.2.3), a function with a result any value (C99 6.9.1p12), another none
abbrev pub closing : (is_main : Bool) → Option IntType → Onward
closing true result s c = Goes Next (returning s (pos 0)) nothing c
closing false None s c = Goes Next (returning s (pos 0)) nothing c
closing false (Some t) s c = any_result (Some t) s c

-- behind a body: the caller's objects are back (C99 6.2.4p5)
abbrev pub after_body : (is_main : Bool) → Option IntType → (locals : List (List ℤ)) → CEffect → CEffect
after_body is_main result locals (Goes Returning s told c) = Goes Next (with_locals s locals) told c
after_body is_main result locals (Goes Next s told c) = then_do (Goes Next (with_locals s locals) told c) (closing is_main result)
after_body is_main result locals (Goes Breaking s told c) = then_do (Goes Next (with_locals s locals) told c) (closing is_main result)
after_body is_main result locals (Goes Continuing s told c) = then_do (Goes Next (with_locals s locals) told c) (closing is_main result)
after_body is_main result locals (Stops e told c) = Stops e told c
after_body is_main result locals TooFew = TooFew

-- the place of the text where a body with so many parameters begins
abbrev pub body_start : CFunction → (params : ℕ) → Here
body_start f params = record { scopes = f.scopes; objects = f.first + params; result = f.result }

-- how many there are
abbrev pub count_of : {A : Type 0} → List A → ℕ
count_of [] = 0
count_of (x ∷ xs) = suc (count_of xs)

-- a function's body at its arguments; `inner` says what the calls in it do
abbrev pub after_function : Given → (inner : Calls) → CFunction → List BlockItem → Place → List ℤ → Onward
after_function g inner f body p args s c =
    after_body f.is_main f.result s.store.locals
    (then_do (set_params p.line f.first args s c) (after_body_items g inner (body_start f (count_of f.params)) body))

-- a call of a function: one without a body gives any value, and one activation too many breaks the property of the function
abbrev pub entered_body : Given → (may_enter : Bool) → (inner : Calls) → CFunction → Option (List BlockItem) → Place → List ℤ → Onward
entered_body g may_enter inner f None p args s c = any_result f.result s c
entered_body g true inner f (Some body) p args s c = after_function g inner f body p args s c
entered_body g false inner f (Some body) p args s c = broken kind.Recursion f.place c

-- a call of a function by its number; where there is none nothing happens
abbrev pub entered_function : Given → (may_enter : CFunction → Bool) → (inner : Calls) → Option CFunction → Place → List ℤ → Onward
entered_function g may_enter inner None p args s c = Goes Next s nothing c
entered_function g may_enter inner (Some f) p args s c = entered_body g (may_enter f) inner f f.body p args s c

-- fewer activations of a function stand than its limit
abbrev pub is_below_limit : Given → (standing : List ℕ) → (function : ℕ) → CFunction → Bool
is_below_limit g standing i f = nat_lt (count_by (λ j. eqb i j) standing) (g.limit kind.Recursion f.place)

-- no function can be called
abbrev pub no_calls : Calls
no_calls p f args s c = TooFew

-- calls where `left` more activations may stand, and those of the functions in `standing` do
abbrev pub calls_at : Given → (left : ℕ) → (standing : List ℕ) → Calls
calls_at g zero standing p i args s c = entered_function g (λ f. false) no_calls (slice_get g.functions i) p args s c
calls_at g (suc left) standing p i args s c =
    entered_function g (is_below_limit g standing i) (calls_at g left (standing ++ i ∷ [])) (slice_get g.functions i) p args s c

-- a run ends where `main` has
abbrev pub ended : CEffect → CEffect
ended (Goes way s told c) = Stops Ended told c
ended (Stops e told c) = Stops e told c
ended TooFew = TooFew

-- what `main`'s body does; up to 31 more activations may stand in it
abbrev pub after_main : Given → (main : ℕ) → Option CFunction → Onward
after_main g main None s c = idle s c
after_main g main (Some f) s c =
    elim f.body [
      | None ↦ idle s c
      | Some body ↦ after_body_items g (calls_at g 31 (main ∷ [])) (body_start f 0) body s c
    ]

-- what the function of a number does as `main`, from a state on; at most 32 activations stand, its own among them
abbrev pub run_from : Given → (main : ℕ) → Onward
run_from g main s c = ended (after_main g main (slice_get g.functions main) s c)
