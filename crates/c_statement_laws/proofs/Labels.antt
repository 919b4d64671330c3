-- The labels of a `switch` without offence: each has its value, and none stands twice.
use Rattle.std.proofs.Common.{◌≡◌, suc, ◌+◌, List, [], ◌∷◌, ◌++◌, length, Bool, true, false, ◌||◌, refl, sym, ap, subst, ◌∙◌, arith}
use Rattle.std.specs.Prelude.{All, cond, count_by}
use Rattle.std.specs.List.{list_any}
use Rattle.std.proofs.lemmas.Cmp.{int_eq_equiv}
use Rattle.std.proofs.lemmas.List.{append_assoc}
use Rattle.std.proofs.lemmas.List.Elements.{All-append, All-cons, All-nil}
use Rattle.std.proofs.lemmas.List.Sums.{sum_by-append, sum_by-cons}
use Rattle.src_text.specs.declared.refusal.Place.{Place}
use Rattle.src_text.specs.declared.kind.Kind.TheVariants.{CCase}
use Rattle.c_tree.specs.declared.statements.Label.{Label as ALabel}
use Rattle.c_tree.specs.declared.statements.Label.TheVariants as label
use Rattle.joint_ir.specs.declared.ctype.IntType.{IntType}
use Rattle.joint_ir.specs.declared.stmt.Label.{Label}
use Rattle.joint_ir.specs.declared.stmt.Label.TheVariants.{Case, Default}
use Rattle.joint_ir.specs.Types.{IsType, Truth, Byte, Half, Single, Double, converted}
use Rattle.joint_ir.specs.WellFormed.{AreDistinct, FitsLabel, same_label}
use Rattle.joint_value.proofs.Numbers.{converted_in}
use Rattle.offence_order.specs.Order.{at}
use Rattle.c_names.specs.Scope.{Scope}
use Rattle.c_expressions.specs.Expressions.{offences_in}
use Rattle.c_constants.specs.declared.Constant.{Constant}
use Rattle.c_constants.specs.declared.Constant.TheVariants.{Is, Never, Undefined}
use Rattle.c_constants.specs.Constants.{constant_of, constant_offences, never_offences}
use Rattle.c_statements.specs.Switches.{case_of, label_typed, label_offences, labels_typed, labels_offences, twice_offences}
use Rattle.c_statement_laws.proofs.Inits.{none_left, none_right}
use Rattle.c_statement_laws.proofs.Declaring.{has_value}

pub append_none : {A : Type 0} (xs : List A) → xs ++ [] ≡ xs
append_none [] = refl
append_none (x ∷ xs) = ap (λ ys. x ∷ ys) (append_none xs)

same_refl : (l : Label) → same_label l l ≡ true
same_refl (Case n) = int_eq_equiv.refl n
same_refl Default = refl

same_symm : (a b : Label) → same_label a b ≡ same_label b a
same_symm (Case m) (Case n) = int_eq_equiv.symm m n
same_symm (Case m) Default = refl
same_symm Default (Case n) = refl
same_symm Default Default = refl

neither : (p q : Bool) → p || q ≡ false → (p ≡ false) × (q ≡ false)
neither true q h = absurd (cc)
neither false q h = (refl, h)

apart : (l : Label) (seen : List Label) → list_any (same_label l) seen ≡ false → All (λ a. same_label l a ≡ false) seen
apart l [] h = All-nil (λ a. same_label l a ≡ false)
apart l (a ∷ seen) h =
    let both = neither (same_label l a) (list_any (same_label l) seen) h in
    All-cons (λ b. same_label l b ≡ false) a seen both.0 (apart l seen both.1)

count_first : (p : Label → Bool) (a : Label) (seen : List Label) → count_by p (a ∷ seen) ≡ cond (p a) 1 0 + count_by p seen
count_first p a seen = sum_by-cons (λ x. cond (p x) 1 0) a seen

count_cons : (p : Label → Bool) (a : Label) (seen : List Label) (q : Bool) → p a ≡ q → count_by p (a ∷ seen) ≡ count_by p seen + cond q 1 0
count_cons p a seen true e = count_first p a seen ∙ ap (λ q. cond q 1 0 + count_by p seen) e ∙ (let f : 1 + count_by p seen ≡ count_by p seen + 1 = omega arith in f)
count_cons p a seen false e = count_first p a seen ∙ ap (λ q. cond q 1 0 + count_by p seen) e ∙ (let f : 0 + count_by p seen ≡ count_by p seen + 0 = omega arith in f)

count_none : (l : Label) (seen : List Label) → list_any (same_label l) seen ≡ false → count_by (same_label l) seen ≡ 0
count_none l [] h = refl
count_none l (a ∷ seen) h =
    let both = neither (same_label l a) (list_any (same_label l) seen) h in
    let rest = count_none l seen both.1 in
    count_cons (same_label l) a seen false both.0 ∙ (let f : count_by (same_label l) seen + 0 ≡ 0 = omega (arith, rest) in f)

count_end : (a l : Label) (seen : List Label) (q : Bool) → same_label a l ≡ q → count_by (same_label a) (seen ++ l ∷ []) ≡ count_by (same_label a) seen + cond q 1 0
count_end a l seen q e =
    sum_by-append (λ x. cond (same_label a x) 1 0) seen (l ∷ [])
    ∙ ap (λ n. count_by (same_label a) seen + n) (count_cons (same_label a) l [] q e ∙ (let f : 0 + cond q 1 0 ≡ cond q 1 0 = omega arith in f))

distinct_more : (seen : List Label) (l : Label) → AreDistinct seen → list_any (same_label l) seen ≡ false → AreDistinct (seen ++ l ∷ [])
distinct_more seen l distinct new =
    All-append (λ a. count_by (same_label a) (seen ++ l ∷ []) ≡ 1) seen (l ∷ []) (λ k d lt. old _ (distinct k d lt) (apart l seen new k d lt))
    (All-cons (λ a. count_by (same_label a) (seen ++ l ∷ []) ≡ 1) l [] last (All-nil (λ a. count_by (same_label a) (seen ++ l ∷ []) ≡ 1)))
  where
    old : (a : Label) → count_by (same_label a) seen ≡ 1 → same_label l a ≡ false → count_by (same_label a) (seen ++ l ∷ []) ≡ 1
    old a one other =
        count_end a l seen false (same_symm a l ∙ other) ∙ ap (λ n. n + 0) one

    last : count_by (same_label l) (seen ++ l ∷ []) ≡ 1
    last = count_end l l seen true (same_refl l) ∙ ap (λ n. n + 1) (count_none l seen new)

-- no type has more than 64 bits
one_case : (t : IntType) → IsType t → (n : _) → case_of t (Is n) ≡ Case (converted t n) ∷ []
one_case _ Truth n = refl
one_case _ (Byte s) n = refl
one_case _ (Half s) n = refl
one_case _ (Single s) n = refl
one_case _ (Double s) n = refl

not_twice : (p : Place) (seen : List Label) (l : Label) → twice_offences p seen (l ∷ []) ≡ [] → list_any (same_label l) seen ≡ false
not_twice p seen l none = pick (list_any (same_label l) seen) refl none
  where
    pick : (q : Bool) → list_any (same_label l) seen ≡ q → cond q (at p CCase) [] ≡ [] → list_any (same_label l) seen ≡ false
    pick true e g = absurd (cc)
    pick false e g = e

value_label : (p : Place) (t : IntType) → IsType t → (seen : List Label) (z : Constant) → (z ≡ Undefined → ⊥) → never_offences p z ≡ [] → twice_offences p seen (case_of t z) ≡ [] →
    (x : Label) × (case_of t z ≡ x ∷ []) × FitsLabel t x × (list_any (same_label x) seen ≡ false)
value_label p t is seen Undefined known never twice = absurd (known refl)
value_label p t is seen Never known never twice = absurd (cc)
value_label p t is seen (Is n) known never twice =
    let one = one_case t is n in
    (Case (converted t n), one, converted_in t n is, not_twice p seen (Case (converted t n)) (subst (λ xs. twice_offences p seen xs ≡ []) one twice))

-- a label without offence has one value, which is none of those before it
pub one_label : (env : List Scope) (t : IntType) → IsType t → (seen : List Label) (l : ALabel) → label_offences env t seen l ≡ [] →
    (x : Label) × (label_typed t l ≡ x ∷ []) × FitsLabel t x × (list_any (same_label x) seen ≡ false)
one_label env t is seen (label.Default p) none = (Default, refl, tt, not_twice p seen Default none)
one_label env t is seen (label.Case p e) none =
    let constant = none_left (constant_offences env p e) (twice_offences p seen (case_of t (constant_of e))) none in
    let twice = none_right (constant_offences env p e) (twice_offences p seen (case_of t (constant_of e))) none in
    value_label p t is seen (constant_of e) (has_value env p e constant) (none_right (offences_in env e) (never_offences p (constant_of e)) constant) twice

-- what labels without offence are, behind those that stood before
pub record LabelsFit (t : IntType) (seen : List Label) (ls : List ALabel) : Type 0 where
  pub distinct : AreDistinct (seen ++ labels_typed t ls)
  pub fit : All (FitsLabel t) (labels_typed t ls)
  pub count : length (labels_typed t ls) ≡ length ls

pub labels_fit : (env : List Scope) (t : IntType) → IsType t → (seen : List Label) (ls : List ALabel) → labels_offences env t seen ls ≡ [] → AreDistinct seen → LabelsFit t seen ls
labels_fit env t is seen [] none distinct = record { distinct = subst AreDistinct (sym (append_none seen)) distinct; fit = All-nil (FitsLabel t); count = refl }
labels_fit env t is seen (l ∷ ls) none distinct =
    let one = one_label env t is seen l (none_left (label_offences env t seen l) (labels_offences env t (seen ++ label_typed t l) ls) none) in
    let x = one.0 in
    let e : label_typed t l ≡ x ∷ [] = one.1 in
    let more : AreDistinct (seen ++ label_typed t l) = subst (λ xs. AreDistinct (seen ++ xs)) (sym e) (distinct_more seen x distinct one.3) in
    let rest = labels_fit env t is (seen ++ label_typed t l) ls (none_right (label_offences env t seen l) (labels_offences env t (seen ++ label_typed t l) ls) none) more in
    record {
      distinct = subst AreDistinct (append_assoc seen (label_typed t l) (labels_typed t ls)) rest.distinct;
      fit = subst (λ xs. All (FitsLabel t) (xs ++ labels_typed t ls)) (sym e) (All-cons (FitsLabel t) x (labels_typed t ls) one.2 rest.fit);
      count = ap (λ xs. length (xs ++ labels_typed t ls)) e ∙ ap suc rest.count;
    }
