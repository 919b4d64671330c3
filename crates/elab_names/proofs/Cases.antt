-- A recursion on a tree, at a part that is made of other parts: what code has of the parts gives what it has of the whole.
use Rattle.std.proofs.Common.{◌≡◌, sym, ap, ◌∙◌}

pub case_one : {E P R Q : Type 0} (h : E → Q) (f : P → R) (g : R → Q) (e whole : E) (p got : P) (x : R) (r : Q) →
    e ≡ whole → got ≡ p → x ≡ f got → r ≡ g x → h whole ≡ g (f p) → r ≡ h e
case_one h f g e whole p got x r is is_p hx hr eq = hr ∙ ap g (hx ∙ ap f is_p) ∙ sym eq ∙ ap h (sym is)

pub case_two : {E P R S T Q : Type 0} (h : E → Q) (f : P → R) (f2 : S → T) (g : R → T → Q) (e whole : E) (p got : P) (q more : S) (x : R) (y : T) (r : Q) →
    e ≡ whole → got ≡ p → more ≡ q → x ≡ f got → y ≡ f2 more → r ≡ g x y → h whole ≡ g (f p) (f2 q) → r ≡ h e
case_two h f f2 g e whole p got q more x y r is is_p is_q hx hy hr eq =
    hr ∙ ap (λ v. g v y) (hx ∙ ap f is_p) ∙ ap (λ v. g (f p) v) (hy ∙ ap f2 is_q) ∙ sym eq ∙ ap h (sym is)

pub case_three : {E P R Q : Type 0} (h : E → Q) (f : P → R) (g : R → R → R → Q) (e whole : E) (o one p got q more : P) (w x y : R) (r : Q) →
    e ≡ whole → one ≡ o → got ≡ p → more ≡ q → w ≡ f one → x ≡ f got → y ≡ f more → r ≡ g w x y → h whole ≡ g (f o) (f p) (f q) → r ≡ h e
case_three h f g e whole o one p got q more w x y r is is_o is_p is_q hw hx hy hr eq =
    hr ∙ ap (λ v. g v x y) (hw ∙ ap f is_o) ∙ ap (λ v. g (f o) v y) (hx ∙ ap f is_p) ∙ ap (λ v. g (f o) (f p) v) (hy ∙ ap f is_q) ∙ sym eq ∙ ap h (sym is)
