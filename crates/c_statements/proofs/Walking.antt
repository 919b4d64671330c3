-- Statements, case by case.
use Rattle.std.proofs.Common.{◌≡◌, ℕ, suc, ◌+◌, ◌<◌, List, [], ◌∷◌, ◌++◌, length, drop, get_or, refl, sym, ap, subst, ◌∙◌, append_assoc, append-nil}
use Rattle.std.specs.Prelude.{Option, Some, None, Bool}
use Rattle.std.proofs.lemmas.List.{drop_more}
use Rattle.src_text.specs.declared.refusal.Place.{Place}
use Rattle.c_tree.specs.declared.declarations.Declarator.{Declarator}
use Rattle.c_tree.specs.declared.expressions.Expression.{Expression}
use Rattle.c_tree.specs.declared.statements.BlockItem.{BlockItem}
use Rattle.c_tree.specs.declared.statements.ForFirst.{ForFirst}
use Rattle.c_tree.specs.declared.statements.Simple.{Simple}
use Rattle.c_tree.specs.declared.statements.Statement.{Statement}
use Rattle.c_tree.specs.declared.statements.Statement as statement
use Rattle.c_tree.specs.declared.statements.BlockItem.TheBlock.{hidden-the_row-BlockItem-0, hidden-the_row-Statement-2, items-the_row-BlockItem, items_hidden-the_row-BlockItem-0}
use denote.Hole.Carrier.{hidden}
use Rattle.joint_ir.specs.declared.ctype.IntType.{IntType}
use Rattle.joint_ir.specs.declared.expr.TExpr.{TExpr}
use Rattle.joint_ir.specs.declared.program.PropId.{PropId}
use Rattle.joint_ir.specs.declared.program.PropKind.TheVariants as kind
use Rattle.joint_ir.specs.declared.stmt.SNode.{SNode, Block, If}
use Rattle.joint_ir.specs.declared.stmt.TStmt.{TStmt}
use Rattle.offence_order.specs.declared.Offence.{Offence}
use Rattle.offence_order.specs.Order.{first_of}
use Rattle.c_expressions.specs.Expressions.{typed_of, offences_in}
use Rattle.offence_order.proofs.Firsts.{first_of-append}
use Rattle.c_statements.specs.declared.walk.Around.{Around}
use Rattle.c_statements.specs.declared.walk.Typer.{Typer}
use Rattle.c_statements.specs.Known.{Known, enter, leave_scope, more}
use Rattle.c_statements.specs.Moves.{known_of, Goes}
use Rattle.c_statements.specs.Statements.{declarator_typed, declarator_offences, declarator_known, declarators_typed, declarators_offences, declarators_known, first_known, first_offences, first_typed, condition_offences, condition_sites, condition_typed, step_offences, step_sites, step_typed, after_expression, own, id_of, in_a_loop, at_condition, at_step, at_body, stmt_at, while_typed, do_typed, for_typed, stmt_typed, offences_of, known_after, item_typed, item_offences, known_after_item, row_typed, row_offences, known_after_row, items_typed, items_offences, items_known}
use Rattle.c_statements.specs.Walks.{IsStmt, IsItem, AreItems, DeclaredSoFar, ItemsSoFar}
use Rattle.c_statements.proofs.Depths.{statement_depth, items_depth, first_depth}

pub goes_then : (a b c : Typer) (o o' : List Offence) (k k' : Known) → Goes a b o k → Goes b c o' k' → Goes a c (o ++ o') k'
goes_then a b c o o' k k' g h = record {
  first = h.first ∙ ap (λ f. first_of f o') g.first ∙ sym (first_of-append a.notes.first o o');
  known = h.known;
}

-- a statement that is typed where this is known
record IsAt (a : Around) (k : Known) (old new : Typer) (s : Statement) (t : TStmt) : Type 0 where
  typed : t ≡ stmt_typed a k s
  goes : Goes old new (offences_of a k s) (known_after s k)

at_known : (a a' : Around) (k : Known) (old new : Typer) (s got : Statement) (t : TStmt) → a' ≡ a → got ≡ s → known_of old ≡ k → IsStmt a' old new got t → IsAt a k old new s t
at_known a a' k old new s got t is_a is_s is_k h =
    let f = subst (λ z. IsStmt z old new got t) is_a h in
    let g = subst (λ z. IsStmt a old new z t) is_s f in
    record {
      typed = g.typed ∙ ap (λ q. stmt_typed a q s) is_k;
      goes = subst (λ q. Goes old new (offences_of a q s) (known_after s q)) is_k g.goes;
    }

-- as a statement that is known by its parts
pub seen_as : (a : Around) (old new : Typer) (s z : Statement) → s ≡ z → Goes old new (offences_of a (known_of old) z) (known_after z (known_of old)) → Goes old new (offences_of a (known_of old) s) (known_after s (known_of old))
seen_as a old new s z is g = subst (λ y. Goes old new (offences_of a (known_of old) y) (known_after y (known_of old))) (sym is) g

pub if_case : (a : Around) (old mid new : Typer) (s b got : Statement) (p : Place) (c : Expression) (x held : TExpr) (u kept : TStmt) → s ≡ statement.If p c b → got ≡ b →
    x ≡ typed_of old.scopes (length old.notes.sites) c → Goes old mid (offences_in old.scopes c) (after_expression c (known_of old)) → IsStmt a mid new got u → held ≡ x → kept ≡ u →
    IsStmt a old new s (stmt_at p (If held kept None))
unfolding hidden-the_row-Statement-2 hidden
if_case a old mid new s b got p c x held u kept is is_b hx g h is_held is_kept =
    let k = known_of old in
    let k' = after_expression c k in
    let n = at_known a a k' mid new b got u refl is_b g.known h in
    record {
      typed =
          ap (λ z. stmt_at p (If z kept None)) (is_held ∙ hx)
          ∙ ap (λ z. stmt_at p (If (typed_of k.scopes (length k.sites) c) z None)) (is_kept ∙ n.typed)
          ∙ ap (stmt_typed a k) (sym is);
      goes = seen_as a old new s (statement.If p c b) is (goes_then old mid new (offences_in k.scopes c) (offences_of a k' b) k' (known_after b k') g n.goes);
    }

pub if_else_case : (a : Around) (old mid more_ new : Typer) (s b d got other : Statement) (p : Place) (c : Expression) (x held : TExpr) (u kept v last : TStmt) → s ≡ statement.IfElse p c b d → got ≡ b → other ≡ d →
    x ≡ typed_of old.scopes (length old.notes.sites) c → Goes old mid (offences_in old.scopes c) (after_expression c (known_of old)) → IsStmt a mid more_ got u → IsStmt a more_ new other v →
    held ≡ x → kept ≡ u → last ≡ v → IsStmt a old new s (stmt_at p (If held kept (Some last)))
unfolding hidden-the_row-Statement-2 hidden
if_else_case a old mid more_ new s b d got other p c x held u kept v last is is_b is_d hx g h h' is_held is_kept is_last =
    let k = known_of old in
    let k' = after_expression c k in
    let k'' = known_after b k' in
    let n = at_known a a k' mid more_ b got u refl is_b g.known h in
    let m = at_known a a k'' more_ new d other v refl is_d n.goes.known h' in
    record {
      typed =
          ap (λ z. stmt_at p (If z kept (Some last))) (is_held ∙ hx)
          ∙ ap (λ z. stmt_at p (If (typed_of k.scopes (length k.sites) c) z (Some last))) (is_kept ∙ n.typed)
          ∙ ap (λ z. stmt_at p (If (typed_of k.scopes (length k.sites) c) (stmt_typed a k' b) (Some z))) (is_last ∙ m.typed)
          ∙ ap (stmt_typed a k) (sym is);
      goes =
          seen_as a old new s (statement.IfElse p c b d) is
          (goes_then old mid new (offences_in k.scopes c) (offences_of a k' b ++ offences_of a k'' d) k' (known_after d k'') g
          (goes_then mid more_ new (offences_of a k' b) (offences_of a k'' d) k'' (known_after d k'') n.goes m.goes));
    }

pub while_case : (a a' : Around) (old one mid new : Typer) (s b got : Statement) (p : Place) (c : Expression) (id : PropId) (x : TExpr) (u : TStmt) (n : SNode) → s ≡ statement.While p c b → a' ≡ in_a_loop a → got ≡ b →
    id ≡ id_of (known_of old) → Goes old one [] (own kind.Unwind p (known_of old)) →
    x ≡ typed_of one.scopes (length one.notes.sites) c → Goes one mid (offences_in one.scopes c) (after_expression c (known_of one)) → IsStmt a' mid new got u → n ≡ while_typed id x u →
    IsStmt a old new s (stmt_at p n)
unfolding hidden-the_row-Statement-2 hidden
while_case a a' old one mid new s b got p c id x u n is is_a is_b is_id g hx g' h is_n =
    let k = known_of old in
    let k' = own kind.Unwind p k in
    let k'' = after_expression c k' in
    let e : Goes one mid (offences_in k'.scopes c) k'' = subst (λ (q : Known). Goes one mid (offences_in q.scopes c) (after_expression c q)) g.known g' in
    let y = at_known (in_a_loop a) a' k'' mid new b got u is_a is_b e.known h in
    record {
      typed =
          ap (stmt_at p) (
          is_n
          ∙ ap (λ z. while_typed z x u) is_id
          ∙ ap (λ z. while_typed (id_of k) z u) (hx ∙ ap (λ (q : Known). typed_of q.scopes (length q.sites) c) g.known)
          ∙ ap (while_typed (id_of k) (typed_of k.scopes (length k'.sites) c)) y.typed)
          ∙ ap (stmt_typed a k) (sym is);
      goes =
          seen_as a old new s (statement.While p c b) is
          (goes_then old one new [] (offences_in k.scopes c ++ offences_of (in_a_loop a) k'' b) k' (known_after b k'') g
          (goes_then one mid new (offences_in k.scopes c) (offences_of (in_a_loop a) k'' b) k'' (known_after b k'') e y.goes));
    }

pub for_case : (a a' : Around) (old m0 m1 m2 m3 m4 m5 new : Typer) (s b got : Statement) (p : Place) (f : ForFirst) (c : Option Expression) (step : Option Simple) (id : PropId) (heads : List TStmt) (x : Option TExpr) (v : Option TStmt) (u : TStmt) (n : SNode) →
    s ≡ statement.For p f c step b → a' ≡ in_a_loop a → got ≡ b →
    Goes old m0 [] (enter (known_of old)) → id ≡ id_of (known_of m0) → Goes m0 m1 [] (own kind.Unwind p (known_of m0)) →
    heads ≡ first_typed (known_of m1) f → Goes m1 m2 (first_offences (known_of m1) f) (first_known f (known_of m1)) →
    x ≡ condition_typed (known_of m2) c → Goes m2 m3 (condition_offences (known_of m2) c) (more (known_of m2) (condition_sites (known_of m2) c)) →
    v ≡ step_typed (known_of m3) step → Goes m3 m4 (step_offences (known_of m3) step) (more (known_of m3) (step_sites (known_of m3) step)) →
    IsStmt a' m4 m5 got u → Goes m5 new [] (leave_scope (known_of m5)) → n ≡ for_typed id heads x v u → IsStmt a old new s (stmt_at p n)
unfolding hidden-the_row-Statement-2 hidden
for_case a a' old m0 m1 m2 m3 m4 m5 new s b got p f c step id heads x v u n is is_a is_b g0 is_id g1 hf g2 hc g3 hs g4 h g6 is_n =
    let k = known_of old in
    let k0 = enter k in
    let k1 = own kind.Unwind p k0 in
    let k2 = at_condition p f k in
    let k3 = at_step p f c k in
    let k4 = at_body p f c step k in
    let e1 : Goes m0 m1 [] k1 = subst (λ (q : Known). Goes m0 m1 [] (own kind.Unwind p q)) g0.known g1 in
    let e2 : Goes m1 m2 (first_offences k1 f) k2 = subst (λ (q : Known). Goes m1 m2 (first_offences q f) (first_known f q)) e1.known g2 in
    let e3 : Goes m2 m3 (condition_offences k2 c) k3 = subst (λ (q : Known). Goes m2 m3 (condition_offences q c) (more q (condition_sites q c))) e2.known g3 in
    let e4 : Goes m3 m4 (step_offences k3 step) k4 = subst (λ (q : Known). Goes m3 m4 (step_offences q step) (more q (step_sites q step))) e3.known g4 in
    let y = at_known (in_a_loop a) a' k4 m4 m5 b got u is_a is_b e4.known h in
    let e6 : Goes m5 new [] (leave_scope (known_after b k4)) = subst (λ (q : Known). Goes m5 new [] (leave_scope q)) y.goes.known g6 in
    let body = offences_of (in_a_loop a) k4 b in
    let end = leave_scope (known_after b k4) in
    record {
      typed =
          ap (stmt_at p) (
          is_n
          ∙ ap (λ z. for_typed z heads x v u) (is_id ∙ ap id_of g0.known)
          ∙ ap (λ z. for_typed (id_of k) z x v u) (hf ∙ ap (λ q. first_typed q f) e1.known)
          ∙ ap (λ z. for_typed (id_of k) (first_typed k1 f) z v u) (hc ∙ ap (λ q. condition_typed q c) e2.known)
          ∙ ap (λ z. for_typed (id_of k) (first_typed k1 f) (condition_typed k2 c) z u) (hs ∙ ap (λ q. step_typed q step) e3.known)
          ∙ ap (for_typed (id_of k) (first_typed k1 f) (condition_typed k2 c) (step_typed k3 step)) y.typed)
          ∙ ap (stmt_typed a k) (sym is);
      goes =
          seen_as a old new s (statement.For p f c step b) is
          (goes_then old m0 new [] (first_offences k1 f ++ (condition_offences k2 c ++ (step_offences k3 step ++ body))) k0 end g0
          (goes_then m0 m1 new [] (first_offences k1 f ++ (condition_offences k2 c ++ (step_offences k3 step ++ body))) k1 end e1
          (goes_then m1 m2 new (first_offences k1 f) (condition_offences k2 c ++ (step_offences k3 step ++ body)) k2 end e2
          (goes_then m2 m3 new (condition_offences k2 c) (step_offences k3 step ++ body) k3 end e3
          (goes_then m3 m4 new (step_offences k3 step) body k4 end e4
          (subst (λ o. Goes m4 new o end) (append-nil body) (goes_then m4 m5 new body [] (known_after b k4) end y.goes e6)))))));
    }

-- a row is its list
row_known : {m : _} (row : statement.Row_of-BlockItem m) (k : Known) → known_after_row row k ≡ items_known (items-the_row-BlockItem _ row) k
row_known statement.end_of-BlockItem k = refl
row_known (statement.more_of-BlockItem x row) k = row_known row (known_after_item x k)

row_noted : {m : _} (row : statement.Row_of-BlockItem m) (a : Around) (k : Known) → row_offences a k row ≡ items_offences a k (items-the_row-BlockItem _ row)
row_noted statement.end_of-BlockItem a k = refl
row_noted (statement.more_of-BlockItem x row) a k = ap (λ l. item_offences a k x ++ l) (row_noted row a (known_after_item x k))

row_made : {m : _} (row : statement.Row_of-BlockItem m) (a : Around) (k : Known) → row_typed a k row ≡ items_typed a k (items-the_row-BlockItem _ row)
row_made statement.end_of-BlockItem a k = refl
row_made (statement.more_of-BlockItem x row) a k = ap (λ l. item_typed a k x ++ l) (row_made row a (known_after_item x k))

pub block_case : (a : Around) (old m0 mid new : Typer) (s : Statement) (p : Place) (xs got : List BlockItem) (ts : List TStmt) → s ≡ statement.Compound p xs → got ≡ xs →
    Goes old m0 [] (enter (known_of old)) → AreItems a m0 mid got ts → Goes mid new [] (leave_scope (known_of mid)) → IsStmt a old new s (stmt_at p (Block ts))
block_case a old m0 mid new s p xs got ts is is_xs g h g' =
    let k = known_of old in
    let i = subst (λ z. AreItems a m0 mid z ts) is_xs h in
    let row = hidden-the_row-BlockItem-0 xs in
    let same = items_hidden-the_row-BlockItem-0 xs in
    let e : Goes m0 mid (items_offences a (enter k) xs) (items_known xs (enter k)) = subst (λ (q : Known). Goes m0 mid (items_offences a q xs) (items_known xs q)) g.known i.goes in
    let e' : Goes mid new [] (leave_scope (items_known xs (enter k))) = subst (λ (q : Known). Goes mid new [] (leave_scope q)) e.known g' in
    let all : Goes old new (items_offences a (enter k) xs) (leave_scope (items_known xs (enter k))) =
    goes_then old m0 new [] (items_offences a (enter k) xs) (enter k) (leave_scope (items_known xs (enter k))) g
    (subst (λ o. Goes m0 new o (leave_scope (items_known xs (enter k)))) (append-nil (items_offences a (enter k) xs))
    (goes_then m0 mid new (items_offences a (enter k) xs) [] (items_known xs (enter k)) (leave_scope (items_known xs (enter k))) e e')) in
    record {
      typed =
          ap (λ l. stmt_at p (Block l)) (i.typed ∙ ap (λ q. items_typed a q xs) g.known ∙ sym (row_made row a (enter k) ∙ ap (items_typed a (enter k)) same))
          ∙ ap (stmt_typed a k) (sym is);
      goes =
          seen_as a old new s (statement.Compound p xs) is
          (subst (λ o. Goes old new o (leave_scope (known_after_row row (enter k)))) (sym (row_noted row a (enter k) ∙ ap (items_offences a (enter k)) same))
          (subst (λ (q : Known). Goes old new (items_offences a (enter k) xs) (leave_scope q)) (sym (row_known row (enter k) ∙ ap (λ l. items_known l (enter k)) same)) all));
    }

pub do_case : (a a' : Around) (old one mid new : Typer) (s b got : Statement) (p : Place) (c : Expression) (id : PropId) (x : TExpr) (u : TStmt) (n : SNode) → s ≡ statement.Do p b c → a' ≡ in_a_loop a → got ≡ b →
    id ≡ id_of (known_of old) → Goes old one [] (own kind.Unwind p (known_of old)) → IsStmt a' one mid got u →
    x ≡ typed_of mid.scopes (length mid.notes.sites) c → Goes mid new (offences_in mid.scopes c) (after_expression c (known_of mid)) → n ≡ do_typed id x u →
    IsStmt a old new s (stmt_at p n)
unfolding hidden-the_row-Statement-2 hidden
do_case a a' old one mid new s b got p c id x u n is is_a is_b is_id g h hx g' is_n =
    let k = known_of old in
    let k' = own kind.Unwind p k in
    let k'' = known_after b k' in
    let y = at_known (in_a_loop a) a' k' one mid b got u is_a is_b g.known h in
    let e : Goes mid new (offences_in k''.scopes c) (after_expression c k'') = subst (λ (q : Known). Goes mid new (offences_in q.scopes c) (after_expression c q)) y.goes.known g' in
    record {
      typed =
          ap (stmt_at p) (
          is_n
          ∙ ap (λ z. do_typed z x u) is_id
          ∙ ap (λ z. do_typed (id_of k) z u) (hx ∙ ap (λ (q : Known). typed_of q.scopes (length q.sites) c) y.goes.known)
          ∙ ap (do_typed (id_of k) (typed_of k''.scopes (length k''.sites) c)) y.typed)
          ∙ ap (stmt_typed a k) (sym is);
      goes =
          seen_as a old new s (statement.Do p b c) is
          (goes_then old one new [] (offences_of (in_a_loop a) k' b ++ offences_in k''.scopes c) k' (after_expression c k'') g
          (goes_then one mid new (offences_of (in_a_loop a) k' b) (offences_in k''.scopes c) k'' (after_expression c k'') y.goes e));
    }

pub declared_next : (t : IntType) (c : Bool) (old now new : Typer) (ds : List Declarator) (i : ℕ) (done : List TStmt) (d : Declarator) (x : TStmt) → i < length ds → d ≡ get_or ds i d →
    DeclaredSoFar t c old now ds i done → x ≡ declarator_typed t (known_of now) d → Goes now new (declarator_offences (known_of now) d) (declarator_known t c d (known_of now)) →
    DeclaredSoFar t c old new ds (i + 1) (done ++ x ∷ [])
declared_next t c old now new ds i done d x lt is h is_x g =
    let rest : List Declarator = drop (i + 1) ds in
    let split : drop i ds ≡ d ∷ rest = drop_more ds i d lt ∙ ap (λ q. q ∷ rest) (sym is) in
    record {
      typed_so =
          h.typed_so ∙ ap (λ l. done ++ declarators_typed t c (known_of now) l) split
          ∙ ap (λ z. done ++ z ∷ declarators_typed t c (declarator_known t c d (known_of now)) rest) (sym is_x)
          ∙ ap (λ k. done ++ x ∷ declarators_typed t c k rest) (sym g.known)
          ∙ sym (append_assoc done (x ∷ []) (declarators_typed t c (known_of new) rest));
      first_so =
          h.first_so ∙ ap (λ l. first_of now.notes.first (declarators_offences t c (known_of now) l)) split
          ∙ first_of-append now.notes.first (declarator_offences (known_of now) d) (declarators_offences t c (declarator_known t c d (known_of now)) rest)
          ∙ ap (λ f. first_of f (declarators_offences t c (declarator_known t c d (known_of now)) rest)) (sym g.first)
          ∙ ap (λ k. first_of new.notes.first (declarators_offences t c k rest)) (sym g.known);
      known_so =
          h.known_so ∙ ap (λ l. declarators_known t c l (known_of now)) split
          ∙ ap (declarators_known t c rest) (sym g.known);
    }

pub items_next : (a : Around) (old now new : Typer) (xs : List BlockItem) (i : ℕ) (done : List TStmt) (x : BlockItem) (ts : List TStmt) → i < length xs → x ≡ get_or xs i x →
    ItemsSoFar a old now xs i done → IsItem a now new x ts → ItemsSoFar a old new xs (i + 1) (done ++ ts)
items_next a old now new xs i done x ts lt is h k =
    let g = k.goes in
    let rest : List BlockItem = drop (i + 1) xs in
    let split : drop i xs ≡ x ∷ rest = drop_more xs i x lt ∙ ap (λ q. q ∷ rest) (sym is) in
    record {
      typed_so =
          h.typed_so ∙ ap (λ l. done ++ items_typed a (known_of now) l) split
          ∙ ap (λ z. done ++ (z ++ items_typed a (known_after_item x (known_of now)) rest)) (sym k.typed)
          ∙ ap (λ q. done ++ (ts ++ items_typed a q rest)) (sym g.known)
          ∙ sym (append_assoc done ts (items_typed a (known_of new) rest));
      first_so =
          h.first_so ∙ ap (λ l. first_of now.notes.first (items_offences a (known_of now) l)) split
          ∙ first_of-append now.notes.first (item_offences a (known_of now) x) (items_offences a (known_after_item x (known_of now)) rest)
          ∙ ap (λ f. first_of f (items_offences a (known_after_item x (known_of now)) rest)) (sym g.first)
          ∙ ap (λ q. first_of new.notes.first (items_offences a q rest)) (sym g.known);
      known_so = h.known_so ∙ ap (λ l. items_known l (known_of now)) split ∙ ap (items_known rest) (sym g.known);
    }

-- how many scopes there are
pub items_stand : (a : Around) (old now : Typer) (xs : List BlockItem) (i : ℕ) (done : List TStmt) → ItemsSoFar a old now xs i done → length now.scopes ≡ length old.scopes
items_stand a old now xs i done h = sym (items_depth (drop i xs) (known_of now)) ∙ ap (λ (k : Known). length k.scopes) (sym h.known_so) ∙ items_depth xs (known_of old)

pub block_stands : (a : Around) (old m0 mid : Typer) (xs : List BlockItem) (ts : List TStmt) → Goes old m0 [] (enter (known_of old)) → AreItems a m0 mid xs ts → length mid.scopes ≡ suc (length old.scopes)
block_stands a old m0 mid xs ts g h = ap (λ (k : Known). length k.scopes) h.goes.known ∙ items_depth xs (known_of m0) ∙ ap (λ (k : Known). length k.scopes) g.known

pub statement_stands : (a : Around) (old new : Typer) (s : Statement) (t : TStmt) → IsStmt a old new s t → length new.scopes ≡ length old.scopes
statement_stands a old new s t h = ap (λ (k : Known). length k.scopes) h.goes.known ∙ statement_depth s (known_of old)

pub goes_stands : (old new : Typer) (o : List Offence) (k : Known) → Goes old new o k → length new.scopes ≡ length k.scopes
goes_stands old new o k g = ap (λ (q : Known). length q.scopes) g.known

-- the body of a `for` has a scope more
pub for_stands : (old m0 m1 m2 m3 m4 : Typer) (p : Place) (f : ForFirst) (c : Option Expression) (step : Option Simple) →
    Goes old m0 [] (enter (known_of old)) → Goes m0 m1 [] (own kind.Unwind p (known_of m0)) → Goes m1 m2 (first_offences (known_of m1) f) (first_known f (known_of m1)) →
    Goes m2 m3 (condition_offences (known_of m2) c) (more (known_of m2) (condition_sites (known_of m2) c)) → Goes m3 m4 (step_offences (known_of m3) step) (more (known_of m3) (step_sites (known_of m3) step)) →
    length m4.scopes ≡ suc (length old.scopes)
for_stands old m0 m1 m2 m3 m4 p f c step g0 g1 g2 g3 g4 =
    ap (λ (k : Known). length k.scopes) g4.known
    ∙ ap (λ (k : Known). length k.scopes) g3.known
    ∙ ap (λ (k : Known). length k.scopes) g2.known
    ∙ first_depth f (known_of m1)
    ∙ ap (λ (k : Known). length k.scopes) g1.known
    ∙ ap (λ (k : Known). length k.scopes) g0.known
