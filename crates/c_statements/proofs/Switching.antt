-- A `switch`, group after group.
use Rattle.std.proofs.Common.{◌≡◌, ℕ, ◌+◌, ◌<◌, List, [], ◌∷◌, ◌++◌, length, drop, get_or, refl, sym, ap, subst, ◌∙◌, append_assoc}
use Rattle.std.proofs.lemmas.List.{drop_more}
use Rattle.src_text.specs.declared.refusal.Place.{Place}
use Rattle.c_tree.specs.declared.expressions.Expression.{Expression}
use Rattle.c_tree.specs.declared.statements.Group.{Group}
use Rattle.c_tree.specs.declared.statements.Label.{Label}
use Rattle.c_tree.specs.declared.statements.Statement.{Statement}
use Rattle.c_tree.specs.declared.statements.Statement as statement
use Rattle.c_tree.specs.declared.statements.BlockItem.TheBlock.{hidden-the_row-Statement-2, hidden-the_row-Group-3}
use denote.Hole.Carrier.{hidden}
use Rattle.joint_ir.specs.declared.ctype.IntType.{IntType}
use Rattle.joint_ir.specs.declared.expr.TExpr.{TExpr}
use Rattle.joint_ir.specs.declared.stmt.Group.{Group as TGroup}
use Rattle.joint_ir.specs.declared.stmt.Label.{Label as TLabel}
use Rattle.joint_ir.specs.declared.stmt.SNode.{SNode, Switch}
use Rattle.joint_ir.specs.declared.stmt.TStmt.{TStmt}
use Rattle.offence_order.specs.declared.Offence.{Offence}
use Rattle.offence_order.specs.Order.{first_of}
use Rattle.offence_order.proofs.Firsts.{first_of-append}
use Rattle.c_words.specs.Types.{promoted}
use Rattle.c_expressions.specs.Expressions.{type_of, typed_of, offences_in, converted_to}
use Rattle.c_expressions.proofs.Cases.{has_type}
use Rattle.c_statements.specs.declared.walk.Around.{Around}
use Rattle.c_statements.specs.declared.walk.Typer.{Typer}
use Rattle.c_statements.specs.Known.{Known}
use Rattle.c_statements.specs.Moves.{known_of, Goes}
use Rattle.c_statements.specs.Switches.{labels_typed, labels_offences}
use Rattle.c_statements.specs.Statements.{after_expression, in_a_switch, group_typed, stmt_at, stmt_typed, offences_of, known_after, known_after_groups, known_after_stmts, groups_offences, stmts_offences, groups_typed, stmts_typed, statements_known, statements_offences, statements_typed, cases_known, cases_offences, cases_typed}
use Rattle.c_statements.specs.Walks.{IsStmt, AreStmts, AreCases, StmtsSoFar, CasesSoFar}
use Rattle.c_statements.proofs.Walking.{goes_then, seen_as}
use Rattle.c_statements.proofs.Depths.{statements_depth, cases_depth}

-- a row is its list
stmts_row_known : (xs : List Statement) (k : Known) → known_after_stmts (hidden-the_row-Statement-2 xs) k ≡ statements_known xs k
unfolding hidden-the_row-Statement-2 hidden
stmts_row_known [] k = refl
stmts_row_known (x ∷ xs) k = stmts_row_known xs (known_after x k)

stmts_row_noted : (xs : List Statement) (a : Around) (k : Known) → stmts_offences a k (hidden-the_row-Statement-2 xs) ≡ statements_offences a k xs
unfolding hidden-the_row-Statement-2 hidden
stmts_row_noted [] a k = refl
stmts_row_noted (x ∷ xs) a k = ap (λ l. offences_of a k x ++ l) (stmts_row_noted xs a (known_after x k))

stmts_row_made : (xs : List Statement) (a : Around) (k : Known) → stmts_typed a k (hidden-the_row-Statement-2 xs) ≡ statements_typed a k xs
unfolding hidden-the_row-Statement-2 hidden
stmts_row_made [] a k = refl
stmts_row_made (x ∷ xs) a k = ap (λ l. stmt_typed a k x ∷ l) (stmts_row_made xs a (known_after x k))

cases_row_known : (gs : List Group) (k : Known) → known_after_groups (hidden-the_row-Group-3 gs) k ≡ cases_known gs k
unfolding hidden-the_row-Group-3 hidden
cases_row_known [] k = refl
cases_row_known (g ∷ gs) k = ap (known_after_groups (hidden-the_row-Group-3 gs)) (stmts_row_known g.body k) ∙ cases_row_known gs (statements_known g.body k)

cases_row_noted : (gs : List Group) (a : Around) (k : Known) (t : IntType) (seen : List TLabel) → groups_offences a k t seen (hidden-the_row-Group-3 gs) ≡ cases_offences a k t seen gs
unfolding hidden-the_row-Group-3 hidden
cases_row_noted [] a k t seen = refl
cases_row_noted (g ∷ gs) a k t seen =
    ap (λ l. labels_offences k.scopes t seen g.labels ++ (l ++ groups_offences a (known_after_stmts (hidden-the_row-Statement-2 g.body) k) t (seen ++ labels_typed t g.labels) (hidden-the_row-Group-3 gs))) (stmts_row_noted g.body a k)
    ∙ ap (λ q. labels_offences k.scopes t seen g.labels ++ (statements_offences a k g.body ++ groups_offences a q t (seen ++ labels_typed t g.labels) (hidden-the_row-Group-3 gs))) (stmts_row_known g.body k)
    ∙ ap (λ l. labels_offences k.scopes t seen g.labels ++ (statements_offences a k g.body ++ l)) (cases_row_noted gs a (statements_known g.body k) t (seen ++ labels_typed t g.labels))

cases_row_made : (gs : List Group) (a : Around) (k : Known) (t : IntType) → groups_typed a k t (hidden-the_row-Group-3 gs) ≡ cases_typed a k t gs
unfolding hidden-the_row-Group-3 hidden
cases_row_made [] a k t = refl
cases_row_made (g ∷ gs) a k t =
    ap (λ l. group_typed (labels_typed t g.labels) l ∷ groups_typed a (known_after_stmts (hidden-the_row-Statement-2 g.body) k) t (hidden-the_row-Group-3 gs)) (stmts_row_made g.body a k)
    ∙ ap (λ q. group_typed (labels_typed t g.labels) (statements_typed a k g.body) ∷ groups_typed a q t (hidden-the_row-Group-3 gs)) (stmts_row_known g.body k)
    ∙ ap (λ l. group_typed (labels_typed t g.labels) (statements_typed a k g.body) ∷ l) (cases_row_made gs a (statements_known g.body k) t)

pub switch_case : (a a' : Around) (old mid new : Typer) (s : Statement) (p : Place) (e : Expression) (gs got : List Group) (x test held : TExpr) (t : IntType) (cases : List TGroup) → s ≡ statement.Switch p e gs → a' ≡ in_a_switch a → got ≡ gs →
    x ≡ typed_of old.scopes (length old.notes.sites) e → Goes old mid (offences_in old.scopes e) (after_expression e (known_of old)) → t ≡ promoted x.ty → test ≡ converted_to t x → held ≡ test →
    AreCases a' t mid new got cases → IsStmt a old new s (stmt_at p (Switch held cases))
switch_case a a' old mid new s p e gs got x test held t cases is is_a is_gs hx g is_t is_test is_held h =
    let k = known_of old in
    let k' = after_expression e k in
    let t' : IntType = promoted (type_of k.scopes e) in
    let same_t : t ≡ t' = is_t ∙ ap (λ (z : TExpr). promoted z.ty) hx ∙ ap promoted (has_type k.scopes (length k.sites) e) in
    let i = subst (λ z. AreCases a' t mid new z cases) is_gs h in
    let j = subst (λ z. AreCases z t mid new gs cases) is_a i in
    let m : AreCases (in_a_switch a) t' mid new gs cases = subst (λ z. AreCases (in_a_switch a) z mid new gs cases) same_t j in
    let n : Goes mid new (cases_offences (in_a_switch a) k' t' [] gs) (cases_known gs k') = subst (λ (q : Known). Goes mid new (cases_offences (in_a_switch a) q t' [] gs) (cases_known gs q)) g.known m.goes in
    record {
      typed =
          ap (λ z. stmt_at p (Switch z cases)) (is_held ∙ is_test ∙ ap (λ z. converted_to z x) same_t ∙ ap (converted_to t') hx)
          ∙ ap (λ z. stmt_at p (Switch (converted_to t' (typed_of k.scopes (length k.sites) e)) z)) (m.typed ∙ ap (λ q. cases_typed (in_a_switch a) q t' gs) g.known ∙ sym (cases_row_made gs (in_a_switch a) k' t'))
          ∙ ap (stmt_typed a k) (sym is);
      goes =
          seen_as a old new s (statement.Switch p e gs) is
          (subst (λ o. Goes old new (offences_in k.scopes e ++ o) (known_after_groups (hidden-the_row-Group-3 gs) k')) (sym (cases_row_noted gs (in_a_switch a) k' t' []))
          (subst (λ q. Goes old new (offences_in k.scopes e ++ cases_offences (in_a_switch a) k' t' [] gs) q) (sym (cases_row_known gs k'))
          (goes_then old mid new (offences_in k.scopes e) (cases_offences (in_a_switch a) k' t' [] gs) k' (cases_known gs k') g n)));
    }

pub statements_next : (a : Around) (old now new : Typer) (xs : List Statement) (i : ℕ) (done : List TStmt) (x : Statement) (t : TStmt) → i < length xs → x ≡ get_or xs i x →
    StmtsSoFar a old now xs i done → IsStmt a now new x t → StmtsSoFar a old new xs (i + 1) (done ++ t ∷ [])
statements_next a old now new xs i done x t lt is h k =
    let g = k.goes in
    let rest : List Statement = drop (i + 1) xs in
    let split : drop i xs ≡ x ∷ rest = drop_more xs i x lt ∙ ap (λ q. q ∷ rest) (sym is) in
    record {
      typed_so =
          h.typed_so ∙ ap (λ l. done ++ statements_typed a (known_of now) l) split
          ∙ ap (λ z. done ++ z ∷ statements_typed a (known_after x (known_of now)) rest) (sym k.typed)
          ∙ ap (λ q. done ++ t ∷ statements_typed a q rest) (sym g.known)
          ∙ sym (append_assoc done (t ∷ []) (statements_typed a (known_of new) rest));
      first_so =
          h.first_so ∙ ap (λ l. first_of now.notes.first (statements_offences a (known_of now) l)) split
          ∙ first_of-append now.notes.first (offences_of a (known_of now) x) (statements_offences a (known_after x (known_of now)) rest)
          ∙ ap (λ f. first_of f (statements_offences a (known_after x (known_of now)) rest)) (sym g.first)
          ∙ ap (λ q. first_of new.notes.first (statements_offences a q rest)) (sym g.known);
      known_so = h.known_so ∙ ap (λ l. statements_known l (known_of now)) split ∙ ap (statements_known rest) (sym g.known);
    }

pub cases_next : (a : Around) (t : IntType) (old now mid new : Typer) (gs : List Group) (i : ℕ) (seen seen' : List TLabel) (done : List TGroup) (g : Group) (ls : List TLabel) (lbs : List Label) (got : List Statement) (ts : List TStmt) → i < length gs → g ≡ get_or gs i g →
    CasesSoFar a t old now gs i seen done → lbs ≡ g.labels → ls ≡ labels_typed t lbs → seen' ≡ seen ++ labels_typed t lbs → Goes now mid (labels_offences now.scopes t seen lbs) (known_of now) → got ≡ g.body → AreStmts a mid new got ts →
    CasesSoFar a t old new gs (i + 1) seen' (done ++ group_typed ls ts ∷ [])
cases_next a t old now mid new gs i seen seen' done g ls lbs got ts lt is h is_lbs ls_is seen_is goes is_got k' =
    let is_ls : ls ≡ labels_typed t g.labels = ls_is ∙ ap (labels_typed t) is_lbs in
    let is_seen : seen' ≡ seen ++ labels_typed t g.labels = seen_is ∙ ap (λ z. seen ++ labels_typed t z) is_lbs in
    let e : Goes now mid (labels_offences now.scopes t seen g.labels) (known_of now) = subst (λ z. Goes now mid (labels_offences now.scopes t seen z) (known_of now)) is_lbs goes in
    let rest : List Group = drop (i + 1) gs in
    let split : drop i gs ≡ g ∷ rest = drop_more gs i g lt ∙ ap (λ q. q ∷ rest) (sym is) in
    let k : AreStmts a mid new g.body ts = subst (λ z. AreStmts a mid new z ts) is_got k' in
    let now_k = known_of now in
    let after = statements_known g.body now_k in
    let made : ts ≡ statements_typed a now_k g.body = k.typed ∙ ap (λ q. statements_typed a q g.body) e.known in
    let n : Goes mid new (statements_offences a now_k g.body) after = subst (λ (q : Known). Goes mid new (statements_offences a q g.body) (statements_known g.body q)) e.known k.goes in
    let all : Goes now new (labels_offences now.scopes t seen g.labels ++ statements_offences a now_k g.body) after =
    goes_then now mid new (labels_offences now.scopes t seen g.labels) (statements_offences a now_k g.body) now_k after e n in
    let los = labels_offences now.scopes t seen g.labels in
    let sos = statements_offences a now_k g.body in
    record {
      typed_so =
          h.typed_so ∙ ap (λ l. done ++ cases_typed a now_k t l) split
          ∙ ap (λ z. done ++ group_typed z (statements_typed a now_k g.body) ∷ cases_typed a after t rest) (sym is_ls)
          ∙ ap (λ z. done ++ group_typed ls z ∷ cases_typed a after t rest) (sym made)
          ∙ ap (λ q. done ++ group_typed ls ts ∷ cases_typed a q t rest) (sym all.known)
          ∙ sym (append_assoc done (group_typed ls ts ∷ []) (cases_typed a (known_of new) t rest));
      first_so =
          h.first_so ∙ ap (λ l. first_of now.notes.first (cases_offences a now_k t seen l)) split
          ∙ ap (first_of now.notes.first) (sym (append_assoc los sos (cases_offences a after t (seen ++ labels_typed t g.labels) rest)))
          ∙ first_of-append now.notes.first (los ++ sos) (cases_offences a after t (seen ++ labels_typed t g.labels) rest)
          ∙ ap (λ f. first_of f (cases_offences a after t (seen ++ labels_typed t g.labels) rest)) (sym all.first)
          ∙ ap (λ q. first_of new.notes.first (cases_offences a q t (seen ++ labels_typed t g.labels) rest)) (sym all.known)
          ∙ ap (λ z. first_of new.notes.first (cases_offences a (known_of new) t z rest)) (sym is_seen);
      known_so = h.known_so ∙ ap (λ l. cases_known l now_k) split ∙ ap (cases_known rest) (sym all.known);
    }

pub statements_stand : (a : Around) (old now : Typer) (xs : List Statement) (i : ℕ) (done : List TStmt) → StmtsSoFar a old now xs i done → length now.scopes ≡ length old.scopes
statements_stand a old now xs i done h = sym (statements_depth (drop i xs) (known_of now)) ∙ ap (λ (k : Known). length k.scopes) (sym h.known_so) ∙ statements_depth xs (known_of old)

pub cases_stand : (a : Around) (t : IntType) (old now : Typer) (gs : List Group) (i : ℕ) (seen : List TLabel) (done : List TGroup) → CasesSoFar a t old now gs i seen done → length now.scopes ≡ length old.scopes
cases_stand a t old now gs i seen done h = sym (cases_depth (drop i gs) (known_of now)) ∙ ap (λ (k : Known). length k.scopes) (sym h.known_so) ∙ cases_depth gs (known_of old)
