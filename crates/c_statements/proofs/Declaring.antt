-- Declarators, part after part.
use Rattle.std.proofs.Common.{◌≡◌, ℕ, List, [], ◌∷◌, ◌++◌, length, sym, ap, subst, ◌∙◌, append-nil}
use Rattle.std.specs.Prelude.{Bool}
use Rattle.src_text.specs.declared.refusal.Place.{Place}
use Rattle.c_tree.specs.declared.names.Identifier.{Identifier}
use Rattle.c_tree.specs.declared.declarations.Declarator.{Declarator}
use Rattle.c_tree.specs.declared.declarations.Declarator.TheVariants as declarator
use Rattle.c_tree.specs.declared.expressions.Expression.{Expression}
use Rattle.c_tree.specs.Starts.{expression_start}
use Rattle.joint_ir.specs.declared.ctype.IntType.{IntType}
use Rattle.offence_order.specs.declared.Offence.{Offence}
use Rattle.offence_order.specs.Order.{first_of}
use Rattle.c_words.specs.declared.notes.Notes.{Notes}
use Rattle.c_words.specs.declared.notes.Site.{Site}
use Rattle.c_names.specs.Scope.{Scope, declared_in}
use Rattle.c_constants.specs.declared.Constant.{Constant}
use Rattle.c_constants.specs.Constants.{constant_of, constant_offences, told, IsConstant}
use Rattle.c_constants.proofs.Telling.{told_then}
use Rattle.c_statements.specs.declared.walk.Typer.{Typer}
use Rattle.c_statements.specs.Known.{Known, with_scopes, more}
use Rattle.c_statements.specs.Moves.{known_of, Goes}
use Rattle.c_statements.specs.Arrays.{declared_length, length_offences, array_offences, range_offences, excess_offences}
use Rattle.c_statements.specs.Steps.{IsLength}
use Rattle.c_statements.specs.Statements.{declared_name, again_offences, pending, with_local, value_offences, value_sites, declarator_offences, declarator_known}
use Rattle.c_statements.proofs.Walking.{goes_then}

pub length_told : (env : List Scope) (old mid new : Notes) (e : Expression) (p : Place) (c : Constant) → p ≡ expression_start e → IsConstant env old mid p e c → new ≡ told mid (range_offences p c) → IsLength env old new e c
length_told env old mid new e p c is_p h n = record {
  value = h.value;
  notes =
      told_then old mid new (constant_offences env p e) (range_offences p c) h.notes n
      ∙ ap (λ z. told old (constant_offences env p e ++ range_offences p z)) h.value
      ∙ ap (λ q. told old (constant_offences env q e ++ range_offences q (constant_of e))) is_p;
}

-- the length of an array with its first elements
pub measured : (old : Typer) (mid new : Notes) (d : Declarator) (x : Identifier) (n : Expression) (es got : List Expression) (c : Constant) → d ≡ declarator.InitializedArray x n es → got ≡ es →
    IsLength old.scopes old.notes mid n c → new ≡ told mid (excess_offences c got) →
    Goes old (record { alloc = old.alloc; signatures = old.signatures; scopes = old.scopes; locals = old.locals; notes = new }) (length_offences old.scopes d) (known_of old)
measured old mid new d x n es got c is is_es h g =
    let all : new ≡ told old.notes (array_offences old.scopes n ++ excess_offences (constant_of n) es) =
    told_then old.notes mid new (array_offences old.scopes n) (excess_offences c got) h.notes g
    ∙ ap (λ z. told old.notes (array_offences old.scopes n ++ excess_offences z got)) h.value
    ∙ ap (λ z. told old.notes (array_offences old.scopes n ++ excess_offences (constant_of n) z)) is_es in
    record {
      first = ap (λ (m : Notes). m.first) all ∙ ap (λ z. first_of old.notes.first (length_offences old.scopes z)) (sym is);
      known = ap (λ (m : Notes). with_sites m.sites) all;
    }
  where
    with_sites : List Site → Known
    with_sites sites = record { fns = old.signatures; scopes = old.scopes; locals = old.locals; sites = sites }

pub declarator_goes : (t : IntType) (constant : Bool) (old m1 m2 m3 new : Typer) (d : Declarator) (x : Identifier) (count : ℕ) → x ≡ declared_name d → count ≡ declared_length d →
    Goes old m1 (length_offences old.scopes d) (known_of old) →
    Goes m1 m2 (again_offences x.place (declared_in m1.scopes x.name)) (with_scopes (known_of m1) (pending (known_of m1) x)) →
    Goes m2 m3 (value_offences m2.signatures m2.scopes d) (more (known_of m2) (value_sites m2.scopes d)) →
    Goes m3 new [] (with_local (known_of m3) t count constant x) →
    Goes old new (declarator_offences (known_of old) d) (declarator_known t constant d (known_of old))
declarator_goes t constant old m1 m2 m3 new d x count is_x is_count g1 g2 g3 g4 =
    let n = declared_name d in
    let k = known_of old in
    let k1 = with_scopes k (pending k n) in
    let vo = value_offences k.fns (pending k n) d in
    let k2 = more k1 (value_sites (pending k n) d) in
    let end = with_local k2 t (declared_length d) constant n in
    let ao = again_offences n.place (declared_in k.scopes n.name) in
    let f2 = subst (λ (y : Identifier). Goes m1 m2 (again_offences y.place (declared_in m1.scopes y.name)) (with_scopes (known_of m1) (pending (known_of m1) y))) is_x g2 in
    let e2 : Goes m1 m2 ao k1 = subst (λ (q : Known). Goes m1 m2 (again_offences n.place (declared_in q.scopes n.name)) (with_scopes q (pending q n))) g1.known f2 in
    let e3 : Goes m2 m3 vo k2 = subst (λ (q : Known). Goes m2 m3 (value_offences q.fns q.scopes d) (more q (value_sites q.scopes d))) e2.known g3 in
    let f4 = subst (λ (y : Identifier). Goes m3 new [] (with_local (known_of m3) t count constant y)) is_x g4 in
    let h4 = subst (λ c. Goes m3 new [] (with_local (known_of m3) t c constant n)) is_count f4 in
    let e4 : Goes m3 new [] end = subst (λ (q : Known). Goes m3 new [] (with_local q t (declared_length d) constant n)) e3.known h4 in
    goes_then old m1 new (length_offences k.scopes d) (ao ++ vo) k end g1
    (goes_then m1 m2 new ao vo k1 end e2
    (subst (λ o. Goes m2 new o end) (append-nil vo) (goes_then m2 m3 new vo [] k2 end e3 e4)))
