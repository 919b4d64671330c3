-- What is marked when all edges were followed.
use Rattle.std.proofs.Common.{◌≡◌, ◌⊎◌, inl, inr, ℕ, ◌<◌, List, [], ◌∷◌, ◌++◌, length, get_or, Bool, false, refl, sym, ap, ◌∙◌, subst, arith}
use Rattle.std.specs.Prelude.{Contains, replicate}
use Rattle.std.specs.Global.{Vec}
use Rattle.std.proofs.lemmas.List.{get_or_past, get_or-replicate, length-replicate, get_or_read}
use Rattle.std.proofs.lemmas.List.Elements.{Contains-push_cases, Contains-push, Contains-append_left}
use Rattle.std.proofs.lemmas.Bool.{cases_lt}
use Rattle.edge_order.specs.Graph.{targets, HasEdge, Reached, Seed, Along, IsMarked, IsReach}
use Rattle.edge_order.specs.Marks.{Marks, IsSpread}
use Rattle.edge_order.proofs.Edges.{contains_none}

pub marked_within : (marks : List Bool) (k : ℕ) → IsMarked marks k → k < length marks
marked_within marks k h = elim (cases_lt k (length marks)) [
  | inl l ↦ l
  | inr g ↦ let past : get_or marks k false ≡ false = get_or_past marks k false g in absurd (let e = past in cc)
]

blank_none : (n k : ℕ) → IsMarked (replicate n false) k → ⊥
blank_none n k h = elim (cases_lt k n) [
  | inl l ↦ let e : get_or (replicate n false) k false ≡ false = get_or-replicate n k false false l in cc
  | inr g ↦ let l = marked_within (replicate n false) k h in let s = length-replicate n false in absurd (omega (arith, s))
]

marked_each : (nodes : List ℕ) (marks : List Bool) (k : ℕ) → ((i : ℕ) → i < length nodes → IsMarked marks (get_or nodes i 0)) → Contains nodes k → IsMarked marks k
marked_each nodes marks k M (i, lt, is) = subst (IsMarked marks) (sym (get_or_read nodes i k lt (sym is) 0)) (M i lt)

pub spread_first : (graph : List (Vec ℕ)) (seeds : List ℕ) (old new : List Bool) (before pending : List ℕ) → old ≡ replicate (length graph) false → before ≡ [] → Marks seeds (length seeds) old new before pending → IsSpread graph seeds new pending
spread_first graph seeds old new before pending e n M =
    let none : (k : ℕ) → IsMarked old k → ⊥ = λ k h. blank_none (length graph) k (subst (λ l. IsMarked l k) e h) in
    record {
      size = M.size ∙ ap length e ∙ length-replicate (length graph) false;
      sound = λ k h. elim (M.sound k h) [ inl o ↦ absurd (none k o) | inr s ↦ Seed k s ];
      seeded = λ k h. marked_each seeds new k M.marked h;
      waits = λ k h. elim (M.open_sound k h) [ inl o ↦ absurd (contains_none k (subst (λ l. Contains l k) n o)) | inr m ↦ m ];
      closed = λ a b m h. elim (M.fresh a m) [ inl o ↦ absurd (none a o) | inr p ↦ inl p ];
    }

pub spread_more : (graph : List (Vec ℕ)) (seeds : List ℕ) (node : ℕ) (marks new : List Bool) (all rest pending : List ℕ) → all ≡ rest ++ node ∷ [] → Marks (targets graph node) (length (targets graph node)) marks new rest pending → IsSpread graph seeds marks all → IsSpread graph seeds new pending
spread_more graph seeds node marks new all rest pending e M S =
    let popped : Contains all node = subst (λ l. Contains l node) (sym e) (Contains-push rest node) in
    let stays : (k : ℕ) → Contains rest k → Contains all k = λ k h. subst (λ l. Contains l k) (sym e) (Contains-append_left rest (node ∷ []) k h) in
    let splits : (k : ℕ) → Contains all k → Contains rest k ⊎ (node ≡ k) = λ k h. Contains-push_cases rest node k (subst (λ l. Contains l k) e h) in
    record {
      size = M.size ∙ S.size;
      sound = λ k h. elim (M.sound k h) [
        | inl o ↦ S.sound k o
        | inr t ↦ Along node k (S.sound node (S.waits node popped)) t
      ];
      seeded = λ k h. M.kept k (S.seeded k h);
      waits = λ k h. elim (M.open_sound k h) [ inl o ↦ M.kept k (S.waits k (stays k o)) | inr m ↦ m ];
      closed = λ a b m h. elim (M.fresh a m) [
        | inl o ↦ elim (S.closed a b o h) [
          | inl w ↦ elim (splits a w) [
            | inl r ↦ inl (M.open_kept a r)
            | inr n ↦ inr (marked_each (targets graph node) new b M.marked (subst (λ k. HasEdge graph k b) (sym n) h))
          ]
          | inr t ↦ inr (M.kept b t)
        ]
        | inr p ↦ inl p
      ];
    }

spread_all : (graph : List (Vec ℕ)) (seeds : List ℕ) (marks : List Bool) (k : ℕ) → IsSpread graph seeds marks [] → Reached graph seeds k → IsMarked marks k
spread_all graph seeds marks _ S (Seed k h) = S.seeded k h
spread_all graph seeds marks _ S (Along a b r h) = elim (S.closed a b (spread_all graph seeds marks a S r) h) [ inl w ↦ absurd (contains_none a w) | inr m ↦ m ]

pub spread_end : (graph : List (Vec ℕ)) (seeds : List ℕ) (marks : List Bool) (pending : List ℕ) → pending ≡ [] → IsSpread graph seeds marks pending → IsReach graph seeds marks
spread_end graph seeds marks pending e S = record {
  size = S.size;
  marked = λ k. (S.sound k, spread_all graph seeds marks k (subst (IsSpread graph seeds marks) e S));
}

-- a node that waits is one
pub popped_within : (graph : List (Vec ℕ)) (seeds : List ℕ) (marks : List Bool) (all rest : List ℕ) (node : ℕ) → all ≡ rest ++ node ∷ [] → IsSpread graph seeds marks all → node < length graph
popped_within graph seeds marks all rest node e S =
    subst (λ n. node < n) S.size (marked_within marks node (S.waits node (subst (λ l. Contains l node) (sym e) (Contains-push rest node))))

pub none_left : (xs : List ℕ) → length xs ≡ 0 → xs ≡ []
none_left [] e = refl
none_left (x ∷ xs) e = absurd (omega arith)
