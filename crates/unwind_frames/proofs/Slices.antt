-- The same facts of lists that are equal, as code has them behind slices.
use Rattle.std.proofs.Common.{◌≡◌, ℕ, List, sym, subst}
use Rattle.word_eqs.specs.declared.term.TermId.{TermId}
use Rattle.word_eqs.specs.Graph.{Graph}
use Rattle.joint_ir.specs.declared.module.FlatModule.{FlatModule}
use Rattle.joint_ir.specs.declared.module.Role.TheVariants.{Input, Register, Wire}
use Rattle.joint_ir.specs.declared.module.Signal.{Signal}
use Rattle.joint_ir.specs.declared.pair.Pair.{Pair}
use Rattle.joint_ir.specs.Views.{widths_of}
use Rattle.joint_ir.specs.WellFormed.{AreTerms}
use Rattle.unrolled.specs.declared.Unrolled.{Unrolled}
use Rattle.unwind_state.specs.declared.state.Guard.{Guard}
use Rattle.unwind_state.specs.Guards.{Adds}
use Rattle.unwind_module.specs.Words.{AreAlike, AreChosen}
use Rattle.unwind_module.proofs.Choices.{alike}
use Rattle.unwind_module.proofs.Terms.{grows_adds, terms_kept}
use Rattle.unwind_words.specs.Rows.{HaveTerms, HasSignals, AreAlikeRows, AreChosenRows, AreDriven}
use Rattle.unwind_frames.specs.declared.views.Sources.{Sources}
use Rattle.unwind_frames.specs.Frames.{AreSettled, AreNext, HasSources}

-- terms of one list of widths are alike, also in a later graph
pub alike_grown : (n m : Unrolled) (new old new' old' : List TermId) (ws : List ℕ) → Adds n m → AreTerms n.terms new ws → AreTerms n.terms old ws → new' ≡ new → old' ≡ old → AreAlike m.terms new' old'
alike_grown n m new old new' old' ws L a b e d =
    let h = alike m.terms new old ws (terms_kept n.terms m.terms new ws (grows_adds n m L) a) (terms_kept n.terms m.terms old ws (grows_adds n m L) b) in
    subst (λ l. AreAlike m.terms l old') (sym e) (subst (λ l. AreAlike m.terms new l) (sym d) h)

pub chosen_slices : (n m : Unrolled) (g : Guard) (new old new' old' ids : List TermId) → new' ≡ new → old' ≡ old → AreChosen n m g new' old' ids → AreChosen n m g new old ids
chosen_slices n m g new old new' old' ids e d C = subst (λ l. AreChosen n m g l old ids) e (subst (λ l. AreChosen n m g new' l ids) d C)

pub alike_rows_slices : (g : Graph) (new old new' old' : List (List TermId)) → new' ≡ new → old' ≡ old → AreAlikeRows g new old → AreAlikeRows g new' old'
alike_rows_slices g new old new' old' e d h = subst (λ l. AreAlikeRows g l old') (sym e) (subst (λ l. AreAlikeRows g new l) (sym d) h)

pub chosen_rows_slices : (n m : Unrolled) (g : Guard) (new old new' old' rows : List (List TermId)) → new' ≡ new → old' ≡ old → AreChosenRows n m g new' old' rows → AreChosenRows n m g new old rows
chosen_rows_slices n m g new old new' old' rows e d C = subst (λ l. AreChosenRows n m g l old rows) e (subst (λ l. AreChosenRows n m g new' l rows) d C)

pub settled_slices : (m : FlatModule) (n0 n1 : Unrolled) (R I U R' I' U' ids : List TermId) → R' ≡ R → I' ≡ I → U' ≡ U → AreSettled m n0 n1 R' I' U' ids → AreSettled m n0 n1 R I U ids
settled_slices m n0 n1 R I U R' I' U' ids a b c S = subst (λ l. AreSettled m n0 n1 l I U ids) a (subst (λ l. AreSettled m n0 n1 R' l U ids) b (subst (λ l. AreSettled m n0 n1 R' I' l ids) c S))

pub next_slices : (m : FlatModule) (n0 n1 : Unrolled) (R I W U R' I' W' U' ids : List TermId) → R' ≡ R → I' ≡ I → W' ≡ W → U' ≡ U → AreNext m n0 n1 R' I' W' U' ids → AreNext m n0 n1 R I W U ids
next_slices m n0 n1 R I W U R' I' W' U' ids a b c d N =
    subst (λ l. AreNext m n0 n1 l I W U ids) a (subst (λ l. AreNext m n0 n1 R' l W U ids) b (subst (λ l. AreNext m n0 n1 R' I' l U ids) c (subst (λ l. AreNext m n0 n1 R' I' W' l ids) d N)))

pub signals_slices : (n0 n1 : Unrolled) (signals signals' : List Signal) (R I W R' I' W' : List TermId) (rows : List (List TermId)) → signals' ≡ signals → R' ≡ R → I' ≡ I → W' ≡ W → HasSignals n0 n1 signals' R' I' W' rows → HasSignals n0 n1 signals R I W rows
signals_slices n0 n1 signals signals' R I W R' I' W' rows z a b c S =
    subst (λ l. HasSignals n0 n1 l R I W rows) z (subst (λ l. HasSignals n0 n1 signals' l I W rows) a (subst (λ l. HasSignals n0 n1 signals' R' l W rows) b (subst (λ l. HasSignals n0 n1 signals' R' I' l rows) c S)))

-- the terms that a view's signals need
pub view_terms : (p : Pair) (n0 n1 : Unrolled) (x : Sources) (wires : List TermId) (signals : List Signal) (R I W : List TermId) → signals ≡ p.module.signals → R ≡ x.registers → I ≡ x.inputs → W ≡ wires →
    HasSources p n0.terms x → AreSettled p.module n0 n1 x.registers x.inputs x.unknown wires → HaveTerms n1.terms signals R I W
view_terms p n0 n1 x wires signals R I W z a b c X S =
    let G = grows_adds n0 n1 S.adds in
    subst (λ l. HaveTerms n1.terms l R I W) (sym z) (record {
      registers_ = subst (λ l. AreTerms n1.terms l (widths_of Register p.module.signals)) (sym a) (terms_kept n0.terms n1.terms x.registers (widths_of Register p.module.signals) G X.registers_);
      inputs_ = subst (λ l. AreTerms n1.terms l (widths_of Input p.module.signals)) (sym b) (terms_kept n0.terms n1.terms x.inputs (widths_of Input p.module.signals) G X.inputs_);
      wires_ = subst (λ l. AreTerms n1.terms l (widths_of Wire p.module.signals)) (sym c) S.terms;
    })

pub driven_slices : (p : Pair) (n0 n1 : Unrolled) (members members' : List (List TermId)) (inputs inputs' ids : List TermId) → members' ≡ members → inputs' ≡ inputs → AreDriven p n0 n1 members' inputs' ids → AreDriven p n0 n1 members inputs ids
driven_slices p n0 n1 members members' inputs inputs' ids e d D = subst (λ l. AreDriven p n0 n1 l inputs ids) e (subst (λ l. AreDriven p n0 n1 members' l ids) d D)
