-- A path that names a signal is the path of that signal.
use Rattle.std.proofs.Common.{◌≡◌, ℕ, suc, ◌+◌, List, [], ◌∷◌, Bool, true, false, refl, sym, ap, ◌∙◌, arith}
use Rattle.std.specs.Prelude.{Some, bytes_eq, cond, slice_get}
use Rattle.std.proofs.lemmas.Slice.Eq.{bytes_eq-Decides}
use Rattle.joint_ir.specs.declared.module.FlatModule.{FlatModule}
use Rattle.joint_ir.specs.declared.module.Signal.{Signal as ASignal}
use Rattle.bind_struct.specs.declared.paths.Thing.TheVariants.{Signal, Instance}
use Rattle.bind_struct.specs.Paths.{Naming, instance_paths, paths_of, signal_paths}

-- a signal of a list, of which the first has a place
pub record Named (signals : List ASignal) (first at : ℕ) (path : List ℕ) : Type 0 where
  pub behind : ℕ
  pub signal : ASignal
  pub place : at ≡ first + behind
  pub there : slice_get signals behind ≡ Some signal
  pub path_is : path ≡ signal.path

no_signal : (names : List (List ℕ)) (path : List ℕ) (j : ℕ) → instance_paths names path ≡ Some (Signal j) → ⊥
no_signal [] path j h = cc
no_signal (n ∷ names) path j h = pick (bytes_eq path n) h (no_signal names path j)
  where
    pick : (q : Bool) → cond q (Some Instance) (instance_paths names path) ≡ Some (Signal j) → (instance_paths names path ≡ Some (Signal j) → ⊥) → ⊥
    pick true g k = cc
    pick false g k = k g

later : (s : ASignal) (signals : List ASignal) (first at : ℕ) (path : List ℕ) → Named signals (first + 1) at path → Named (s ∷ signals) first at path
later s signals first at path n = record {
  behind = suc n.behind;
  signal = n.signal;
  place = let e : at ≡ first + 1 + n.behind = n.place in omega (arith, e);
  there = n.there;
  path_is = n.path_is;
}

names : (signals : List ASignal) (others : Naming) → ((path : List ℕ) (j : ℕ) → others path ≡ Some (Signal j) → ⊥) →
    (first : ℕ) (path : List ℕ) (j : ℕ) → signal_paths first signals others path ≡ Some (Signal j) → Named signals first j path
names [] others none first path j h = absurd (none path j h)
names (s ∷ signals) others none first path j h = pick (bytes_eq path s.path) refl h (names signals others none (first + 1) path j)
  where
    pick : (q : Bool) → bytes_eq path s.path ≡ q → cond q (Some (Signal first)) (signal_paths (first + 1) signals others path) ≡ Some (Signal j) →
        (signal_paths (first + 1) signals others path ≡ Some (Signal j) → Named signals (first + 1) j path) → Named (s ∷ signals) first j path
    pick true is g k = record {
      behind = 0;
      signal = s;
      place = let e : first ≡ j = cc in omega (arith, e);
      there = refl;
      path_is = (bytes_eq-Decides path s.path).0 is;
    }
    pick false is g k = later s signals first j path (k g)

-- what a path names among the signals of a module
pub path_names : (m : FlatModule) (path : List ℕ) (j : ℕ) → paths_of m path ≡ Some (Signal j) → (s : ASignal) × (slice_get m.signals j ≡ Some s) × (path ≡ s.path)
path_names m path j h =
    let n = names m.signals (instance_paths m.instances) (no_signal m.instances) 0 path j h in
    let e : n.behind ≡ j = let f : j ≡ 0 + n.behind = n.place in omega (arith, f) in
    (n.signal, ap (slice_get m.signals) (sym e) ∙ n.there, n.path_is)
