-- What the dotted paths of a module name: the first of its signals with that path, or else an instance.
use Rattle.std.specs.Prelude.{ℕ, ◌+◌, List, [], ◌∷◌, Option, Some, None, bytes_eq, if◌then◌else◌}
use Rattle.joint_ir.specs.declared.module.FlatModule.{FlatModule}
use Rattle.joint_ir.specs.declared.module.Signal.{Signal as ASignal}
use Rattle.bind_struct.specs.declared.paths.Thing.{Thing}
use Rattle.bind_struct.specs.declared.paths.Thing.TheVariants.{Signal, Instance}

-- what paths name, if anything
abbrev pub Naming : Type 0
Naming = List ℕ → Option Thing

-- no path names anything
abbrev pub nothing : Naming
nothing path = None

-- what paths name that stand in a list
abbrev pub named : List (List ℕ × Thing) → Naming
named [] path = None
named (e ∷ es) path = if bytes_eq path e.0 then Some e.1 else named es path

-- with a path that names a thing
abbrev pub with_path : List ℕ → Thing → Naming → Naming
with_path name thing others path = if bytes_eq path name then Some thing else others path

-- the paths of instances
abbrev pub instance_paths : List (List ℕ) → Naming
instance_paths [] = nothing
instance_paths (name ∷ rest) = with_path name Instance (instance_paths rest)

-- signals, of which the first has a place
abbrev pub signal_paths : ℕ → List ASignal → Naming → Naming
signal_paths i [] others = others
signal_paths i (s ∷ signals) others = with_path s.path (Signal i) (signal_paths (i + 1) signals others)

-- a module's paths: its signals', and then its instances'
abbrev pub paths_of : FlatModule → Naming
paths_of m = signal_paths 0 m.signals (instance_paths m.instances)
