-- What names mean (C99 6.2.1).
use Rattle.std.specs.Prelude.{ℕ, List, [], ◌∷◌, Option, Some, None, bytes_eq, if◌then◌else◌}
use Rattle.c_names.specs.declared.scope.Entry.{Entry}

-- the names that one scope declares
abbrev pub Scope : Type 0
Scope = List (List ℕ × Entry)

-- what a name means in one scope
abbrev pub find_in : Scope → List ℕ → Option Entry
find_in [] name = None
find_in (e ∷ scope) name = if bytes_eq name e.0 then Some e.1 else find_in scope name

-- the first entry, or else the second
abbrev pub or_else : Option Entry → Option Entry → Option Entry
or_else None other = other
or_else (Some e) other = Some e

-- a scope in which a name means an entry
abbrev pub put : List ℕ → Entry → Scope → Scope
put name entry [] = (name, entry) ∷ []
put name entry (e ∷ scope) = if bytes_eq name e.0 then (e.0, entry) ∷ scope else e ∷ put name entry scope

-- what a name means in the innermost scope
abbrev pub declared_in : List Scope → List ℕ → Option Entry
declared_in [] name = None
declared_in (scope ∷ outer) name = find_in scope name

-- with a name declared in the innermost scope
abbrev pub declare : List Scope → List ℕ → Entry → List Scope
declare [] name entry = []
declare (scope ∷ outer) name entry = put name entry scope ∷ outer

-- without the innermost scope
abbrev pub leave : List Scope → List Scope
leave [] = []
leave (scope ∷ outer) = outer

-- what a name means in scopes, the innermost first
abbrev pub lookup : List Scope → List ℕ → Option Entry
lookup [] name = None
lookup (scope ∷ outer) name = or_else (find_in scope name) (lookup outer name)
