-- What is known at a place of a file.
use Rattle.std.specs.Prelude.{List, [], ◌∷◌, ◌++◌}
use Rattle.joint_ir.specs.declared.program.Var.{Var}
use Rattle.c_words.specs.declared.notes.Site.{Site}
use Rattle.c_names.specs.Scope.{Scope, leave}
use Rattle.c_statements.specs.declared.calls.Signature.{Signature}

-- what is known at a place of a function's text
pub record Known : Type 0 where
  pub fns : List Signature
  pub scopes : List Scope
  -- the parameters and automatic variables so far
  pub locals : List Var
  -- the properties so far
  pub sites : List Site

-- with other scopes
abbrev pub with_scopes : Known → List Scope → Known
with_scopes k scopes = record { fns = k.fns; scopes = scopes; locals = k.locals; sites = k.sites }

-- at the beginning of a block, which has a scope of its own (C99 6.2.1p4)
abbrev pub enter : Known → Known
enter k = with_scopes k ([] ∷ k.scopes)

-- at the end of a block, whose names end with it
abbrev pub leave_scope : Known → Known
leave_scope k = with_scopes k (leave k.scopes)

-- with more properties
abbrev pub more : Known → List Site → Known
more k sites = record { fns = k.fns; scopes = k.scopes; locals = k.locals; sites = k.sites ++ sites }
