use Rattle.c_structs.proofs.Tagging.{name_was, names_with}
use Rattle.c_structs.proofs.names.Names.add.Goals as goal

pub returns-clause-was : goal.returns-clause-was
returns-clause-was c = name_was c.self.inside.names c.in_ok-key.key _ _ _ _ c.self.view_is c.text.ensures c.in_ok-key.ensures.ok c.in_ok-is_new.ensures.added

pub returns-clause-names : goal.returns-clause-names
returns-clause-names c = names_with c.self.inside.names c.insert.new.self c.in_ok-key.key _ _ _ c.self.view_is c.text.ensures c.in_ok-key.ensures.ok c.in_ok-is_new.ensures.keys
