use Rattle.std.proofs.Common.{ap, ◌∙◌}
use Rattle.c_words.specs.Marks.{number_of}
use Rattle.c_statements.proofs.Simples.{element_aim}
use Rattle.c_statements.proofs.simple.target.Goals as goal

pub returns-in_ok-new-in-Element : goal.returns-in_ok-new-in-Element
returns-in_ok-new-in-Element c =
    element_aim c.args.scopes.now c.args.notes.now c.note_store-in-Element.new.notes c.expression.new.notes c.site.new.self c.args.path.now c.in-Element.o c.in-Element.bracket _ _ c.in_ok-at-in-Element.at _ _ _ _ _
    c.in-Element.is c.get.ensures c.in_ok-at-in-Element.ensures c.note_store-in-Element.ensures c.in_ok-i-in-Element.ensures c.in_ok-new-in-Element.ensures
    c.in_ok-site-in-Element.ensures.ok c.slot_found-in-Element.ensures c.type_found-in-Element.ensures (c.number.ensures ∙ ap number_of c.len.ensures)
