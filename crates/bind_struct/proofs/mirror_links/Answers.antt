use Rattle.std.proofs.Common.{◌≡◌, sym, subst, ◌∙◌}
use Rattle.std.specs.Prelude.{None, OnOk, IfErr}
use Rattle.bind_struct.specs.Ends.{IsEndOf}
use Rattle.bind_struct.specs.Paths.{named}
use Rattle.bind_struct.proofs.Linking.{groups_below}
use Rattle.bind_struct.proofs.mirror_links.Goals as goal

pub returns-in-Ok-clause-clean : goal.returns-in-Ok-clause-clean
returns-in-Ok-clause-clean c =
    subst (λ o. OnOk c.member_links.result (o ≡ None))
    (sym (groups_below c.args.program.now c.args.flat.now c.args.mirror.now (named c.in-Ok.paths) c.as_slice.result.now (sym c.is_top.ensures ∙ c.if-not-is_top.false) c.in-Ok.ensures.ok c.as_slice.ensures))
    c.member_links.ensures.clean

pub returns-in-Ok-clause-refused : goal.returns-in-Ok-clause-refused
returns-in-Ok-clause-refused c =
    subst (λ o. IfErr c.member_links.result (IsEndOf o))
    (sym (groups_below c.args.program.now c.args.flat.now c.args.mirror.now (named c.in-Ok.paths) c.as_slice.result.now (sym c.is_top.ensures ∙ c.if-not-is_top.false) c.in-Ok.ensures.ok c.as_slice.ensures))
    c.member_links.ensures.refused
