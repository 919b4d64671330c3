use Rattle.offence_order.proofs.Heads.{leading_head, leading_none, leading-append, leading_one}
use Rattle.offence_order.proofs.leading_is_head.Goals as goal

pub returns-clause-head : goal.returns-clause-head
returns-clause-head c = leading_head

pub returns-clause-clean : goal.returns-clause-clean
returns-clause-clean c = leading_none

pub returns-clause-one : goal.returns-clause-one
returns-clause-one c = leading_one

pub returns-clause-parts : goal.returns-clause-parts
returns-clause-parts c = leading-append
