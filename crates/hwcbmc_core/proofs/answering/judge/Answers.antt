use Rattle.hwcbmc_core.specs.Answers.{c_refused, v_refused}
use Rattle.hwcbmc_core.proofs.answering.judge.Goals as goal

pub returns-in-Err-CRefused : goal.returns-in-Err-CRefused
returns-in-Err-CRefused g c = rw c.in-Err-CRefused.refusal-is (c_refused c.in-Err-CRefused.refusal (rw c.in-Err-CRefused.field-0-is at c.in-Err-CRefused.ensures.refused))

pub returns-in-Err-VRefused : goal.returns-in-Err-VRefused
returns-in-Err-VRefused g c = let ends = rw c.in-Err-VRefused.field-0-is at c.in-Err-VRefused.ensures.refused in
    rw c.in-Err-VRefused.refusal-is (v_refused c.in-Err-VRefused.refusal ends.0 ends.1)
