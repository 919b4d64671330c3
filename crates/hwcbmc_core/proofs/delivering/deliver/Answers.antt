use Rattle.std.proofs.Common.{inl, refl}
use Rattle.hwcbmc_core.proofs.delivering.deliver.Goals as goal

pub returns-in-Usage : goal.returns-in-Usage
returns-in-Usage g c = rw c.in-Usage.is (inl (c.send.ensures, refl))

pub returns-in-Successful : goal.returns-in-Successful
returns-in-Successful g c = rw c.in-Successful.is (inl (c.send-in-Successful.ensures, refl))

pub returns-in-Memory : goal.returns-in-Memory
returns-in-Memory g c = rw c.in-Memory.is (inl (c.send-in-Memory.ensures, refl))

pub returns-in-Spent : goal.returns-in-Spent
returns-in-Spent g c = rw c.in-Spent.is (inl (c.send-in-Spent.ensures, refl))
