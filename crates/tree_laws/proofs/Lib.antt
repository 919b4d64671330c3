mod Productions
mod Spellings
mod VerilogReading
mod VerilogTrees
mod CReading
mod CTrees
