use Rattle.std.proofs.Common.{◌≡◌, ◌-◌, ◌≤◌, ◌++◌, length, drop, Some, vec_len}
use Rattle.std.specs.Prelude.{IfSome}
use Rattle.io_edge.proofs.reading.read_all.Given as goal

-- what was taken so far is the front of the file, and nothing failed
abbrev pub invariant-loop-buffer : goal.invariant-loop-buffer
invariant-loop-buffer g l = record {
  room : length l.buffer ≡ 4096;
  most : vec_len l.text ≤ 1048577;
  taken : (g.F.Files.reading l.files).taken ≡ length l.text.items;
  front : IfSome (g.F.Files.told l.files l.fn.name) (λ bytes. bytes ≡ l.text.items ++ drop (length l.text.items) bytes);
  started : (g.F.Files.reading l.files).started ≡ Some l.fn.name;
  told : g.F.Files.told l.files ≡ g.F.Files.told l.fn.files;
  same_count : (g.F.Files.reading l.files).faults ≡ (g.F.Files.reading l.fn.files).faults;
  no_fault : (g.F.Files.reading l.files).faults_since_start ≡ 0;
}

abbrev pub decreases-loop-buffer : goal.decreases-loop-buffer
decreases-loop-buffer g l = 1048577 - vec_len l.text
