-- What is read of a file, where its bytes are told, and what a reader of files is seen as.
use Rattle.std.specs.Prelude.{◌≡◌, ℕ, ◌+◌, ◌≤◌, ◌↔◌, List, ◌++◌, length, drop, Option, None, Some}

-- the bytes of the file that was started last, where they are told
abbrev pub started_file : (List ℕ → Option (List ℕ)) → Option (List ℕ) → Option (List ℕ)
started_file told None = None
started_file told (Some name) = told name

-- After `taken` bytes of a file the next n are this piece, and there are none exactly at the file's end.
pub record IsNextPiece (bytes : List ℕ) (taken n : ℕ) (piece : List ℕ) : Type 0 where
  pub next : drop taken bytes ≡ piece ++ drop (taken + n) bytes
  pub end : (n ≡ 0) ↔ (length bytes ≤ taken)

-- What a reader of files is seen as: the name last handed to `start`, also where that call failed; how many bytes were taken
-- since then; how many calls of `start` and `read` failed since then, that `start` counted; and how many failed at all.
pub record Reading : Type 0 where
  pub started : Option (List ℕ)
  pub taken : ℕ
  pub faults_since_start : ℕ
  pub faults : ℕ
