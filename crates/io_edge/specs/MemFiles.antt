-- What files in memory tell.
use Rattle.std.specs.Prelude.{◌≡◌, ◌≢◌, ℕ, List, [], ◌∷◌, Option, None, Some, if◌then◌else◌}
use Rattle.std.specs.Str.{bytes_eq}
use Rattle.io_edge.specs.Files.{started_file}
use Rattle.io_edge.specs.declared.mem_files.MemFile.{MemFile}
use Rattle.io_edge.specs.declared.mem_files.MemFiles.{MemFiles}

-- the first text under a name
abbrev pub text_under : List MemFile → List ℕ → Option (List ℕ)
text_under [] name = None
text_under (file ∷ files) name = if bytes_eq file.name name then Some file.text.items else text_under files name

-- a text is put under a name, and each other name has what it had
pub record IsPut (old new : List MemFile) (name text : List ℕ) : Type 0 where
  pub there : text_under new name ≡ Some text
  pub others : (other : List ℕ) → other ≢ name → text_under new other ≡ text_under old other

-- the text of the file that was started last, if that call didn't fail
abbrev pub open_text : MemFiles → Option (List ℕ)
open_text m = if m.is_open then started_file (text_under m.files.items) m.started else None
