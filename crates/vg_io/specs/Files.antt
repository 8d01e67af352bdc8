-- Files by name.
use Rattle.std.specs.Prelude.{ℕ, ◌∷◌, [], List, Option, Some, None, if◌then◌else◌}
use Rattle.std.specs.Str.{bytes_eq}
use Rattle.vg_io.specs.declared.file.File.{File}

-- the bytes of the first file of that name, where there is one
abbrev pub file_under : List File → (name : List ℕ) → Option (List ℕ)
file_under [] name = None
file_under (f ∷ fs) name = if bytes_eq f.name name then Some f.bytes else file_under fs name

-- a name without a file stands for the empty file
abbrev pub or_empty : Option (List ℕ) → List ℕ
or_empty None = []
or_empty (Some bytes) = bytes

-- the bytes that a name stands for
abbrev pub bytes_under : List File → (name : List ℕ) → List ℕ
bytes_under files name = or_empty (file_under files name)
