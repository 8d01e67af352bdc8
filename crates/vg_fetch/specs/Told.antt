-- What is said of files by their names.
use Rattle.std.specs.Prelude.{ℕ, List, Option, Some, None}
use Rattle.vg_io.specs.Files.{bytes_under}
use Rattle.vg_io.specs.declared.file.File.{File}

-- where the shelf tells: P holds of the bytes under the name
abbrev pub ForFile : Option (List File) → (name : List ℕ) → (P : List ℕ → Type 0) → Type 0
ForFile None name P = Unit {0}
ForFile (Some files) name P = P (bytes_under files name)

-- where the shelf tells: P holds of the bytes under the two names
abbrev pub ForFiles : Option (List File) → (first second : List ℕ) → (P : List ℕ → List ℕ → Type 0) → Type 0
ForFiles None first second P = Unit {0}
ForFiles (Some files) first second P = P (bytes_under files first) (bytes_under files second)
