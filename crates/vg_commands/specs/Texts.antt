-- What is said of the texts of the files that a command was given.
use Rattle.std.specs.Prelude.{ℕ, List, Option, Some, None}
use Rattle.vg_io.specs.Files.{bytes_under}
use Rattle.vg_io.specs.declared.file.File.{File}
use Rattle.vg_why.specs.Asked.{WhyIn}

-- P holds of a text, which is that of the file where the shelf tells
abbrev pub ForText : Option (List File) → (file : List ℕ) → (P : List ℕ → Type 0) → Type 0
ForText None file P = (bytes : List ℕ) × P bytes
ForText (Some files) file P = P (bytes_under files file)

-- P holds of some lines that say why a member is live in a text
abbrev pub ForLines : (bytes member : List ℕ) → (P : List ℕ → Type 0) → Type 0
ForLines bytes member P = (lines : List ℕ) × WhyIn bytes member lines × P lines

-- P holds of two texts, which are those of the files where the shelf tells
abbrev pub ForTexts : Option (List File) → (first second : List ℕ) → (P : List ℕ → List ℕ → Type 0) → Type 0
ForTexts None first second P = (a b : List ℕ) × P a b
ForTexts (Some files) first second P = P (bytes_under files first) (bytes_under files second)
