-- What the program promises of the texts that it was given, and of what it puts.
use Rattle.std.specs.Prelude.{ℕ, ◌≡◌, List, [], ◌++◌, take, Option, Some, None}
use Rattle.vg_io.specs.Files.{bytes_under}
use Rattle.vg_io.specs.Piece.{AppendsAll}
use Rattle.vg_io.specs.declared.file.File.{File}
use Rattle.vg_words.specs.Commands.{Command, Build, Try}
use Rattle.vg_hex.specs.HexText.{hex_text}
use Rattle.vg_build.specs.Image.{IsImageOf}
use Rattle.vg_layout.specs.Text.{layout_text}
use Rattle.vg_layout.specs.declared.layout.Layout.{Layout}
use Rattle.vg_drive.specs.Trials.{ForTry}

-- P holds of some image and layout, which are those of the file where the shelf tells, with the stack that is asked for and this clock of initialisation
abbrev pub ForImage : Option (List File) → (file : List ℕ) → (asked : Option ℕ) → (clock : ℕ) → (P : List ℕ → Layout → Type 0) → Type 0
ForImage None file asked clock P = (image : List ℕ) × (layout : Layout) × P image layout
ForImage (Some files) file asked clock P =
    (image : List ℕ) × (layout : Layout) × IsImageOf (bytes_under files file) asked clock image layout × P image layout

-- P holds of what the command puts to its second sink: `build` the text of the layout of an image of its file, `try` the HEX text of the image of its generated
-- text, and the others nothing
abbrev pub ForSecond : Option Command → (told : Option (List File)) → (P : List ℕ → Type 0) → Type 0
ForSecond (Some (Build file asked clock)) told P = ForImage told file asked clock (λ image layout. P (layout_text layout))
ForSecond (Some (Try objects)) told P = ForTry objects (λ built. P (hex_text built.image))
ForSecond _ told P = P []

-- where the sink tells: a text that begins so stands behind what it held
abbrev pub AppendsBegun : (old new : Option (List ℕ)) → (beginning : List ℕ) → Type 0
AppendsBegun old new beginning = (rest : List ℕ) × AppendsAll old new (beginning ++ rest)

-- where the sink tells: a front of the first piece stands behind what it held, and then a front of the second
abbrev pub AppendsFronts : (old new : Option (List ℕ)) → (first second : List ℕ) → Type 0
AppendsFronts None new first second = new ≡ None
AppendsFronts (Some old) new first second =
    (m : ℕ) × (n : ℕ) × (new ≡ Some (old ++ take m first ++ take n second))

-- where the sink tells: a front of the first piece stands behind what it held, and then the whole second
abbrev pub AppendsFrontAndAll : (old new : Option (List ℕ)) → (first second : List ℕ) → Type 0
AppendsFrontAndAll None new first second = new ≡ None
AppendsFrontAndAll (Some old) new first second =
    (m : ℕ) × (new ≡ Some (old ++ take m first ++ second))
