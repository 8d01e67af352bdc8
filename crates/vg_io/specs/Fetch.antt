-- What a fetch gives, and the note that a shelf keeps of it.
use Rattle.std.specs.Prelude.{ℕ, ◌≡◌, ◌+◌, List, [], ◌∷◌, ◌++◌, length, take, Option, Some, None, Result, Ok, Err}
use Rattle.vg_io.specs.Files.{bytes_under}
use Rattle.vg_io.specs.declared.asked.Asked.{Asked}
use Rattle.vg_io.specs.declared.file.File.{File}
use Rattle.vg_io.specs.declared.shelf.FetchFault.{FetchFault}
use Rattle.vg_io.specs.declared.shelf.FetchFault.TheVariants.{Failed, NoMemory}

-- where the shelf tells: the bytes are the first limit + 1 of the file, or the whole file where it is shorter
abbrev pub GivesFront : (told : Option (List File)) → (name : List ℕ) → (limit : ℕ) → (bytes : List ℕ) → Type 0
GivesFront None name limit bytes = Unit {0}
GivesFront (Some files) name limit bytes = bytes ≡ take (limit + 1) (bytes_under files name)

-- the fetches, and one more
abbrev pub asked_after : List Asked → (name : List ℕ) → (limit : ℕ) → (given : Option ℕ) → List Asked
asked_after old name limit given = old ++ record { name = name; limit = limit; given = given } ∷ []

-- the fetches behind one that gave v, of which bytes_of has the bytes, that failed, or that found no memory
abbrev pub Records : {V : Type 0} → (bytes_of : V → List ℕ) → (old new : List Asked) → (name : List ℕ) → (limit : ℕ) → Result V FetchFault → Type 0
Records bytes_of old new name limit (Ok v) = new ≡ asked_after old name limit (Some (length (bytes_of v)))
Records bytes_of old new name limit (Err Failed) = new ≡ asked_after old name limit None
Records bytes_of old new name limit (Err NoMemory) = new ≡ old
