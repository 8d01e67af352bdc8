-- What holds of the bytes that were given holds of the files where the shelf tells them.
use Rattle.std.proofs.Common.{◌≡◌, ℕ, List, Option, Some, None, sym, subst}
use Rattle.vg_io.specs.Files.{bytes_under}
use Rattle.vg_io.specs.declared.file.File.{File}
use Rattle.vg_fetch.specs.Told.{ForFile, ForFiles}
use Rattle.vg_commands.specs.Texts.{ForText, ForTexts}

pub of_file : (told : Option (List File)) (file bytes : List ℕ) (P : List ℕ → Type 0) → ForFile told file (λ b. b ≡ bytes) → P bytes → ForFile told file P
of_file None file bytes P whole h = tt
of_file (Some files) file bytes P whole h = subst P (sym whole) h

pub of_files : (told : Option (List File)) (first second a b : List ℕ) (P : List ℕ → List ℕ → Type 0)
    → ForFiles told first second (λ x y. (x ≡ a) × (y ≡ b)) → P a b → ForFiles told first second P
of_files None first second a b P whole h = tt
of_files (Some files) first second a b P (x, y) h = subst (λ u. P u (bytes_under files second)) (sym x) (subst (λ v. P a v) (sym y) h)

pub of_texts : (told : Option (List File)) (first second a b : List ℕ) (P : List ℕ → List ℕ → Type 0)
    → ForFiles told first second (λ x y. (x ≡ a) × (y ≡ b)) → P a b → ForTexts told first second P
of_texts None first second a b P whole h = (a, b, h)
of_texts (Some files) first second a b P (x, y) h = subst (λ u. P u (bytes_under files second)) (sym x) (subst (λ v. P a v) (sym y) h)

pub of_text : (told : Option (List File)) (file bytes : List ℕ) (P : List ℕ → Type 0) → ForFile told file (λ b. b ≡ bytes) → P bytes → ForText told file P
of_text None file bytes P whole h = (bytes, h)
of_text (Some files) file bytes P whole h = subst P (sym whole) h

-- the first of two files
pub of_first : (told : Option (List File)) (first second a b : List ℕ) (P : List ℕ → Type 0)
    → ForFiles told first second (λ x y. (x ≡ a) × (y ≡ b)) → P a → ForFile told first P
of_first None first second a b P whole h = tt
of_first (Some files) first second a b P (x, y) h = subst P (sym x) h

-- what follows of one file
pub with_file : (told : Option (List File)) (file : List ℕ) (P Q : List ℕ → Type 0) → ((bytes : List ℕ) → P bytes → Q bytes) → ForFile told file P
    → ForFile told file Q
with_file None file P Q f h = tt
with_file (Some files) file P Q f h = f (bytes_under files file) h

-- what holds of all bytes
pub unless_missing : (told : Option (List File)) (file : List ℕ) (P : List ℕ → Type 0) → ((bytes : List ℕ) → P bytes) → ForFile told file P
unless_missing None file P f = tt
unless_missing (Some files) file P f = f (bytes_under files file)
