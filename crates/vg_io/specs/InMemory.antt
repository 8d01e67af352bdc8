-- The shelves and the sink that live in memory, as their callers see them.
use Rattle.std.specs.Prelude.{ℕ, ◌+◌, ◌-◌, ◌==◌, nat_lt, min, Bool, false, not, ◌||◌, List, ◌++◌, length, take, Option, Some, None, is_some, if◌then◌else◌}
use Rattle.std.specs.List.{list_any}
use Rattle.vg_io.specs.Count.{count_after}
use Rattle.vg_io.specs.Fetch.{asked_after}
use Rattle.vg_io.specs.Files.{file_under}
use Rattle.vg_io.specs.declared.asked.Asked.{Asked}
use Rattle.vg_io.specs.declared.file.File.{File}

-- a shelf of files, of which some fetches are listed to fail, by their numbers from 0
pub record MemoryFiles : Type 0 where
  pub files : List File
  pub failing : List ℕ
  pub asked : List Asked
  pub faults : ℕ

-- a fetch fails where its number, that of the fetches before it, is listed, or where its name has no file
abbrev pub fetch_fails : MemoryFiles → (name : List ℕ) → Bool
fetch_fails shelf name =
    list_any (λ call. call == length shelf.asked) shelf.failing || not (is_some (file_under shelf.files name))

-- the shelf behind a fetch that gave so many bytes
abbrev pub after_given : MemoryFiles → (name : List ℕ) → (limit given : ℕ) → MemoryFiles
after_given shelf name limit given =
    record shelf { asked = asked_after shelf.asked name limit (Some given) }

-- the shelf behind a fetch that failed
abbrev pub after_failed : MemoryFiles → (name : List ℕ) → (limit : ℕ) → MemoryFiles
after_failed shelf name limit =
    record shelf { asked = asked_after shelf.asked name limit None; faults = count_after shelf.faults }

-- a shelf of files that never fails
pub record SteadyFiles : Type 0 where
  pub files : List File
  pub asked : List Asked

-- a sink with a fixed room, of which one put may be set to fail: its number from 0, and how many bytes it keeps
pub record MemoryBytes : Type 0 where
  pub taken : List ℕ
  pub room : ℕ
  pub puts : ℕ  -- how many puts there were
  pub failing : Option (ℕ × ℕ)
  pub faults : ℕ

-- the next put is the one that is set to fail
abbrev pub is_set : Option (ℕ × ℕ) → (puts : ℕ) → Bool
is_set None puts = false
is_set (Some (call, kept)) puts = call == puts

-- how many bytes of a piece of that length the failing rule lets through
abbrev pub wanted : Option (ℕ × ℕ) → (puts len : ℕ) → ℕ
wanted None puts len = len
wanted (Some (call, kept)) puts len = if call == puts then min kept len else len

-- a put fails where it is set to, or where the piece does not fit in the room
abbrev pub put_fails : MemoryBytes → (piece : List ℕ) → Bool
put_fails sink piece =
    is_set sink.failing sink.puts || nat_lt sink.room (length sink.taken + length piece)

-- how many bytes of the piece go in: all, the kept ones of the set put, or those that fit
abbrev pub count_taken : MemoryBytes → (piece : List ℕ) → ℕ
count_taken sink piece =
    min (wanted sink.failing sink.puts (length piece)) (sink.room - length sink.taken)

-- the sink behind a put
abbrev pub after_put : MemoryBytes → (piece : List ℕ) → MemoryBytes
after_put sink piece =
    record sink {
      taken = sink.taken ++ take (count_taken sink piece) piece;
      puts = count_after sink.puts;
      faults = if put_fails sink piece then count_after sink.faults else sink.faults;
    }
