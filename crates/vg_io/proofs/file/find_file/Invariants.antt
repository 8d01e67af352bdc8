use Rattle.std.proofs.Common.{◌≡◌, drop}
use Rattle.vg_io.specs.Files.{file_under}
use Rattle.vg_io.proofs.file.find_file.Given as goal

-- no file so far has the name
abbrev pub invariant-loop-file : goal.invariant-loop-file
invariant-loop-file l =
    file_under (drop l.file-index l.file-items) l.name ≡ file_under l.file-items l.name
