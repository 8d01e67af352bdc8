-- Code whose numbers have at most 32 bits. All code of sound procedures is so, and so is most that is not sound.
use Rattle.std.specs.Prelude.{Bool, true, ◌&&◌, nat_le, List, [], ◌∷◌}
use Rattle.vg_lin.specs.declared.instr.Plain.{Plain as PlainInstr}
use Rattle.vg_lin.specs.declared.instr.Plain.TheVariants.{Compute, Load, Store}
use Rattle.vg_lin.specs.declared.instr.Instr.{Instr}
use Rattle.vg_lin.specs.declared.instr.Instr.TheVariants.{Plain, When, Unless}

-- At most four bytes are computed, loaded, stored or compared.
abbrev pub is_narrow_plain : PlainInstr → Bool
is_narrow_plain (Compute c) = nat_le c.width 4
is_narrow_plain (Load m w to a) = nat_le w 4
is_narrow_plain (Store w a from) = nat_le w 4
is_narrow_plain i = true

abbrev pub is_narrow : Instr → Bool
is_narrow (Plain i) = is_narrow_plain i
is_narrow (When t to) = nat_le t.width 4
is_narrow (Unless t to) = nat_le t.width 4
is_narrow i = true

abbrev pub are_narrow : List Instr → Bool
are_narrow [] = true
are_narrow (i ∷ is) = is_narrow i && are_narrow is
