-- What every procedure of a packed program has: locals of one to four bytes, of which the first ones are its parameters.
use Rattle.std.specs.Prelude.{◌≤◌, List, length}
use Rattle.std.specs.List.{AllByRecursion}
use Rattle.vg_firm.specs.declared.procedure.Procedure.{Procedure}
use Rattle.vg_lin.specs.Sound.{IsWidth}

pub record HasWidths (m : Procedure) : Type 0 where
  pub params : m.params ≤ length m.widths
  pub widths : AllByRecursion IsWidth m.widths
  pub result : m.result ≤ 4

abbrev pub AllHaveWidths : List Procedure → Type 0
AllHaveWidths ms = AllByRecursion HasWidths ms
