-- What code becomes: the block of code from a shape, and the shape behind it; or why there is none.
use Rattle.std.specs.Prelude.{ℕ, List, [], ◌∷◌, Option, Some, None}
use Rattle.vg_lin.specs.declared.instr.Operand.{Operand}
use Rattle.vg_lin.specs.declared.instr.Operand.TheVariants.{Local as InLocal, Known}
use Rattle.vg_lin.specs.declared.instr.Comparison.TheVariants.{Same}
use Rattle.vg_lin.specs.declared.instr.Test.{Test}
use Rattle.vg_lin.specs.declared.instr.Plain.TheVariants.{Copy}
use Rattle.vg_flatten_shapes.specs.declared.fault.Fault.{Fault}
use Rattle.vg_flatten_shapes.specs.declared.fault.Fault.TheVariants.{TooHigh}
use Rattle.vg_flatten_shapes.specs.declared.open.Truth.{Truth}
use Rattle.vg_flatten_shapes.specs.declared.room.Room.{Room}
use Rattle.vg_flatten_shapes.specs.declared.open.Truth.TheVariants.{Fails}
use Rattle.vg_flatten_shapes.specs.Shapes.{Shape, only, temp}
use Rattle.vg_flatten_shapes.specs.Blocks.{Block, Skip, One, Both, Choice}

pub data Made : Type 0 where
  Gives : (block : Block) (shape : Shape) → Made
  Refused : (why : Fault) → Made

-- ---- one behind another

abbrev pub behind : Block → Made → Made
behind a (Gives b s) = Gives (Both a b) s
behind a (Refused why) = Refused why

abbrev pub after : Made → (Shape → Made) → Made
after (Gives a s) go = behind a (go s)
after (Refused why) go = Refused why

-- What is made with a temporary.
abbrev pub by_temp : Option ℕ → (ℕ → Made) → Made
by_temp (Some to) go = go to
by_temp None go = Refused TooHigh

-- ---- truth values

-- A truth value that waits as a test becomes the number 1 or 0.
abbrev pub settled_as : Room → Option Truth → List Operand → Made
settled_as r None hs = Gives Skip (only hs)
settled_as r (Some t) hs = by_temp (temp r hs) (λ to. Gives (Choice t (One (Copy to (Known 1))) (One (Copy to (Known 0)))) (only (InLocal to ∷ hs)))

abbrev pub settled : Room → Shape → Made
settled r s = settled_as r s.truth s.homes

-- A number is true where it is not 0.
abbrev pub is_zero : Operand → Test
is_zero h = record { comparison = Same; width = 4; left = h; right = Known 0 }

-- The truth value that waits, and what waits below it.
pub record Tested : Type 0 where
  pub truth : Truth
  pub homes : List Operand

abbrev pub tested_as : Option Truth → List Operand → Option Tested
tested_as (Some t) hs = Some (record { truth = t; homes = hs })
tested_as None (h ∷ hs) = Some (record { truth = Fails (is_zero h); homes = hs })
tested_as None [] = None

abbrev pub tested : Shape → Option Tested
tested s = tested_as s.truth s.homes
