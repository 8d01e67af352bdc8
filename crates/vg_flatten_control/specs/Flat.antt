-- Flattening as a function: what code becomes, from where values wait.
use Rattle.std.specs.Prelude.{List, [], ◌∷◌, reverse, Option, Some, None, if◌then◌else◌}
use Rattle.vg_meaning.specs.Code.{Code, Nothing, Then, Do, If, Loop, Break, Continue, Return}
use Rattle.vg_firm.specs.declared.step.Step.{Step}
use Rattle.vg_lin.specs.declared.instr.Operand.{Operand}
use Rattle.vg_lin.specs.declared.instr.Operand.TheVariants.{Local as InLocal}
use Rattle.vg_lin.specs.declared.instr.Plain.TheVariants.{Copy}
use Rattle.vg_flatten_shapes.specs.declared.fault.Fault.TheVariants.{NotTaken}
use Rattle.vg_flatten_shapes.specs.declared.open.Truth.{Truth}
use Rattle.vg_flatten_shapes.specs.declared.layout.Layout.{Layout}
use Rattle.vg_flatten_shapes.specs.declared.room.Room.{Room}
use Rattle.vg_flatten_shapes.specs.Shapes.{Shape, only, empty, is_empty, same_operand, same_homes, temp}
use Rattle.vg_flatten_shapes.specs.Blocks.{Block, Skip, One, GiveBack, BreakOut, GoOn, Choice, Repeat}
use Rattle.vg_flatten_shapes.specs.Made.{Made, Gives, Refused, after, by_temp, settled, Tested, tested}
use Rattle.vg_flatten_steps.specs.Steps.{stepped}

-- ---- choices

-- The newest value is brought to the temporary of its height, so that both ways have it there.
abbrev pub landed_as : Room → List Operand → Made
landed_as r [] = Gives Skip empty
landed_as r (h ∷ hs) =
    by_temp (temp r hs) (λ to. if same_operand (InLocal to) h then Gives Skip (only (h ∷ hs)) else Gives (One (Copy to h)) (only (InLocal to ∷ hs)))

abbrev pub landed : Room → Made → Made
landed r m = after m (λ s. after (settled r s) (λ s1. landed_as r s1.homes))

abbrev pub joined : Truth → Made → Made → Made
joined t (Gives a s) (Gives b s1) = if same_homes (reverse s.homes) (reverse s1.homes) then Gives (Choice t a b) s else Refused NotTaken
joined t (Gives a s) (Refused why) = Refused why
joined t (Refused why) _ = Refused why

abbrev pub chosen : Room → Option Tested → (then' else' : Shape → Made) → Made
chosen r (Some t) f g = joined t.truth (landed r (f (only t.homes))) (landed r (g (only t.homes)))
chosen r None f g = Refused NotTaken

-- ---- loops

abbrev pub where_empty : Shape → Made → Made
where_empty s m = if is_empty s then m else Refused NotTaken

abbrev pub repeated_next : (before : Block) → Truth → (body : Block) → Made → Made
repeated_next before t body (Gives next s) = where_empty s (Gives (Repeat before t body next) empty)
repeated_next before t body (Refused why) = Refused why

abbrev pub repeated_body : (before : Block) → Truth → Made → (next : Made) → Made
repeated_body before t (Gives body s) next = where_empty s (repeated_next before t body next)
repeated_body before t (Refused why) next = Refused why

abbrev pub repeated_test : (before : Block) → Option Tested → (body next : Made) → Made
repeated_test before (Some t) body next = where_empty (only t.homes) (repeated_body before t.truth body next)
repeated_test before None body next = Refused NotTaken

abbrev pub repeated : Made → (body next : Made) → Made
repeated (Gives before s) body next = repeated_test before (tested s) body next
repeated (Refused why) body next = Refused why

-- ---- the end of a body

abbrev pub given_back : Room → List Operand → Made
given_back r (h ∷ []) = Gives (GiveBack r.result h) empty
given_back r _ = Refused NotTaken

-- ---- code

abbrev pub flat : Layout → Room → Code Step → Shape → Made
flat lay r Nothing s = Gives Skip s
flat lay r (Then a b) s = after (flat lay r a s) (flat lay r b)
flat lay r (Do p) s = after (settled r s) (λ s1. stepped lay r p s1.homes)
flat lay r (If a b) s = chosen r (tested s) (flat lay r a) (flat lay r b)
flat lay r (Loop c body next) s = where_empty s (repeated (flat lay r c empty) (flat lay r body empty) (flat lay r next empty))
flat lay r Break s = where_empty s (Gives BreakOut empty)
flat lay r Continue s = where_empty s (Gives GoOn empty)
flat lay r Return s = after (settled r s) (λ s1. given_back r s1.homes)
