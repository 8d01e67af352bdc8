-- Flattening where the oldest values that wait are pushed, so many of them at most, as a function: what code becomes, from where values
-- wait as a shape has homes. Code needs few temporaries so, however many values wait: together as many as wait at one time.
use Rattle.std.specs.Prelude.{ℕ, Bool, true, false, ◌&&◌, length, Option, Some, None, if◌then◌else◌}
use Rattle.vg_meaning.specs.Code.{Code, Nothing, Then, Do, If, Loop, Break, Continue, Return}
use Rattle.vg_firm.specs.declared.step.Step.{Step}
use Rattle.vg_flatten_shapes.specs.declared.fault.Fault.TheVariants.{NotTaken}
use Rattle.vg_flatten_shapes.specs.declared.layout.Layout.{Layout}
use Rattle.vg_flatten_shapes.specs.declared.room.Room.{Room}
use Rattle.vg_flatten_shapes.specs.Shapes.{Shape, only, empty}
use Rattle.vg_flatten_shapes.specs.Blocks.{Skip, BreakOut, GoOn}
use Rattle.vg_flatten_shapes.specs.Made.{Made, Gives, Refused, after, Tested, tested}
use Rattle.vg_flatten_control.specs.Flat.{flat, joined, where_empty, repeated, given_back}
use Rattle.vg_flatten_pushed.specs.Pushed.{newer, older, all_pushed, onto, done, with_newest, level, raised}

-- Code that neither loops nor leaves.
abbrev pub is_calm : {P : Type 0} → Code P → Bool
is_calm Nothing = true
is_calm (Then a b) = is_calm a && is_calm b
is_calm (Do p) = true
is_calm (If a b) = is_calm a && is_calm b
is_calm c = false

-- One of two ways, by the truth value that was popped. Behind each as many values are pushed as before, and its own value, if it leaves
-- one, is in the first temporary.
abbrev pub levelled : Room → (most below : ℕ) → Made → Made
levelled r most n m = after m (level r most n)

abbrev pub ways : Room → (most : ℕ) → Option Tested → (then' else' : Shape → Made) → Made
ways r most (Some t) f g = joined t.truth (levelled r most (length t.homes) (f (only t.homes))) (levelled r most (length t.homes) (g (only t.homes)))
ways r most None f g = Refused NotTaken

-- A choice by a pushed value.
abbrev pub by_pushed : Room → (most : ℕ) → (then' else' : Shape → Made) → Shape → Made
by_pushed r most f g s = after (with_newest r most s) (λ s1. after (ways r most (tested s1) f g) (raised (length s1.homes)))

-- A choice by a newer value, whose ways take newer values alone, as code with a home for each.
abbrev pub by_newer : Layout → Room → (most : ℕ) → (then' else' : Code Step) → Shape → Made
by_newer lay r most a b s = if is_calm a && is_calm b then onto (older most s) (flat lay r (If a b) (newer most s)) else Refused NotTaken

abbrev pub stacked : Layout → Room → (most : ℕ) → Code Step → Shape → Made
stacked lay r most Nothing s = Gives Skip s
stacked lay r most (Then a b) s = after (stacked lay r most a s) (stacked lay r most b)
stacked lay r most (Do p) s = done lay r most p s
stacked lay r most (If a b) s =
    if all_pushed most s then by_pushed r most (stacked lay r most a) (stacked lay r most b) s else by_newer lay r most a b s
stacked lay r most (Loop c body next) s =
    where_empty s (repeated (after (stacked lay r most c empty) (with_newest r most)) (stacked lay r most body empty) (stacked lay r most next empty))
stacked lay r most Break s = where_empty s (Gives BreakOut empty)
stacked lay r most Continue s = where_empty s (Gives GoOn empty)
stacked lay r most Return s = after (with_newest r most s) (λ s1. given_back r s1.homes)
