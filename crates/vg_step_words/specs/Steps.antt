-- How many words of flash the code of a step takes at most, where each value has a home. A truth value that is left as a test counts with the words
-- that make it a number.
use Rattle.std.specs.Prelude.{ℕ, ◌+◌, ◌*◌, ◌==◌, if◌then◌else◌, Option, Some, None, slice_get}
use Rattle.vg_firm.specs.declared.step.Home.{Home}
use Rattle.vg_firm.specs.declared.step.Home.TheVariants.{Ram as InRam, Flash as InFlash}
use Rattle.vg_firm.specs.declared.step.Operator.{Operator}
use Rattle.vg_firm.specs.declared.step.Operator.TheVariants.{Plus, Minus, Times, Divide, Remainder, Less, AtMost, Greater, AtLeast, Equal, Unequal}
use Rattle.vg_firm.specs.declared.step.Operator.TheVariants.{And, Or, Xor, ShiftLeft, ShiftRight, Concat}
use Rattle.vg_firm.specs.declared.step.Prefix.{Prefix}
use Rattle.vg_firm.specs.declared.step.Prefix.TheVariants.{Negative, Not, Complement, Cut}
use Rattle.vg_firm.specs.declared.step.Step.{Step}
use Rattle.vg_firm.specs.declared.step.Step.TheVariants.{Number, This, Local, SetLocal, Forget, Operate, Apply, ReadDevice, WriteDevice}
use Rattle.vg_firm.specs.declared.step.Step.TheVariants.{Load, Store, LoadAt, StoreAt, LoadNothing, StoreNothing, LoadItem, StoreItem, Length}
use Rattle.vg_firm.specs.declared.step.Step.TheVariants.{IsWithin, StopUnlessWithin, Bind, BindFor, Call, CallFor, CallValue, Idle}
use Rattle.vg_flatten_shapes.specs.declared.layout.Layout.{Layout}
use Rattle.vg_flatten_shapes.specs.declared.layout.Place.{Place}
use Rattle.vg_flatten_places.specs.Places.{places_in}

-- A product with a number that is nearly a power of 2 is a shift and a sum or a difference.
abbrev pub operator_words : Operator → ℕ
operator_words Plus = 25
operator_words Minus = 25
operator_words And = 25
operator_words Or = 25
operator_words Xor = 25
operator_words Times = 67
operator_words Divide = 57
operator_words Remainder = 58
operator_words (ShiftLeft bits) = 64
operator_words (ShiftRight bits) = 67
operator_words (Concat bits) = 67
operator_words (Less o) = 38
operator_words (AtMost o) = 38
operator_words (Greater o) = 38
operator_words (AtLeast o) = 38
operator_words Equal = 38
operator_words Unequal = 38

abbrev pub prefix_words : Prefix → ℕ
prefix_words Negative = 22
prefix_words Not = 31
prefix_words (Complement bits) = 22
prefix_words (Cut bits) = 22

-- ---- columns

-- A number times the bytes of an entry: three times a number is a shift and a sum, or a call. In the second form it is multiplied by 1, too.
abbrev pub multiple_words : (width : ℕ) → ℕ
multiple_words w = if w == 1 then 0 else if w == 2 then 14 else if w == 3 then 34 else 16

abbrev pub product_words : (width : ℕ) → ℕ
product_words w = if w == 1 then 12 else multiple_words w

-- Some bytes at a place that is not known are loaded, and stored.
abbrev pub load_words : Home → (width : ℕ) → ℕ
load_words InRam w = 14 + w
load_words InFlash w = 15 + w

abbrev pub store_words : (width : ℕ) → ℕ
store_words w = 10 + 2 * w

-- An entry of a column is read: 16 words are the null check, and 18 how far its number is behind the first one.
abbrev pub entry_words : Home → Option Place → ℕ
entry_words home (Some place) = 34 + multiple_words place.width + load_words home place.width
entry_words home None = 0

-- ---- all steps

-- Of an element 108 words are the checks and the place of the array. Each case of a dispatch takes eight words, and each argument 15.
abbrev pub step_words : Layout → (cases : ℕ → ℕ) → Step → ℕ
step_words lay cases (Number v) = 0
step_words lay cases This = 0
step_words lay cases (Local i) = 0
step_words lay cases (SetLocal i) = 14
step_words lay cases Forget = 0
step_words lay cases (Operate op) = operator_words op
step_words lay cases (Apply op) = prefix_words op
step_words lay cases (ReadDevice address) = 9
step_words lay cases (WriteDevice address) = 6
step_words lay cases (Load home c) = 13
step_words lay cases (Store c width) = 5 + 2 * width
step_words lay cases (LoadAt home c first) = entry_words home (slice_get (places_in lay home) c)
step_words lay cases (StoreAt c first width) = 34 + multiple_words width + store_words width
step_words lay cases LoadNothing = 16
step_words lay cases StoreNothing = 16
step_words lay cases (LoadItem e) = 108 + product_words e.width + load_words e.home e.width
step_words lay cases (StoreItem e) = 108 + product_words e.width + store_words e.width
step_words lay cases (Length table) = 49
step_words lay cases (IsWithin first count) = 53
step_words lay cases (StopUnlessWithin first count) = 52
step_words lay cases (Bind q) = 11
step_words lay cases (BindFor d) = 69 + 8 * cases d
step_words lay cases (Call q count) = 17 + 15 * count
step_words lay cases (CallFor d count) = 55 + 8 * cases d + 15 * count
step_words lay cases (CallValue count) = 53 + 15 * count
step_words lay cases Idle = 2
