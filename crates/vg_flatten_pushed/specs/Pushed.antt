-- What a step becomes where the oldest values that wait are pushed, four bytes of each, so many of them at most; each newer one has a home
-- above them. Where a step takes newer values alone it works on their homes. Else the newer ones are copied up, what is missing is popped
-- into the first temporaries, and the value that the step leaves is pushed. Of the homes of pushed values only their number is looked at.
use Rattle.std.specs.Prelude.{ℕ, zero, suc, ◌+◌, ◌-◌, Bool, ◌==◌, ◌&&◌, nat_lt, nat_le, List, [], ◌∷◌, ◌++◌, length, take, drop, if◌then◌else◌}
use Rattle.vg_meaning.specs.Code.{Do}
use Rattle.vg_firm.specs.declared.step.Step.{Step}
use Rattle.vg_lin.specs.declared.instr.Operand.{Operand}
use Rattle.vg_lin.specs.declared.instr.Operand.TheVariants.{Local as InLocal, Known}
use Rattle.vg_lin.specs.declared.instr.Plain.TheVariants.{Copy, Push, Pop}
use Rattle.vg_lin.specs.declared.instr.Instr.TheVariants.{Plain}
use Rattle.vg_flatten_shapes.specs.declared.fault.Fault.TheVariants.{NotTaken, TooHigh}
use Rattle.vg_flatten_shapes.specs.declared.layout.Layout.{Layout}
use Rattle.vg_flatten_shapes.specs.declared.open.Open.{Open}
use Rattle.vg_flatten_shapes.specs.declared.open.Open.TheVariants.{Set}
use Rattle.vg_flatten_shapes.specs.declared.room.Room.{Room}
use Rattle.vg_flatten_shapes.specs.Shapes.{Shape, only, empty, is_none, temp}
use Rattle.vg_flatten_shapes.specs.Blocks.{Block, Skip, One, Both}
use Rattle.vg_flatten_shapes.specs.Made.{Made, Gives, Refused, after, by_temp, settled}
use Rattle.vg_flatten_steps.specs.Steps.{stepped}
use Rattle.vg_flatten_control.specs.Flat.{flat}
use Rattle.vg_firm_typed.specs.Steps.{takes}

-- ---- the pushed values, and those above them

-- At least as many values wait as may be pushed: what is left now is not pushed.
abbrev pub is_high : (most : ℕ) → Shape → Bool
is_high most s = nat_le most (length s.homes)

-- Those above the pushed ones.
abbrev pub newer : (most : ℕ) → Shape → Shape
newer most s = if is_high most s then record { truth = s.truth; homes = take (length s.homes - most) s.homes } else empty

-- The pushed ones.
abbrev pub older : (most : ℕ) → Shape → List Operand
older most s = drop (length s.homes - most) s.homes

-- So many values wait, with the one that is a test.
abbrev pub count_of : Shape → ℕ
count_of s = length s.homes + (if is_none s.truth then 0 else 1)

-- No value waits above the pushed ones.
abbrev pub all_pushed : (most : ℕ) → Shape → Bool
all_pushed most s = count_of (newer most s) == 0

-- What was made of the newer ones, above the pushed ones.
abbrev pub onto : (pushed : List Operand) → Made → Made
onto os (Gives b s) = Gives b (record { truth = s.truth; homes = s.homes ++ os })
onto os (Refused why) = Refused why

-- ---- what a step takes

-- So many values are popped, the newest first: the oldest of them into the local `first`, each newer one into the next.
abbrev pub pops : (first count : ℕ) → Block
pops first zero = Skip
pops first (suc k) = Both (One (Pop 4 (first + k))) (pops first k)

-- Where they are then, the newest first.
abbrev pub popped : (first count : ℕ) → List Operand
popped first zero = []
popped first (suc k) = InLocal (first + k) ∷ popped first k

-- The instructions.
abbrev pub pop_list : (first count : ℕ) → List Open
pop_list first zero = []
pop_list first (suc k) = Set (Plain (Pop 4 (first + k))) ∷ pop_list first k

-- Values are copied from their homes, the newest first: the oldest of them into the local `first`, each newer one into the next.
abbrev pub lifts : (first : ℕ) → List Operand → Block
lifts first [] = Skip
lifts first (h ∷ hs) = Both (One (Copy (first + length hs) h)) (lifts first hs)

abbrev pub lift_list : (first : ℕ) → List Operand → List Open
lift_list first [] = []
lift_list first (h ∷ hs) = Set (Plain (Copy (first + length hs) h)) ∷ lift_list first hs

-- ---- what a step leaves

-- The value that a step leaves, if any, is pushed above the rest.
abbrev pub pushed_on : (rest : List Operand) → List Operand → Made
pushed_on rest [] = Gives Skip (only rest)
pushed_on rest (h ∷ []) = Gives (One (Push 4 h)) (only (Known 0 ∷ rest))
pushed_on rest _ = Refused NotTaken

abbrev pub put_back : Room → (rest : List Operand) → Shape → Made
put_back r rest s = after (settled r s) (λ s1. pushed_on rest s1.homes)

-- ---- a step

-- A step on its values, which are in the first temporaries.
abbrev pub worked : Layout → Room → Step → (rest : List Operand) → Made
worked lay r p rest = after (stepped lay r p (popped r.locals (takes p))) (put_back r rest)

-- The newer values make room for so many that are missing, and these are popped.
abbrev pub drawn : Room → (missing : ℕ) → (news pushed : List Operand) → Made
drawn r k news os = Gives (Both (lifts (r.locals + k) news) (pops r.locals k)) (only (drop k os))

-- Its values have room in the temporaries, and two more besides.
abbrev pub step_on : Layout → Room → Step → (news pushed : List Operand) → Made
step_on lay r p news os =
    if nat_le (takes p) (length news + length os) then
    (if nat_le (takes p + 2) r.temps then after (drawn r (takes p - length news) news os) (λ s. worked lay r p s.homes) else Refused TooHigh)
    else Refused NotTaken

-- A step that takes pushed values, or leaves a value that is to be pushed.
abbrev pub crossed : Layout → Room → (most : ℕ) → Step → Shape → Made
crossed lay r most p s = after (settled r (newer most s)) (λ s1. step_on lay r p s1.homes (older most s))

-- It takes newer values alone, and what it leaves is not to be pushed.
abbrev pub is_above : (most : ℕ) → Step → Shape → Bool
is_above most p s = is_high most s && nat_le (takes p) (count_of (newer most s))

abbrev pub done : Layout → Room → (most : ℕ) → Step → Shape → Made
done lay r most p s = if is_above most p s then onto (older most s) (flat lay r (Do p) (newer most s)) else crossed lay r most p s

-- ---- choices

-- The newest value is popped into the first temporary.
abbrev pub topped : Room → List Operand → Made
topped r (h ∷ hs) = by_temp (temp r []) (λ to. Gives (One (Pop 4 to)) (only (InLocal to ∷ hs)))
topped r [] = Refused NotTaken

-- Where each value that waits is pushed.
abbrev pub with_newest : Room → (most : ℕ) → Shape → Made
with_newest r most s = if all_pushed most s then topped r s.homes else Refused NotTaken

-- Where so many values are pushed, the value of a way of a choice is popped into the first temporary, so that as many are pushed again as
-- where the way began; a way may leave no value.
abbrev pub lowered : Room → (below : ℕ) → List Operand → Made
lowered r n (h ∷ hs) = if length hs == n then by_temp (temp r []) (λ to. Gives (One (Pop 4 to)) (only (InLocal to ∷ hs))) else Refused NotTaken
lowered r n [] = Refused NotTaken

abbrev pub level_as : Room → (below : ℕ) → Shape → Made
level_as r n s = if length s.homes == n then Gives Skip (only s.homes) else lowered r n s.homes

abbrev pub level : Room → (most below : ℕ) → Shape → Made
level r most n s = if all_pushed most s then level_as r n s else Refused NotTaken

-- Behind the choice its value is pushed, where the ways leave one: then as many wait as with the truth value before it.
abbrev pub pushed_again : List Operand → Made
pushed_again (h ∷ hs) = Gives (One (Push 4 h)) (only (Known 0 ∷ hs))
pushed_again [] = Refused NotTaken

abbrev pub raised : (before : ℕ) → Shape → Made
raised n s = if nat_lt (length s.homes) n then Gives Skip (only s.homes) else pushed_again s.homes
