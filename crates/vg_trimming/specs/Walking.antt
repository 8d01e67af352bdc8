-- Walks through the older code, whose steps the newer code does not make: over copies of known numbers, jumps, and branches that these numbers decide.
use Rattle.std.specs.Prelude.{ℕ, zero, suc, ◌-◌, ◌/◌, Bool, true, false, ◌==◌, ◌&&◌, ◌||◌, not, nat_lt, nat_le, List, [], ◌∷◌, Option, Some, None}
use Rattle.std.specs.Prelude.{slice_get, if◌then◌else◌}
use Rattle.vg_lin.specs.declared.instr.Operand.{Operand}
use Rattle.vg_lin.specs.declared.instr.Operand.TheVariants.{Local, Known}
use Rattle.vg_lin.specs.declared.instr.Comparison.{Comparison}
use Rattle.vg_lin.specs.declared.instr.Comparison.TheVariants.{Below, Less, Same}
use Rattle.vg_lin.specs.declared.instr.Test.{Test}
use Rattle.vg_lin.specs.declared.instr.Plain.TheVariants.{Copy}
use Rattle.vg_lin.specs.declared.instr.Instr.{Instr}
use Rattle.vg_lin.specs.declared.instr.Instr.TheVariants.{Plain, When, Unless, Jump}
use Rattle.vg_lin.specs.Turns.{counts_at}
use Rattle.vg_trimming.specs.declared.facts.Twin.{Twin}
use Rattle.vg_trimming.specs.declared.facts.Worked.{Worked}
use Rattle.vg_trimming.specs.declared.facts.Bound.{Bound}
use Rattle.vg_trimming.specs.declared.facts.Facts.{Facts}
use Rattle.vg_trimming.specs.declared.facts.Learned.{Learned}
use Rattle.vg_trimming.specs.declared.facts.Met.{Met}
use Rattle.vg_trimming.specs.declared.facts.Sets.{Sets}
use Rattle.vg_trimming.specs.Facts.{is_it, is_twin, is_filled, is_worked, is_bounded, most_in, most_of}

-- ---- tests

-- The local that a test compares with 0.
abbrev pub zero_operand : Operand → Operand → Option ℕ
zero_operand (Local x) (Known v) = if v == 0 then Some x else None
zero_operand _ _ = None

abbrev pub checked_by : Comparison → Test → Option ℕ
checked_by Same t = zero_operand t.left t.right
checked_by _ t = None

abbrev pub checked : Test → Option ℕ
checked t = checked_by t.comparison t

-- How a test comes out that compares with 0 the local which got 0 or 1 last.
abbrev pub decided : Option Met → Test → Option Bool
decided (Some m) t = if is_it (checked t) m.local && nat_lt m.number 2 then Some (m.number == 0) else None
decided None t = None

-- ---- what a branch tells

abbrev pub none_learned : Learned
none_learned = record { filled = None; bound = None }

-- Of operands of at most so much the test says whether the left one is less; values that are not negative are less where they are below.
abbrev pub tells_less : Comparison → (width left right : ℕ) → Bool
tells_less Below w a b = true
tells_less Less w a b = nat_le a (most_in w / 2) && nat_le b (most_in w / 2)
tells_less Same w a b = false

abbrev pub bound_of : Operand → (most : ℕ) → Option Bound
bound_of (Local x) m = Some (record { local = x; most = m })
bound_of (Known v) m = None

-- The left operand, seen whole, is less than the right one.
abbrev pub bound_met : Test → (left right : ℕ) → Option Bound
bound_met t a b = if tells_less t.comparison t.width a b && nat_le a (most_in t.width) then bound_of t.left (b - 1) else None

-- The right operand, seen whole, is no more than the left one.
abbrev pub bound_unmet : Test → (left right : ℕ) → Option Bound
bound_unmet t a b = if tells_less t.comparison t.width a b && nat_le b (most_in t.width) then bound_of t.right a else None

-- What is known where a test holds, and where it doesn't.
abbrev pub learned_met : (old : List ℕ) → List Bound → Test → Learned
learned_met o bs t = record { filled = None; bound = bound_met t (most_of o bs t.left) (most_of o bs t.right) }

abbrev pub learned_unmet : (old : List ℕ) → List Bound → Test → Learned
learned_unmet o bs t = record { filled = checked t; bound = bound_unmet t (most_of o bs t.left) (most_of o bs t.right) }

-- ---- the locals that get numbers

abbrev pub none_set : Sets
none_set = record { first = None; second = None }

abbrev pub is_set : Sets → (local : ℕ) → Bool
is_set xs x = is_it xs.first x || is_it xs.second x

abbrev pub is_set_in : Sets → Operand → Bool
is_set_in xs (Local x) = is_set xs x
is_set_in xs (Known v) = false

-- There is room for one more.
abbrev pub has_room : Sets → (local : ℕ) → Bool
has_room xs x = is_set xs x || is_free xs.first || is_free xs.second
  where
    is_free : Option ℕ → Bool
    is_free None = true
    is_free (Some y) = false

abbrev pub with_second : Sets → (local : ℕ) → Option ℕ → Sets
with_second xs x None = record xs { first = Some x }
with_second xs x (Some y) = record xs { second = Some x }

abbrev pub with_set : Sets → (local : ℕ) → Sets
with_set xs x = if is_set xs x then xs else with_second xs x xs.first

-- ---- what is known behind a walk

abbrev pub twins_over : Sets → (before behind : List Twin) → Bool
twins_over xs ts [] = true
twins_over xs ts (t ∷ more) = not (is_set xs t.local) && is_twin ts t.local t.home && twins_over xs ts more

abbrev pub filled_over : Sets → (filled : Option ℕ) → (before behind : List ℕ) → Bool
filled_over xs f ys [] = true
filled_over xs f ys (x ∷ more) = not (is_set xs x) && (is_it f x || is_filled ys x) && filled_over xs f ys more

abbrev pub worked_over : Sets → (before behind : List Worked) → Bool
worked_over xs ws [] = true
worked_over xs ws (w ∷ more) = not (is_set_in xs w.left) && not (is_set_in xs w.right) && is_worked ws w && worked_over xs ws more

abbrev pub is_told : Option Bound → Bound → Bool
is_told (Some k) b = (k.local == b.local) && nat_le k.most b.most
is_told None b = false

abbrev pub bounded_over : Sets → (told : Option Bound) → (before behind : List Bound) → Bool
bounded_over xs k bs [] = true
bounded_over xs k bs (b ∷ more) =
    not (is_set xs b.local) && (is_told k b || is_bounded bs b) && bounded_over xs k bs more

-- What is known behind a walk was known before it or is learned, of other locals than those that got numbers.
abbrev pub leads_over : Sets → Learned → (before behind : Facts) → Bool
leads_over xs f a b =
    b.reached && twins_over xs a.twins b.twins && filled_over xs f.filled a.filled b.filled && worked_over xs a.worked b.worked
    && bounded_over xs f.bound a.bounds b.bounds

abbrev pub leads_over_in : Sets → Learned → (before : Facts) → Option Facts → Bool
leads_over_in xs f a (Some b) = leads_over xs f a b
leads_over_in xs f a None = false

-- ---- walks

-- Where a walk is, what it has met, and whether a step of it may no longer count.
pub record Walk : Type 0 where
  pub at : ℕ
  pub spent : Bool
  pub sets : Sets
  pub met : Option Met

-- The newer code is at this place where the older one is where the walk is.
abbrev pub arrives : List Facts → (places : List ℕ) → (before : Facts) → Learned → (place : ℕ) → Walk → Bool
arrives fs ps a f p k = is_it (slice_get ps k.at) p && leads_over_in k.sets f a (slice_get fs k.at)

abbrev pub past : (walk : Walk → Bool) → (counts : Bool) → Walk → (to : ℕ) → Bool
past walk c k to = not (k.spent && c) && walk (record k { at = to; spent = k.spent || c })

abbrev pub by_truth : (walk : Walk → Bool) → (counts : Bool) → Walk → (met unmet : ℕ) → Option Bool → Bool
by_truth walk c k met unmet (Some true) = past walk c k met
by_truth walk c k met unmet (Some false) = past walk c k unmet
by_truth walk c k met unmet None = false

-- One step further.
abbrev pub further : (walk : Walk → Bool) → (counts : Bool) → Walk → Option Instr → Bool
further walk c k (Some (Plain (Copy x (Known v)))) =
    has_room k.sets x && walk (record k { at = suc k.at; sets = with_set k.sets x; met = Some (record { local = x; number = v }) })
further walk c k (Some (Jump to)) = walk (record k { at = to })
further walk c k (Some (When t to)) = by_truth walk c k to (suc k.at) (decided k.met t)
further walk c k (Some (Unless t to)) = by_truth walk c k (suc k.at) to (decided k.met t)
further walk c k _ = false

-- In at most so many steps the walk comes to where the newer code is at this place.
abbrev pub walks : (older : List Instr) → List Facts → (places : List ℕ) → (before : Facts) → Learned → (place : ℕ) → (most : ℕ) → Walk → Bool
walks is fs ps a f p zero k = arrives fs ps a f p k
walks is fs ps a f p (suc n) k =
    arrives fs ps a f p k || further (walks is fs ps a f p n) (counts_at is k.at) k (slice_get is k.at)

-- The most steps of a walk.
unfoldable pub most_steps : ℕ
most_steps = 24

-- A way to a place of the older code, behind a step that counts or may, leads to a place of the newer code.
abbrev pub way_leads : (older : List Instr) → List Facts → (places : List ℕ) → (before : Facts) → Learned → (spent : Bool) → (to place : ℕ) → Bool
way_leads is fs ps a f c to p = walks is fs ps a f p most_steps (record { at = to; spent = c; sets = none_set; met = None })
