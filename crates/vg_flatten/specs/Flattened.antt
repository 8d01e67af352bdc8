-- What it means that a procedure of linear code is a packed one, flattened.
use Rattle.std.specs.Prelude.{◌≡◌, ◌⊎◌, ℕ, zero, suc, ◌+◌, ◌-◌, ◌≤◌, Bool, true, false, List, [], ◌∷◌, ◌++◌, length, map, replicate, take, Some, None, slice_get, if◌then◌else◌}
use Rattle.vg_firm.specs.Program.{Procedure as FirmProcedure, Program as FirmProgram}
use Rattle.vg_codes.specs.Codes.{Codes, AreCodes}
use Rattle.vg_lin.specs.declared.instr.Operand.TheVariants.{Known}
use Rattle.vg_lin.specs.declared.instr.Plain.TheVariants.{Copy}
use Rattle.vg_lin.specs.declared.instr.Callee.TheVariants.{Procedure as ByNumber}
use Rattle.vg_lin.specs.declared.instr.Registers.{Registers}
use Rattle.vg_lin.specs.declared.instr.Registers.TheVariants.{Empty, One as One'}
use Rattle.vg_lin.specs.declared.instr.Call.{Call}
use Rattle.vg_lin.specs.declared.instr.Instr.TheVariants.{Plain, Jump, Call as Calls, Idle}
use Rattle.vg_lin.specs.Program.{Procedure, Program}
use Rattle.vg_flatten_shapes.specs.declared.open.Open.{Open}
use Rattle.vg_flatten_shapes.specs.declared.open.Open.TheVariants.{Set}
use Rattle.vg_flatten_shapes.specs.declared.layout.Layout.{Layout}
use Rattle.vg_flatten_shapes.specs.declared.layout.Passing.{Passing}
use Rattle.vg_flatten_shapes.specs.Widths.{all_bytes, result_bytes}
use Rattle.vg_flatten_steps.specs.Calls.{passing_of}
use Rattle.vg_flatten_shapes.specs.declared.room.Room.{Room}
use Rattle.vg_flatten_shapes.specs.Shapes.{Shape, empty, is_empty}
use Rattle.vg_flatten_shapes.specs.Blocks.{Block, Skip, One, GiveBack, Both, open_code, block_size}
use Rattle.vg_flatten_shapes.specs.Made.{Made, Gives, Refused}
use Rattle.vg_flatten_control.specs.Flat.{flat}
use Rattle.vg_flatten_pushed.specs.Stacked.{stacked}
use Rattle.vg_flatten.specs.Closing.{AllSet}
use Rattle.vg_flatten.specs.Columns.{FlashStands, RamStands}
use Rattle.vg_flatten_shapes.specs.Blocks.{set_in}

-- So many locals from one on get the value 0.
abbrev pub zeroes : (count from : ℕ) → Block
zeroes zero i = Skip
zeroes (suc c) i = Both (One (Copy i (Known 0))) (zeroes c (suc i))

-- ---- locals

-- A receiver is one local more, of two bytes, before the others.
abbrev pub receivers : Bool → ℕ
receivers true = 1
receivers false = 0

abbrev pub with_receiver_width : Bool → List ℕ → List ℕ
with_receiver_width true ws = 2 ∷ ws
with_receiver_width false ws = ws

abbrev pub own_widths : FirmProcedure → List ℕ
own_widths m = with_receiver_width m.receives m.widths

abbrev pub own_params : FirmProcedure → ℕ
own_params m = receivers m.receives + m.params

-- So many of the first widths are four bytes.
abbrev pub widened : (count : ℕ) → List ℕ → List ℕ
widened zero ws = ws
widened (suc n) [] = []
widened (suc n) (w ∷ ws) = 4 ∷ widened n ws

-- A procedure that gets a receiver may be one that is found in the run: the receiver has two bytes, each parameter behind it four, and so
-- has its result. Those of all others have the bytes that they need.
abbrev pub wide_params : FirmProcedure → ℕ
wide_params m = if m.receives then m.params else 0

abbrev pub all_widths : FirmProcedure → List ℕ
all_widths m = with_receiver_width m.receives (widened (wide_params m) m.widths)

abbrev pub result_width : FirmProcedure → ℕ
result_width m = if m.receives then 4 else m.result

-- A procedure's block: the locals that are no parameters are 0 at first, and the end of the body gives 0 back.
abbrev pub whole : FirmProcedure → Block → Block
whole m b = Both (zeroes (length m.widths - m.params) (own_params m)) (Both b (GiveBack (result_width m) (Known 0)))

-- ---- temporaries

-- As many temporaries as there is room for beside the locals.
abbrev pub temps_for : (locals : ℕ) → ℕ
temps_for n = 252 - n

-- What is known of a procedure while its body is flattened with so many temporaries.
abbrev pub room_with : (temps : ℕ) → FirmProcedure → Room
room_with temps m =
    record {
      receiver = receivers m.receives;
      on_objects = m.on_objects;
      locals = length (own_widths m);
      temps = temps;
      result = result_width m;
    }

-- No value waits at the end of what was made of the body, no jump is left open in the whole, and the whole is short.
abbrev pub IsShortAs : FirmProcedure → Made → Type 0
IsShortAs m (Gives b s) = (is_empty s ≡ true) × AllSet (open_code (whole m b) 0) × (block_size (whole m b) ≤ 65519)
IsShortAs m (Refused why) = ⊥

-- With so many temporaries, for which there is room, and with more, a procedure is flattened with a home for each value, and is short.
pub record IsFlatFrom (lay : Layout) (m : FirmProcedure) (most : ℕ) : Type 0 where
  pub few : most ≤ temps_for (length (own_widths m))
  pub each : (temps : ℕ) → most ≤ temps → temps ≤ temps_for (length (own_widths m)) → IsShortAs m (flat lay (room_with temps m) m.body empty)

-- Where at least so many values may be pushed, up to 65,535, a procedure is flattened with a home for each newer one, and is short; its temporaries are
-- all that there is room for.
pub record IsPushedFrom (lay : Layout) (m : FirmProcedure) (most : ℕ) : Type 0 where
  pub one : 1 ≤ most
  pub few : most ≤ 65535
  pub each : (pushes : ℕ) → most ≤ pushes → pushes ≤ 65535
      → IsShortAs m (stacked lay (room_with (temps_for (length (own_widths m))) m) pushes m.body empty)

-- The oldest values that wait are pushed, and no more of them than there must be where there is no room for all.
pub record IsPushed (lay : Layout) (m : FirmProcedure) (r : Room) (b : Block) (s : Shape) : Type 0 where
  pub pushes : ℕ
  pub one : 1 ≤ pushes
  pub made : stacked lay r pushes m.body empty ≡ Gives b s
  pub all : r.temps ≡ temps_for (length (own_widths m))
  pub least : (most : ℕ) → IsPushedFrom lay m most → pushes ≤ most

-- The procedure of linear code is the flattened one: each waiting value has a home of its own, or the oldest of them are pushed. Where homes do from some
-- number of temporaries on, each has one, and there are no more temporaries than that.
pub record IsFlat (lay : Layout) (m : FirmProcedure) (p : Procedure) : Type 0 where
  pub room : Room
  pub block : Block
  pub shape : Shape
  pub made : (flat lay room m.body empty ≡ Gives block shape) ⊎ IsPushed lay m room block shape
  pub done : is_empty shape ≡ true
  pub receiver : room.receiver ≡ receivers m.receives
  pub on_objects : room.on_objects ≡ m.on_objects
  pub locals : room.locals ≡ length (own_widths m)
  pub given : room.result ≡ result_width m
  pub fits : room.temps ≤ temps_for (length (own_widths m))
  pub method : p.method ≡ Some m.method
  pub parameters : p.params ≡ own_params m
  pub result : p.result ≡ result_width m
  pub widths : p.widths ≡ all_widths m ++ replicate room.temps 4
  pub code : p.code ≡ map (set_in 0 0) (open_code (whole m block) 0)
  pub fewest : (most : ℕ) → IsFlatFrom lay m most → (room.temps ≤ most) × (flat lay room m.body empty ≡ Gives block shape)

-- Main is called, and on no receiver where it gets one.
abbrev pub main_args : Bool → Registers
main_args true = One' (record { width = 2; value = Known 0 })
main_args false = Empty

abbrev pub calls_main : (main : ℕ) → (receives : Bool) → Call
calls_main main receives = record { callee = ByNumber main; pushed = 0; registers = main_args receives; to = None }

-- The procedure with which a run begins calls main, and then idles for ever.
abbrev pub start_of : (main : ℕ) → (receives : Bool) → Procedure
start_of main receives = record { method = None; params = 0; result = 0; widths = []; code = Calls (calls_main main receives) ∷ Idle ∷ Jump 1 ∷ [] }

-- What every packed procedure has: few widths, none above four bytes.
pub record IsFit (m : FirmProcedure) : Type 0 where
  pub params : m.params ≤ length m.widths
  pub widths : (i w : ℕ) → slice_get m.widths i ≡ Some w → w ≤ 4
  pub result : m.result ≤ 4

-- A procedure is called so: on a receiver where it gets one, and in the widths that its parameters and its result have.
pub record IsPassing (m : FirmProcedure) (p : Passing) : Type 0 where
  pub receives : p.receives ≡ m.receives
  pub widths : all_bytes p.widths ≡ take (own_params m) (all_widths m)
  pub result : result_bytes p.result ≡ result_width m

-- The program of linear code is the packed one, flattened, with a start behind its procedures and its columns at their places.
pub record AreFlat (k : Codes) (lay : Layout) (f : FirmProgram) (p : Program) : Type 0 where
  pub flats : (q : ℕ) (m : FirmProcedure) → slice_get f.procedures q ≡ Some m
      → (lp : Procedure) × (slice_get p.procedures q ≡ Some lp) × IsFit m × IsFlat lay m lp
  pub passing : (q : ℕ) (m : FirmProcedure) → slice_get f.procedures q ≡ Some m → IsPassing m (passing_of (slice_get lay.passing q))
  pub codes : p.codes ≡ k
  pub numbers : AreCodes (length f.procedures) k
  pub dispatches : p.dispatches ≡ f.dispatches
  pub handler : (vector : ℕ) → p.handler vector ≡ f.handler vector
  pub main : FirmProcedure
  pub is_main : slice_get f.procedures f.main ≡ Some main
  pub start : slice_get p.procedures p.start ≡ Some (start_of f.main main.receives)
  pub flash : FlashStands lay f p
  pub ram : RamStands lay.ram f.ram p.ram

-- The instructions that set so many locals from one on to 0.
abbrev pub zero_list : (count from : ℕ) → List Open
zero_list zero i = []
zero_list (suc c) i = Set (Plain (Copy i (Known 0))) ∷ zero_list c (suc i)
