-- How a state of linear code stands for one of the packed program.
use Rattle.std.specs.Prelude.{◌≡◌, ◌⊎◌, ℕ, ◌+◌, ◌<◌, ◌≤◌, ◌^◌, Bool, true, not, List, [], ◌∷◌, length, Option, Some, None, slice_get}
use Rattle.std.specs.Option.{option_map}
use Rattle.vg_meaning.specs.Answer.{Signal, Breaks, Continues, Returns, Over}
use Rattle.vg_firm.specs.Meaning.{State as Firm}
use Rattle.vg_firm.specs.Operators.{as_number}
use Rattle.vg_firm.specs.Session.{is_object}
use Rattle.vg_lin.specs.declared.instr.Operand.{Operand}
use Rattle.vg_lin.specs.declared.instr.Operand.TheVariants.{Local, Known}
use Rattle.vg_lin.specs.Values.{low}
use Rattle.vg_lin.specs.State.{LocalState, State, value_in, holds}
use Rattle.vg_lin.specs.Structured.{Deciding}
use Rattle.vg_flatten_shapes.specs.declared.open.Truth.{Truth}
use Rattle.vg_flatten_shapes.specs.declared.open.Truth.TheVariants.{Holds, Fails}
use Rattle.vg_flatten.specs.Columns.{RamStands}
use Rattle.vg_flatten_shapes.specs.declared.layout.Layout.{Layout}
use Rattle.vg_flatten_shapes.specs.declared.room.Room.{Room}
use Rattle.vg_flatten_shapes.specs.Shapes.{Shape, empty}

-- ---- homes

-- A home at a height: a known value, a local, or the temporary of that height.
abbrev pub IsPlaced : (locals height : ℕ) → Operand → Type 0
IsPlaced n k (Local i) = (i < n) ⊎ (i ≡ n + k)
IsPlaced n k (Known v) = Unit {0}

abbrev pub ArePlaced : (locals : ℕ) → List Operand → Type 0
ArePlaced n [] = Unit {0}
ArePlaced n (h ∷ hs) = IsPlaced n (length hs) h × ArePlaced n hs

-- The value is at its home.
abbrev pub IsAt : Operand → ℕ → List LocalState → Type 0
IsAt (Local i) v ls = value_in (slice_get ls i) ≡ Some v
IsAt (Known k) v ls = k ≡ v

abbrev pub AreAt : List Operand → List ℕ → List LocalState → Type 0
AreAt [] [] ls = Unit {0}
AreAt (h ∷ hs) (v ∷ vs) ls = (IsAt h v ls × (v < 2 ^ 32)) × AreAt hs vs ls
AreAt _ _ ls = ⊥

-- ---- locals

-- The widths of the locals of linear code: those of the procedure, or wider ones, and four bytes for each temporary.
pub record AreWidths (r : Room) (widths ws : List ℕ) : Type 0 where
  pub locals : (i w : ℕ) → slice_get widths i ≡ Some w → (v : ℕ) × (slice_get ws (r.receiver + i) ≡ Some v) × (w ≤ v)
  pub temps : (k : ℕ) → k < r.temps → slice_get ws (r.locals + k) ≡ Some 4

-- The receiver's number is the first local, where there is one.
abbrev pub IsReceiver : Room → Option ℕ → List LocalState → Type 0
IsReceiver r (Some n) ls = ((0 < r.receiver) × (0 < r.locals)) × (value_in (slice_get ls 0) ≡ Some n) × (n < 2 ^ 32)
IsReceiver r None ls = Unit {0}

-- The locals have the values of the procedure's, and the widths that they were given; and the receiver of a method of a class is an object.
pub record AreKept (r : Room) (ws : List ℕ) (self : Option ℕ) (vs : List ℕ) (ls : List LocalState) : Type 0 where
  pub receiver : IsReceiver r self ls
  pub object : r.on_objects ≡ true → is_object self ≡ true
  pub there : (i w : ℕ) → slice_get ws i ≡ Some w → (o : Option ℕ) × (slice_get ls i ≡ Some (record { width = w; value = o }))
  pub locals : (i v : ℕ) → r.receiver + i < r.locals → slice_get vs i ≡ Some v → (value_in (slice_get ls (r.receiver + i)) ≡ Some v) × (v < 2 ^ 32)

-- ---- states

-- The states where no test waits.
pub record AreSame (lay : Layout) (r : Room) (ws : List ℕ) (hs : List Operand) (s : Firm) (t : State) : Type 0 where
  pub waits : AreAt hs s.values t.locals
  pub kept : AreKept r ws s.self s.locals t.locals
  pub none : t.waiting ≡ []
  pub ram : RamStands lay.ram s.columns t.ram

-- What a test that waits says.
abbrev pub said : Truth → State → Option Bool
said (Holds t) s = holds t s
said (Fails t) s = option_map not (holds t s)

-- Where a test waits, it says what the newest value is.
pub record IsSaid (lay : Layout) (r : Room) (ws : List ℕ) (x : Truth) (hs : List Operand) (s : Firm) (t : State) : Type 0 where
  pub b : Bool
  pub vs : List ℕ
  pub newest : s.values ≡ as_number b ∷ vs
  pub says : said x t ≡ Some b
  pub rest : AreSame lay r ws hs (record s { values = vs }) t

abbrev pub AreSameBy : Layout → Room → (ws : List ℕ) → Option Truth → List Operand → Firm → State → Type 0
AreSameBy lay r ws None hs s t = AreSame lay r ws hs s t
AreSameBy lay r ws (Some x) hs s t = IsSaid lay r ws x hs s t

abbrev pub Held : Layout → Room → (ws : List ℕ) → Shape → Firm → Deciding State → Type 0
Held lay r ws shape s d = AreSameBy lay r ws shape.truth shape.homes s d.state

-- A value that is returned waits on one side, and its low bytes, as many as a result has, are the result on the other.
abbrev pub IsResult : Layout → Room → Firm → Deciding State → Type 0
IsResult lay r s d =
    (v : ℕ) × (vs : List ℕ) × (s.values ≡ v ∷ vs) × (d.result ≡ low r.result v) × (v < 2 ^ 32) × RamStands lay.ram s.columns d.state.ram

-- How the states are where code leaves.
abbrev pub Leaves : Layout → Room → (ws : List ℕ) → Signal → Firm → Deciding State → Type 0
Leaves lay r ws Breaks s d = Held lay r ws empty s d
Leaves lay r ws Continues s d = Held lay r ws empty s d
Leaves lay r ws Returns s d = IsResult lay r s d
Leaves lay r ws (Over why) s d = ⊥
