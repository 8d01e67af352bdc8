-- How functions of the code answer: mirrors of the definitions, by cases.
use Rattle.std.specs.Prelude.{◌≡◌, ◌⊎◌, ℕ, ◌+◌, ◌<◌, List, Result, Ok, Err, Option, Some, None}
use Rattle.vg_base.specs.declared.refusal.Refusal.{Refusal}
use Rattle.vg_base.specs.declared.refusal.Refusal.TheVariants.{Fault as Faulty, NoMemory as Memory}
use Rattle.vg_flatten_shapes.specs.declared.fault.Fault.{Fault}
use Rattle.vg_flatten_shapes.specs.declared.fault.Fault.TheVariants.{NotTaken, TooHigh, TooLong}
use Rattle.vg_flatten_shapes.specs.declared.open.Open.{Open}
use Rattle.vg_flatten_shapes.specs.declared.piece.Piece.{Piece}
use Rattle.vg_flatten_shapes.specs.Blocks.{open_code, block_size}
use Rattle.vg_flatten_shapes.specs.Made.{Made, Gives, Refused}

-- From a place on, what was to be made leads to the last 16 places or behind them. Of what is refused anyway nothing is said.
abbrev pub IsLong : (at : ℕ) → Made → Type 0
IsLong at (Gives b s) = 65519 < at + block_size b
IsLong at (Refused why) = Unit {0}

-- A refusal of what was to be made, from a place on.
abbrev pub Refuses : Fault → (at : ℕ) → Made → Type 0
Refuses TooLong at m = IsLong at m
Refuses NotTaken at m = m ≡ Refused NotTaken
Refuses TooHigh at m = m ≡ Refused TooHigh

abbrev pub Fails : Refusal Fault → (at : ℕ) → Made → Type 0
Fails Memory at m = Unit {0}
Fails (Faulty f) at m = Refuses f at m

-- The piece is the block that was made, from a place on.
abbrev pub IsPiece : Piece → (at : ℕ) → Made → Type 0
IsPiece p at (Gives b s) = (p.code ≡ open_code b at) × (p.homes ≡ s)
IsPiece p at (Refused why) = ⊥

abbrev pub Lays : Result Piece (Refusal Fault) → (at : ℕ) → Made → Type 0
Lays (Ok p) at m = IsPiece p at m
Lays (Err e) at m = Fails e at m

-- A place, or that there is none so high.
abbrev pub Places : Result ℕ (Refusal Fault) → ℕ → Type 0
Places (Ok p) n = p ≡ n
Places (Err e) n = (e ≡ Faulty TooLong) × (65535 < n)

-- A temporary, or that there is none.
abbrev pub HasTemp : Result ℕ (Refusal Fault) → Option ℕ → Type 0
HasTemp (Ok to) t = t ≡ Some to
HasTemp (Err e) t = (t ≡ None) × (e ≡ Faulty TooHigh)

-- Code which leads no further than to a place, or that there is none so high.
abbrev pub LaysCode : Result (List Open) (Refusal Fault) → (last : ℕ) → List Open → Type 0
LaysCode (Ok code) last is = code ≡ is
LaysCode (Err e) last is = ((e ≡ Faulty TooLong) × (65535 < last)) ⊎ e ≡ Memory
