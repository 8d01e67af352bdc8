-- How a session of a program ends.
use Rattle.std.specs.Prelude.{ℕ}

pub data Ending : Type 0 where
  Idle : Ending  -- main has returned, and no interrupt is left
  Stop : (code : ℕ) → Ending  -- an exception of the language
  Wants : (address : ℕ) → Ending  -- a device read at this address, where no read is left
  Beyond : Ending  -- a tick was due, and the clock was spent
  Deep : Ending  -- a limit on active calls was passed
