-- Where the device registers of the chip lie (ATmega128 datasheet, "Register Summary").
use Rattle.std.specs.Prelude.{ℕ, ◌<◌, ◌≤◌, ◌≢◌}

-- the data address of a device register: one of the I/O addresses, but for the four that belong to the processor itself
pub record IsDeviceAddress (address : ℕ) : Type 0 where
  pub from : 0x20 ≤ address
  pub below : address < 0x100
  pub no_rampz : address ≢ 0x5B
  pub no_spl : address ≢ 0x5D
  pub no_sph : address ≢ 0x5E
  pub no_sreg : address ≢ 0x5F
