-- What packing needs of a program and its heap beside what was made of them.
use Rattle.std.specs.Prelude.{◌≡◌, ℕ, ◌<◌, Some, None, slice_get}
use Rattle.vg_core.specs.declared.heap.Heap.{Heap}
use Rattle.vg_core.specs.declared.member.Member.TheVariants.{Method}
use Rattle.vg_core.specs.declared.program.Field.{Field}
use Rattle.vg_core.specs.declared.program.Tables.{Tables}
use Rattle.vg_core.specs.Program.{Program}
use Rattle.vg_live.specs.Rules.{Live}
use Rattle.vg_placement.specs.Columns.{column_width}
use Rattle.vg_packed.specs.Plain.{IsPlain, AreRanged}
use Rattle.vg_reach.specs.Reaches.{made_in}
use Rattle.vg_packed.specs.Few.{HaveFewArguments}

-- The values of fields take at least one byte.
abbrev pub HaveWideFields : Tables → Type 0
HaveWideFields p = (f : ℕ) (y : Field) → slice_get p.fields f ≡ Some y → 0 < column_width y.type_

-- Constants, casts and scalars in the heap are in their ranges, calls of methods have at most 255 arguments, and no live method makes anything.
pub record IsReady (p : Program) (h : Heap) : Type 0 where
  pub plain : IsPlain p
  pub ranged : AreRanged p.tables h
  pub wide : HaveWideFields p.tables
  pub few_arguments : HaveFewArguments p
  pub makes_nothing : (m : ℕ) → Live p h (Some (Method m)) → made_in p m ≡ None
