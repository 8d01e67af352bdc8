-- What packing needs of the typed program of a text beside what its legality and its spelling give.
use Rattle.std.specs.Prelude.{◌≡◌, ℕ, Some, slice_get}
use Rattle.vg_core.specs.declared.program.Field.{Field}
use Rattle.vg_core.specs.declared.program.Target.{Target}
use Rattle.vg_core.specs.Program.{Body, Program, Signature, signature_of, body_of}
use Rattle.vg_packing.specs.Allowed.{IsSmall}
use Rattle.vg_packed.specs.Few.{HaveFewArguments}
use Rattle.vg_packed.specs.Ready.{HaveWideFields}

pub record IsSafeBeside (p : Program) : Type 0 where
  -- there are no bodies but those of what can be called
  pub signatures : (t : Target) (b : Body) → body_of p t ≡ Some b → (g : Signature) × (signature_of p.tables t ≡ Some g)
  -- fields are of types whose values have bytes, and have bit strings of at most 32 bits
  pub fields : (f : ℕ) (y : Field) → slice_get p.tables.fields f ≡ Some y → IsSmall y.type_
  pub wide : HaveWideFields p.tables
  -- calls of methods have at most 255 arguments
  pub few_arguments : HaveFewArguments p
