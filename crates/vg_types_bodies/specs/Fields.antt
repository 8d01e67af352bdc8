-- The initialisers of fields as code of their home.
use Rattle.std.specs.Prelude.{◌≡◌, ℕ, true, false, Some}
use Rattle.vg_meaning.specs.Code.{Code, Then, Do}
use Rattle.vg_syntax.specs.Tree.{Node}
use Rattle.vg_source.specs.Steps.{Step as SourceStep, This, SetField, SetComponentField}
use Rattle.vg_source.specs.Program.{initial, unless_missing}
use Rattle.vg_core.specs.declared.types.CoreType.TheVariants.{NoType}
use Rattle.vg_core.specs.declared.step.Step.{Step}
use Rattle.vg_core.specs.declared.step.Step.TheVariants as step
use Rattle.vg_core.specs.declared.program.Field.{Field}
use Rattle.vg_core.specs.declared.program.Owner.{Owner}
use Rattle.vg_core.specs.declared.program.Owner.TheVariants.{InClass, InComponent}
use Rattle.vg_core.specs.declared.program.Tables.{Tables}
use Rattle.vg_core.specs.Tables as tables
use Rattle.vg_core.specs.Naming.{Key}
use Rattle.vg_types_tables.specs.declared.body.BodyKind.{BodyKind}

-- A body of this owner without a result.
abbrev pub making_kind : Owner → BodyKind
making_kind o = record { owner = Some o; result = NoType; in_loop = false }

-- A field of this owner or of a class above it.
abbrev pub Has : Tables → Owner → Field → Type 0
Has p (InClass c) y = (e : ℕ) × (y.owner ≡ InClass e) × (tables.is_below p c e ≡ true)
Has p (InComponent k) y = (l : ℕ) × (y.owner ≡ InComponent l)

-- The code of the initialiser of the field of this key: it sets the field of the object that is made, or that of a component.
abbrev pub field_code : Node → Owner → (id : ℕ) → Key → Node → Code SourceStep
field_code ds (InClass c) id f e = unless_missing e (Then (Do This) (Then (initial ds e) (Do (SetField id f.owner f.name))))
field_code ds (InComponent k) id f e = unless_missing e (Then (initial ds e) (Do (SetComponentField f.owner f.name)))

-- The code that sets the field of this number to a value.
abbrev pub stored_code : Owner → (field : ℕ) → (value : Code Step) → (id : ℕ) → Code Step
stored_code (InClass c) f value id = Then (Do step.This) (Then value (Do (step.SetField id f)))
stored_code (InComponent k) f value id = Then value (Do (step.SetComponentField f))
