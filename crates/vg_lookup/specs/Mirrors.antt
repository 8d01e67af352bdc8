-- Mirrors: predicates by cases that follow the code's own functions. No clause of an exported function cites one.
use Rattle.std.specs.Prelude.{ℕ, ◌≡◌, ◌==◌, ◌&&◌, nat_lt, Bool, true, false, List, [], ◌∷◌, length, Option, Some, None, bytes_eq, slice_get}
use Rattle.vg_source.specs.Names.{Name}
use Rattle.vg_core.specs.declared.member.Member.{Member}
use Rattle.vg_core.specs.declared.member.Member.TheVariants.{Method, Field}
use Rattle.vg_core.specs.declared.program.Owner.{Owner}
use Rattle.vg_core.specs.declared.program.Owner.TheVariants.{InClass, InComponent}
use Rattle.vg_core.specs.declared.program.Class.{Class}
use Rattle.vg_core.specs.declared.program.Field.{Field as AField}
use Rattle.vg_core.specs.declared.program.Method.{Method as AMethod}
use Rattle.vg_core.specs.declared.program.Tables.{Tables}
use Rattle.vg_core.specs.declared.program.Target.TheVariants.{Run}
use Rattle.vg_core.specs.Naming.{owner_name, text_at}
use Rattle.vg_lookup.specs.Lookup.{word_of}

-- bytes are a point and a name
abbrev pub point_and : List ℕ → List ℕ → Bool
point_and [] name = false
point_and (b ∷ rest) name = (b == 46) && bytes_eq rest name

-- a class that declares something is there
abbrev pub owner_there : Tables → Owner → Bool
owner_there t (InClass c) = nat_lt c (length t.classes)
owner_there t (InComponent k) = true

-- a method is there, and has the word
abbrev pub method_has : List Name → Tables → List ℕ → Option AMethod → Bool
method_has texts t w (Some m) = bytes_eq w (word_of (owner_name texts t m.owner) (text_at texts m.name))
method_has texts t w None = false

-- a field is there, what declares it too, and it has the word
abbrev pub field_has : List Name → Tables → List ℕ → Option AField → Bool
field_has texts t w (Some f) = owner_there t f.owner && bytes_eq w (word_of (owner_name texts t f.owner) (text_at texts f.name))
field_has texts t w None = false

abbrev pub FindsMethod : List Name → Tables → List ℕ → Option ℕ → Type 0
FindsMethod texts t w (Some m) = method_has texts t w (slice_get t.methods m) ≡ true
FindsMethod texts t w None = (i m : ℕ) → slice_get t.targets i ≡ Some (Run m) → method_has texts t w (slice_get t.methods m) ≡ false

abbrev pub FindsFieldIn : List Name → Tables → List ℕ → List ℕ → Option ℕ → Type 0
FindsFieldIn texts t w fs (Some f) = field_has texts t w (slice_get t.fields f) ≡ true
FindsFieldIn texts t w fs None = (i f : ℕ) → slice_get fs i ≡ Some f → field_has texts t w (slice_get t.fields f) ≡ false

abbrev pub FindsInClasses : List Name → Tables → List ℕ → Option ℕ → Type 0
FindsInClasses texts t w (Some f) = field_has texts t w (slice_get t.fields f) ≡ true
FindsInClasses texts t w None = (c : ℕ) (k : Class) → slice_get t.classes c ≡ Some k → FindsFieldIn texts t w k.fields None

abbrev pub FindsField : List Name → Tables → List ℕ → Option ℕ → Type 0
FindsField texts t w (Some f) = field_has texts t w (slice_get t.fields f) ≡ true
FindsField texts t w None = FindsFieldIn texts t w t.globals None × FindsInClasses texts t w None

-- a member of this name: a method, or a field where no method has it
abbrev pub FindsAny : List Name → Tables → List ℕ → Option Member → Type 0
FindsAny texts t w None = FindsMethod texts t w None × FindsField texts t w None
FindsAny texts t w (Some (Method m)) = FindsMethod texts t w (Some m)
FindsAny texts t w (Some (Field f)) = FindsMethod texts t w None × FindsField texts t w (Some f)
FindsAny texts t w (Some _) = ⊥
