-- Which names tell all numbers of a program apart.
use Rattle.std.specs.Prelude.{◌≡◌, ◌⊎◌, ℕ, ◌==◌, ◌&&◌, bytes_eq, true, List, [], ◌∷◌, Some, slice_get}
use Rattle.vg_core.specs.declared.program.Owner.TheVariants.{InClass}
use Rattle.vg_core.specs.declared.program.Method.{Method}
use Rattle.vg_core.specs.declared.program.Class.{Class}
use Rattle.vg_core.specs.declared.program.Target.{Target}
use Rattle.vg_core.specs.declared.program.Tables.{Tables}
use Rattle.vg_core.specs.Tables.{is_below, dispatch}
use Rattle.vg_core.specs.Program.{Body, Program, Signature, signature_of, body_of}
use Rattle.vg_core.specs.Naming.{Naming}
use Rattle.vg_renamed.specs.IsNamed.{KeysTell}

-- A class declares no method of this selector.
abbrev pub DeclaresNone : Tables → (c s : ℕ) → Type 0
DeclaresNone p c s = (m : ℕ) (y : Method) → slice_get p.methods m ≡ Some y → y.owner ≡ InClass c → y.selector ≡ s → ⊥

-- The class d is the first of these that declares a method of this selector.
abbrev pub DeclaresFirst : Tables → List ℕ → (s d : ℕ) → Type 0
DeclaresFirst p [] s d = ⊥
DeclaresFirst p (c ∷ cs) s d = (c ≡ d) ⊎ (DeclaresNone p c s × DeclaresFirst p cs s d)

-- A method that is found for an object is that of the first class above which declares one of the selector.
abbrev pub Inherited : Tables → (c s m : ℕ) → Type 0
Inherited p c s m =
    (k : Class) × (y : Method) × (d : ℕ) × (slice_get p.classes c ≡ Some k) × (slice_get p.methods m ≡ Some y) × (y.owner ≡ InClass d)
    × (y.selector ≡ s) × DeclaresFirst p k.above s d

-- Different numbers have different names, and what has a body is among what can be called.
pub record NamesTell (n : Naming) (p : Program) : Type 0 where
  pub classes : (c d : ℕ) (k l : Class) → slice_get p.tables.classes c ≡ Some k → slice_get p.tables.classes d ≡ Some l
      → bytes_eq (n.class c) (n.class d) ≡ (c == d)
  pub above : (c d : ℕ) → is_below p.tables c d ≡ true → (l : Class) × (slice_get p.tables.classes d ≡ Some l)
  pub components : (j k x y : ℕ) → slice_get p.tables.components j ≡ Some x → slice_get p.tables.components k ≡ Some y
      → bytes_eq (n.component j) (n.component k) ≡ (j == k)
  pub fields : KeysTell n p.tables
  pub methods : (i j : ℕ) (x y : Method) → slice_get p.tables.methods i ≡ Some x → slice_get p.tables.methods j ≡ Some y
      → (bytes_eq (n.method i).owner (n.method j).owner && bytes_eq (n.method i).name (n.method j).name) ≡ (i == j)
  -- a method with the name of a class before it and that of the selector of a method behind it is one that this class declares, of this selector
  pub declared : (i j c : ℕ) (x y : Method) (k : Class) → slice_get p.tables.methods i ≡ Some x → slice_get p.tables.methods j ≡ Some y
      → slice_get p.tables.classes c ≡ Some k
      → (bytes_eq (n.method i).owner (n.class c) && bytes_eq (n.method i).name (n.selector y.selector)) ≡ true
      → (x.owner ≡ InClass c) × (x.selector ≡ y.selector)
  pub owners : (i c : ℕ) (x : Method) → slice_get p.tables.methods i ≡ Some x → x.owner ≡ InClass c → (n.method i).owner ≡ n.class c
  pub selectors : (i : ℕ) (x : Method) → slice_get p.tables.methods i ≡ Some x → n.selector x.selector ≡ (n.method i).name
  pub inherits : (c s m : ℕ) → dispatch p.tables c s ≡ Some m → Inherited p.tables c s m
  pub targets : (t : Target) (g : Signature) (b : Body) → signature_of p.tables t ≡ Some g → body_of p t ≡ Some b
      → (i : ℕ) × (slice_get p.tables.targets i ≡ Some t)
  pub bodies : (t : Target) (g : Signature) → signature_of p.tables t ≡ Some g → (b : Body) × (body_of p t ≡ Some b)
