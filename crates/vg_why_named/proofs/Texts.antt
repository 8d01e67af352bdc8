-- The texts of members under numbers and under names.
use Rattle.std.proofs.Common.{◌≡◌, ℕ, List, ◌++◌, Option, Some, None, slice_get}
use Rattle.std.proofs.Common.{refl, sym, ap, ◌∙◌, append_assoc}
use Rattle.std.specs.Prelude.{codes, decimal}
use Rattle.vg_source.specs.Names.{Name}
use Rattle.vg_core.specs.declared.member.Member.{Member}
use Rattle.vg_core.specs.declared.member.Member.TheVariants.{Method, Field, Cell}
use Rattle.vg_core.specs.declared.program.Owner.{Owner}
use Rattle.vg_core.specs.declared.program.Owner.TheVariants.{InClass, InComponent}
use Rattle.vg_core.specs.declared.program.Class.{Class}
use Rattle.vg_core.specs.declared.program.Method as program
use Rattle.vg_core.specs.declared.program.Field as field
use Rattle.vg_core.specs.declared.program.Tables.{Tables}
use Rattle.vg_core.specs.Program.{Program}
use Rattle.vg_core.specs.Naming.{Naming, Key, naming_of, method_key, field_key, class_name, component_name, owner_name, text_at}
use Rattle.vg_core.specs.Naming as naming
use Rattle.vg_core.specs.declared.heap.Heap.{Heap}
use Rattle.vg_live.specs.declared.live_set.Reason.{Reason}
use Rattle.vg_live.specs.Rules.{IsThere}
use Rattle.vg_live_source.specs.Chains as source
use Rattle.vg_live_named.specs.Members.{named_member, named_one}
use Rattle.vg_live_named.proofs.Steps.{within}
use Rattle.vg_report.specs.Texts.{text_in, name_text, class_text, component_text, owner_text, method_text, field_text}
use Rattle.vg_report.specs.Texts.{member_text, from_text, reason_line, dead_line}

module _ (texts : List Name) (p : Tables) where
  text_same : (o : Option Name) → text_in o ≡ naming.text_in o
  text_same (Some x) = refl
  text_same None = refl

  name_same : (x : ℕ) → name_text texts x ≡ text_at texts x
  name_same x = text_same (slice_get texts x)

  class_same : (o : Option Class) → class_text texts o ≡ class_name texts o
  class_same (Some k) = name_same k.name
  class_same None = refl

  component_same : (o : Option ℕ) → component_text texts o ≡ component_name texts o
  component_same (Some x) = name_same x
  component_same None = refl

  owner_same : (o : Owner) → owner_text texts p o ≡ owner_name texts p o
  owner_same (InClass c) = class_same (slice_get p.classes c)
  owner_same (InComponent k) = component_same (slice_get p.components k)

  -- both names, with a point between them
  abbrev pub key_text : Key → List ℕ
  key_text k = k.owner ++ codes "." ++ k.name

  method_same : (o : Option program.Method) → (y : program.Method) → o ≡ Some y → method_text texts p o ≡ key_text (method_key texts p o)
  method_same (Some m) y e = ap (λ z. z ++ codes "." ++ name_text texts m.name) (owner_same m.owner)
      ∙ ap (λ z. owner_name texts p m.owner ++ codes "." ++ z) (name_same m.name)
  method_same None y e = absurd (let clash : None ≡ Some y = e in cc)

  field_same : (o : Option field.Field) → (y : field.Field) → o ≡ Some y → field_text texts p o ≡ key_text (field_key texts p o)
  field_same (Some m) y e = ap (λ z. z ++ codes "." ++ name_text texts m.name) (owner_same m.owner)
      ∙ ap (λ z. owner_name texts p m.owner ++ codes "." ++ z) (name_same m.name)
  field_same None y e = absurd (let clash : None ≡ Some y = e in cc)

  -- the text of a method that is there, and that of a field
  pub method_text_is : (m : ℕ) (y : program.Method) → slice_get p.methods m ≡ Some y
      → method_text texts p (slice_get p.methods m) ≡ key_text ((naming_of texts p).method m)
  method_text_is m y e = method_same (slice_get p.methods m) y e

  pub field_text_is : (f : ℕ) (x : field.Field) → slice_get p.fields f ≡ Some x
      → field_text texts p (slice_get p.fields f) ≡ key_text ((naming_of texts p).field f)
  field_text_is f x e = field_same (slice_get p.fields f) x e

  -- a text before both names
  behind : (a : List ℕ) (k : Key) → a ++ key_text k ≡ a ++ k.owner ++ codes "." ++ k.name
  behind a k = sym (append_assoc a (k.owner ++ codes ".") k.name) ∙ ap (λ z. z ++ k.name) (sym (append_assoc a k.owner (codes ".")))

module _ (texts : List Name) (p : Program) (h : Heap) where
  -- ---- lines

  pub member_same : (y : Member) → IsThere p h y → member_text texts p.tables y ≡ source.member_text (named_member (naming_of texts p.tables) y)
  member_same (Method m) there = by (within p.tables.methods m there)
    where
      by : ((y : program.Method) × (slice_get p.tables.methods m ≡ Some y))
          → member_text texts p.tables (Method m) ≡ source.member_text (named_member (naming_of texts p.tables) (Method m))
      by (y, e) = ap (λ z. codes "method " ++ z) (method_text_is texts p.tables m y e)
          ∙ behind texts p.tables (codes "method ") ((naming_of texts p.tables).method m)
  member_same (Field f) there = by (within p.tables.fields f there)
    where
      by : ((x : field.Field) × (slice_get p.tables.fields f ≡ Some x))
          → member_text texts p.tables (Field f) ≡ source.member_text (named_member (naming_of texts p.tables) (Field f))
      by (x, e) = ap (λ z. codes "field " ++ z) (field_text_is texts p.tables f x e)
          ∙ behind texts p.tables (codes "field ") ((naming_of texts p.tables).field f)
  member_same (Cell k) there = refl

  -- a member, where one is named, is there
  abbrev pub OneThere : Option Member → Type 0
  OneThere None = Unit {0}
  OneThere (Some y) = IsThere p h y

  from_same : (o : Option Member) → OneThere o → from_text texts p.tables o ≡ source.from_text (named_one (naming_of texts p.tables) o)
  from_same None there = refl
  from_same (Some y) there = ap (λ z. codes " from " ++ z) (member_same y there)

  pub line_same : (y : Member) (r : Reason) (from : Option Member) → r.from ≡ from → IsThere p h y → OneThere from
      → reason_line texts p.tables y r ≡ source.reason_line (named_member (naming_of texts p.tables) y) r.rule (named_one (naming_of texts p.tables) from)
  line_same y r from e a b =
      ap (λ z. z ++ codes " by " ++ decimal r.rule ++ from_text texts p.tables r.from ++ codes "\n") (member_same y a)
      ∙ (ap (λ z. source.member_text (named_member (naming_of texts p.tables) y) ++ codes " by " ++ decimal r.rule ++ from_text texts p.tables z
      ++ codes "\n") e
      ∙ ap (λ z. source.member_text (named_member (naming_of texts p.tables) y) ++ codes " by " ++ decimal r.rule ++ z ++ codes "\n") (from_same from b))

  pub dead_same : (y : Member) → IsThere p h y → dead_line texts p.tables y ≡ source.dead_line (named_member (naming_of texts p.tables) y)
  dead_same y a = ap (λ z. codes "dead " ++ z ++ codes "\n") (member_same y a)
