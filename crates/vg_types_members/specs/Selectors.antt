-- The numbers of the names of methods.
use Rattle.std.specs.Prelude.{◌≡◌, length, List, Some}
use Rattle.vg_source.specs.Names.{Name}
use Rattle.vg_types_views.specs.ByText.{found}
use Rattle.vg_types_interned.specs.Types.{AreNumbered}
use Rattle.vg_types_members.specs.declared.selectors.Selectors.{Selectors}

-- Each name has its place as its number, and the next number is that of the next place.
pub record IsNumbering (s : Selectors) : Type 0 where
  pub places : AreNumbered s.numbers
  pub next : s.count ≡ length s.numbers

-- What texts are mapped to stays.
abbrev pub Stay : {V : Type 0} → (old new : List (Name × V)) → Type 0
Stay {V} old new = (x : Name) (v : V) → found x old ≡ Some v → found x new ≡ Some v
