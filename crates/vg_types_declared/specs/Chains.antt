-- The chains of classes by numbers and by names.
use Rattle.std.specs.Prelude.{◌≡◌, ℕ, List, [], map, Option, Some, None, slice_get}
use Rattle.vg_syntax.specs.Tree.{Node}
use Rattle.vg_source.specs.Names.{Name}
use Rattle.vg_source.specs.Declared.{chain_of, length_of}
use Rattle.vg_types_views.specs.ByText.{found}
use Rattle.vg_types_chains.specs.Chains.{chain_at, Close}
use Rattle.vg_types_heads.specs.Heads.{HeadsView}

-- The number of a class that is named, where one is.
abbrev pub number_of : List (Name × ℕ) → Option Name → Option ℕ
number_of m (Some x) = found x m
number_of m None = None

-- The numbers of the classes above classes.
abbrev pub numbers : HeadsView → List (Option ℕ)
numbers v = map (number_of v.classes) v.above

-- A name, where there is one; else no text.
abbrev pub name_or : Option Name → Name
name_or (Some x) = x
name_or None = []

-- The name of a class.
abbrev pub name_of : HeadsView → ℕ → Name
name_of v c = name_or (slice_get v.class_names c)

-- The chain of each class is that of its name, and chains end by themselves.
pub record Chained (ds : Node) (v : HeadsView) : Type 0 where
  pub named : (x : Name) (c : ℕ) → found x v.classes ≡ Some c → map (name_of v) (chain_at (length_of ds) (numbers v) c) ≡ chain_of ds x
  pub close : Close (length_of ds) (numbers v)
