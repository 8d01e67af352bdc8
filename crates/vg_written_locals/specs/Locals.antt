-- Parameters and locals whose types are written.
use Rattle.std.specs.Prelude.{List}
use Rattle.std.specs.List.{AllByRecursion}
use Rattle.vg_syntax.specs.Tree.{Param, Node, MethodDecl, ConstructorDecl, Local}
use Rattle.vg_source.specs.Nodes.{nodes}
use Rattle.vg_source_ranges.specs.Spelled.{IsProper}

-- The types of parameters are written, and none is a row of types.
abbrev pub AreProper : List Param → Type 0
AreProper ps = AllByRecursion (λ p. IsProper p.type) ps

-- So are those of the parameters of a method or constructor, and that of a local.
abbrev pub HasWrittenTypes : Node → Type 0
HasWrittenTypes (MethodDecl at x ps t body) = AreProper ps
HasWrittenTypes (ConstructorDecl at ps calls args body) = AreProper ps
HasWrittenTypes (Local at x t value) = IsProper t
HasWrittenTypes _ = Unit {0}

-- So it is for all nodes of a tree.
abbrev pub HaveWrittenTypes : Node → Type 0
HaveWrittenTypes a = AllByRecursion HasWrittenTypes (nodes a)
