-- A hierarchy of four levels, and what is planned for it.
use Rattle.std.specs.Prelude.{ℕ, true, List, [], ◌∷◌, Some, None}
use Rattle.vg_codes.specs.declared.case.Case.{Case}
use Rattle.vg_core.specs.declared.types.CoreType.TheVariants.{IntType, CharType, FunctionType, NoType}
use Rattle.vg_core.specs.declared.program.Owner.TheVariants.{InClass}
use Rattle.vg_core.specs.declared.program.Tables.{Tables}
use Rattle.vg_firm.specs.declared.step.Home.TheVariants.{Ram}
use Rattle.vg_live.specs.declared.live_set.Reason.{Reason}
use Rattle.vg_number.specs.declared.numbers.Numbers.{Numbers}
use Rattle.vg_pack_code.specs.declared.plan.Asked.{Asked}
use Rattle.vg_pack_code.specs.declared.plan.Plan.{Plan}

--   class A { method m() {} }   class B extends A { field x: int; field y: int; }   class C extends B { method m() {} }   class D extends C { }
abbrev pub tables : Tables
tables = record {
  classes =
      record { name = 0; above = 0 ∷ []; fields = []; methods = 0 ∷ []; params = [] }
      ∷ record { name = 1; above = 1 ∷ 0 ∷ []; fields = 0 ∷ 1 ∷ []; methods = 0 ∷ []; params = [] }
      ∷ record { name = 2; above = 2 ∷ 1 ∷ 0 ∷ []; fields = 0 ∷ 1 ∷ []; methods = 1 ∷ 0 ∷ []; params = [] }
      ∷ record { name = 3; above = 3 ∷ 2 ∷ 1 ∷ 0 ∷ []; fields = 0 ∷ 1 ∷ []; methods = 1 ∷ 0 ∷ []; params = [] }
      ∷ [];
  components = [];
  fields = record { name = 5; owner = InClass 1; type_ = IntType; slot = 0 } ∷ record { name = 6; owner = InClass 1; type_ = IntType; slot = 1 } ∷ [];
  globals = [];
  methods =
      record { name = 4; owner = InClass 0; selector = 0; function = 2; params = []; result = NoType; nodes = 2 }
      ∷ record { name = 4; owner = InClass 2; selector = 0; function = 2; params = []; result = NoType; nodes = 2 }
      ∷ [];
  targets = [];
  types = CharType ∷ NoType ∷ FunctionType 1 1 ∷ [];
  literals = [];
  char_type = 0;
}

-- One object of A, two of B, none of C and one of D, in this order of making.
abbrev pub numbers : Numbers
numbers = record {
  of_cell = 1 ∷ 2 ∷ 3 ∷ 4 ∷ [];
  spans = record { first = 1; count = 4 } ∷ record { first = 2; count = 3 } ∷ record { first = 4; count = 1 } ∷ record { first = 4; count = 1 } ∷ [];
}

abbrev pub own : List ℕ
own = 1 ∷ 2 ∷ 0 ∷ 1 ∷ []

abbrev pub asked_a : Asked
asked_a = record { class = 0; selector = 0 }

abbrev pub asked_c : Asked
asked_c = record { class = 2; selector = 0 }

-- The field x has a column, and y has none.
abbrev pub plan : Plan
plan = record {
  procedures = Some 0 ∷ Some 1 ∷ [];
  bindable = true ∷ true ∷ [];
  receives = true ∷ true ∷ [];
  columns = Some (record { home = Ram; column = 0 }) ∷ None ∷ [];
  items = [];
  starts = [];
  asked = asked_a ∷ asked_c ∷ [];
  edges = [] ∷ [] ∷ [];
}

abbrev pub case : (first count procedure : ℕ) → Case
case f n q = record { first = f; count = n; procedure = q }

abbrev pub reason : Reason
reason = record { rule = 1; rank = 0; from = None; also = None }
