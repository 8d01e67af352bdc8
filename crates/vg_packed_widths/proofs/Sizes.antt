-- What the locals of methods take.
use Rattle.std.proofs.Common.{◌≡◌, ap, arith, ℕ, ◌+◌, ◌<◌, ◌≤◌, ◌/◌, List, [], ◌∷◌, map, Some, slice_get}
use Rattle.std.specs.List.{AllByRecursion}
use Rattle.vg_syntax.specs.Tree.{Node}
use Rattle.vg_syntax.specs.Reads.{Reads}
use Rattle.vg_source.specs.Names.{Name}
use Rattle.vg_source.specs.Program.{declarations_of}
use Rattle.vg_rules.specs.Legal.{Legal}
use Rattle.vg_source_ranges.specs.Routines.{HaveMembers}
use Rattle.vg_written_locals.proofs.Texts.{reads_so}
use Rattle.vg_source_widths.specs.Sized.{IsSized, AreSized}
use Rattle.vg_source_widths.proofs.Methods.{locals_sized}
use Rattle.vg_core.specs.declared.types.CoreType.{CoreType}
use Rattle.vg_core.specs.declared.types.CoreType.TheVariants as types
use Rattle.vg_core.specs.declared.program.Method.{Method}
use Rattle.vg_core.specs.declared.program.Tables.{Tables}
use Rattle.vg_core.specs.Naming.{Naming, naming_of, named_type}
use Rattle.vg_core.specs.Program.{Program, method_signature}
use Rattle.vg_core.specs.Typing.{locals_of}
use Rattle.vg_named_locals.specs.Locals.{HaveLocals}
use Rattle.vg_coded.specs.Widths.{width_of}
use Rattle.vg_packing.specs.Allowed.{IsSmall}
use Rattle.vg_pack_bodies.specs.Procedures.{signature}
use Rattle.vg_packed_widths.specs.Locals.{TakesBytes, TakeBytes}

at_least_one : (k : ℕ) → 0 < k → 1 ≤ (k + 7) / 8
at_least_one k h = omega (arith, h)

at_most_four : (k : ℕ) → k ≤ 32 → (k + 7) / 8 ≤ 4
at_most_four k h = omega (arith, h)

small_result : (t : CoreType) → IsSmall t → width_of t ≤ 4
small_result (types.RawType k) h = at_most_four k h
small_result types.IntType h = omega arith
small_result types.BoolType h = omega arith
small_result types.CharType h = omega arith
small_result types.NullType h = omega arith
small_result (types.ClassType c) h = omega arith
small_result (types.ArrayType t) h = omega arith
small_result (types.FunctionType ps r) h = omega arith
small_result types.NoType h = omega arith
small_result (types.MoreTypes t ts) h = omega arith

module _ (n : Naming) (p : Tables) where
  takes_bytes : (t : CoreType) → IsSized (named_type n p t) → TakesBytes t
  takes_bytes (types.RawType k) (small, wide) = (at_least_one k wide, at_most_four k small)
  takes_bytes types.IntType h = (omega arith, omega arith)
  takes_bytes types.BoolType h = (omega arith, omega arith)
  takes_bytes types.CharType h = (omega arith, omega arith)
  takes_bytes types.NullType h = (omega arith, omega arith)
  takes_bytes (types.ClassType c) h = (omega arith, omega arith)
  takes_bytes (types.ArrayType t) h = (omega arith, omega arith)
  takes_bytes (types.FunctionType ps r) h = (omega arith, omega arith)
  takes_bytes types.NoType h = absurd h.1
  takes_bytes (types.MoreTypes t ts) h = absurd h.1

  all_take : (ts : List CoreType) → AreSized (map (named_type n p) ts) → AllByRecursion TakesBytes ts
  all_take [] h = tt
  all_take (t ∷ ts) (a, h) = (takes_bytes t a, all_take ts h)

pub take_bytes : (bytes : List ℕ) (texts : List Name) (text : Node) (p : Program) → Reads bytes text → Legal text → HaveMembers (declarations_of text)
    → HaveLocals texts text p → ((m : ℕ) (y : Method) → slice_get p.tables.methods m ≡ Some y → IsSmall y.result) → TakeBytes p
take_bytes bytes texts text p reads legal have are small =
    record {
      locals = λ m y b ey eb.
          all_take (naming_of texts p.tables) p.tables (locals_of (signature y) b)
          (locals_sized text legal have (reads_so bytes text reads) m _ (are m (signature y) b (ap method_signature ey) eb));
      results = λ m y e. small_result y.result (small m y e);
    }
