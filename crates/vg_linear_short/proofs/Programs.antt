-- That nothing is left why a short packed program should lack linear code.
use Rattle.std.specs.Prelude.{◌≤◌, List, length}
use Rattle.std.specs.List.{AllByRecursion}
use Rattle.std.proofs.Common.{inl, inr, arith}
use Rattle.vg_flatten_shapes.specs.declared.fault.Fault.{Fault}
use Rattle.vg_placement.specs.declared.column.Column.{Column}
use Rattle.vg_packed.specs.declared.program.FirmProgram.{FirmProgram}
use Rattle.vg_linear.specs.Laying.{layout_of}
use Rattle.vg_linear.specs.Refusals.{IsCauseOf}
use Rattle.vg_linear.specs.Whole.{packed_of}
use Rattle.vg_linear.specs.Widths.{AllHaveWidths}
use Rattle.vg_linear_short.specs.Short.{IsShort}
use Rattle.vg_linear_short.proofs.Items.{none_refused, none_long}

pub no_cause : (cs : List Column) (f : FirmProgram) (why : Fault) → AllHaveWidths f.procedures → length f.procedures ≤ 65531
    → AllByRecursion (IsShort (layout_of cs f)) (packed_of f) → IsCauseOf why cs f → ⊥
no_cause cs f why widths few all (inl h) = h.1 widths
no_cause cs f why widths few all (inr (inl h)) = let many = h.1 in omega (arith, many, few)
no_cause cs f why widths few all (inr (inr (inl h))) = none_refused (layout_of cs f) (packed_of f) all why h
no_cause cs f why widths few all (inr (inr (inr h))) = none_long (layout_of cs f) (packed_of f) all h.1.flats h.1.are_flat h.1.long
