-- Procedures that are flattened one for one.
use Rattle.std.proofs.Common.{◌≡◌, refl, ap, ◌∙◌, ℕ, ◌<◌, List, length, map, Some, Err, option_map, slice_get, get_or}
use Rattle.std.proofs.lemmas.Option.{slice_get-map}
use Rattle.vg_base.specs.declared.refusal.Refusal.{Refusal}
use Rattle.vg_base.specs.declared.refusal.Refusal.TheVariants.{Fault as Faulty, NoMemory as Memory}
use Rattle.vg_firm.specs.declared.procedure.Procedure.{Procedure as HeldProcedure}
use Rattle.vg_firm.specs.Held.{procedure_of}
use Rattle.vg_firm_typed.specs.Typed.{IsTyped}
use Rattle.vg_flatten_shapes.specs.declared.fault.Fault.{Fault}
use Rattle.vg_flatten_shapes.specs.declared.fault.Fault.TheVariants.{NotTaken, TooHigh, TooLong}
use Rattle.vg_flatten_shapes.specs.declared.layout.Layout.{Layout}
use Rattle.vg_flatten.specs.Refusals.{IsCause}
use Rattle.vg_flatten.specs.Taking.{IsLeft}
use Rattle.vg_linear.specs.Flats.{AreTaken, AreTyped, IsRefusedFor}
use Rattle.vg_linear.proofs.Lists.{get_at, one_of}

module _ (lay : Layout) (ms : List HeldProcedure) (i : ℕ) (m : HeldProcedure) (lt : i < length ms) (e : m ≡ get_or ms i m) where
  there : slice_get (map procedure_of ms) i ≡ Some (procedure_of m)
  there = slice_get-map procedure_of ms i ∙ ap (option_map procedure_of) (get_at ms i m lt e)

  -- one of them is refused
  pub one_refused : (why : Refusal Fault) → IsCause why lay (procedure_of m) → IsRefusedFor (Err why) lay (map procedure_of ms)
  one_refused Memory h = tt
  one_refused (Faulty why) h = record { number = i; procedure = procedure_of m; there = there; cause = h }

  pub one_left : (why : Refusal Fault) → (IsTyped lay (procedure_of m) → IsLeft why lay (procedure_of m)) → AreTyped lay (map procedure_of ms)
      → AreTaken (Err why) lay (map procedure_of ms)
  one_left Memory h t = tt
  one_left (Faulty TooLong) h t =
      (refl, record { number = i; procedure = procedure_of m; there = there; long = h (one_of (IsTyped lay) (map procedure_of ms) i (procedure_of m) t there) })
  one_left (Faulty TooHigh) h t = absurd (h (one_of (IsTyped lay) (map procedure_of ms) i (procedure_of m) t there))
  one_left (Faulty NotTaken) h t = absurd (h (one_of (IsTyped lay) (map procedure_of ms) i (procedure_of m) t there))
