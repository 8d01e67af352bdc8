-- What a packed program has is placed, and it does what the program does.
use Rattle.std.proofs.Common.{◌≡◌, refl, ap, ◌∙◌, arith, ℕ, ◌<◌, List, length, map, Option, Some, slice_get}
use Rattle.std.proofs.lemmas.List.{length-map}
use Rattle.std.proofs.lemmas.Option.{slice_get_within}
use Rattle.vg_meaning.specs.History.{Recorder}
use Rattle.vg_meaning.specs.Outside.{AreReads}
use Rattle.vg_meaning.specs.Safe.{Alike}
use Rattle.vg_codes.specs.Codes.{Codes, AreCodes}
use Rattle.vg_source.specs.Session.{running_world}
use Rattle.vg_core.specs.declared.heap.Heap.{Heap}
use Rattle.vg_core.specs.declared.program.Method.{Method as TheMethod}
use Rattle.vg_core.specs.declared.program.Target.TheVariants.{Run}
use Rattle.vg_core.specs.Program.{Body, Program, Signature, signature_of, method_signature}
use Rattle.vg_core.specs.Session.{running}
use Rattle.vg_core.specs.Typing.{TypedBody}
use Rattle.vg_firm.specs.Held.{procedure_of}
use Rattle.vg_firm.specs.Session as firm
use Rattle.vg_live.specs.declared.live_set.LiveSet.{LiveSet}
use Rattle.vg_number.specs.declared.numbers.Numbers.{Numbers}
use Rattle.vg_number.specs.Numbering.{kept_in, kinds_of}
use Rattle.vg_packing.specs.Pass.{packed}
use Rattle.vg_place.specs.declared.placing.Columns.{Columns}
use Rattle.vg_place.proofs.Glue.{are_few}
use Rattle.vg_packed.specs.IsPlaced.{IsPlaced}
use Rattle.vg_packed.proofs.Whole.{same_sessions}
use Rattle.vg_packed.proofs.StepsStanding.{all_packed}
use Rattle.vg_packed.proofs.CountedLayouts.{counted}
use Rattle.vg_packed.specs.declared.program.FirmProgram.{FirmProgram}
use Rattle.vg_packed.specs.Given.{IsGiven}
use Rattle.vg_packed.specs.Packed.{IsPackedFrom}
use Rattle.vg_packed.specs.Plans.{planned}
use Rattle.vg_packed.specs.Programs.{program_of}
use Rattle.vg_packed.specs.Ready.{IsReady}
use Rattle.vg_packed.proofs.Delegates.{method_there, signature}
use Rattle.vg_packed.proofs.Live.{only_methods, is_of}

module _ (p : Program) (h : Heap) (s : LiveSet) (n : Numbers) (c : Columns) (f : FirmProgram) (given : IsGiven p h s n c) (ready : IsReady p h)
    (from : IsPackedFrom p h s n c f) (k : Codes) where
  procedures : (m q : ℕ) (g : Signature) (b : Body) → (planned h n from.plan).numbering.procedure m ≡ Some q → signature_of p.tables (Run m) ≡ Some g
      → slice_get p.methods m ≡ Some b
      → slice_get (map procedure_of f.procedures) q ≡ Some (packed p.tables (planned h n from.plan) k m g b)
  procedures m q g b eq eg eb =
      ap (λ rows. slice_get rows q) from.procedures
      ∙ all_packed p (kinds_of h) n from.plan k ready.plain ready.few_arguments s.methods from.is_plan.procedures m q g b eq eg eb

  within : (m q : ℕ) → (planned h n from.plan).numbering.procedure m ≡ Some q → q < length f.procedures
  within m q eq =
      by (method_there p given.typed h given.heap.0 given.heap.1 s given.live m (only_methods p h s n c f given ready from k m q eq))
    where
      in_body : (y : TheMethod) → slice_get p.tables.methods m ≡ Some y
          → ((b : Body) × (slice_get p.methods m ≡ Some b) × TypedBody p.tables (signature y) b) → q < length f.procedures
      in_body y ey (b, eb, t) =
          let lt = slice_get_within (map procedure_of f.procedures) q _ (procedures m q (signature y) b eq (ap method_signature ey) eb) in
          let e = length-map f.procedures procedure_of in omega (arith, lt, e)

      by : (y : TheMethod) × (slice_get p.tables.methods m ≡ Some y) → q < length f.procedures
      by (y, ey) = in_body y ey (given.typed.bodies (Run m) (signature y) (ap method_signature ey))

  module _ (are : AreCodes (length f.procedures) k) where
    pub is_placed : IsPlaced p (planned h n from.plan) k (program_of k f)
    is_placed =
        record {
          kept = kept_in s;
          columns = c.list;
          chains = given.chains;
          counted = counted p.tables (kinds_of h) (kept_in s) n given.numbers from.plan;
          few = let e = are_few h h.cells refl given.few_values in omega (arith, e);
          has_columns = from.is_plan.has_columns;
          widths = λ t. refl;
          items = from.is_plan.item_widths;
          tables = from.tables k;
          codes = λ m q eq. let lt = within m q eq in (are.back q lt, are.positive q lt, are.two_bytes q lt);
          few_parameters = λ m q y eq ey. given.few_parameters m y ey;
          procedures = procedures;
          main = from.main;
          handlers = from.handlers;
        }

    pub do_the_same : {K : Type 0} (r : Recorder K) (history : K) (deepest : Option ℕ) (reads interrupts : List ℕ) (clock : ℕ) → AreReads reads
        → Alike (running r history p h deepest reads interrupts clock)
        (firm.running r k (program_of k f) (length interrupts) (firm.first_state (program_of k f)) (running_world history deepest reads interrupts clock))
    do_the_same r history deepest reads interrupts clock bytes =
        same_sessions p given.typed ready.plain h given.heap ready.ranged (planned h n from.plan) k (program_of k f)
        (is_of p h s n c f given ready from k) is_placed r history deepest reads interrupts clock bytes
