-- What packing is given by a text that fits.
use Rattle.std.proofs.Common.{◌≡◌, sym, subst, arith, ℕ, ◌<◌, ◌≤◌, ◌^◌, List, [], length, Some, None}
use Rattle.vg_base.specs.Limits.{text_limit}
use Rattle.vg_source.specs.Steps.{Source}
use Rattle.vg_tree_walks.specs.Whole.{tree_at}
use Rattle.vg_core.specs.declared.member.Member.TheVariants.{Method}
use Rattle.vg_core.specs.HeldProgram.{program_at}
use Rattle.vg_core.specs.Naming.{Naming, naming_of}
use Rattle.vg_core.specs.Program.{Program}
use Rattle.vg_live.specs.Rules.{Live}
use Rattle.vg_live_source.specs.Making.{MakesNothing}
use Rattle.vg_reach.specs.Reaches.{made_in}
use Rattle.vg_packed.specs.Given.{IsGiven}
use Rattle.vg_packed.specs.Ready.{IsReady}
use Rattle.vg_packed.specs.Ranges.{HaveRanges}
use Rattle.vg_packed.proofs.Ready.{elements, is_ready}
use Rattle.vg_text_limits.proofs.Limits.{is_legal}
use Rattle.vg_text_chip.specs.Chip.{NamesChip}
use Rattle.vg_text_chip.proofs.Named.{names_chip}
use Rattle.vg_text_beside.proofs.Beside.{few_methods, few_parameters, few_arguments, ranges}
use Rattle.vg_fits.specs.Answer.{Start}
use Rattle.vg_fits.specs.Answer.{named_start_heap}
use Rattle.vg_fits.specs.declared.fitting.Fitted.{Fitted}
use Rattle.vg_fits.specs.Answer.{IsFittedOf}
use Rattle.vg_fits.proofs.Answering.{can_place}
use Rattle.vg_fits_given.proofs.Making.{nothing_back}

module _ (bytes : List ℕ) (clock : ℕ) (f : Fitted) (is : IsFittedOf bytes clock f) (short : length bytes ≤ text_limit)
  where
    abbrev s : Start
    s = f.alive.start

    abbrev p : Program
    p = program_at s.program

    abbrev names : Naming
    names = naming_of s.names s.program.tables

    its_ranges : HaveRanges p
    its_ranges =
        ranges s.names (tree_at s.names s.tree) p is.alive.start.program is.alive.start.legal.legal bytes is.alive.start.legal.reads
        (let a = short in omega (arith, a))
        (few_arguments s.names (tree_at s.names s.tree) p is.alive.start.program is.alive.start.legal.legal)

    -- no live method makes anything
    makes_nothing : (m : ℕ) → Live p s.heap (Some (Method m)) → made_in p m ≡ None
    makes_nothing =
        nothing_back names p is.alive.start.program.told is.alive.start.program.typed s.heap is.alive.start.typed.0 is.alive.start.typed.1
        (subst (λ (q : Source). MakesNothing q (named_start_heap s)) is.alive.start.program.named is.alive.firm.nothing)

    pub ready : IsReady p s.heap
    ready = is_ready p its_ranges is.alive.start.program.typed.tables clock s.heap is.alive.start.starts makes_nothing

    pub chip : NamesChip p
    chip =
        names_chip names p bytes (tree_at s.names s.tree) is.alive.start.legal.reads (is_legal (tree_at s.names s.tree) is.alive.start.legal.legal)
        is.alive.start.program.named is.alive.start.program.told is.alive.start.program.called

    pub given : IsGiven p s.heap f.alive.live f.placed.numbers f.placed.columns
    given =
        let can = can_place bytes clock f.alive is.alive short in
        record {
          typed = is.alive.start.program.typed;
          heap = is.alive.start.typed;
          chains = can.chains;
          live = is.alive.set;
          few_values = can.values;
          numbers = is.numbering;
          columns = is.placed;
          wide = elements p its_ranges is.alive.start.program.typed.tables clock s.heap is.alive.start.starts;
          few_fields = can.fields;
          few_classes = can.classes;
          few_methods = (let a = few_methods s.names (tree_at s.names s.tree) p is.alive.start.program is.alive.start.legal.legal in omega (arith, a));
          few_parameters = few_parameters s.names (tree_at s.names s.tree) p is.alive.start.program is.alive.start.legal.legal;
        }
