-- From what is live under numbers to what is answered to the bytes.
use Rattle.std.proofs.Common.{◌≡◌, ℕ, ◌<◌, List, length, Option, Some, None, Ok, Err, refl, sym, ap, subst}
use Rattle.std.specs.Prelude.{slice_get}
use Rattle.vg_base.specs.declared.refusal.Refusal.{Refusal}
use Rattle.vg_base.specs.declared.refusal.Refusal.TheVariants as refusal
use Rattle.vg_source.specs.Values.{Heap}
use Rattle.vg_source.specs.Steps.{Source}
use Rattle.vg_source.specs.Program.{source_of}
use Rattle.vg_tree_walks.specs.Whole.{tree_at}
use Rattle.vg_core.specs.Naming.{Naming, method_key, naming_of, named}
use Rattle.vg_core.specs.declared.program.Method.{Method as AMethod}
use Rattle.vg_core.specs.declared.program.Tables.{Tables}
use Rattle.vg_core.specs.Program.{Program}
use Rattle.vg_core.specs.HeldProgram.{program_at}
use Rattle.vg_core.specs.declared.member.Member.TheVariants.{Method}
use Rattle.vg_core.specs.declared.heap.Heap as core
use Rattle.vg_live.specs.Rules.{Live}
use Rattle.vg_live.specs.Rules as rules
use Rattle.vg_live.specs.declared.live_set.LiveSet.{LiveSet}
use Rattle.vg_live_source.specs.Making as source
use Rattle.vg_reach.specs.declared.making.Allocates.{Allocates as Allocation}
use Rattle.vg_reach.specs.Reaches.{IsFirstMaker, made_in}
use Rattle.vg_faults.specs.declared.fault.Fault.{Fault}
use Rattle.vg_faults.specs.Living.{AllocatesIn, HasLiveFault, IsFirm, allocates_line, key_text}
use Rattle.vg_faults.proofs.Makers.{is_live_fault}
use Rattle.vg_front.specs.declared.starting.Start.{Start}
use Rattle.vg_front.specs.Answer.{IsStartOf, Starts}
use Rattle.vg_front.proofs.Starts.{tree_starts}
use Rattle.vg_live_named.proofs.Steps.{within}
use Rattle.vg_reach_named.proofs.Making.{first_maker, nothing}
use Rattle.vg_alive.specs.Answer.{Lives, named_start_heap}
use Rattle.vg_alive.specs.Mirrors.{Searches, line_of, method_word, place_of}

-- what is live is there
there : (p : Program) (h : core.Heap) (m : ℕ) → Live p h (Some (Method m)) → m < length p.tables.methods
there p h m (rules.by rule is a b) = is

-- the name of a method that is there
word_is : (texts : List (List ℕ)) (t : Tables) (o : Option AMethod) (y : AMethod) → o ≡ Some y
    → method_word texts t o ≡ key_text (method_key texts t o).owner (method_key texts t o).name
word_is texts t (Some m) y e = refl
word_is texts t None y e = cc

module _ (bytes : List ℕ) (clock : ℕ) (s : Start) (is : IsStartOf bytes clock s) where
  abbrev names : Naming
  names = naming_of s.names s.program.tables

  abbrev p : Program
  p = program_at s.program

  -- what holds of the program with names in place of numbers holds of that of the tree
  of_tree : (P : Source → Type 0) → P (named names p) → P (source_of (tree_at s.names s.tree))
  of_tree P h = subst P (sym is.program.named) h

  -- no live method makes anything
  firm_is : ((m : ℕ) → Live p s.heap (Some (Method m)) → made_in p m ≡ None) → IsFirm bytes clock (tree_at s.names s.tree) (named_start_heap s)
  firm_is none =
      record {
        legal = is.legal;
        starts = tree_starts bytes clock s is;
        nothing = of_tree (λ q. source.MakesNothing q (named_start_heap s)) (nothing names p is.program.told is.program.typed s.heap is.typed.0 is.typed.1 none);
      }

  -- or one does
  allocates_is : (a : Allocation) → IsFirstMaker p s.heap a → AllocatesIn bytes clock (place_of s a) (line_of s a.method (place_of s a))
  allocates_is a maker =
      let (y, found) = within s.program.tables.methods a.method (there p s.heap a.method maker.live) in
      record {
        tree = tree_at s.names s.tree;
        legal = is.legal;
        heap = named_start_heap s;
        starts = tree_starts bytes clock s is;
        owner = (names.method a.method).owner;
        method = (names.method a.method).name;
        node = a.node;
        maker = of_tree (λ q. source.IsFirstMaker q (named_start_heap s) (names.method a.method).owner (names.method a.method).name a.node)
            (first_maker names p is.program.told is.program.typed s.heap is.typed.0 is.typed.1 a maker);
        place_is = refl;
        line_is = ap (λ t. allocates_line t (place_of s a)) (word_is s.names s.program.tables (slice_get s.program.tables.methods a.method) y found);
      }

-- what is live of what starts is that of the bytes
pub alive_is : (bytes : List ℕ) (clock : ℕ) (s : Start) (set : LiveSet) → IsStartOf bytes clock s → Searches s (Ok set)
    → Lives bytes clock (Ok (record { start = s; live = set }))
alive_is bytes clock s set is (live, none) = record { start = is; set = live; firm = firm_is bytes clock s is none }

-- a fault of what is live is one of the bytes
pub searched_by : (bytes : List ℕ) (clock : ℕ) (s : Start) (why : Refusal Fault) → IsStartOf bytes clock s → Searches s (Err why) → Lives bytes clock (Err why)
searched_by bytes clock s (refusal.Fault why) is (a, maker, e) =
    subst (λ w. HasLiveFault w bytes clock) (sym e) (allocates_is bytes clock s is a maker)
searched_by bytes clock s refusal.NoMemory is h = tt

-- a fault that stands before is answered
pub starts_by : (bytes : List ℕ) (clock : ℕ) (why : Refusal Fault) → Starts bytes clock (Err why) → Lives bytes clock (Err why)
starts_by bytes clock (refusal.Fault why) h = is_live_fault why bytes clock h
starts_by bytes clock refusal.NoMemory h = tt
