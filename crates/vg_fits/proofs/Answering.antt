-- From the columns of what is live to what is answered to the bytes.
use Rattle.std.proofs.Common.{◌≡◌, ℕ, zero, suc, ◌+◌, ◌<◌, ◌≤◌, List, [], ◌∷◌, length, map, Option, Some, None, slice_get, Result, Ok, Err, refl, sym, ap}
use Rattle.std.proofs.Common.{◌∙◌, subst, arith}
use Rattle.std.proofs.lemmas.Option.{slice_get_within}
use Rattle.vg_base.specs.Limits.{text_limit}
use Rattle.vg_base.specs.declared.refusal.Refusal.{Refusal}
use Rattle.vg_base.specs.declared.refusal.Refusal.TheVariants as refusal
use Rattle.vg_tree_walks.specs.Whole.{tree_at}
use Rattle.vg_core.specs.declared.heap.Cell.{Cell}
use Rattle.vg_core.specs.declared.heap.Cell.TheVariants.{Object, Array}
use Rattle.vg_core.specs.declared.program.Owner.{Owner}
use Rattle.vg_core.specs.declared.program.Owner.TheVariants.{InClass, InComponent}
use Rattle.vg_core.specs.declared.program.Tables.{Tables}
use Rattle.vg_core.specs.Heap.{Kind, ObjectOf, ArrayOf, kind_of}
use Rattle.vg_core.specs.HeldProgram.{program_at}
use Rattle.vg_core.specs.Naming.{naming_of}
use Rattle.vg_core.specs.Types.{IsKind, AreKinds}
use Rattle.vg_firm.specs.declared.step.Home.TheVariants.{Ram, Flash}
use Rattle.vg_number.specs.Numbering.{kept_in, kinds_of, IsListed, IsNumbering}
use Rattle.vg_placement.specs.Columns.{home_bytes}
use Rattle.vg_place.specs.Placing.{IsOwned, ArePlaced}
use Rattle.vg_static_source.specs.Sums.{IsStatic, AreTables}
use Rattle.vg_static_named.proofs.Sums.{static_named, tables_named}
use Rattle.vg_room.proofs.Runs.{started_fits}
use Rattle.vg_written.specs.Written.{IsOwner, parts_of}
use Rattle.vg_faults.specs.declared.fault.Fault.{Fault}
use Rattle.vg_faults.specs.declared.fault.Fault.TheVariants.{NoTree, TooDeep, TooMany, Broken, InitTrap, InitSteps, InitDepth, InitTouches, InitTooBig}
use Rattle.vg_faults.specs.declared.fault.Fault.TheVariants.{Allocates, StaticFull, TableFull, StackFull, CodeFull, NoMember, NotBuilt}
use Rattle.vg_faults.specs.Fitting.{StaticFullIn, TableFullIn, IsFitting, HasFitFault}
use Rattle.vg_faults.proofs.Fits.{is_fit_fault}
use Rattle.vg_alive.specs.declared.finding.Alive.{Alive}
use Rattle.vg_alive.specs.Answer.{IsAliveOf, Lives, named_start_heap}
use Rattle.vg_fits.specs.declared.fitting.Placed.{Placed}
use Rattle.vg_fits.specs.Answer.{columns_of, Fits}
use Rattle.vg_fits.specs.Mirrors.{CanPlace, PlacedBy}
use Rattle.vg_fits.proofs.Classes.{few_classes}
use Rattle.vg_fits.proofs.Fields.{few_fields}

-- the class of each object and the type of each array's elements are in the tables
one_listed : (p : Tables) (κ : List Kind) (c : Cell) (k : Kind) → IsKind p κ c k → IsListed p (kind_of c)
one_listed p κ (Object c vs) (ObjectOf d) h = slice_get_within p.classes c h.1 h.2
one_listed p κ (Array t vs) (ArrayOf u n) h = slice_get_within p.types t h.2 h.3
one_listed p κ (Object c vs) (ArrayOf u n) h = absurd h
one_listed p κ (Array t vs) (ObjectOf d) h = absurd h

one_some : (a b : Kind) → Some a ≡ Some b → a ≡ b
one_some a b q = cc

none_some : (a : Kind) → None ≡ Some a → ⊥
none_some a q = cc

listed : (p : Tables) (κ0 κ : List Kind) (cells : List Cell) → AreKinds p κ0 cells κ → (j : ℕ) (a : Kind) → slice_get (map kind_of cells) j ≡ Some a
    → IsListed p a
listed p κ0 [] [] h j a e = absurd (none_some a e)
listed p κ0 (k ∷ κ) (c ∷ cells) h zero a e = subst (IsListed p) (one_some (kind_of c) a e) (one_listed p κ0 c k h.0)
listed p κ0 (k ∷ κ) (c ∷ cells) h (suc j) a e = listed p κ0 κ cells h.1 j a e
listed p κ0 [] (c ∷ cells) h j a e = absurd h
listed p κ0 (k ∷ κ) [] h j a e = absurd h

below : {n : ℕ} → n ≤ 200 → n < 65536
below h = omega (arith, h)

owned : (p : Tables) (o : Owner) → IsOwner p o → IsOwned p o
owned p (InClass c) h = h
owned p (InComponent k) h = h

module _ (bytes : List ℕ) (clock : ℕ) (a : Alive) (is : IsAliveOf bytes clock a) where
  pub can_place : length bytes ≤ text_limit → CanPlace a.start
  can_place short =
      record {
        chains = (parts_of is.start.program.written).chains;
        owners = λ f y e. owned a.start.program.tables y.owner ((parts_of is.start.program.written).owners f y e);
        listed = listed a.start.program.tables is.start.typed.0 is.start.typed.0 a.start.heap.cells is.start.typed.1.cells;
        classes = below (few_classes (tree_at a.start.names a.start.tree) (naming_of a.start.names a.start.program.tables) (program_at a.start.program)
            is.start.legal.legal is.start.program.named);
        fields = few_fields bytes a.start.names (tree_at a.start.names a.start.tree) a.start.program.tables short is.start.legal.reads
            (parts_of is.start.program.written);
        values = started_fits (program_at a.start.program) clock a.start.heap is.start.starts;
      }

  -- the sums over numbers are those over names
  pub static_is : IsStatic (tree_at a.start.names a.start.tree) (named_start_heap a.start) (home_bytes Ram (columns_of a))
  static_is =
      static_named a.start.names (program_at a.start.program) is.start.program.told is.start.program.typed (tree_at a.start.names a.start.tree)
      (parts_of is.start.program.written) is.start.program.named a.start.heap is.start.typed.0 is.start.typed.1 a.live is.set

  tables_are : AreTables (tree_at a.start.names a.start.tree) (named_start_heap a.start) (home_bytes Flash (columns_of a))
  tables_are =
      tables_named a.start.names (program_at a.start.program) is.start.program.told is.start.program.typed (tree_at a.start.names a.start.tree)
      (parts_of is.start.program.written) is.start.program.named a.start.heap is.start.typed.0 is.start.typed.1 a.live is.set

  static_full : (need : ℕ) → 4096 < home_bytes Ram (columns_of a) → need ≡ home_bytes Ram (columns_of a) → StaticFullIn bytes clock need
  static_full need full e =
      subst (StaticFullIn bytes clock) (sym e)
      (record { tree = tree_at a.start.names a.start.tree; heap = named_start_heap a.start; firm = is.firm; needs = static_is; full = full })

  table_full : (need : ℕ) → home_bytes Ram (columns_of a) ≤ 4096 → 60000 < home_bytes Flash (columns_of a) → need ≡ home_bytes Flash (columns_of a)
      → TableFullIn bytes clock need
  table_full need fits full e =
      subst (TableFullIn bytes clock) (sym e)
      (record {
        tree = tree_at a.start.names a.start.tree;
        heap = named_start_heap a.start;
        firm = is.firm;
        static_bytes = home_bytes Ram (columns_of a);
        has_static = static_is;
        fits = fits;
        needs = tables_are;
        full = full;
      })

  fitting : home_bytes Ram (columns_of a) ≤ 4096 → home_bytes Flash (columns_of a) ≤ 60000
      → IsFitting bytes clock (tree_at a.start.names a.start.tree) (named_start_heap a.start)
  fitting fits tables_fit =
      record {
        firm = is.firm;
        static_bytes = home_bytes Ram (columns_of a);
        has_static = static_is;
        fits = fits;
        table_bytes = home_bytes Flash (columns_of a);
        has_tables = tables_are;
        tables_fit = tables_fit;
      }

  -- what is placed of what is live fits
  pub fitted_is : (p : Placed) → PlacedBy a (Ok p) → Fits bytes clock (Ok (record { alive = a; placed = p }))
  fitted_is p (numbers, placed) =
      record { alive = is; numbering = numbers; placed = placed; fitting = fitting placed.fits placed.tables_fit }

  -- and what is not is a fault of the bytes
  pub refused_by : (why : Refusal Fault) → PlacedBy a (Err why) → Fits bytes clock (Err why)
  refused_by (refusal.Fault (StaticFull need)) (full, e) = static_full need full e
  refused_by (refusal.Fault (TableFull need)) (fits, full, e) = table_full need fits full e
  refused_by (refusal.Fault (StackFull need left)) h = absurd h
  refused_by (refusal.Fault (CodeFull words)) h = absurd h
  refused_by (refusal.Fault (NoTree p)) h = absurd h
  refused_by (refusal.Fault (TooDeep p)) h = absurd h
  refused_by (refusal.Fault (TooMany what limit p)) h = absurd h
  refused_by (refusal.Fault (Broken rule p)) h = absurd h
  refused_by (refusal.Fault (InitTrap code p)) h = absurd h
  refused_by (refusal.Fault InitSteps) h = absurd h
  refused_by (refusal.Fault InitDepth) h = absurd h
  refused_by (refusal.Fault (InitTouches address)) h = absurd h
  refused_by (refusal.Fault InitTooBig) h = absurd h
  refused_by (refusal.Fault (Allocates p line)) h = absurd h
  refused_by (refusal.Fault NoMember) h = absurd h
  refused_by (refusal.Fault (NotBuilt p)) h = absurd h
  refused_by refusal.NoMemory h = tt

-- a fault that stands before is answered
pub lives_by : (bytes : List ℕ) (clock : ℕ) (why : Refusal Fault) → Lives bytes clock (Err why) → Fits bytes clock (Err why)
lives_by bytes clock (refusal.Fault why) h = is_fit_fault why bytes clock h
lives_by bytes clock refusal.NoMemory h = tt
