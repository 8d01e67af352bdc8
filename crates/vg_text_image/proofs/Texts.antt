-- The image of a text that fits does what the text does.
use Rattle.std.specs.Prelude.{ℕ, zero, suc, ◌+◌, ◌-◌, ◌<◌, ◌≤◌, Bool, true, false, ◌==◌, ◌||◌, List, [], ◌∷◌, length, slice_get, unwrap_or, Result, Err, IfErr}
use Rattle.std.specs.List.{AllByRecursion}
use Rattle.std.proofs.Common.{◌≡◌, ◌⊎◌, inl, inr, refl, sym, ap, subst, arith}
use Rattle.vg_base.specs.Limits.{text_limit}
use Rattle.vg_base.specs.declared.refusal.Refusal.{Refusal}
use Rattle.vg_base.specs.declared.refusal.Refusal.TheVariants as refusal
use Rattle.vg_meaning.specs.declared.event.Event.{Event}
use Rattle.vg_syntax.specs.Tree.{Node}
use Rattle.vg_source.specs.Peak.{costs, sessions}
use Rattle.vg_source.specs.Program.{source_of}
use Rattle.vg_static_source.specs.Sums.{IsStatic}
use Rattle.vg_static_named.proofs.Sums.{static_named}
use Rattle.vg_calls_named.proofs.Whole as calls_named
use Rattle.vg_compile.specs.Bounds.{BoundsCalls}
use Rattle.avr_isa.specs.Agrees.{Agrees, NeverReaches}
use Rattle.avr_view.specs.Run.{Run}
use Rattle.vg_tree_walks.specs.Whole.{tree_at}
use Rattle.vg_core.specs.HeldProgram.{program_at}
use Rattle.vg_core.specs.Naming.{Naming, naming_of}
use Rattle.vg_core.specs.Program.{Program}
use Rattle.vg_renamed.specs.IsNamed.{IsNamed}
use Rattle.vg_renamed.proofs.Named.{is_named}
use Rattle.vg_compile.specs.Given.{IsReady}
use Rattle.vg_written.specs.Written.{parts_of}
use Rattle.vg_fits_given.specs.Fitted.{Fitted, IsFittedOf, Start, named_start_heap}
use Rattle.vg_fits_given.proofs.Given.{chip, given, ready}
use Rattle.vg_costs.proofs.Bounded.{small}
use Rattle.vg_costs.proofs.Limited.{not_too_many}
use Rattle.vg_compile.specs.Compile.{CallsNeedAsSaid, HasNoFrames, LacksFramesOf, LacksHandlersOf, LacksLinearOf, Linked}
use Rattle.vg_compile.specs.declared.no_image.NoImage.{NoImage}
use Rattle.vg_compile.proofs.Memory.{agrees, agrees_held}
use Rattle.vg_compile.specs.Memory.{DoesAsProgram}
use Rattle.vg_compile.specs.Memory.{with_whole}
use Rattle.vg_compile.specs.Memory.{KeepsMemory}
use Rattle.vg_compile.proofs.Memory.{keeps}
use Rattle.vg_compile.proofs.Memory.{never}
use Rattle.vg_compile.specs.Memory.{HoldsPeaks}
use Rattle.vg_text_image.specs.declared.making.TextImage.{TextImage}
use Rattle.vg_text_image.specs.declared.unmade.Unmade.{Unmade}
use Rattle.vg_text_image.specs.declared.unmade.Unmade.TheVariants.{CodeFull, StackFull, NotLinear, NotBuilt}
use Rattle.vg_compile.specs.Bounds.{DoesFor, HoldsBound}
use Rattle.vg_layout.specs.Few.{IsFew}
use Rattle.vg_compile.specs.Runs.{DoesInImage}
use Rattle.vg_layout.specs.declared.stack_bound.StackBound.{StackBound}
use Rattle.vg_layout.specs.declared.stack_bound.StackBound.TheVariants.{Bytes, Cycle}
use Rattle.vg_text_image.specs.Made.{BoundsCallsOf, CanCompile, DoesText, IsCalled, IsCompiledOf, IsRefusedFor, IsUnbuiltAsSaid}
use Rattle.vg_text_image.specs.Made.{LacksAsSaid, LacksFrames, LacksHandlers, LacksLinear, NeedsAsSaid, NeedsOf}

-- ---- bytes of flash

-- where all bytes are, the flash reads bytes everywhere
byte_at : (flash : List ℕ) → AllByRecursion (λ b. b < 256) flash → (address : ℕ) → unwrap_or (slice_get flash address) 0xFF < 256
byte_at [] h address = omega arith
byte_at (b ∷ bs) h zero = h.0
byte_at (b ∷ bs) h (suc address) = byte_at bs h.1 address

is_itself : (a : ℕ) → (a == a) ≡ true
is_itself a = grind arith

either_true : (a b : Bool) → b ≡ true → (a || b) ≡ true
either_true true b e = refl
either_true false b e = e

one_true : (a b : Bool) → (a || b) ≡ true → (a ≡ true) ⊎ (b ≡ true)
one_true true b e = inl refl
one_true false b e = inr e

same_number : (a b : ℕ) → (a == b) ≡ true → a ≡ b
same_number a b e = grind arith

one_behind : (a b : ℕ) → a ≡ b + 2 → a ≡ suc (b + 1)
one_behind a b e = omega (arith, e)

-- where interrupts are let in that is the idle SLEEP or the word behind it
sleeps : (idle a : ℕ) → ((a == idle + 1) || (a == idle + 2)) ≡ true → (a ≡ idle + 1) ⊎ (a ≡ suc (idle + 1))
sleeps idle a e =
    elim (one_true (a == idle + 1) (a == idle + 2) e) [
      | inl h ↦ inl (same_number a (idle + 1) h)
      | inr h ↦ inr (one_behind a idle (same_number a (idle + 2) h))
    ]

-- ---- SRAM

-- a stack for which there is room begins behind the static area
room : (n stack : ℕ) → n + stack ≤ 4096 → 0x0100 + n ≤ 0x1100 - stack
room n stack h = omega (arith, h)

floor_is : (n stack : ℕ) → n + stack ≤ 4096 → 0x1100 - stack + stack ≡ 0x1100
floor_is n stack h = omega (arith, h)

floor_at : (n stack : ℕ) → n + stack ≤ 4096 → 0x1100 - stack + stack ≤ 0x1100
floor_at n stack h = omega (arith, h)

floor_low : (stack : ℕ) → 0x1100 - stack ≤ 0x1100
floor_low stack = omega arith

-- a smaller stack above the same floor ends where SRAM does, or before
floor_above : (n need stack : ℕ) → n + stack ≤ 4096 → need ≤ stack → 0x1100 - stack + need ≤ 0x1100
floor_above n need stack h k = omega (arith, h, k)

module _ (bytes : List ℕ) (clock : ℕ) (f : Fitted) (is : IsFittedOf bytes clock f) (short : length bytes ≤ text_limit) where
  abbrev s : Start
  s = f.alive.start

  abbrev p : Program
  p = program_at s.program

  abbrev text : Node
  text = tree_at s.names s.tree

  abbrev names : Naming
  names = naming_of s.names s.program.tables

  abbrev n : ℕ
  n = f.placed.columns.static_bytes

  low : n ≤ 4096
  low = subst (λ z. z ≤ 4096) (sym is.placed.static_is) is.placed.fits

  pub can_compile : CanCompile f
  can_compile = record {
    given = given bytes clock f is short;
    ready = ready bytes clock f is short;
    chip = chip bytes clock f is short;
    costs = small bytes s.names s.tree short is.alive.start.legal.reads (not_too_many text is.alive.start.legal.legal);
  }

  named : IsNamed names p (source_of text)
  named = subst (λ q. IsNamed names p q) (sym is.alive.start.program.named) (is_named names p is.alive.start.program.told)

  needs_static : IsStatic text (named_start_heap s) n
  needs_static =
      subst (λ z. IsStatic text (named_start_heap s) z) (sym is.placed.static_is)
      (static_named s.names p is.alive.start.program.told is.alive.start.program.typed text (parts_of is.alive.start.program.written)
      is.alive.start.program.named s.heap is.alive.start.typed.0 is.alive.start.typed.1 f.alive.live is.alive.set)

  -- what bounds the calls of the typed program bounds those of the text
  calls_of_text : (bound : StackBound) → BoundsCalls (costs text) p s.heap bound → BoundsCallsOf text (named_start_heap s) bound
  calls_of_text (Bytes need) (none, (bytes, four, spent)) = (
    calls_named.none s.names text p is.alive.start.program.named is.alive.start.program.typed is.alive.start.program.told
        (parts_of is.alive.start.program.written) s.heap is.alive.start.typed.0 is.alive.start.typed.1 none,
    (
      bytes,
      four,
      calls_named.spent s.names text p is.alive.start.program.named is.alive.start.program.typed is.alive.start.program.told
          (parts_of is.alive.start.program.written) s.heap is.alive.start.typed.0 is.alive.start.typed.1 bytes spent,
    ),
  )
  calls_of_text (Cycle methods) cycle = (
    calls_named.cycle s.names text p is.alive.start.program.named is.alive.start.program.typed is.alive.start.program.told
        (parts_of is.alive.start.program.written) s.heap is.alive.start.typed.0 is.alive.start.typed.1 methods cycle,
    calls_named.cycle_there s.names text p is.alive.start.program.named is.alive.start.program.typed is.alive.start.program.told
        (parts_of is.alive.start.program.written) s.heap is.alive.start.typed.0 is.alive.start.typed.1 methods cycle,
  )

  -- what calls need that a stack has no room for is said of the calls of the text
  pub deep_calls : (need : ℕ) → NeedsOf f need → BoundsCallsOf text (named_start_heap s) (Bytes need)
  deep_calls need needs = calls_of_text (Bytes need) (needs s.names (ready bytes clock f is short))

  module _ (i : TextImage) (m : IsCompiledOf f i) (stack : ℕ) (fits : n + stack ≤ 4096) where
    abbrev linked : Linked
    linked = m.linked

    abbrev run : Run
    run = record {
      flash = i.flash;
      static = n;
      floor = 0x1100 - stack;
      whole = [];
      lets_in = λ a. (a == linked.idle + 1) || (a == linked.idle + 2);
      is_flash = byte_at i.flash m.are_bytes;
      apart = room n stack fits;
    }

    slept : ((linked.idle + 1 == linked.idle + 1) || (linked.idle + 1 == linked.idle + 2)) ≡ true
    slept = ap (λ b. b || (linked.idle + 1 == linked.idle + 2)) (is_itself (linked.idle + 1))

    woken : ((linked.idle + 2 == linked.idle + 1) || (linked.idle + 2 == linked.idle + 2)) ≡ true
    woken = either_true (linked.idle + 2 == linked.idle + 1) (linked.idle + 2 == linked.idle + 2) (is_itself (linked.idle + 2))

    does_by : (extra : ℕ) (by : List ℕ) → DoesInImage linked f.placed.columns extra by p s.heap → (whole : List Event)
        → DoesAsProgram (with_whole run whole) extra by p s.heap
    does_by extra by image whole = image (with_whole run whole) m.flash refl (floor_low stack) slept woken

    agreed : IsFew stack i.bound → Agrees (sessions text (named_start_heap s)) i.flash (0x1100 - stack) stack
    agreed =
        by i.bound (m.does s.names (ready bytes clock f is short)) (m.bound (ready bytes clock f is short))
      where
        by : (b : StackBound) → DoesFor linked f.placed.columns (costs text) p s.heap b → HoldsBound linked f.placed.columns p s.heap b → IsFew stack b
            → Agrees (sessions text (named_start_heap s)) i.flash (0x1100 - stack) stack
        by (Bytes need) does (extra, (by_method, image, holds)) few =
            agrees_held names p text named is.alive.start.program.typed s.heap is.alive.start.typed run stack extra by_method
            (does_by extra by_method image) (holds (0x1100 - stack) (floor_above n need stack fits few))
        by (Cycle methods) does holds few =
            agrees names p text named is.alive.start.program.typed s.heap is.alive.start.typed run stack (floor_is n stack fits)
            (does_by 4 (costs text) does)

    kept : KeepsMemory i.flash n (0x1100 - stack) (linked.idle + 1)
    kept =
        by i.bound (m.does s.names (ready bytes clock f is short)) (m.bound (ready bytes clock f is short))
      where
        by_costs : (extra : ℕ) (by_method : List ℕ) → DoesInImage linked f.placed.columns extra by_method p s.heap
            → KeepsMemory i.flash n (0x1100 - stack) (linked.idle + 1)
        by_costs extra by_method image =
            keeps names p text named is.alive.start.program.typed s.heap is.alive.start.typed run extra by_method (linked.idle + 1)
            (sleeps linked.idle) (does_by extra by_method image)

        by : (b : StackBound) → DoesFor linked f.placed.columns (costs text) p s.heap b → HoldsBound linked f.placed.columns p s.heap b
            → KeepsMemory i.flash n (0x1100 - stack) (linked.idle + 1)
        by (Bytes need) does (extra, (by_method, image, holds)) = by_costs extra by_method image
        by (Cycle methods) does holds = by_costs 4 (costs text) does

    -- by costs of methods for which a stack of so many bytes holds what active calls cost, and so many bytes beside them
    never_by : (extra : ℕ) (by : List ℕ) → DoesInImage linked f.placed.columns extra by p s.heap → HoldsPeaks (0x1100 - stack) extra by p s.heap
        → NeverReaches i.flash (0x1100 - stack)
    never_by extra by image holds =
        never names p text named is.alive.start.program.typed s.heap is.alive.start.typed run extra by (does_by extra by image) holds

  never_below : (i : TextImage) (m : IsCompiledOf f i) (need : ℕ) → i.bound ≡ Bytes need → n + need ≤ 4096 → NeverReaches i.flash (0x1100 - need)
  never_below i m need same fits =
      let (extra, (by, image, holds)) = subst (λ z. HoldsBound m.linked f.placed.columns p s.heap z) same (m.bound (ready bytes clock f is short)) in
      never_by i m need fits extra by image (holds (0x1100 - need) (floor_at n need fits))

  pub does_text : (i : TextImage) → IsCompiledOf f i → DoesText bytes clock i
  does_text i m = record {
    tree = text;
    heap = named_start_heap s;
    fitting = is.fitting;
    static_is = subst (λ z. IsStatic text (named_start_heap s) z) (sym m.static_is) needs_static;
    fits = subst (λ z. z ≤ 4096) (sym m.static_is) low;
    are_bytes = m.are_bytes;
    agrees = λ stack h few. agreed i m stack (subst (λ z. z + stack ≤ 4096) m.static_is h) few;
    memory = λ stack h.
        subst (λ z. KeepsMemory i.flash i.static_bytes (0x1100 - stack) (z + 1)) (sym m.idle)
        (subst (λ z. KeepsMemory i.flash z (0x1100 - stack) (m.linked.idle + 1)) (sym m.static_is)
        (kept i m stack (subst (λ z. z + stack ≤ 4096) m.static_is h)));
    never = λ need same h. never_below i m need same (subst (λ z. z + need ≤ 4096) m.static_is h);
    calls = calls_of_text i.bound (m.calls s.names (ready bytes clock f is short));
  }

-- what is linked of what fits is its image
pub compiled_of : (f : Fitted) (i : TextImage) (linked : Linked) (cs : List ℕ) → ((texts : List (List ℕ)) → cs ≡ costs (tree_at texts f.alive.start.tree))
    → (IsReady (program_at f.alive.start.program) f.alive.start.heap
    → DoesFor linked f.placed.columns cs (program_at f.alive.start.program) f.alive.start.heap i.bound)
    → (IsReady (program_at f.alive.start.program) f.alive.start.heap
    → HoldsBound linked f.placed.columns (program_at f.alive.start.program) f.alive.start.heap i.bound)
    → (IsReady (program_at f.alive.start.program) f.alive.start.heap
    → BoundsCalls cs (program_at f.alive.start.program) f.alive.start.heap i.bound)
    → i.flash ≡ linked.flash → AllByRecursion (λ b. b < 256) i.flash → i.static_bytes ≡ f.placed.columns.static_bytes → i.idle ≡ linked.idle
    → IsCompiledOf f i
compiled_of f i linked cs are does bound calls flash bytes static idle = record {
  linked = linked;
  does = λ texts r. subst (λ z. DoesFor linked f.placed.columns z (program_at f.alive.start.program) f.alive.start.heap i.bound) (are texts) (does r);
  bound = bound;
  calls = λ texts r. subst (λ z. BoundsCalls z (program_at f.alive.start.program) f.alive.start.heap i.bound) (are texts) (calls r);
  flash = flash;
  are_bytes = bytes;
  static_is = static;
  idle = idle;
}

-- the bound of the image is that of what is compiled
pub does_of : (f : Fitted) (linked : Linked) (cs : List ℕ) (made said : StackBound) → said ≡ made
    → (IsReady (program_at f.alive.start.program) f.alive.start.heap
    → DoesFor linked f.placed.columns cs (program_at f.alive.start.program) f.alive.start.heap made)
    → IsReady (program_at f.alive.start.program) f.alive.start.heap
    → DoesFor linked f.placed.columns cs (program_at f.alive.start.program) f.alive.start.heap said
does_of f linked cs made said same does r =
    subst (λ z. DoesFor linked f.placed.columns cs (program_at f.alive.start.program) f.alive.start.heap z) (sym same) (does r)

pub bound_of : (f : Fitted) (linked : Linked) (made said : StackBound) → said ≡ made
    → (IsReady (program_at f.alive.start.program) f.alive.start.heap
    → HoldsBound linked f.placed.columns (program_at f.alive.start.program) f.alive.start.heap made)
    → IsReady (program_at f.alive.start.program) f.alive.start.heap
    → HoldsBound linked f.placed.columns (program_at f.alive.start.program) f.alive.start.heap said
bound_of f linked made said same holds r =
    subst (λ z. HoldsBound linked f.placed.columns (program_at f.alive.start.program) f.alive.start.heap z) (sym same) (holds r)

pub calls_of : (f : Fitted) (cs : List ℕ) (made said : StackBound) → said ≡ made
    → (IsReady (program_at f.alive.start.program) f.alive.start.heap → BoundsCalls cs (program_at f.alive.start.program) f.alive.start.heap made)
    → IsReady (program_at f.alive.start.program) f.alive.start.heap → BoundsCalls cs (program_at f.alive.start.program) f.alive.start.heap said
calls_of f cs made said same holds r = subst (λ z. BoundsCalls cs (program_at f.alive.start.program) f.alive.start.heap z) (sym same) (holds r)

pub few_of : (stack : ℕ) (made said : StackBound) → said ≡ made → IsFew stack made → IsFew stack said
few_of stack made said same few = subst (λ z. IsFew stack z) (sym same) few

-- where the flash is full, more words are needed than it has; and where the stack is, more bytes
pub full_of : (stack : ℕ) (r : Result TextImage (Refusal Unmade)) → IsRefusedFor stack r → (words : ℕ) → r ≡ Err (refusal.Fault (CodeFull words))
    → 65536 ≤ words
full_of stack r h words e = subst (λ z. IsRefusedFor stack z) e h

pub deep_of : (stack : ℕ) (r : Result TextImage (Refusal Unmade)) → IsRefusedFor stack r → (need : ℕ) → r ≡ Err (refusal.Fault (StackFull need))
    → stack < need
deep_of stack r h need e = subst (λ z. IsRefusedFor stack z) e h

pub needs_of : (f : Fitted) (r : Result TextImage (Refusal Unmade)) → IfErr r (NeedsAsSaid f) → (need : ℕ) → r ≡ Err (refusal.Fault (StackFull need))
    → NeedsOf f need
needs_of f r h need e = subst (λ z. IfErr z (NeedsAsSaid f)) e h

-- what `compile` says of a refusal is said of what it is called here
pub called_of : (f : Fitted) (cs : List ℕ) → ((texts : List (List ℕ)) → cs ≡ costs (tree_at texts f.alive.start.tree)) → (r : Refusal NoImage)
    (why : NoImage) (u : Unmade) → r ≡ refusal.Fault why → IsCalled why u → (IsReady (program_at f.alive.start.program) f.alive.start.heap
    → CallsNeedAsSaid cs (program_at f.alive.start.program) f.alive.start.heap r) → NeedsAsSaid f (refusal.Fault u)
called_of f cs are r why (StackFull need) e called h = λ texts steady.
    subst (λ z. BoundsCalls z (program_at f.alive.start.program) f.alive.start.heap (Bytes need)) (are texts)
    (subst (λ z. CallsNeedAsSaid cs (program_at f.alive.start.program) f.alive.start.heap (refusal.Fault z)) called
    (subst (λ z. CallsNeedAsSaid cs (program_at f.alive.start.program) f.alive.start.heap z) e (h steady)))
called_of f cs are r why (CodeFull words) e called h = tt
called_of f cs are r why NotLinear e called h = tt
called_of f cs are r why NotBuilt e called h = tt

pub linear_of : (f : Fitted) (r : Result TextImage (Refusal Unmade)) → IfErr r (LacksAsSaid f) → r ≡ Err (refusal.Fault NotLinear) → LacksLinear f
linear_of f r h e = subst (λ z. IfErr z (LacksAsSaid f)) e h

-- and so it is with linear code
pub lacks_of : (f : Fitted) (r : Refusal NoImage) (why : NoImage) (u : Unmade) → r ≡ refusal.Fault why → IsCalled why u
    → LacksLinearOf (program_at f.alive.start.program) f.alive.start.heap f.alive.live f.placed.numbers f.placed.columns r → LacksAsSaid f (refusal.Fault u)
lacks_of f r why NotLinear e (fault, is) h = (
  fault,
  subst (λ z. LacksLinearOf (program_at f.alive.start.program) f.alive.start.heap f.alive.live f.placed.numbers f.placed.columns (refusal.Fault z)) is
      (subst (λ z. LacksLinearOf (program_at f.alive.start.program) f.alive.start.heap f.alive.live f.placed.numbers f.placed.columns z) e h),
)
lacks_of f r why (CodeFull words) e called h = tt
lacks_of f r why (StackFull need) e called h = tt
lacks_of f r why NotBuilt e called h = tt

pub built_of : (f : Fitted) (r : Result TextImage (Refusal Unmade)) → IfErr r (IsUnbuiltAsSaid f) → r ≡ Err (refusal.Fault NotBuilt)
    → LacksFrames f ⊎ LacksHandlers f
built_of f r h e = subst (λ z. IfErr z (IsUnbuiltAsSaid f)) e h

-- and with frames that the costs pay, and with handlers
module _ (f : Fitted) (cs : List ℕ) (are : (texts : List (List ℕ)) → cs ≡ costs (tree_at texts f.alive.start.tree)) where
  abbrev Unframed : Refusal NoImage → Type 0
  Unframed = LacksFramesOf (program_at f.alive.start.program) f.alive.start.heap f.alive.live f.placed.numbers f.placed.columns cs

  abbrev Unhandled : Refusal NoImage → Type 0
  Unhandled = LacksHandlersOf (program_at f.alive.start.program) f.alive.start.heap f.alive.live f.placed.numbers f.placed.columns

  pub unbuilt_of : (r : Refusal NoImage) (why : NoImage) (u : Unmade) → r ≡ refusal.Fault why → IsCalled why u → Unframed r → Unhandled r
      → IsUnbuiltAsSaid f (refusal.Fault u)
  unbuilt_of r why NotBuilt e (inl is) frames handlers = inl (λ texts.
      subst (λ z. HasNoFrames (program_at f.alive.start.program) f.alive.start.heap f.alive.live f.placed.numbers f.placed.columns z) (are texts)
      (subst (λ z. Unframed (refusal.Fault z)) is (subst Unframed e frames)))
  unbuilt_of r why NotBuilt e (inr is) frames handlers = inr (subst (λ z. Unhandled (refusal.Fault z)) is (subst Unhandled e handlers))
  unbuilt_of r why (CodeFull words) e called frames handlers = tt
  unbuilt_of r why (StackFull need) e called frames handlers = tt
  unbuilt_of r why NotLinear e called frames handlers = tt
