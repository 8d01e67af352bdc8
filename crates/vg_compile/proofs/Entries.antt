-- The start is a procedure without parameters, and the handlers are those of interrupts, and receive nothing.
use Rattle.std.proofs.Common.{◌≡◌, ◌⊎◌, inl, inr, refl, sym, ap, subst, ◌∙◌, arith, ℕ, ◌==◌, Bool, true, false, List, [], ◌∷◌}
use Rattle.std.proofs.Common.{length, map, Some, slice_get, if◌then◌else◌}
use Rattle.std.specs.Prelude.{None, IsTrue, ◌↔◌}
use Rattle.std.proofs.lemmas.List.{length-map}
use Rattle.std.proofs.lemmas.Option.{same_Some, none-some}
use Rattle.std.proofs.lemmas.Slice.Zip.{AllZip-long}
use Rattle.vg_meaning.specs.Outside.{IsVector}
use Rattle.vg_core.specs.declared.program.Handler.{Handler}
use Rattle.vg_core.specs.Program.{Program}
use Rattle.vg_core.specs.Session.{handler_of}
use Rattle.vg_core.specs.Typing.{IsEntry, AreEntries}
use Rattle.vg_firm.specs.Held.{procedure_of}
use Rattle.vg_lin.specs.Program.{Procedure}
use Rattle.vg_flatten.specs.Flattened.{start_of, IsFlat}
use Rattle.vg_packed.specs.declared.program.FirmProgram.{FirmProgram}
use Rattle.vg_finding.specs.Finders.{with_finders}
use Rattle.vg_trimming.specs.declared.facts.Facts.{Facts}
use Rattle.vg_trimming.specs.Trimmed.{IsTrimmedTo, Trims}
use Rattle.vg_linear.specs.declared.whole.Linear.{Linear}
use Rattle.vg_linear.specs.Expanded.{IsExpandedTo}
use Rattle.vg_linear.specs.Routines.{four_for}
use Rattle.vg_linear.specs.Whole.{IsLinear, first_routine, packed_of}
use Rattle.vg_linear.proofs.Lists.{get_left, get_right, zip_at}
use Rattle.vg_link.specs.declared.unlinked.Handler.{Handler as TheHandler}
use Rattle.vg_link.specs.declared.unlinked.Unlinked.{Unlinked}
use Rattle.vg_link.specs.Linking as linking
use Rattle.vg_link.specs.Linking.{CanBeLinked, CanHandle, IsAlone}
use Rattle.vg_place.specs.declared.placing.Columns.{Columns}
use Rattle.vg_placement.specs.declared.column.Column.{Column}
use Rattle.vg_text_chip.specs.Chip.{AreOfInterrupts}
use Rattle.vg_compile.specs.Compile.{handler_of as linked_handler}
use Rattle.vg_compile.specs.Handlers.{AllCanAnswer, AllCanHandle, CanAnswer}
use Rattle.vg_compile.specs.Unlinked.{AlwaysLinks, IsUnlinked}
use Rattle.vg_compile.proofs.Found.{found_there}

-- ---- handlers of the typed program

same_number : (a b : ℕ) → (a == b) ≡ true → a ≡ b
same_number a b e = grind (arith, e)

-- a handler that is found is an entry, and of an interrupt
pub entered : (p : Program) (hs : List Handler) → AreEntries p hs → AreOfInterrupts hs → (v m : ℕ) → handler_of hs v ≡ Some m → IsEntry p m × IsVector v
entered p [] a i v m e = absurd (none-some m e)
entered p (h ∷ hs) (a, as_) (i, is) v m e = by (h.vector == v) refl e (entered p hs as_ is v m)
  where
    by : (b : Bool) → (h.vector == v) ≡ b → (if b then Some h.method else handler_of hs v) ≡ Some m
        → (handler_of hs v ≡ Some m → IsEntry p m × IsVector v) → IsEntry p m × IsVector v
    by true q f again = (subst (IsEntry p) (same_Some h.method m f) a, subst IsVector (same_number h.vector v q) i)
    by false q f again = again f

-- ---- handlers of the linear one

-- a handler that is found among some of them is one that an interrupt can call, where each of these is
answered : (ms : List Procedure) (all hs : List TheHandler) → AllCanAnswer ms all hs → (v q : ℕ) → linking.handler_in hs v ≡ Some q
    → linking.handler_in all v ≡ Some q → CanHandle ms q
answered ms all [] a v q e there = absurd (none-some q e)
answered ms all (x ∷ xs) (a, as_) v q e there = by (x.vector == v) refl e (answered ms all xs as_ v q)
  where
    by : (b : Bool) → (x.vector == v) ≡ b → (if b then Some x.procedure else linking.handler_in xs v) ≡ Some q
        → (linking.handler_in xs v ≡ Some q → linking.handler_in all v ≡ Some q → CanHandle ms q) → CanHandle ms q
    by true same h again = a q (ap (linking.handler_in all) (same_number x.vector v same) ∙ there)
    by false same h again = again h there

pub received : (ms : List Procedure) (hs : List TheHandler) → AllCanHandle ms hs → (v q : ℕ) → linking.handler_in hs v ≡ Some q → CanHandle ms q
received ms hs a v q e = answered ms hs hs a v q e e

-- what the call of the procedure for a vector says of it
pub answers : (ms : List Procedure) (hs : List TheHandler) (v q : ℕ) (can : Bool) → linking.handler_in hs v ≡ Some q → (IsTrue can ↔ CanHandle ms q)
    → (IsTrue can ↔ CanAnswer ms hs v)
answers ms hs v q can e (forth, back) = (λ is m there. subst (CanHandle ms) (same_Some q m (sym e ∙ there)) (forth is), λ all. back (all q e))

pub answers_none : (ms : List Procedure) (hs : List TheHandler) (v : ℕ) → linking.handler_in hs v ≡ None → CanAnswer ms hs v
answers_none ms hs v e m there = absurd (none-some m (sym e ∙ there))

-- what is to be linked of a packed program and its linear one can be linked, where an interrupt can call each handler
pub linkable : (c : Columns) (f : FirmProgram) (l : Linear) (u : Unlinked) → AlwaysLinks c f → IsLinear c.list f l → IsUnlinked c f l u
    → u.handlers ≡ map linked_handler f.handlers → AllCanHandle l.procedures (map linked_handler f.handlers) → CanBeLinked u
linkable c f l u links linear is same handled =
    links l u (subst (λ z. AllCanHandle z u.handlers) (sym is.procedures) (subst (AllCanHandle l.procedures) (sym same) handled)) linear is

-- ---- procedures of the linear one

trimmed_params : (old new : Procedure) → IsTrimmedTo old new → new.params ≡ old.params
trimmed_params old new t = by t.how
  where
    by : (new ≡ old) ⊎ ((fs : List Facts) × (places : List ℕ) × Trims fs places old new) → new.params ≡ old.params
    by (inl e) = ap (λ (z : Procedure). z.params) e
    by (inr (fs, places, h)) = h.params

module _ (cs : List Column) (f : FirmProgram) (l : Linear) (whole : IsLinear cs f l) where
  flats_long : length whole.made.flats ≡ length f.procedures
  flats_long = AllZip-long (IsFlat l.layout) (packed_of f) whole.made.flats whole.made.are_flat ∙ length-map f.procedures procedure_of

  -- a procedure has as many parameters as before it was trimmed and expanded
  from_begun : (q : ℕ) (m : Procedure) → slice_get whole.made.begun q ≡ Some m
      → (new : Procedure) × (slice_get l.procedures q ≡ Some new) × (new.params ≡ m.params)
  from_begun q m e =
      let t = zip_at IsTrimmedTo whole.made.begun whole.made.trimmed whole.made.are_trimmed q m e in
      let x = zip_at (IsExpandedTo (first_routine f)) whole.made.trimmed whole.made.expanded whole.made.are_expanded q t.0 t.1 in (
        with_finders whole.made.found.numbers x.0,
        found_there (length f.procedures) f.dispatches l.dispatches whole.made.routined l.procedures whole.made.found q x.0
            (ap (λ z. slice_get z q) whole.made.routines ∙ get_left whole.made.expanded (four_for (first_routine f) whole.made.expanded) q x.0 x.1),
        x.2.expands.params ∙ trimmed_params m t.0 t.2,
      )

  pub start_alone : IsAlone l.procedures l.start
  start_alone = from_begun l.start (start_of f.main whole.made.with_start.main.receives) there
    where
      there : slice_get whole.made.begun l.start ≡ Some (start_of f.main whole.made.with_start.main.receives)
      there =
          ap (λ z. slice_get z l.start) whole.made.with_start.behind
          ∙ get_right whole.made.flats (start_of f.main whole.made.with_start.main.receives ∷ []) l.start 0
          (let s = whole.start in let n = flats_long in omega (arith, s, n))
