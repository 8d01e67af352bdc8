-- The code of a linear program is fit for the machine.
use Rattle.std.proofs.Common.{refl, sym, subst, inl, ℕ, zero, suc, ◌+◌, ◌<◌, ◌==◌, Bool, true, false, if◌then◌else◌, List, [], ◌∷◌, ◌++◌}
use Rattle.std.proofs.Common.{map, Option, slice_get}
use Rattle.std.specs.List.{AllByRecursion}
use Rattle.vg_codes.specs.declared.case.Case.{Case}
use Rattle.vg_codes.specs.Dispatch.{cases_of}
use Rattle.vg_firm.specs.Program.{Procedure as FirmProcedure}
use Rattle.vg_lin.specs.Program.{Procedure, Program}
use Rattle.vg_lin.specs.Sound.{IsSound}
use Rattle.vg_arith.specs.Numbers.{routine_with}
use Rattle.vg_arith.specs.Product.{mul}
use Rattle.vg_arith.specs.Division.{divide}
use Rattle.vg_arith.specs.Shifts.{shl, shr}
use Rattle.vg_arith.proofs.Keeping.{mul_sound, divide_sound, shl_sound, shr_sound}
use Rattle.vg_expand.specs.Called.{is_called}
use Rattle.vg_flatten_shapes.specs.declared.layout.Layout.{Layout}
use Rattle.vg_flatten.specs.Flattened.{start_of}
use Rattle.vg_followed.specs.Tables.{AreCases, IsCase}
use Rattle.vg_covered.specs.Fitting.{IsFit}
use Rattle.vg_fit_code.proofs.Apt.{apt_made, flattened_apt}
use Rattle.vg_fit_code.proofs.Expanding.{expanded_fit, routine_fit}
use Rattle.vg_fit_code.proofs.Found.{found_fit, finder_fit}
use Rattle.vg_cases.specs.Fewer.{AreAllFewer, AreTwoBytes, IsTwoBytes}
use Rattle.vg_finding.specs.Finders.{finder, with_finders}
use Rattle.vg_finding.proofs.Sound.{found_sound, finder_sound}
use Rattle.vg_apt.specs.Apt.{AreApt, AllKeepApt}
use Rattle.vg_linear.specs.Expanded.{AreAllExpanded}
use Rattle.vg_linear.specs.Flats.{AreAllFlat}
use Rattle.vg_linear.specs.Routines.{four_for, routine_or_empty, standing}
use Rattle.vg_linear.proofs.Routined.{empty_sound}
use Rattle.vg_packed_small.specs.Small.{AreSmall, AreAllSmall}
use Rattle.vg_compile.proofs.Bodies.{BodiesApt}

abbrev pub AllApt : List Procedure → Type 0
AllApt = AllByRecursion (λ (m : Procedure). AreApt m.code)

-- ---- flattened code, and what is made of it

pub flats_apt : (lay : Layout) (ms : List FirmProcedure) (flats : List Procedure) → AreAllFlat lay ms flats → BodiesApt ms → AllApt flats
flats_apt lay [] [] f h = tt
flats_apt lay [] (p ∷ ps) f h = absurd f
flats_apt lay (m ∷ ms) [] f h = absurd f
flats_apt lay (m ∷ ms) (p ∷ ps) (f, fs) (h, hs) = (flattened_apt lay m p f h, flats_apt lay ms ps fs hs)

pub apt_behind : (ps : List Procedure) (s : Procedure) → AllApt ps → AreApt s.code → AllApt (ps ++ s ∷ [])
apt_behind [] s h g = (g, tt)
apt_behind (p ∷ ps) s (a, h) g = (a, apt_behind ps s h g)

pub start_apt : (main : ℕ) (receives : Bool) → AreApt (start_of main receives).code
start_apt main receives = (inl refl, (tt, (tt, tt)))

pub trimmed_apt : (old new : List Procedure) → AllKeepApt old new → AllApt old → AllApt new
trimmed_apt [] [] k h = tt
trimmed_apt [] (p ∷ ps) k h = absurd k
trimmed_apt (m ∷ ms) [] k h = absurd k
trimmed_apt (m ∷ ms) (p ∷ ps) (k, ks) (h, hs) = (k h, trimmed_apt ms ps ks hs)

-- ---- code for each instruction

-- A procedure is sound, and there is code for each of its instructions.
pub record IsSoundIn (p : Program) (m : Procedure) : Type 0 where
  pub sound : IsSound m
  pub fit : AllByRecursion (IsFit p) m.code

abbrev pub AreSoundIn : Program → List Procedure → Type 0
AreSoundIn p = AllByRecursion (IsSoundIn p)

sound_both : (p : Program) (xs ys : List Procedure) → AreSoundIn p xs → AreSoundIn p ys → AreSoundIn p (xs ++ ys)
sound_both p [] ys h g = g
sound_both p (x ∷ xs) ys (a, h) g = (a, sound_both p xs ys h g)

module _ (p : Program) (finds : (place : ℕ) → AreCases p.codes.code (cases_of (slice_get p.dispatches place))) where
  expanded_in : (first : ℕ) (old new : List Procedure) → AreAllExpanded first old new → AllApt old → AreSoundIn p new
  expanded_in first [] [] e h = tt
  expanded_in first [] (m ∷ ms) e h = absurd e
  expanded_in first (m ∷ ms) [] e h = absurd e
  expanded_in first (m ∷ ms) (x ∷ xs) (e, es) (h, hs) = (
    record {
      sound = e.sound_too;
      fit = subst (λ (z : Procedure). AllByRecursion (IsFit p) z.code) (sym e.exactly) (expanded_fit p first m (apt_made p finds m.code h));
    },
    expanded_in first ms xs es hs,
  )

  one_of : (b : Bool) (m n : Procedure) → IsSound m → IsSound n → IsSound (if b then m else n)
  one_of true m n h g = h
  one_of false m n h g = g

  routine_sound : (which : ℕ) → IsSound (routine_with which)
  routine_sound which =
      one_of (which == 0) mul _ mul_sound
      (one_of (which == 1) divide _ divide_sound (one_of (which == 2) shl shr shl_sound shr_sound))

  standing_in : (first : ℕ) (ps : List Procedure) (which : ℕ) → IsSoundIn p (standing first ps which)
  standing_in first ps which = by (is_called (first + which) ps)
    where
      by : (b : Bool) → IsSoundIn p (routine_or_empty b which)
      by true = record { sound = routine_sound which; fit = routine_fit p which }
      by false = record { sound = empty_sound; fit = (tt, tt) }

  pub all_in : (first : ℕ) (old new : List Procedure) → AreAllExpanded first old new → AllApt old → AreSoundIn p (new ++ four_for first new)
  all_in first old new e h =
      sound_both p new (four_for first new) (expanded_in first old new e h)
      (standing_in first new 0, (standing_in first new 1, (standing_in first new 2, (standing_in first new 3, tt))))

  -- the same with calls of finders, and of the finders behind them

  found_in : (numbers : List (Option ℕ)) (ms : List Procedure) → AreSoundIn p ms → AreSoundIn p (map (with_finders numbers) ms)
  found_in numbers [] h = tt
  found_in numbers (m ∷ ms) (h, hs) =
      (record { sound = found_sound numbers m h.sound; fit = found_fit p numbers m h.fit }, found_in numbers ms hs)

  finders_in : (ds : List ℕ) → AreSoundIn p (map finder ds)
  finders_in [] = tt
  finders_in (d ∷ ds) = (record { sound = finder_sound d; fit = finder_fit p d (finds d) }, finders_in ds)

  pub all_found : (numbers : List (Option ℕ)) (ds : List ℕ) (ms : List Procedure) → AreSoundIn p ms
      → AreSoundIn p (map (with_finders numbers) ms ++ map finder ds)
  all_found numbers ds ms h = sound_both p (map (with_finders numbers) ms) (map finder ds) (found_in numbers ms h) (finders_in ds)

-- ---- dispatches

two_bytes : (cs : List Case) → AreSmall cs → AreTwoBytes cs
two_bytes [] h = tt
two_bytes (c ∷ cs) (h, hs) = (record { first = h.first; count = h.count; last = h.last }, two_bytes cs hs)

small_at : (ds : List (List Case)) → AreAllSmall ds → (place : ℕ) → AreTwoBytes (cases_of (slice_get ds place))
small_at [] h place = tt
small_at (d ∷ ds) (h, hs) zero = two_bytes d h
small_at (d ∷ ds) (h, hs) (suc place) = small_at ds hs place

module _ (codes : ℕ → ℕ) (two : (q : ℕ) → codes q < 65536) where
  is_case : (c : Case) → IsTwoBytes c → IsCase codes c
  is_case c h = record { first = h.first; count = h.count; last = h.last; code = two c.procedure }

  are_cases : (cs : List Case) → AreTwoBytes cs → AreCases codes cs
  are_cases [] h = tt
  are_cases (c ∷ cs) (h, hs) = (is_case c h, are_cases cs hs)

  -- with fewer cases they are as small
  pub dispatch_cases : (olds news : List (List Case)) → AreAllFewer olds news → AreAllSmall olds → (place : ℕ)
      → AreCases codes (cases_of (slice_get news place))
  dispatch_cases olds news fewer small place = are_cases (cases_of (slice_get news place)) ((fewer.each place).small (small_at olds small place))
