-- How much of the stack a flattened procedure takes, where its waiting values have homes of their own, and where the oldest of them are pushed.
use Rattle.std.specs.Prelude.{ℕ, ◌+◌, ◌-◌, ◌*◌, ◌≤◌, ◌<◌, Bool, true, false, List, [], length, Option}
use Rattle.std.proofs.Common.{◌≡◌, ◌⊎◌, inl, inr, refl, sym, ap, subst, arith}
use Rattle.vg_firm.specs.Program.{Procedure as FirmProcedure}
use Rattle.vg_lin.specs.Program.{Procedure}
use Rattle.vg_expand.specs.Code.{base_of, place_in, expanded}
use Rattle.vg_flatten_shapes.specs.declared.layout.Layout.{Layout}
use Rattle.vg_flatten_shapes.specs.Shapes.{empty}
use Rattle.vg_flatten_shapes.specs.Blocks.{open_code}
use Rattle.vg_flatten_shapes.specs.Made.{Gives}
use Rattle.vg_flatten_control.specs.Flat.{flat}
use Rattle.vg_flatten.specs.Flattened.{own_widths, temps_for, whole, start_of, IsFlat, IsFlatFrom, IsPushed, IsPushedFrom}
use Rattle.vg_flatten.proofs.Sound.{BlockIn, MadeIn, in_flat}
use Rattle.vg_finding.specs.Finders.{with_finders}
use Rattle.vg_frame_costs.specs.Bytes.{bytes_of, most_kept, procedure_bytes}
use Rattle.vg_flat_frames.proofs.Finding.{found_kept}
use Rattle.vg_flat_frames.proofs.Keeping.{KeepsFew, few_is_most, expanded_few, set_few, Pushes, block_pushes, whole_few}
use Rattle.vg_flat_frames.proofs.Openings.{opening_few}
use Rattle.vg_flat_frames.proofs.Pushing.{body_made}
use Rattle.vg_flat_frames.proofs.Widths.{AreFew, local_bytes}

-- A procedure has the locals of another one, and as much is kept in it.
record IsAsLarge (old new : Procedure) : Type 0 where
  widths : new.widths ≡ old.widths
  kept : most_kept [] new.code ≡ most_kept [] old.code

itself : (p : Procedure) → IsAsLarge p p
itself p = record { widths = refl; kept = refl }

by_finders : (numbers : List (Option ℕ)) (p : Procedure) → IsAsLarge p (with_finders numbers p)
by_finders numbers p = record { widths = refl; kept = found_kept numbers [] p.code }

module _ (first : ℕ) (lay : Layout) (m : FirmProcedure) (p : Procedure) (f : IsFlat lay m p) where
  kept : (most : ℕ) → Pushes most 0 0 f.block → most_kept [] (expanded first p).code ≤ 4 * most
  kept most h =
      few_is_most (4 * most) [] (expanded first p).code
      (expanded_few (4 * most) (base_of first p) (place_in (base_of first p) p.code) [] p.code
      (subst (KeepsFew (4 * most) []) (sym f.code) (set_few (4 * most) 0 0 [] [] (open_code (whole m f.block) 0) (whole_few most m f.block h))))

  pub nothing_kept : flat lay f.room m.body empty ≡ Gives f.block f.shape → most_kept [] (expanded first p).code ≡ 0
  nothing_kept homes =
      let none = kept 0 (block_pushes (Unit {0}) f.room.result (f.room.locals + f.room.temps) 0 0 f.block block_in) in omega (arith, none)
    where
      block_in : BlockIn (Unit {0}) f.room.result (f.room.locals + f.room.temps) f.block
      block_in =
          (subst (MadeIn (Unit {0}) f.room.result (f.room.locals + f.room.temps)) homes (in_flat (Unit {0}) lay f.room m.body empty (λ l. tt) (tt, tt))).0

  pub pushed_kept : (u : IsPushed lay m f.room f.block f.shape) → most_kept [] (expanded first p).code ≤ 4 * u.pushes
  pushed_kept u = kept u.pushes (body_made lay f.room u.pushes m.body f.block f.shape u.made f.done)

  module _ (new : Procedure) (as_large : IsAsLarge (expanded first p) new) where
    few : (n : ℕ) → most_kept [] (expanded first p).code ≤ n → AreFew m.widths
        → procedure_bytes new ≤ 6 + 4 * (length m.widths + f.room.temps) + n
    few n le narrow =
        let opening = opening_few new in
        let same = ap bytes_of as_large.widths in
        let keeps = as_large.kept in
        let widths = ap bytes_of f.widths in let locals = local_bytes m f.room.temps narrow in omega (arith, opening, same, keeps, le, widths, locals)

    homes_large : flat lay f.room m.body empty ≡ Gives f.block f.shape → AreFew m.widths
        → procedure_bytes new ≤ 6 + 4 * (length m.widths + f.room.temps)
    homes_large homes narrow = let none = nothing_kept homes in let bytes = few 0 (omega (arith, none)) narrow in omega (arith, bytes)

    pushed_large : (u : IsPushed lay m f.room f.block f.shape) → AreFew m.widths
        → procedure_bytes new ≤ 6 + 4 * (length m.widths + f.room.temps + u.pushes)
    pushed_large u narrow = let bytes = few (4 * u.pushes) (pushed_kept u) narrow in omega (arith, bytes)

    -- where homes do from some number of temporaries on
    fewest_large : (most : ℕ) → IsFlatFrom lay m most → AreFew m.widths → procedure_bytes new ≤ 6 + 4 * (length m.widths + most)
    fewest_large most from narrow =
        let found = f.fewest most from in
        let temps = found.0 in let bytes = homes_large found.1 narrow in omega (arith, temps, bytes)

    -- where pushes do from some number on, with all temporaries
    least_large : (most : ℕ) → temps_for (length (own_widths m)) < most → IsPushedFrom lay m (most - temps_for (length (own_widths m))) → AreFew m.widths
        → procedure_bytes new ≤ 6 + 4 * (length m.widths + most)
    least_large most more from narrow = by_way f.made
      where
        all : ℕ
        all = temps_for (length (own_widths m))

        by_way : (flat lay f.room m.body empty ≡ Gives f.block f.shape) ⊎ IsPushed lay m f.room f.block f.shape
            → procedure_bytes new ≤ 6 + 4 * (length m.widths + most)
        by_way (inl homes) = let bytes = homes_large homes narrow in let fits = f.fits in omega (arith, bytes, fits, more)
        by_way (inr u) =
            let bytes = pushed_large u narrow in
            let temps = u.all in let pushes = u.least (most - all) from in omega (arith, bytes, temps, pushes, more)

  pub homes_few : flat lay f.room m.body empty ≡ Gives f.block f.shape → AreFew m.widths
      → procedure_bytes (expanded first p) ≤ 6 + 4 * (length m.widths + f.room.temps)
  homes_few = homes_large (expanded first p) (itself (expanded first p))

  pub pushed_few : (u : IsPushed lay m f.room f.block f.shape) → AreFew m.widths
      → procedure_bytes (expanded first p) ≤ 6 + 4 * (length m.widths + f.room.temps + u.pushes)
  pushed_few = pushed_large (expanded first p) (itself (expanded first p))

pub fewest_few : (first : ℕ) (lay : Layout) (m : FirmProcedure) (p : Procedure) (most : ℕ) → IsFlat lay m p → IsFlatFrom lay m most → AreFew m.widths
    → procedure_bytes (expanded first p) ≤ 6 + 4 * (length m.widths + most)
fewest_few first lay m p most f = fewest_large first lay m p f (expanded first p) (itself (expanded first p)) most

pub least_few : (first : ℕ) (lay : Layout) (m : FirmProcedure) (p : Procedure) (most : ℕ) → IsFlat lay m p → temps_for (length (own_widths m)) < most
    → IsPushedFrom lay m (most - temps_for (length (own_widths m))) → AreFew m.widths → procedure_bytes (expanded first p) ≤ 6 + 4 * (length m.widths + most)
least_few first lay m p most f = least_large first lay m p f (expanded first p) (itself (expanded first p)) most

-- with calls of finders in place of look-ups
module _ (numbers : List (Option ℕ)) (first : ℕ) (lay : Layout) (m : FirmProcedure) (p : Procedure) (most : ℕ) (f : IsFlat lay m p) where
  abbrev found : Procedure
  found = with_finders numbers (expanded first p)

  pub fewest_found : IsFlatFrom lay m most → AreFew m.widths → procedure_bytes (with_finders numbers (expanded first p)) ≤ 6 + 4 * (length m.widths + most)
  fewest_found = fewest_large first lay m p f found (by_finders numbers (expanded first p)) most

  pub least_found : temps_for (length (own_widths m)) < most → IsPushedFrom lay m (most - temps_for (length (own_widths m))) → AreFew m.widths
      → procedure_bytes (with_finders numbers (expanded first p)) ≤ 6 + 4 * (length m.widths + most)
  least_found = least_large first lay m p f found (by_finders numbers (expanded first p)) most

-- the procedure with which a run begins
pub start_none : (first main : ℕ) (receives : Bool) → most_kept [] (expanded first (start_of main receives)).code ≡ 0
start_none first main true = refl
start_none first main false = refl
