-- What the work list keeps.
use Rattle.std.specs.Prelude.{◌≡◌, ℕ, ◌<◌, length, Option, Some, slice_get}
use Rattle.vg_core.specs.declared.member.Member.TheVariants.{Method, Field, Cell}
use Rattle.vg_core.specs.declared.step.Step.{Step}
use Rattle.vg_core.specs.declared.program.Handler.{Handler}
use Rattle.vg_core.specs.declared.heap.Heap.{Heap}
use Rattle.vg_core.specs.Program.{Program}
use Rattle.vg_core.specs.Heap.{OfComponent, OfObject, OfArray, class_in}
use Rattle.vg_live.specs.Uses.{steps_of}
use Rattle.vg_live.specs.Sets.{IsBefore}
use Rattle.vg_reach_marks.specs.Marked.{Marked}
use Rattle.vg_reach_marks.specs.Growing.{Drawn}
use Rattle.vg_reach_holding.specs.Done.{PlaceDone}
use Rattle.vg_reach_visits.specs.declared.seen.Work.{Work}
use Rattle.vg_reach_visits.specs.Visited.{LookedAt, HasFirst}

-- What has no premise is marked.
pub record Rooted (p : Program) (h : Heap) (a : Marked) : Type 0 where
  pub main : Drawn p h a (Method p.main)
  pub entries : (i : ℕ) (e : Handler) → slice_get p.handlers i ≡ Some e → Drawn p h a (Method e.method)

-- The members of rank below n were looked at.
pub record Looked (p : Program) (h : Heap) (w : Work) (n : ℕ) : Type 0 where
  pub steps : (m i : ℕ) (s : Step) → IsBefore w.marks.set n (Some (Method m)) → slice_get (steps_of p m) i ≡ Some s → LookedAt p h w s
  pub components : (f : ℕ) → IsBefore w.marks.set n (Some (Field f)) → PlaceDone p h w.marks (OfComponent f)
  pub objects : (f k : ℕ) → IsBefore w.marks.set n (Some (Field f)) → IsBefore w.marks.set n (Some (Cell k)) → PlaceDone p h w.marks (OfObject k f)
  pub arrays : (k i : ℕ) → IsBefore w.marks.set n (Some (Cell k)) → PlaceDone p h w.marks (OfArray k i)
  pub firsts : (k d : ℕ) → IsBefore w.marks.set n (Some (Cell k)) → class_in (slice_get h.cells k) ≡ Some d → d < length p.tables.classes → HasFirst w.seen d
