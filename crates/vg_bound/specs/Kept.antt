-- What a call graph keeps.
use Rattle.std.specs.Prelude.{◌≡◌, ℕ, List, [], drop, length}
use Rattle.vg_bound.specs.declared.root.Root.{Root}
use Rattle.vg_bound.specs.declared.walk.Found.{Found}
use Rattle.vg_bound.specs.declared.walk.Found.TheVariants.{Cost, Closed}
use Rattle.vg_bound.specs.Graph.{Graph, HasCycle, IsLargest, IsRoot}
use Rattle.vg_bound.specs.Searched.{Searched}
use Rattle.vg_bound.specs.Searching.{AreRoots, BeginsWith, IsClosed, IsShaped, IsStacked}

-- The graph of these parts: the kept cycle is the stack from a place on.
abbrev pub graph : (frames : List ℕ) → List (List ℕ) → List Root → Searched → (from : ℕ) → Graph
graph frames calls roots s from = record { frames = frames; calls = calls; roots = roots; kept = drop from s.stack }

pub record IsSound (frames : List ℕ) (calls : List (List ℕ)) (roots : List Root) (s : Searched) : Type 0 where
  pub shaped : IsShaped frames calls
  pub roots_ : AreRoots frames roots
  pub nodes : length s.marks ≡ length frames
  pub room : s.room ≡ length frames
  pub stacked : IsStacked s.marks s.stack

-- What a search from all roots finds.
abbrev pub IsOutcome : (frames : List ℕ) → List (List ℕ) → List Root → Searched → Found → Type 0
IsOutcome frames calls roots s (Cost n) =
    IsLargest (graph frames calls roots s 0) n × (HasCycle (graph frames calls roots s 0) → ⊥) × (s.stack ≡ [])
IsOutcome frames calls roots s (Closed i) =
    (r : Root) × IsRoot (graph frames calls roots s 0) r × BeginsWith r.node s.stack × IsClosed calls s.stack i
