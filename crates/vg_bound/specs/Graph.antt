-- Call graphs: their paths, what a path costs, and their cycles. Nodes are numbers from 0, in the order of the frames.
use Rattle.std.specs.Prelude.{◌≡◌, ◌⊎◌, ℕ, ◌+◌, ◌≤◌, List, [], ◌∷◌, ◌++◌, get_or, length, replicate, Some, slice_get, slice_set, if◌then◌else◌, ◌==◌}
use Rattle.vg_bound.specs.declared.root.Root.{Root}
use Rattle.vg_bound.specs.declared.answer.Bound.{Bound}
use Rattle.vg_bound.specs.declared.answer.Bound.TheVariants.{Bytes, Cycle}

-- The bytes of each node's frame; for each node those that it calls; the roots; and the cycle that was kept, from one node on it on.
pub record Graph : Type 0 where
  pub frames : List ℕ
  pub calls : List (List ℕ)
  pub roots : List Root
  pub kept : List ℕ

-- There is an edge from a to b.
abbrev pub HasEdge : List (List ℕ) → (a b : ℕ) → Type 0
HasEdge calls a b = (k : ℕ) × (slice_get (get_or calls a []) k ≡ Some b)

-- a and the nodes behind it are a path: there is an edge from each to the next.
abbrev pub IsPath : List (List ℕ) → (a : ℕ) → (behind : List ℕ) → Type 0
IsPath calls a [] = Unit {0}
IsPath calls a (b ∷ rest) = HasEdge calls a b × IsPath calls b rest

-- What a path costs: the sum of the frames of its nodes.
abbrev pub cost : (frames path : List ℕ) → ℕ
cost frames [] = 0
cost frames (a ∷ rest) = get_or frames a 0 + cost frames rest

-- The last node of a path.
abbrev pub last_of : (a : ℕ) → (behind : List ℕ) → ℕ
last_of a [] = a
last_of a (b ∷ rest) = last_of b rest

-- A node can be reached from a.
pub data Reaches (calls : List (List ℕ)) (a : ℕ) : ℕ → Type 0 where
  here : Reaches calls a a
  on : {b c : ℕ} → Reaches calls a b → HasEdge calls b c → Reaches calls a c

abbrev pub IsRoot : Graph → Root → Type 0
IsRoot g r = (i : ℕ) × (slice_get g.roots i ≡ Some r)

-- A root reaches a node with an edge to a node from which it can be reached: a cycle.
abbrev pub HasCycle : Graph → Type 0
HasCycle g = (r : Root) × (b : ℕ) × (c : ℕ) × IsRoot g r × Reaches g.calls r.node b × HasEdge g.calls b c × Reaches g.calls c b

-- n is the largest sum: no path from a root costs more, with the bytes below that root, and one costs as much; it is 0 where there is no root.
pub record IsLargest (g : Graph) (n : ℕ) : Type 0 where
  pub most : (r : Root) (behind : List ℕ) → IsRoot g r → IsPath g.calls r.node behind → r.extra + cost g.frames (r.node ∷ behind) ≤ n
  pub reached : ((g.roots ≡ []) × (n ≡ 0))
      ⊎ ((r : Root) × (behind : List ℕ) × IsRoot g r × IsPath g.calls r.node behind × (r.extra + cost g.frames (r.node ∷ behind) ≡ n))

-- No node stands twice in a list.
abbrev pub IsOnce : List ℕ → Type 0
IsOnce nodes = (i j a : ℕ) → slice_get nodes i ≡ Some a → slice_get nodes j ≡ Some a → i ≡ j

-- The kept cycle from m on: a path from m, no node twice, an edge from the last to m, and a root reaches it.
pub record IsKeptCycle (g : Graph) (m : ℕ) (behind : List ℕ) : Type 0 where
  pub kept : g.kept ≡ m ∷ behind
  pub path : IsPath g.calls m behind
  pub closed : HasEdge g.calls (last_of m behind) m
  pub once : IsOnce (m ∷ behind)
  pub reached : (r : Root) × IsRoot g r × Reaches g.calls r.node m

-- The answer: the largest sum, where no root reaches a cycle; else a node on a cycle that is kept.
abbrev pub IsBound : Graph → Bound → Type 0
IsBound g (Bytes n) = IsLargest g n × (HasCycle g → ⊥) × (g.kept ≡ [])
IsBound g (Cycle m) = (behind : List ℕ) × IsKeptCycle g m behind

abbrev pub IsCycle : Bound → Type 0
IsCycle (Bytes n) = ⊥
IsCycle (Cycle m) = Unit {0}

-- The place behind a place of a list of so many, which goes round from the last to the place `from`.
abbrev pub round : (place from count : ℕ) → ℕ
round place from count = if place + 1 == count then from else place + 1

abbrev pub IsOn : (kept : List ℕ) → (a : ℕ) → Type 0
IsOn kept a = (i : ℕ) × (slice_get kept i ≡ Some a)

-- b stands behind a on the kept cycle, the first node behind the last.
abbrev pub IsNext : (kept : List ℕ) → (a b : ℕ) → Type 0
IsNext kept a b = (i : ℕ) × (slice_get kept i ≡ Some a) × (slice_get kept (round i 0 (length kept)) ≡ Some b)

-- Nodes with these frames, no edge, no root and no cycle.
abbrev pub without_edges : (frames : List ℕ) → Graph
without_edges frames = record { frames = frames; calls = replicate (length frames) []; roots = []; kept = [] }

-- Nodes with these frames, edges and roots, and no cycle.
abbrev pub of_parts : (frames : List ℕ) → (calls : List (List ℕ)) → List Root → Graph
of_parts frames calls roots = record { frames = frames; calls = calls; roots = roots; kept = [] }

-- One edge more.
abbrev pub with_edge : (a b : ℕ) → Graph → Graph
with_edge a b g = record { frames = g.frames; calls = slice_set g.calls a (get_or g.calls a [] ++ b ∷ []); roots = g.roots; kept = g.kept }

-- One root more.
abbrev pub with_root : Root → Graph → Graph
with_root r g = record { frames = g.frames; calls = g.calls; roots = g.roots ++ r ∷ []; kept = g.kept }

-- Two graphs have the same nodes, frames, edges and roots.
pub record IsSameGraph (g h : Graph) : Type 0 where
  pub frames : h.frames ≡ g.frames
  pub calls : h.calls ≡ g.calls
  pub roots : h.roots ≡ g.roots
