-- Ways and cycles in a graph, by the edges that it has and the nodes that are its entries.
use Rattle.std.specs.Prelude.{◌≡◌, ℕ, ◌+◌, ◌≤◌, List, [], ◌∷◌, ◌++◌}

module _ {A : Type 0} (Edge : A → A → Type 0) where
  -- an edge leads from a node to the first of these, from each of them to the next one, and `end` is the last one
  abbrev pub LeadsTo : (a : A) → List A → (end : A) → Type 0
  LeadsTo a [] end = a ≡ end
  LeadsTo a (b ∷ bs) end = Edge a b × LeadsTo b bs end

  -- an edge leads from each of these nodes to the next one, and from the last one to the first
  abbrev pub IsCycle : List A → Type 0
  IsCycle [] = ⊥
  IsCycle (a ∷ more) = LeadsTo a (more ++ a ∷ []) a

module _ {A : Type 0} (Entry : A → Type 0) (Edge : A → A → Type 0) where
  -- these nodes are a way from an entry to `end`
  abbrev pub IsWayTo : (end : A) → List A → Type 0
  IsWayTo end [] = ⊥
  IsWayTo end (a ∷ more) = Entry a × LeadsTo Edge a more end

  -- there is a way to the node
  abbrev pub IsReached : A → Type 0
  IsReached a = (way : List A) × IsWayTo a way

  -- a cycle, with a way to the first of its nodes
  abbrev pub IsCycleIn : List A → Type 0
  IsCycleIn [] = ⊥
  IsCycleIn (a ∷ more) = IsCycle Edge (a ∷ more) × IsReached a

  -- there is no such cycle
  abbrev pub HasNoCycle : Type 0
  HasNoCycle = (cycle : List A) → IsCycleIn cycle → ⊥

-- what nodes cost together
abbrev pub sum_of : {A : Type 0} → (cost : A → ℕ) → List A → ℕ
sum_of cost [] = 0
sum_of cost (a ∷ more) = cost a + sum_of cost more

module _ {A : Type 0} (Entry : A → Type 0) (Edge : A → A → Type 0) (cost : A → ℕ) where
  -- the nodes of some way cost at least so much
  abbrev pub IsSpent : (least : ℕ) → Type 0
  IsSpent least = (way : List A) × (end : A) × IsWayTo Entry Edge end way × (least ≤ sum_of cost way)

  -- no way costs more, and some way costs as much
  pub record IsPath (most : ℕ) : Type 0 where
    pub enough : (way : List A) (end : A) → IsWayTo Entry Edge end way → sum_of cost way ≤ most
    pub spent : IsSpent most
