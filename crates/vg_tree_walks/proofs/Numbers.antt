-- A walk finds what stands at and below the node of a number.
use Rattle.std.proofs.Common.{◌≡◌, ℕ, ◌+◌, Bool, true, false, refl, ap, ◌∙◌, arith}
use Rattle.std.specs.Prelude.{◌==◌, if◌then◌else◌}
use Rattle.vg_syntax.specs.Tree.{Node}
use Rattle.vg_syntax.specs.Outline.{Outline, Empty, Beside, Inner, outline, size}
use Rattle.vg_syntax.specs.Numbering.{numbered}
use Rattle.vg_syntax.proofs.Numbering.{renumbered, numbered_outline, total_renumbered}
use Rattle.vg_tree_walks.specs.Lookups.{at_number}
use Rattle.vg_tree_walks.specs.Walks.{found}

-- the same choice
pick : (p : Bool) (a b c d : ℕ) → a ≡ c → b ≡ d → (if p then a else b) ≡ (if p then c else d)
pick true a b c d e f = e
pick false a b c d e f = f

found_renumbered : (start i : ℕ) (o : Outline) → at_number i (renumbered start o) ≡ found start i o
found_renumbered start i Empty = refl
found_renumbered start i (Beside first rest) =
    let e = found_renumbered start i first in let f = found_renumbered (start + size first) i rest in omega (arith, e, f)
found_renumbered start i (Inner id weight children) =
    pick (start == i) _ _ _ _ (ap (λ k. weight + k) (total_renumbered (start + 1) children)) (found_renumbered (start + 1) i children)

pub found_numbered : (start i : ℕ) (n : Node) → at_number i (outline (numbered start n)) ≡ found start i (outline n)
found_numbered start i n = ap (at_number i) (numbered_outline start n) ∙ found_renumbered start i (outline n)
