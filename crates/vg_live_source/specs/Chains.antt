-- Why a member is live, in lines.
use Rattle.std.specs.Prelude.{◌≡◌, ℕ, List, [], ◌∷◌, ◌++◌, Option, Some, None, codes, decimal}
use Rattle.vg_source.specs.Values.{Heap}
use Rattle.vg_source.specs.Steps.{Source}
use Rattle.vg_live_source.specs.Members.{Member, Method, Field, Cell}
use Rattle.vg_live_source.specs.Rules.{Rule, Live}

-- A member: `method C.m`, `field C.f`, or `cell k`.
abbrev pub member_text : Member → List ℕ
member_text (Method c m) = codes "method " ++ c ++ codes "." ++ m
member_text (Field c f) = codes "field " ++ c ++ codes "." ++ f
member_text (Cell k) = codes "cell " ++ decimal k

abbrev pub from_text : Option Member → List ℕ
from_text (Some y) = codes " from " ++ member_text y
from_text None = []

-- The line of a reason: `member by rule from member`, or `member by rule`.
abbrev pub reason_line : Member → (rule : ℕ) → (from : Option Member) → List ℕ
reason_line y n from = member_text y ++ codes " by " ++ decimal n ++ from_text from ++ codes "\n"

-- The line of a member that is not live.
abbrev pub dead_line : Member → List ℕ
dead_line y = codes "dead " ++ member_text y ++ codes "\n"

-- A member is none of these.
abbrev pub IsNoneOf : Member → List Member → Type 0
IsNoneOf y [] = Unit {0}
IsNoneOf y (x ∷ xs) = (y ≡ x → ⊥) × IsNoneOf y xs

-- The lines of a member's chain: that of a rule by which it is live, and behind it the chain of the member that the rule goes by, if there is one. The second
-- member by which the rule goes, if there is one, is live too. No member has two lines; `members` are those that have one.
pub data Chain (p : Source) (h : Heap) : Member → (members : List Member) → (lines : List ℕ) → Type 0 where
  last : {y : Member} (n : ℕ) {also : Option Member} → Rule p h y n None also → Live p h also → Chain p h y (y ∷ []) (reason_line y n None)
  more : {y : Member} (n : ℕ) (x : Member) {also : Option Member} {members : List Member} {lines : List ℕ} → Rule p h y n (Some x) also → Live p h also
      → Chain p h x members lines → IsNoneOf y members → Chain p h y (y ∷ members) (reason_line y n (Some x) ++ lines)

-- Why a member is live: a chain of it; or it is dead, and the only line says so.
pub data IsWhy (p : Source) (h : Heap) (y : Member) : (lines : List ℕ) → Type 0 where
  live : (members : List Member) {lines : List ℕ} → Chain p h y members lines → IsWhy p h y lines
  dead : (Live p h (Some y) → ⊥) → IsWhy p h y (dead_line y)
