-- The chain of the kept reasons.
use Rattle.std.specs.Prelude.{◌≡◌, ℕ, ◌<◌, List, ◌++◌, Option, Some, None}
use Rattle.vg_core.specs.declared.member.Member.{Member}
use Rattle.vg_core.specs.declared.program.Tables.{Tables}
use Rattle.vg_live.specs.declared.live_set.Reason.{Reason}
use Rattle.vg_live.specs.declared.live_set.LiveSet.{LiveSet}
use Rattle.vg_live.specs.Sets.{reason_of, IsBefore}
use Rattle.vg_report.specs.declared.why.Link.{Link}
use Rattle.vg_report.specs.Texts.{reason_line, dead_line}

-- The member that a kept reason goes by is kept with a lower rank.
abbrev pub Falls : LiveSet → Type 0
Falls s = (y : Member) (r : Reason) → reason_of s y ≡ Some r → IsBefore s r.rank r.from

-- The lines of a member's chain: that of its reason, and behind it the chain of the member that the reason goes by, if there is one.
pub data Chain (texts : List (List ℕ)) (t : Tables) (s : LiveSet) : Member → List ℕ → Type 0 where
  last : {y : Member} (r : Reason) → reason_of s y ≡ Some r → r.from ≡ None → Chain texts t s y (reason_line texts t y r)
  more : {y : Member} (r : Reason) (x : Member) {rest : List ℕ} → reason_of s y ≡ Some r → r.from ≡ Some x → Chain texts t s x rest
      → Chain texts t s y (reason_line texts t y r ++ rest)

-- Why a member is live: its chain; or it is dead, and the only line says so.
pub data IsWhy (texts : List (List ℕ)) (t : Tables) (s : LiveSet) (y : Member) : List ℕ → Type 0 where
  live : {text : List ℕ} → Chain texts t s y text → IsWhy texts t s y text
  dead : reason_of s y ≡ None → IsWhy texts t s y (dead_line texts t y)

-- A mirror of the walk along the chain.
pub record IsNext (s : LiveSet) (r : Reason) (link : Link) : Type 0 where
  pub from_is : r.from ≡ Some link.member
  pub kept : reason_of s link.member ≡ Some link.reason
  pub lower : link.reason.rank < r.rank
