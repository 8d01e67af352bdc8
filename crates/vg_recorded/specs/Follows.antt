-- A run with less history follows one with more, and both stay in their setting.
use Rattle.vg_meaning.specs.World.{World}
use Rattle.vg_meaning.specs.Answer.{Signal, Answer, Gives, Ends, Piece}
use Rattle.vg_meaning_laws.specs.Told.{told}
use Rattle.vg_recorded.specs.Setting.{Setting, IsIn, IsSignal}

-- The second answer is the first with its history told by f; it goes on in the setting, or ends as a call does there.
pub data Follows {S H K : Type 0} (x : Setting) (f : H → K) : Answer S H → Answer S K → Type 0 where
  gives : {s : S} {w : World H} → IsIn x w → Follows x f (Gives s w) (Gives s (told f w))
  ends : {why : Signal} {s : S} {w : World H} → IsIn x w → IsSignal x why → Follows x f (Ends why s w) (Ends why s (told f w))

-- All answers of a piece, from the setting.
abbrev pub FollowsPiece : {S H K : Type 0} → Setting → (H → K) → Piece S H → Piece S K → Type 0
FollowsPiece {S} {H} {K} x f p q = (s : S) (w : World H) → IsIn x w → Follows x f (p s w) (q s (told f w))
