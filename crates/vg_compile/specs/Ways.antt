-- The ways in which the linear program of a packed one is made.
use Rattle.std.specs.Prelude.{ℕ, nat_lt, if◌then◌else◌}
use Rattle.vg_base.specs.declared.refusal.Refusal.{Refusal}
use Rattle.vg_base.specs.declared.refusal.Refusal.TheVariants.{Fault as Faulty}
use Rattle.vg_compile.specs.declared.ways.Way.{Way}
use Rattle.vg_compile.specs.declared.ways.Way.TheVariants.{Trimmed, Shared, Plain}
use Rattle.vg_compile.specs.declared.no_image.NoImage.{NoImage}
use Rattle.vg_compile.specs.declared.no_image.NoImage.TheVariants.{Received, Costly, Full}

-- ---- the answers of functions of this crate (mirrors)

-- How many ways there are behind one, in their order.
abbrev pub ways_behind : Way → ℕ
ways_behind Trimmed = 2
ways_behind Shared = 1
ways_behind Plain = 0

-- The cause may be the way in which the linear program was made.
abbrev pub IsOfWay : Refusal NoImage → Type 0
IsOfWay (Faulty Costly) = Unit {0}
IsOfWay (Faulty Received) = Unit {0}
IsOfWay (Faulty (Full full)) = Unit {0}
IsOfWay why = ⊥

-- Of two refusals the last one; of two for too much code the one with fewer words.
abbrev pub lesser : (first last : Refusal NoImage) → Refusal NoImage
lesser (Faulty (Full a)) (Faulty (Full b)) = if nat_lt a.words b.words then Faulty (Full a) else Faulty (Full b)
lesser first last = last
