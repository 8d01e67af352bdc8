-- The limits on what a text has.
use Rattle.std.specs.Prelude.{ℕ}
use Rattle.vg_rules.specs.declared.what.What.{What}
use Rattle.vg_rules.specs.declared.what.What.TheVariants.{Classes, Methods, Locals, Height}

-- how many of this there may be
abbrev pub limit_of : What → ℕ
limit_of Classes = 200
limit_of Methods = 2000
limit_of Locals = 60
limit_of Height = 48
