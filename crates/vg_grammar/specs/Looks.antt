-- The next token while a text is read. These are mirrors of the code: no clause of what the crate exports at its root cites one.
use Rattle.std.specs.Prelude.{ℕ, ◌==◌, Bool, false, List, [], ◌∷◌, Option, Some, None, slice_get}
use Rattle.vg_syntax.specs.declared.kind.Kind.{Kind}
use Rattle.vg_syntax.specs.declared.kind.Kind.TheVariants as kind
use Rattle.vg_syntax.specs.declared.token.Token.{Token}
use Rattle.vg_grammar.specs.Numbers.{number}

-- the number of the kind of the next token, that of Unknown at the end
abbrev pub look : List Token → ℕ
look [] = 0
look (t ∷ ts) = number t.kind

abbrev pub kind_or : Option Token → Kind
kind_or None = kind.Unknown
kind_or (Some t) = t.kind

-- the kind of the token of this number, Unknown at the end
abbrev pub kind_at : List Token → ℕ → Kind
kind_at ts i = kind_or (slice_get ts i)

abbrev pub kind_is : Option Token → Kind → Bool
kind_is None k = false
kind_is (Some t) k = number t.kind == number k

-- whether the token of this number is of a kind
abbrev pub is_at : List Token → ℕ → Kind → Bool
is_at ts i k = kind_is (slice_get ts i) k
