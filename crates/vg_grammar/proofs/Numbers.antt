-- Kinds with one number are one kind.
use Rattle.std.proofs.Common.{◌≡◌, ℕ, zero, suc, List, [], ◌∷◌, refl, sym, ap, ◌∙◌}
use Rattle.vg_syntax.specs.declared.kind.Kind.{Kind}
use Rattle.vg_syntax.specs.declared.kind.Kind.TheVariants as kind
use Rattle.vg_grammar.specs.Numbers.{number}

-- all kinds, in order of their numbers
abbrev kinds : List Kind
kinds =
    kind.Unknown ∷ kind.Name ∷ kind.Number ∷ kind.CharLiteral ∷ kind.StringLiteral ∷ kind.Bool ∷ kind.Break ∷ kind.Char ∷
    kind.Class ∷ kind.Component ∷ kind.Constructor ∷ kind.Continue ∷ kind.Device ∷ kind.Else ∷ kind.Entry ∷ kind.Extends ∷
    kind.False ∷ kind.Field ∷ kind.For ∷ kind.Function ∷ kind.Idle ∷ kind.If ∷ kind.Int ∷ kind.Local ∷
    kind.Method ∷ kind.New ∷ kind.Null ∷ kind.Program ∷ kind.Raw ∷ kind.Register ∷ kind.Return ∷ kind.Super ∷
    kind.This ∷ kind.True ∷ kind.While ∷ kind.LeftBrace ∷ kind.RightBrace ∷ kind.LeftParen ∷ kind.RightParen ∷ kind.LeftBracket ∷
    kind.RightBracket ∷ kind.Semicolon ∷ kind.Colon ∷ kind.Comma ∷ kind.Dot ∷ kind.Assign ∷ kind.OrOr ∷ kind.AndAnd ∷
    kind.EqualEqual ∷ kind.NotEqual ∷ kind.Less ∷ kind.LessEqual ∷ kind.Greater ∷ kind.GreaterEqual ∷ kind.Below ∷ kind.Or ∷
    kind.Xor ∷ kind.And ∷ kind.ShiftLeft ∷ kind.ShiftRight ∷ kind.Concat ∷ kind.Plus ∷ kind.Minus ∷ kind.Star ∷
    kind.Slash ∷ kind.Percent ∷ kind.Cast ∷ kind.Not ∷ kind.Complement ∷ []

abbrev kind_in : List Kind → ℕ → Kind
kind_in [] i = kind.Unknown
kind_in (k ∷ ks) zero = k
kind_in (k ∷ ks) (suc i) = kind_in ks i

again : (k : Kind) → kind_in kinds (number k) ≡ k
again kind.Name = refl
again kind.Number = refl
again kind.CharLiteral = refl
again kind.StringLiteral = refl
again kind.Unknown = refl
again kind.Bool = refl
again kind.Break = refl
again kind.Char = refl
again kind.Class = refl
again kind.Component = refl
again kind.Constructor = refl
again kind.Continue = refl
again kind.Device = refl
again kind.Else = refl
again kind.Entry = refl
again kind.Extends = refl
again kind.False = refl
again kind.Field = refl
again kind.For = refl
again kind.Function = refl
again kind.Idle = refl
again kind.If = refl
again kind.Int = refl
again kind.Local = refl
again kind.Method = refl
again kind.New = refl
again kind.Null = refl
again kind.Program = refl
again kind.Raw = refl
again kind.Register = refl
again kind.Return = refl
again kind.Super = refl
again kind.This = refl
again kind.True = refl
again kind.While = refl
again kind.LeftBrace = refl
again kind.RightBrace = refl
again kind.LeftParen = refl
again kind.RightParen = refl
again kind.LeftBracket = refl
again kind.RightBracket = refl
again kind.Semicolon = refl
again kind.Colon = refl
again kind.Comma = refl
again kind.Dot = refl
again kind.Assign = refl
again kind.OrOr = refl
again kind.AndAnd = refl
again kind.EqualEqual = refl
again kind.NotEqual = refl
again kind.Less = refl
again kind.LessEqual = refl
again kind.Greater = refl
again kind.GreaterEqual = refl
again kind.Below = refl
again kind.Or = refl
again kind.Xor = refl
again kind.And = refl
again kind.ShiftLeft = refl
again kind.ShiftRight = refl
again kind.Concat = refl
again kind.Plus = refl
again kind.Minus = refl
again kind.Star = refl
again kind.Slash = refl
again kind.Percent = refl
again kind.Cast = refl
again kind.Not = refl
again kind.Complement = refl

pub same_kind : (j k : Kind) → number j ≡ number k → j ≡ k
same_kind j k e = sym (again j) ∙ ap (kind_in kinds) e ∙ again k
