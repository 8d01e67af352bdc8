-- The reserved words and the signs, with their spellings.
use Rattle.std.specs.Prelude.{ℕ, List, [], ◌∷◌, Option, Some, None, bytes_eq, codes, if◌then◌else◌}
use Rattle.vg_syntax.specs.declared.kind.Kind.{Kind}
use Rattle.vg_syntax.specs.declared.kind.Kind.TheVariants as kind

pub record Spelling : Type 0 where
  pub text : List ℕ
  pub kind : Kind

-- a spelling and what it spells
abbrev pub spells : List ℕ → Kind → Spelling
spells text kind = record { text = text; kind = kind }

-- what a text spells, by a table
abbrev pub kind_spelled : List ℕ → List Spelling → Option Kind
kind_spelled text [] = None
kind_spelled text (s ∷ table) = if bytes_eq s.text text then Some s.kind else kind_spelled text table

-- the words that are no names
unfoldable pub reserved_words : List Spelling
reserved_words =
    spells (codes "bool") kind.Bool ∷
    spells (codes "break") kind.Break ∷
    spells (codes "char") kind.Char ∷
    spells (codes "class") kind.Class ∷
    spells (codes "component") kind.Component ∷
    spells (codes "constructor") kind.Constructor ∷
    spells (codes "continue") kind.Continue ∷
    spells (codes "device") kind.Device ∷
    spells (codes "else") kind.Else ∷
    spells (codes "entry") kind.Entry ∷
    spells (codes "extends") kind.Extends ∷
    spells (codes "false") kind.False ∷
    spells (codes "field") kind.Field ∷
    spells (codes "for") kind.For ∷
    spells (codes "function") kind.Function ∷
    spells (codes "idle") kind.Idle ∷
    spells (codes "if") kind.If ∷
    spells (codes "int") kind.Int ∷
    spells (codes "local") kind.Local ∷
    spells (codes "method") kind.Method ∷
    spells (codes "new") kind.New ∷
    spells (codes "null") kind.Null ∷
    spells (codes "program") kind.Program ∷
    spells (codes "raw") kind.Raw ∷
    spells (codes "register") kind.Register ∷
    spells (codes "return") kind.Return ∷
    spells (codes "super") kind.Super ∷
    spells (codes "this") kind.This ∷
    spells (codes "true") kind.True ∷
    spells (codes "while") kind.While ∷
    []

-- the signs of two bytes
unfoldable pub double_signs : List Spelling
double_signs =
    spells (codes "||") kind.OrOr ∷
    spells (codes "&&") kind.AndAnd ∷
    spells (codes "==") kind.EqualEqual ∷
    spells (codes "!=") kind.NotEqual ∷
    spells (codes "<=") kind.LessEqual ∷
    spells (codes ">=") kind.GreaterEqual ∷
    spells (codes "<:") kind.Below ∷
    spells (codes "<<") kind.ShiftLeft ∷
    spells (codes ">>") kind.ShiftRight ∷
    spells (codes "::") kind.Cast ∷
    []

-- the signs of one byte
unfoldable pub single_signs : List Spelling
single_signs =
    spells (codes "{") kind.LeftBrace ∷
    spells (codes "}") kind.RightBrace ∷
    spells (codes "(") kind.LeftParen ∷
    spells (codes ")") kind.RightParen ∷
    spells (codes "[") kind.LeftBracket ∷
    spells (codes "]") kind.RightBracket ∷
    spells (codes ";") kind.Semicolon ∷
    spells (codes ":") kind.Colon ∷
    spells (codes ",") kind.Comma ∷
    spells (codes ".") kind.Dot ∷
    spells (codes "=") kind.Assign ∷
    spells (codes "<") kind.Less ∷
    spells (codes ">") kind.Greater ∷
    spells (codes "|") kind.Or ∷
    spells (codes "^") kind.Xor ∷
    spells (codes "&") kind.And ∷
    spells (codes "#") kind.Concat ∷
    spells (codes "+") kind.Plus ∷
    spells (codes "-") kind.Minus ∷
    spells (codes "*") kind.Star ∷
    spells (codes "/") kind.Slash ∷
    spells (codes "%") kind.Percent ∷
    spells (codes "!") kind.Not ∷
    spells (codes "~") kind.Complement ∷
    []
