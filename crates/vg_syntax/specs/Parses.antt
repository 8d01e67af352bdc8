-- The parses of a list of tokens, and where a list of tokens ceases to begin a text.
use Rattle.std.specs.Prelude.{ℕ, zero, suc, ◌+◌, ◌-◌, ◌≡◌, ◌==◌, Bool, true, false, if◌then◌else◌, List, [], ◌∷◌, ◌++◌, Option, Some, None, take, drop}
use Rattle.std.specs.Option.{option_and_then}
use Rattle.vg_syntax.specs.declared.kind.Kind.{Kind}
use Rattle.vg_syntax.specs.declared.kind.Kind.TheVariants as kind
use Rattle.vg_syntax.specs.declared.token.Token.{Token}
use Rattle.vg_syntax.specs.declared.grammar.Symbol.{Symbol}
use Rattle.vg_syntax.specs.declared.grammar.Symbol.TheVariants.{Sign, Use}
use Rattle.vg_syntax.specs.declared.grammar.Part.{Part}
use Rattle.vg_syntax.specs.declared.grammar.Part.TheVariants as part
use Rattle.vg_syntax.specs.Grammar.{rules}

-- A row of parses: nothing, or a token or a part with what stands behind it. A part has the number of its alternative and a row of kids.
pub data Parse : Type 0 where
  Nil : Parse
  Tok : (t : Token) (behind : Parse) → Parse
  Sub : (n : Part) (alternative : ℕ) (kids behind : Parse) → Parse

-- the tokens of a row of parses
abbrev pub leaves : Parse → List Token
leaves Nil = []
leaves (Tok t behind) = t ∷ leaves behind
leaves (Sub n a kids behind) = leaves kids ++ leaves behind

-- the alternative of a number, from 0
abbrev pub nth : List (List Symbol) → ℕ → Option (List Symbol)
nth [] i = None
nth (r ∷ rs) zero = Some r
nth (r ∷ rs) (suc i) = nth rs i

-- a row of parses is one of these symbols: each part's kids are one of the symbols of its alternative
abbrev pub Fits : Parse → List Symbol → Type 0
Fits Nil [] = Unit {0}
Fits Nil (x ∷ s) = ⊥
Fits (Tok t p) [] = ⊥
Fits (Tok t p) (Sign k ∷ s) = (t.kind ≡ k) × Fits p s
Fits (Tok t p) (Use n ∷ s) = ⊥
Fits (Sub n a kids p) [] = ⊥
Fits (Sub n a kids p) (Sign k ∷ s) = ⊥
Fits (Sub n a kids p) (Use m ∷ s) = (n ≡ m) × (rhs : List Symbol) × (nth (rules n) a ≡ Some rhs) × Fits kids rhs × Fits p s

-- a parse of a whole text that has exactly these tokens
abbrev pub IsParse : List Token → Parse → Type 0
IsParse ts p = Fits p (Use part.Text ∷ []) × (leaves p ≡ ts)

-- the tokens are those of a whole text
abbrev pub Sentence : List Token → Type 0
Sentence ts = (p : Parse) × IsParse ts p

-- some whole text begins with these tokens
abbrev pub Viable : List Token → Type 0
Viable ts = (more : List Token) × Sentence (ts ++ more)

-- behind `front`, no whole text goes on with the next token, or none ends where no token is left
abbrev pub Stops : (front rest : List Token) → Type 0
Stops front [] = Sentence front → ⊥
Stops front (t ∷ rest) = Viable (front ++ t ∷ []) → ⊥

-- the token of this number, or the end, is the first behind which no whole text goes on
abbrev pub NoTreeAt : List Token → ℕ → Type 0
NoTreeAt ts i = Viable (take i ts) × Stops (take i ts) (drop i ts)

-- whether a kind opens a bracket
abbrev pub is_open : Kind → Bool
is_open kind.LeftParen = true
is_open kind.LeftBracket = true
is_open kind.LeftBrace = true
is_open _ = false

-- whether a kind closes a bracket
abbrev pub is_close : Kind → Bool
is_close kind.RightParen = true
is_close kind.RightBracket = true
is_close kind.RightBrace = true
is_close _ = false

-- how many brackets are open behind a token where `open_before` were: None for a 65th
abbrev pub opened : (open_before : ℕ) → Kind → Option ℕ
opened d k = if is_open k then (if d == 64 then None else Some (d + 1)) else if is_close k then Some (d - 1) else Some d

-- how many brackets are open behind these tokens: None where a 65th was opened
abbrev pub open_in : ℕ → List Token → Option ℕ
open_in d [] = Some d
open_in d (t ∷ ts) = option_and_then (λ e. open_in e ts) (opened d t.kind)

-- never more than 64 brackets are open
abbrev pub Shallow : List Token → Type 0
Shallow ts = (d : ℕ) × (open_in 0 ts ≡ Some d)

-- The token of this number is the first that opens a 65th bracket, and it and all before it begin some whole text, whatever that text's depth.
abbrev pub TooDeepAt : List Token → ℕ → Type 0
TooDeepAt ts i = Viable (take (i + 1) ts) × Shallow (take i ts) × (open_in 0 (take (i + 1) ts) ≡ None)
