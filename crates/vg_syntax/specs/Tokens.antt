-- The tokens of a text.
use Rattle.std.specs.Prelude.{ℕ, ◌≡◌, ◌+◌, length, ◌&&◌, ◌==◌, nat_lt, List, [], ◌∷◌, take, drop, Option, Some, None, slice_range, if◌then◌else◌}
use Rattle.vg_syntax.specs.declared.gap.Mode.{Mode}
use Rattle.vg_syntax.specs.declared.gap.Mode.TheVariants.{Code, Comment}
use Rattle.vg_syntax.specs.declared.token.Token.{Token}
use Rattle.vg_syntax.specs.Bytes.{is_blank, is_line_end}
use Rattle.vg_syntax.specs.Lexemes.{begins_with, lexeme}
use Rattle.vg_syntax.specs.Places.{place_behind}

-- how many bytes of white space and comments a text begins with; a comment goes from // to the next line end
abbrev pub gap : Mode → List ℕ → ℕ
gap _ [] = 0
gap Comment (b ∷ bs) = gap (if is_line_end b then Code else Comment) bs + 1
gap Code (b ∷ bs) =
    if (b == 47) && begins_with 47 bs then gap Comment bs + 1
    else if is_blank b then gap Code bs + 1
    else 0

-- the token of a text that begins at this offset
abbrev pub token_at : List ℕ → ℕ → Token
token_at bytes start =
    let found = lexeme (drop start bytes) in
    record { kind = found.kind; place = place_behind (take start bytes); start = start; end = start + found.length }

-- the first token of a text from this offset on, if there is one
abbrev pub next_token : List ℕ → ℕ → Option Token
next_token bytes offset =
    let start = offset + gap Code (drop offset bytes) in
    if nat_lt start (length bytes) then Some (token_at bytes start) else None

-- the tokens of a text from this offset on
abbrev pub AreTokens : List ℕ → ℕ → List Token → Type 0
AreTokens bytes offset [] = next_token bytes offset ≡ None
AreTokens bytes offset (t ∷ ts) = (next_token bytes offset ≡ Some t) × AreTokens bytes t.end ts

-- the tokens of a text
abbrev pub IsTokens : List ℕ → List Token → Type 0
IsTokens bytes ts = AreTokens bytes 0 ts

-- the bytes of a token
abbrev pub text_of : List ℕ → Token → List ℕ
text_of bytes t = slice_range bytes t.start t.end
