-- Where the bytes of a token lie, and what they are.
use Rattle.std.specs.Prelude.{ℕ, ◌≤◌, List, length}
use Rattle.std.specs.Str.{IsAscii}
use Rattle.vg_syntax.specs.declared.token.Token.{Token}
use Rattle.vg_syntax.specs.Tokens.{text_of}

-- the bytes of the token lie in the text, and are all ASCII
pub record IsSpelled (bytes : List ℕ) (t : Token) : Type 0 where
  pub order : t.start ≤ t.end
  pub within : t.end ≤ length bytes
  pub ascii : IsAscii (text_of bytes t)
