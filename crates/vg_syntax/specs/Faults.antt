-- What a text of bytes is: a text of the language, or where it ceases to be one.
use Rattle.std.specs.Prelude.{ℕ, ◌≡◌, List, Option, Some, None, take, slice_get}
use Rattle.vg_base.specs.declared.place.Place.{Place}
use Rattle.vg_syntax.specs.declared.token.Token.{Token}
use Rattle.vg_syntax.specs.Places.{place_behind}
use Rattle.vg_syntax.specs.Tokens.{IsTokens}
use Rattle.vg_syntax.specs.Parses.{Sentence, NoTreeAt, Shallow, TooDeepAt}

-- the bytes are a text of the language, with at most 64 open brackets at each place
abbrev pub IsText : List ℕ → Type 0
IsText bytes = (ts : List Token) × IsTokens bytes ts × Sentence ts × Shallow ts

abbrev pub place_or : List ℕ → Option Token → Place
place_or bytes None = place_behind bytes
place_or bytes (Some t) = t.place

-- the place of the token of this number: at the end, that behind the last byte
abbrev pub place_of : (bytes : List ℕ) → List Token → ℕ → Place
place_of bytes ts i = place_or bytes (slice_get ts i)

-- the place of the first token that no text of the language has there, where no 65th bracket was opened before it
abbrev pub NoTreeIn : List ℕ → Place → Type 0
NoTreeIn bytes place = (ts : List Token) × (i : ℕ) × IsTokens bytes ts × NoTreeAt ts i × Shallow (take i ts) × (place ≡ place_of bytes ts i)

-- the place of the first token that opens a 65th bracket, where some text begins with it and all before it
abbrev pub TooDeepIn : List ℕ → Place → Type 0
TooDeepIn bytes place = (ts : List Token) × (i : ℕ) × IsTokens bytes ts × TooDeepAt ts i × (place ≡ place_of bytes ts i)
