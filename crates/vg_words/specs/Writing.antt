-- How the words behind a command are written: the other way round of `items`.
use Rattle.std.specs.Prelude.{ℕ, ◌≡◌, ◌==◌, true, false, List, [], ◌∷◌, ◌++◌}
use Rattle.vg_words.specs.Items.{Item, Plain, Set, ends_options, is_option}

-- a piece of a command line in front of `--`: a plain word, or an option in one of its forms
pub data Written : Type 0 where
  Word : (word : List ℕ) → Written
  Apart : (name value : List ℕ) → Written
  Joined : (name value : List ℕ) → Written

-- the words of pieces, and then more words
abbrev pub words_of : List Written → List (List ℕ) → List (List ℕ)
words_of [] more = more
words_of (Word word ∷ ps) more = word ∷ words_of ps more
words_of (Apart name value ∷ ps) more = name ∷ value ∷ words_of ps more
words_of (Joined name value ∷ ps) more = (name ++ 61 ∷ value) ∷ words_of ps more

-- the items of pieces, and then more items
abbrev pub items_of : List Written → List Item → List Item
items_of [] more = more
items_of (Word word ∷ ps) more = Plain word ∷ items_of ps more
items_of (Apart name value ∷ ps) more = Set name value ∷ items_of ps more
items_of (Joined name value ∷ ps) more = Set name value ∷ items_of ps more

abbrev pub HasNoEquals : List ℕ → Type 0
HasNoEquals [] = Unit {0}
HasNoEquals (b ∷ bs) = ((b == 61) ≡ false) × HasNoEquals bs

-- a plain word is no option; a name is one and has no `=`, and it is not `--` where it stands apart
abbrev pub AreWritten : List Written → Type 0
AreWritten [] = Unit {0}
AreWritten (Word word ∷ ps) = (is_option word ≡ false) × AreWritten ps
AreWritten (Apart name value ∷ ps) = (is_option name ≡ true) × HasNoEquals name × (ends_options name ≡ false) × AreWritten ps
AreWritten (Joined name value ∷ ps) = (is_option name ≡ true) × HasNoEquals name × AreWritten ps
