-- Mirrors of the code that walks over words: no clause of the crate's root cites them.
use Rattle.std.specs.Prelude.{ℕ, ◌≡◌, ◌<◌, ◌&&◌, nat_le, List, [], ◌∷◌, map, length, Option, Some, None, if◌then◌else◌}
use Rattle.std.specs.List.{list_all}
use Rattle.vg_words.specs.declared.items.Rest.{Rest}
use Rattle.vg_words.specs.declared.items.Rest.TheVariants.{Mixed, Ended}
use Rattle.vg_words.specs.declared.items.First.{First}
use Rattle.vg_words.specs.declared.items.First.TheVariants as first
use Rattle.vg_words.specs.Items.{Item, Plain, Set, Bare, items}
use Rattle.vg_words.specs.Commands.{words_in}
use Rattle.vg_words.specs.Numbers.{is_digit, decimal_number}

-- the items of the rest of the words
abbrev pub items_in : Rest → List Item
items_in (Mixed words) = items (words_in words.now)
items_in (Ended words) = map Plain (words_in words.now)

-- how many words the rest has
abbrev pub size : Rest → ℕ
size (Mixed words) = length words.now
size (Ended words) = length words.now

-- the first of items, and those behind it
abbrev pub Begins : First → List Item → Type 0
Begins first.End all = all ≡ []
Begins (first.Plain word behind) all = all ≡ Plain word.now ∷ items_in behind
Begins (first.Set name value behind) all = all ≡ Set name.now value.now ∷ items_in behind
Begins (first.Bare name) all = all ≡ Bare name.now ∷ []

-- fewer than so many words stand behind the first item
abbrev pub LeavesBelow : First → ℕ → Type 0
LeavesBelow (first.Plain word behind) n = size behind < n
LeavesBelow (first.Set name value behind) n = size behind < n
LeavesBelow _ n = Unit {0}

-- the items of an option without `=`
abbrev pub with_next : List ℕ → List (List ℕ) → List Item
with_next word [] = Bare word ∷ []
with_next word (value ∷ behind) = Set word value ∷ items behind

-- what digits spell, up to a limit
abbrev pub decimal_to : ℕ → List ℕ → Option ℕ
decimal_to most text = if list_all is_digit text && nat_le (decimal_number text) most then Some (decimal_number text) else None
