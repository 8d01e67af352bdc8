use Rattle.std.proofs.Common.{◌≡◌, map}
use Rattle.vg_words.specs.Commands.{knows, words_in}
use Rattle.vg_words.specs.Items.{items}
use Rattle.vg_words.specs.Walk.{items_in, size}
use Rattle.vg_words.proofs.options.knows.Given as goal

abbrev pub invariant-items : goal.invariant-items
invariant-items l =
    knows (map (λ name. name.now) l.names) (items_in l.rest)
    ≡ knows (map (λ name. name.now) l.names) (items (words_in l.words))

abbrev pub decreases-items : goal.decreases-items
decreases-items l = size l.rest
