-- A method is written behind the word for it.
use Rattle.std.proofs.Common.{◌≡◌, refl, ℕ, List, ◌++◌, codes}
use Rattle.vg_inventory.specs.Names.{behind_space}

pub behind_word : (text : List ℕ) → behind_space (codes "method " ++ text) ≡ text
behind_word text = refl
