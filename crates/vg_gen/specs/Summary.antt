-- The lines that tell of a generated program.
use Rattle.std.specs.Prelude.{ℕ, List, ◌++◌, codes, decimal}

-- the number that it is generated for, how many of its objects and of its methods are live, and the bytes of its static area
abbrev pub summary : (n objects methods static_bytes : ℕ) → List ℕ
summary n objects methods static_bytes =
    codes "try " ++ decimal n ++ codes "\n" ++ codes "objects " ++ decimal objects ++ codes "\n" ++ codes "methods " ++ decimal methods ++ codes "\n"
    ++ codes "static " ++ decimal static_bytes ++ codes "\n"
