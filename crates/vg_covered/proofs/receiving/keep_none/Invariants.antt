use Rattle.std.specs.Prelude.{◌≡◌, false}
use Rattle.std.proofs.Common.{drop}
use Rattle.std.specs.List.{AllByRecursion}
use Rattle.vg_covered.proofs.receiving.keep_none.Given as goal

abbrev pub invariant-loop-kept : goal.invariant-loop-kept
invariant-loop-kept l =
    (AllByRecursion (λ kept. kept ≡ false) (drop l.kept-index l.arrives) → AllByRecursion (λ kept. kept ≡ false) l.arrives)
    × (AllByRecursion (λ kept. kept ≡ false) l.arrives → AllByRecursion (λ kept. kept ≡ false) (drop l.kept-index l.arrives))
