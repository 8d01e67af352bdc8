-- What is done is what is owed: no more cases, which cover the others.
use Rattle.std.proofs.Common.{◌≡◌, refl, subst, sym, ap, ◌∙◌, arith, ℕ, suc, ◌≤◌, Bool, true, false, List, [], ◌∷◌, ◌++◌, length}
use Rattle.std.proofs.Common.{drop, map, Option, Some, None, slice_get, if◌then◌else◌}
use Rattle.std.proofs.Math.ListN.{drop_of_length-le}
use Rattle.std.proofs.lemmas.List.{append-nil}
use Rattle.std.proofs.lemmas.Option.{slice_get-map}
use Rattle.std.specs.Option.{option_map}
use Rattle.vg_codes.specs.declared.case.Case.{Case}
use Rattle.vg_codes.specs.Dispatch.{cases_of}
use Rattle.vg_cases.specs.Fewer.{AreAllFewer, AreFewer, covers, fewer, in_order, merged}
use Rattle.vg_cases.proofs.Covered.{covers_is, covers_same}
use Rattle.vg_cases.proofs.Placed.{order_long, order_small}
use Rattle.vg_cases.proofs.Joined.{merged_few, merged_small}

pub fewer_same : (cs : List Case) → AreFewer cs cs
fewer_same cs = record { covers = covers_same cs; small = λ a. a; few = omega arith }

pub fewer_is : (cs : List Case) → AreFewer cs (fewer cs)
fewer_is cs = by (covers (merged (in_order cs)) cs) refl
  where
    by : (b : Bool) → covers (merged (in_order cs)) cs ≡ b → AreFewer cs (if b then merged (in_order cs) else cs)
    by true e = record {
      covers = covers_is (merged (in_order cs)) cs e;
      small = λ a. merged_small (in_order cs) (order_small cs a);
      few = omega (arith, merged_few (in_order cs), order_long cs);
    }
    by false e = fewer_same cs

fewer_at : (o : Option (List Case)) → AreFewer (cases_of o) (cases_of (option_map fewer o))
fewer_at (Some cs) = fewer_is cs
fewer_at None = fewer_same []

all_long : (ds : List (List Case)) → length (map fewer ds) ≡ length ds
all_long [] = refl
all_long (d ∷ ds) = ap suc (all_long ds)

pub all_fewer : (ds : List (List Case)) → AreAllFewer ds (map fewer ds)
all_fewer ds = record {
  long = all_long ds;
  each = λ d. subst (λ z. AreFewer (cases_of (slice_get ds d)) (cases_of z)) (sym (slice_get-map fewer ds d)) (fewer_at (slice_get ds d));
}

pub fewer_as : (cs new : List Case) → new ≡ fewer cs → AreFewer cs new
fewer_as cs new e = subst (AreFewer cs) (sym e) (fewer_is cs)

-- where nothing is left of all dispatches
pub all_fewer_as : (ds news : List (List Case)) (i : ℕ) → length ds ≤ i → news ++ map fewer (drop i ds) ≡ map fewer ds → AreAllFewer ds news
all_fewer_as ds news i past e =
    let none : news ++ map fewer (drop i ds) ≡ news ++ [] = ap (λ z. news ++ map fewer z) (drop_of_length-le ds past) in
    subst (AreAllFewer ds) (sym e ∙ (none ∙ append-nil news)) (all_fewer ds)
