-- Each step keeps what a search keeps, and less waits.
use Rattle.std.proofs.Common.{◌≡◌, ◌⊎◌, refl, sym, ap, subst, ◌∙◌, arith, ℕ, ◌+◌, ◌-◌, ◌<◌, ◌≤◌, List, [], ◌∷◌, get_or, length, sum, Some, None, slice_get, slice_set}
use Rattle.std.proofs.lemmas.Option.{none-some, same_Some, slice_get_within}
use Rattle.std.proofs.lemmas.List.{length-set, length-append, length-take}
use mathlib.Core.Logic.{inl, inr}
use Rattle.vg_bound.specs.declared.mark.Visit.{Visit}
use Rattle.vg_bound.specs.declared.mark.Mark.{Mark}
use Rattle.vg_bound.specs.declared.mark.Mark.TheVariants.{Unseen, Open, Done}
use Rattle.vg_bound.specs.declared.walk.Found.TheVariants.{Cost, Closed}
use Rattle.vg_bound.specs.Graph.{HasEdge}
use Rattle.vg_bound.specs.Searched.{Searched, entered, visiting, left, place_of, first_visit, looked}
use Rattle.vg_bound.specs.Searching.{IsSearching, IsKnown, IsTop, BeginsWith, told, spent, spends, opens, waits, waiting, IsStep, IsFound}
use Rattle.vg_bound.proofs.Lists.{each_set, get_either, none_past}
use Rattle.vg_bound.proofs.Totals.{total_set, opens_few, spent_most}
use Rattle.vg_bound.proofs.Paths.{none_looked, one_looked, all_looked}
use Rattle.vg_bound.proofs.Stacks.{stacked_more, stacked_still, stacked_less, along_more, along_less, begins_more, begins_less}

module _ (frames : List ℕ) (calls : List (List ℕ)) (s : Searched) (q : IsSearching frames calls s) where
  -- another mark, where as much or more is paid
  known_set : (k : ℕ) (old new : Mark) → slice_get s.marks k ≡ Some old → IsKnown frames calls k new
      → (a : ℕ) (m : Mark) → slice_get (slice_set s.marks k new) a ≡ Some m → IsKnown frames calls a m
  known_set k old new is h = each_set (IsKnown frames calls) s.marks k new (slice_get_within s.marks k old is) h q.known

  paid_set : (k : ℕ) (old new : Mark) → slice_get s.marks k ≡ Some old → told new ≤ spent frames (slice_set s.marks k new)
      → spent frames s.marks ≤ spent frames (slice_set s.marks k new)
      → (a : ℕ) (m : Mark) → slice_get (slice_set s.marks k new) a ≡ Some m → told m ≤ spent frames (slice_set s.marks k new)
  paid_set k old new is h more =
      each_set (λ a m. told m ≤ spent frames (slice_set s.marks k new)) s.marks k new (slice_get_within s.marks k old is) h
      (λ a m e. let p = q.paid a m e in omega (arith, p, more))

  -- ---- a node is entered

  pub room_more : (b : ℕ) → slice_get s.marks b ≡ Some Unseen → length s.stack < s.room
  room_more b is =
      let f = opens_few s.marks b (first_visit 0) is in
      omega (arith, f, q.few, q.nodes, q.room)

  pub enters : (b : ℕ) → slice_get s.marks b ≡ Some Unseen → ((a : ℕ) → IsTop s.stack a → HasEdge calls a b) → IsSearching frames calls (entered b s)
  enters b is f =
      let new : Mark = Open (first_visit (length s.stack)) in
      let same = total_set (spends frames) s.marks b Unseen new is in
      let open' = total_set opens s.marks b Unseen new is in
      let long = length-append s.stack (b ∷ []) in
      record {
        nodes = length-set s.marks b new ∙ q.nodes;
        room = q.room;
        stacked = stacked_more s.marks s.stack b is q.stacked;
        known = known_set b Unseen new is (none_looked frames calls b (length s.stack));
        paid = paid_set b Unseen new is (omega arith) (omega (arith, same));
        along = along_more calls s.stack q.along b f;
        few = omega (arith, open', long, q.few);
      }

  pub enters_less : (b : ℕ) → slice_get s.marks b ≡ Some Unseen → waiting calls (entered b s).marks < waiting calls s.marks
  enters_less b is =
      let z = total_set (waits calls) s.marks b Unseen (Open (first_visit (length s.stack))) is in
      omega (arith, z)

  -- ---- a visit goes on

  pub visits : (a b c : ℕ) (v : Visit) → slice_get s.marks a ≡ Some (Open v) → slice_get (get_or calls a []) v.next ≡ Some b → slice_get s.marks b ≡ Some (Done c)
      → IsSearching frames calls (visiting a (looked c v) s)
  visits a b c v is at done =
      let new : Mark = Open (looked c v) in
      let same = total_set (spends frames) s.marks a (Open v) new is in
      let open' = total_set opens s.marks a (Open v) new is in
      let p = q.paid a (Open v) is in
      let r = q.paid b (Done c) done in
      record {
        nodes = length-set s.marks a new ∙ q.nodes;
        room = q.room;
        stacked = stacked_still s.marks s.stack a v (looked c v) is refl q.stacked;
        known = known_set a (Open v) new is (one_looked frames calls a b c v at (q.known b (Done c) done) (q.known a (Open v) is));
        paid = paid_set a (Open v) new is (omega (arith, same, p, r)) (omega (arith, same));
        along = q.along;
        few = omega (arith, open', q.few);
      }

  pub visits_less : (a b c : ℕ) (v : Visit) → slice_get s.marks a ≡ Some (Open v) → slice_get (get_or calls a []) v.next ≡ Some b
      → waiting calls (visiting a (looked c v) s).marks < waiting calls s.marks
  visits_less a b c v is at =
      let z = total_set (waits calls) s.marks a (Open v) (Open (looked c v)) is in
      let w = slice_get_within (get_or calls a []) v.next b at in
      omega (arith, z, w)

  -- ---- a node is left

  pub leaves : (a c : ℕ) (v : Visit) → slice_get s.marks a ≡ Some (Open v) → IsTop s.stack a → length (get_or calls a []) ≤ v.next
      → c ≡ v.most + get_or frames a 0 → IsSearching frames calls (left a c s)
  leaves a c v is top past sum_is =
      let more = total_set (spends frames) s.marks a (Open v) (Done c) is in
      let open' = total_set opens s.marks a (Open v) (Done c) is in
      let p = q.paid a (Open v) is in
      let short = length-take (length s.stack - 1) s.stack in
      let some = slice_get_within s.stack (length s.stack - 1) a top in
      record {
        nodes = length-set s.marks a (Done c) ∙ q.nodes;
        room = q.room;
        stacked = stacked_less s.marks s.stack a c v is top q.stacked;
        known = known_set a (Open v) (Done c) is (all_looked frames calls a c v past sum_is (q.known a (Open v) is));
        paid = paid_set a (Open v) (Done c) is (omega (arith, more, p, sum_is)) (omega (arith, more));
        along = along_less calls s.stack q.along (length s.stack - 1);
        few = omega (arith, open', short, some, q.few);
      }

  pub leaves_less : (a c : ℕ) (v : Visit) → slice_get s.marks a ≡ Some (Open v) → waiting calls (left a c s).marks < waiting calls s.marks
  leaves_less a c v is =
      let z = total_set (waits calls) s.marks a (Open v) (Done c) is in
      omega (arith, z)

  -- what a node costs that is left is within the sum of all frames
  pub left_fits : (a : ℕ) (v : Visit) → slice_get s.marks a ≡ Some (Open v) → v.most + get_or frames a 0 ≤ sum frames
  left_fits a v is =
      let more = total_set (spends frames) s.marks a (Open v) (Done 0) is in
      let p = q.paid a (Open v) is in
      let m = spent_most frames (slice_set s.marks a (Done 0)) in
      omega (arith, more, p, m)

  pub done_fits : (a c : ℕ) → slice_get s.marks a ≡ Some (Done c) → c ≤ sum frames
  done_fits a c is =
      let p = q.paid a (Done c) is in
      let m = spent_most frames s.marks in
      omega (arith, p, m)

  -- ---- the bottom of the stack

  -- where the node at the bottom is not open, nothing stands on the stack
  pub nothing_open : (root : ℕ) (m : Mark) → BeginsWith root s.stack → slice_get s.marks root ≡ Some m → place_of (Some m) ≡ None → s.stack ≡ []
  nothing_open root m f is n = by' s.stack f (λ a e. q.stacked.placed 0 a e)
    where
      by' : (stack : List ℕ) → BeginsWith root stack → ((a : ℕ) → slice_get stack 0 ≡ Some a → place_of (slice_get s.marks a) ≡ Some 0) → stack ≡ []
      by' [] g h = refl
      by' (x ∷ xs) g h = absurd (none-some 0 (sym n ∙ (sym (ap place_of is) ∙ (ap (λ z. place_of (slice_get s.marks z)) (sym (g x refl)) ∙ h x refl))))

  -- where it is open, something does
  pub something_open : (root : ℕ) (v : Visit) → slice_get s.marks root ≡ Some (Open v) → 0 < length s.stack
  something_open root v is =
      let w = slice_get_within s.stack v.place root (q.stacked.opened root v.place (ap place_of is)) in
      omega (arith, w)

  -- ---- the steps as they are taken

  pub step_enters : (a b : ℕ) (t : Searched) → t ≡ entered b s → IsTop s.stack a → HasEdge calls a b → slice_get s.marks b ≡ Some Unseen
      → IsStep frames calls s t None
  step_enters a b t e top edge is =
      subst (λ z. IsStep frames calls s z None) (sym e) (
        enters b is (λ x h. subst (λ z. HasEdge calls z b) (same_Some a x (sym top ∙ h)) edge),
        enters_less b is,
        λ root f. begins_more root b s.stack (let w = slice_get_within s.stack (length s.stack - 1) a top in omega (arith, w)) f,
      )

  pub step_visits : (a b c : ℕ) (v w : Visit) (t : Searched) → t ≡ visiting a w s → w ≡ looked c v → slice_get s.marks a ≡ Some (Open v)
      → slice_get (get_or calls a []) v.next ≡ Some b → slice_get s.marks b ≡ Some (Done c) → IsStep frames calls s t None
  step_visits a b c v w t e l is at done =
      subst (λ z. IsStep frames calls s z None) (sym (e ∙ ap (λ z. visiting a z s) l)) (visits a b c v is at done, visits_less a b c v is at, λ root f. f)

  pub step_leaves : (a c : ℕ) (v : Visit) (t : Searched) → t ≡ left a c s → c ≡ v.most + get_or frames a 0 → slice_get s.marks a ≡ Some (Open v)
      → IsTop s.stack a → slice_get (get_or calls a []) v.next ≡ None → IsStep frames calls s t None
  step_leaves a c v t e sum_is is top none =
      subst (λ z. IsStep frames calls s z None) (sym e) (
        leaves a c v is top (none_past (get_or calls a []) v.next none) sum_is,
        leaves_less a c v is,
        λ root f. begins_less root (length s.stack - 1) s.stack f,
      )

  -- ---- the search from a root

  pub starts : (root : ℕ) (t : Searched) → t ≡ entered root s → BeginsWith root s.stack → slice_get s.marks root ≡ Some Unseen
      → IsSearching frames calls t × BeginsWith root t.stack × (waiting calls t.marks < waiting calls s.marks)
  starts root t e f is =
      let none = nothing_open root Unseen f is refl in
      subst (λ z. IsSearching frames calls z × BeginsWith root z.stack × (waiting calls z.marks < waiting calls s.marks)) (sym e) (
        enters root is (λ a h. absurd (none-some a (ap (λ z. slice_get z (length s.stack - 1)) (sym none) ∙ h))),
        λ a h. by' a (get_either s.stack root a 0 h),
        enters_less root is,
      )
    where
      by' : (a : ℕ) → (slice_get s.stack 0 ≡ Some a) ⊎ ((0 ≡ length s.stack) × (root ≡ a)) → a ≡ root
      by' a (inl h) = f a h
      by' a (inr (l, r)) = sym r

  pub found_cost : (root c : ℕ) → BeginsWith root s.stack → slice_get s.marks root ≡ Some (Done c) → IsFound frames calls root s (Cost c)
  found_cost root c f is = (nothing_open root (Done c) f is refl, q.known root (Done c) is, done_fits root c is)

  pub found_closed : (root i : ℕ) (t : Searched) → BeginsWith root s.stack → IsStep frames calls s t (Some i)
      → IsSearching frames calls t × IsFound frames calls root t (Closed i)
  found_closed root i t f (e, closed) =
      subst (λ z. IsSearching frames calls z × IsFound frames calls root z (Closed i)) (sym e) (q, (f, closed))
