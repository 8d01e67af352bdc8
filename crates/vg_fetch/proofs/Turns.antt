-- How a row of one or two requests went.
use Rattle.std.proofs.Common.{◌≡◌, ℕ, ◌≤◌, ◌<◌, List, [], ◌∷◌, ◌++◌, length, map, take, drop, Option, Some, None, refl, sym, ap, ◌∙◌, subst, arith, append-nil}
use Rattle.std.proofs.Math.Seq.{drop-append_seam, drop-length}
use Rattle.std.proofs.lemmas.List.{append_assoc}
use Rattle.vg_io.specs.declared.asked.Asked.{Asked}
use Rattle.vg_fetch.specs.Asking.{AreGivenButLast, Fetched, HasFailed, HasPassedLimit, Request, gained, last_of, request_of}
use Rattle.vg_fetch.specs.Outcomes.{OutcomeOf}
use Rattle.vg_fetch.specs.declared.fetch.NoFile.{NoFile}
use Rattle.vg_fetch.specs.declared.fetch.NoFile.TheVariants.{Failed, Wanting, Long}

-- how a row of requests went, said of the fetches that were gained
pub record Went (reason : Option NoFile) (g : List Asked) (requests : List Request) : Type 0 where
  pub count : ℕ
  pub front : map request_of g ≡ take count requests
  pub in_turn : AreGivenButLast g
  pub all : reason ≡ None → map request_of g ≡ requests
  pub failed : reason ≡ Some Failed → HasFailed (last_of g)
  pub passed : reason ≡ Some Long → HasPassedLimit (last_of g)
  pub only : HasPassedLimit (last_of g) → reason ≡ Some Long

fetched_row : (reason : Option NoFile) (old new g : List Asked) (requests : List Request) → new ≡ old ++ g → gained old new ≡ g → Went reason g requests
    → Fetched reason old new requests
fetched_row reason old new g requests e same row =
    let keeps : new ≡ old ++ gained old new = e ∙ ap (λ xs. old ++ xs) (sym same) in
    let at = λ (P : List Asked → Type 0) (h : P g). subst P (sym same) h in
    record {
      asks = record {
        keeps = keeps;
        count = row.count;
        front = at (λ x. map request_of x ≡ take row.count requests) row.front;
        in_turn = at AreGivenButLast row.in_turn;
      };
      all = λ n. record { keeps = keeps; all = at (λ x. map request_of x ≡ requests) (row.all n) };
      failed = λ f. at (λ x. HasFailed (last_of x)) (row.failed f);
      passed = λ l. at (λ x. HasPassedLimit (last_of x)) (row.passed l);
      only = λ p. row.only (subst (λ x. HasPassedLimit (last_of x)) same p);
    }

-- fetches came behind the old ones
fetched_behind : (reason : Option NoFile) (old new g : List Asked) (requests : List Request) → new ≡ old ++ g → Went reason g requests
    → Fetched reason old new requests
fetched_behind reason old new g requests e row =
    fetched_row reason old new g requests e (ap (drop (length old)) e ∙ drop-append_seam old g) row

-- none came
fetched_none : (reason : Option NoFile) (old new : List Asked) (requests : List Request) → new ≡ old → Went reason [] requests → Fetched reason old new requests
fetched_none reason old new requests e row =
    fetched_row reason old new [] requests (e ∙ sym (append-nil old)) (ap (drop (length old)) e ∙ drop-length old) row

none_wanting : (requests : List Request) → Went (Some Wanting) [] requests
none_wanting requests = record { count = 0; front = refl; in_turn = tt; all = λ n. cc; failed = λ f. cc; passed = λ l. cc; only = λ p. absurd p }

-- a first file that is missing
pub first_missing : (reason : NoFile) (old new : List Asked) (name : List ℕ) (limit : ℕ) (behind : List Request)
    → OutcomeOf (Some reason) old new name limit → Fetched (Some reason) old new (record { name = name; limit = limit } ∷ behind)
first_missing Failed old new name limit behind e =
    fetched_behind _ old new _ _ e (record { count = 1; front = refl; in_turn = tt; all = λ n. cc; failed = λ f. refl; passed = λ l. cc; only = λ p. absurd p })
first_missing Wanting old new name limit behind e =
    fetched_none _ old new _ e (none_wanting _)
first_missing Long old new name limit behind (n, long, e) =
    fetched_behind _ old new _ _ e (record { count = 1; front = refl; in_turn = tt; all = λ n. cc; failed = λ f. cc; passed = λ l. long; only = λ p. refl })

not_above : (n limit : ℕ) → n ≤ limit → limit < n → ⊥
not_above n limit le lt = omega (arith, le, lt)

-- a file that is all
one_given : (old new : List Asked) (name : List ℕ) (limit : ℕ) → OutcomeOf None old new name limit
    → Fetched None old new (record { name = name; limit = limit } ∷ [])
one_given old new name limit (n, short, e) =
    fetched_behind _ old new _ _ e
    (record { count = 1; front = refl; in_turn = tt; all = λ n. refl; failed = λ f. cc; passed = λ l. cc; only = λ p. absurd (not_above n limit short p) })

-- a file that is all, or missing
pub one_fetched : (reason : Option NoFile) (old new : List Asked) (name : List ℕ) (limit : ℕ) → OutcomeOf reason old new name limit
    → Fetched reason old new (record { name = name; limit = limit } ∷ [])
one_fetched None old new name limit h = one_given old new name limit h
one_fetched (Some reason) old new name limit h = first_missing reason old new name limit [] h

both : (old mid new a b : List Asked) → mid ≡ old ++ a → new ≡ mid ++ b → new ≡ old ++ (a ++ b)
both old mid new a b e f = f ∙ ap (λ x. x ++ b) e ∙ append_assoc old a b

-- a second file behind one that was given
pub second_missing : (reason : NoFile) (old mid new : List Asked) (first second : List ℕ) (limit bound : ℕ) → OutcomeOf None old mid first limit
    → OutcomeOf (Some reason) mid new second bound
    → Fetched (Some reason) old new (record { name = first; limit = limit } ∷ record { name = second; limit = bound } ∷ [])
second_missing Failed old mid new first second limit bound (m, within, e) f =
    fetched_behind _ old new _ _ (both old mid new _ _ e f)
    (record { count = 2; front = refl; in_turn = (within, tt); all = λ n. cc; failed = λ f. refl; passed = λ l. cc; only = λ p. absurd p })
second_missing Wanting old mid new first second limit bound (m, within, e) f =
    fetched_behind _ old new _ _ (f ∙ e)
    (record { count = 1; front = refl; in_turn = tt; all = λ n. cc; failed = λ f. cc; passed = λ l. cc; only = λ p. absurd (not_above m limit within p) })
second_missing Long old mid new first second limit bound (m, within, e) (n, long, f) =
    fetched_behind _ old new _ _ (both old mid new _ _ e f)
    (record { count = 2; front = refl; in_turn = (within, tt); all = λ n. cc; failed = λ f. cc; passed = λ l. long; only = λ p. refl })

pub two_given : (old mid new : List Asked) (first second : List ℕ) (limit bound : ℕ) → OutcomeOf None old mid first limit → OutcomeOf None mid new second bound
    → Fetched None old new (record { name = first; limit = limit } ∷ record { name = second; limit = bound } ∷ [])
two_given old mid new first second limit bound (m, within, e) (n, short, f) =
    fetched_behind _ old new _ _ (both old mid new _ _ e f)
    (record {
      count = 2;
      front = refl;
      in_turn = (within, tt);
      all = λ n. refl;
      failed = λ f. cc;
      passed = λ l. cc;
      only = λ p. absurd (not_above n bound short p);
    })
