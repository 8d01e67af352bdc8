-- What was put between moments.
use Rattle.std.proofs.Common.{◌≡◌, ℕ, ◌-◌, ◌≤◌, inl, inr, Bool, true, false, List, length, take, drop, Option, sym, subst, arith}
use Rattle.std.proofs.lemmas.List.{take_all}
use Rattle.vg_io.specs.Count.{Rose}
use Rattle.vg_io.specs.Piece.{AppendsAll, AppendsFront}
use Rattle.vg_meaning.specs.declared.event.Event.{Event}
use Rattle.vg_meaning_laws.specs.Grows.{Extends}
use Rattle.vg_meaning_laws.proofs.Grows.{extends_trans}
use Rattle.vg_outlet.specs.Lines.{lines}
use Rattle.vg_outlet.specs.Puts.{Moment, put_since, IsPut, PutsOf}
use Rattle.vg_outlet.proofs.Told.{all_of_none}
use Rattle.vg_outlet.proofs.Putting.{puts_on, puts_fail, puts_front}

-- nothing was put
pub puts_none : (m : Moment) (t : List Event) → PutsOf m m t
puts_none m t = record { holds = λ told faults whole g h. h }

-- what was put before and behind a moment
pub puts_both : (m n o : Moment) (t : List Event) → PutsOf m n t → PutsOf n o t → PutsOf m o t
puts_both m n o t h k = record { holds = λ told faults whole g i. k.holds told faults whole g (h.holds told faults whole g i) }

-- what was put of a trace was put of a longer one
pub puts_longer : (m n : Moment) (t u : List Event) → PutsOf m n t → Extends t u → PutsOf m n u
puts_longer m n t u h e = record { holds = λ told faults whole g i. h.holds told faults whole (extends_trans t u whole e g) i }

-- a count rose since an earlier moment
rose_since : (a b c : ℕ) → a ≤ b → Rose b c → Rose a c
rose_since a b c h (inl k) = inl (omega (arith, h, k))
rose_since a b c h (inr k) = inr k

module _ (a b : Option (List ℕ)) (f g put end : ℕ) (events : List Event) (order : put ≤ end) (within : end ≤ length events) (later : f ≤ g) where
  no_less : (n : ℕ) → n ≤ f → n ≤ g
  no_less n h = omega (arith, h, later)

  -- one put
  pub puts_chunk : (failed : Bool) → failed ≡ false → AppendsAll a b (lines (take (end - put) (drop put events)))
      → PutsOf (record { told = a; faults = f; put = put; failed = failed }) (record { told = b; faults = g; put = end; failed = failed }) events
  puts_chunk true e k = cc
  puts_chunk false e k = record {
    holds = λ told faults whole e i. (puts_on put end events whole told a b order within e i.0 k, no_less faults i.1);
  }

  -- one put that failed
  pub fails_chunk : (failed : Bool) → failed ≡ false → AppendsFront a b (lines (take (end - put) (drop put events))) → Rose f g
      → PutsOf (record { told = a; faults = f; put = put; failed = failed }) (record { told = b; faults = g; put = put; failed = true }) events
  fails_chunk true e k rose = cc
  fails_chunk false e k rose = record {
    holds = λ told faults whole e i. (puts_fail put end events whole told a b order within e i.0 k, rose_since faults f g i.1 rose, no_less faults i.1);
  }

-- at the first moment
pub put_first : (a : Option (List ℕ)) (f put : ℕ) (failed : Bool) (t : List Event) → put ≡ 0 → failed ≡ false
    → IsPut a f (record { told = a; faults = f; put = put; failed = failed }) t
put_first a f put true t e k = cc
put_first a f put false t e k = (subst (λ n. AppendsAll a a (lines (take n t))) (sym e) (all_of_none a), omega arith)

front_since : (b : Bool) (a : Option (List ℕ)) (f : ℕ) (m : Moment) (t : List Event) → put_since b a f m t → AppendsFront a m.told (lines t)
front_since false a f m t is = puts_front m.put t a m.told is.0
front_since true a f m t is = is.0

later_since : (b : Bool) (a : Option (List ℕ)) (f : ℕ) (m : Moment) (t : List Event) → put_since b a f m t → f ≤ m.faults
later_since false a f m t is = is.1
later_since true a f m t is = is.2

module _ (a : Option (List ℕ)) (f : ℕ) (m : Moment) (t : List Event) (is : IsPut a f m t) where
  -- what was put is a front of the lines in each case
  pub put_front : AppendsFront a m.told (lines t)
  put_front = front_since m.failed a f m t is

  -- the count of faults does not fall
  pub put_later : f ≤ m.faults
  put_later = later_since m.failed a f m t is

  -- a put has failed
  pub put_failed : m.failed ≡ true → Rose f m.faults
  put_failed e = (subst (λ b. put_since b a f m t) e is).1

  -- all was put
  pub put_whole : m.failed ≡ false → length t ≤ m.put → AppendsAll a m.told (lines t)
  put_whole e h = subst (λ es. AppendsAll a m.told (lines es)) (take_all m.put t h) (subst (λ b. put_since b a f m t) e is).0

pub ruleset between = (puts_none, puts_both)
