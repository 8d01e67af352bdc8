-- How many words copies take, and computations byte by byte.
use Rattle.std.specs.Prelude.{ℕ, ◌+◌, ◌-◌, ◌%◌, ◌^◌, ◌≤◌, Bool, true, false, if◌then◌else◌, ◌++◌, Option, Some, None}
use Rattle.std.proofs.Common.{arith}
use Rattle.avr_isa.specs.Standing.{widths}
use Rattle.avr_isa.proofs.Standing.{widths-append}
use Rattle.vg_lin.specs.declared.instr.Operand.{Operand}
use Rattle.vg_lin.specs.declared.instr.Operand.TheVariants.{Local, Known}
use Rattle.vg_lin.specs.declared.instr.Operator.{Operator}
use Rattle.vg_lin.specs.declared.instr.Operator.TheVariants.{Plus, Minus, Times, Divide, Remainder, And, Or, Xor, ShiftLeft, ShiftRight}
use Rattle.vg_lin.specs.declared.instr.Computation.{Computation}
use Rattle.vg_templates.specs.Spots.{Spot, InFrame, InRegisters}
use Rattle.vg_templates.specs.Layouts.{Layout, width_of}
use Rattle.vg_templates.specs.Transfers.{known}
use Rattle.vg_templates.specs.Held.{brings, gives}
use Rattle.vg_templates.specs.Homes.{home_of, made_in, settles, clear_home}
use Rattle.vg_templates.specs.Operands.{least, finds, found_in}
use Rattle.vg_templates.specs.Plain.{bytes_in, copies_whole, copies_through, copies_local, copies}
use Rattle.vg_templates.specs.Plain.{operates, works_with, works, is_there, work_home, comes, computes_in, computes}
use Rattle.vg_templates.proofs.Bytes.{bytes_in_few}
use Rattle.vg_templates.proofs.Finding.{found-length, least_less}
use Rattle.vg_instr_words.specs.Words.{IsNarrow, brought_words, found_words, is_inside, work_words, copy_words}
use Rattle.vg_instr_words.proofs.Chains.{known_words, operates_words, takes_words}
use Rattle.vg_instr_words.proofs.Numbers.{bytes_grow}
use Rattle.vg_instr_words.proofs.Operands.{fetch_words, found_grow, brings_words, finds_words, few_bytes, gives_words}
use Rattle.vg_instr_words.proofs.Operands.{settles_words, settled_words}

module _ (l : Layout) (ok : IsNarrow l) where
  -- ---- copies

  copies_through_words : (to k : ℕ) → widths (copies_through l to k) ≤ 14
  copies_through_words to k = by_home (clear_home (l.spots k) (width_of l k) (width_of l to) (home_of l to (width_of l to)))
    where
      by_home : (h : Option ℕ) → widths (brings l (Local k) (made_in h) (width_of l to) ++ settles l to h (width_of l to)) ≤ 14
      by_home h =
          let bring = brings_words l (Local k) (made_in h) (width_of l to) in
          let settle = settles_words l ok to h (width_of l to) in
          let four = few_bytes l ok to in
          let all = widths-append (brings l (Local k) (made_in h) (width_of l to)) (settles l to h (width_of l to)) in
          omega (arith, bring, settle, four, all)

  copies_local_words : (s t : Spot) (to k : ℕ) → widths (copies_local s t l to k) ≤ 14
  copies_local_words (InFrame at) (InRegisters f) to k = let few = gives_words l ok to f (width_of l k) in omega (arith, few)
  copies_local_words (InFrame at) (InFrame from) to k = copies_through_words to k
  copies_local_words (InRegisters r) (InFrame from) to k = copies_through_words to k
  copies_local_words (InRegisters r) (InRegisters f) to k = copies_through_words to k

  pub copies_words : (to : ℕ) (a : Operand) → widths (copies l to a) ≤ copy_words a
  copies_words to (Local k) = copies_local_words (l.spots to) (l.spots k) to k
  copies_words to (Known v) =
      let n = bytes_in (width_of l to) v in
      let few : n ≤ bytes_in 4 v = bytes_grow (width_of l to) 4 v (few_bytes l ok to) in
      let bring = brings_words l (Known v) 22 n in
      let give = gives_words l ok to 22 n in
      let all = widths-append (brings l (Known v) 22 n) (gives l to 22 n) in omega (arith, few, bring, give, all)

  pub copies_whole_words : (to x : ℕ) → widths (copies_whole l to x) ≤ 11
  copies_whole_words to x =
      let w = width_of l to in
      let bring = known_words 22 w x in
      let give = gives_words l ok to 22 w in
      let four = few_bytes l ok to in
      let all = widths-append (known 22 w x) (gives l to 22 w) in omega (arith, bring, give, four, all)

  -- ---- the right operand

  works_with_words : (d : ℕ) (o : Operator) (a : Operand) (n : ℕ) → widths (works_with l d o a n) ≤ found_words a n + n
  works_with_words d o a n =
      let found = finds_words l a 18 n in
      let work = operates_words d o (found_in l a 18 n) in
      let long = found-length l a 18 n in
      let all = widths-append (finds l a 18 n) (operates d o (found_in l a 18 n)) in omega (arith, found, work, long, all)

  works_words : (o : Operator) (a : Operand) (n : ℕ) → widths (works l o a n) ≤ work_words o a n
  works_words Plus (Known y) n = let same = takes_words 22 n (256 ^ n - y % 256 ^ n) in omega (arith, same)
  works_words Minus (Known y) n = let same = takes_words 22 n y in omega (arith, same)
  works_words Plus (Local k) n = works_with_words 22 Plus (Local k) n
  works_words Minus (Local k) n = works_with_words 22 Minus (Local k) n
  works_words Times a n = works_with_words 22 Times a n
  works_words Divide a n = works_with_words 22 Divide a n
  works_words Remainder a n = works_with_words 22 Remainder a n
  works_words And a n = works_with_words 22 And a n
  works_words Or a n = works_with_words 22 Or a n
  works_words Xor a n = works_with_words 22 Xor a n
  works_words ShiftLeft a n = works_with_words 22 ShiftLeft a n
  works_words ShiftRight a n = works_with_words 22 ShiftRight a n

  work_grows : (o : Operator) (a : Operand) (n m : ℕ) → n ≤ m → work_words o a n ≤ work_words o a m
  work_grows o a n m h = by_place (is_inside o a)
    where
      by_place : (b : Bool) → (if b then n else found_words a n + n) ≤ (if b then m else found_words a m + m)
      by_place true = h
      by_place false = let more = found_grow a n m h in omega (arith, more, h)

  -- a known operand that stands in the instructions takes no more words than it has bytes where it is found
  work_most : (o : Operator) (a : Operand) (n : ℕ) → found_words a n ≤ work_words o a n
  work_most Plus (Known y) n = bytes_in_few n y
  work_most Minus (Known y) n = bytes_in_few n y
  work_most Plus (Local k) n = omega arith
  work_most Minus (Local k) n = omega arith
  work_most Times a n = omega arith
  work_most Divide a n = omega arith
  work_most Remainder a n = omega arith
  work_most And a n = omega arith
  work_most Or a n = omega arith
  work_most Xor a n = omega arith
  work_most ShiftLeft a n = omega arith
  work_most ShiftRight a n = omega arith

  comes_words : (b : Bool) (a : Operand) (d n : ℕ) → widths (comes b l a d n) ≤ brought_words a n
  comes_words b (Known x) d n = omega arith
  comes_words true (Local k) d n = omega arith
  comes_words false (Local k) d n = fetch_words (l.spots k) (width_of l k) d n

  -- ---- the whole computation

  in_scratch : (c : Computation) (n : ℕ) → widths (computes_in l c None n) ≤ brought_words c.left n + work_words c.operator c.right n + 7
  in_scratch c n =
      let bring = brings_words l c.left 22 n in
      let work = works_words c.operator c.right n in
      let give = gives_words l ok c.to 22 n in
      let all = widths-append (brings l c.left 22 n) (works l c.operator c.right n ++ gives l c.to 22 n) in
      let behind = widths-append (works l c.operator c.right n) (gives l c.to 22 n) in omega (arith, bring, work, give, all, behind)

  in_home : (c : Computation) (r n : ℕ) → n ≤ width_of l c.to
      → widths (computes_in l c (Some r) n) ≤ brought_words c.left n + work_words c.operator c.right n + 7
  in_home c r n inside =
      let there = is_there l c.left r n in
      let come = comes_words there c.left r n in
      let work = works_with_words r c.operator c.right n in
      let most = work_most c.operator c.right n in
      let settle = settled_words l ok c.to r n inside in
      let all = widths-append (comes there l c.left r n) (works_with l r c.operator c.right n ++ settles l c.to (Some r) n) in
      let behind = widths-append (works_with l r c.operator c.right n) (settles l c.to (Some r) n) in
      omega (arith, come, work, most, settle, all, behind)

  pub computes_words : (c : Computation) → widths (computes l c) ≤ brought_words c.left c.width + work_words c.operator c.right c.width + 7
  computes_words c = by_home (work_home l c n (home_of l c.to n))
    where
      n : ℕ
      n = least c.width (width_of l c.to)

      grown : brought_words c.left n + work_words c.operator c.right n + 7 ≤ brought_words c.left c.width + work_words c.operator c.right c.width + 7
      grown =
          let less = (least_less c.width (width_of l c.to)).0 in
          let more = work_grows c.operator c.right n c.width less in omega (arith, less, more)

      by_home : (h : Option ℕ) → widths (computes_in l c h n) ≤ brought_words c.left c.width + work_words c.operator c.right c.width + 7
      by_home None = let few = in_scratch c n in let more = grown in omega (arith, few, more)
      by_home (Some r) = let few = in_home c r n (least_less c.width (width_of l c.to)).1 in let more = grown in omega (arith, few, more)
