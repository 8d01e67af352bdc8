-- Loads and stores by X.
use Rattle.std.proofs.Common.{◌≡◌, ◌≢◌, ℕ, zero, suc, ◌+◌, ◌-◌, ◌*◌, ◌/◌, ◌%◌, ◌^◌, ◌<◌, ◌≤◌, ◌⊎◌, inl, inr, List, [], ◌∷◌, ◌++◌}
use Rattle.std.proofs.Common.{Bool, true, false, ◌==◌, nat_le, if◌then◌else◌}
use Rattle.std.proofs.Common.{length, Option, Some, None, refl, sym, ap, ◌∙◌, subst, arith, slice_get, slice_index, slice_set}
use Rattle.std.proofs.lemmas.List.{length-set}
use Rattle.avr_instr.specs.declared.instr.Instr.{Instr}
use Rattle.avr_instr.specs.declared.instr.Instr.TheVariants.{LdXPlus, Lds, Sbci, StXPlus, Sts, Subi}
use Rattle.vg_lin.specs.declared.instr.Operand.{Operand}
use Rattle.vg_lin.specs.declared.instr.Operand.TheVariants.{Local, Known}
use Rattle.vg_lin.specs.Steps.{Frame}
use Rattle.vg_lin.specs.State.{State, value, sets, joined, number_at, with_number}
use Rattle.avr_view.specs.Memory.{InStatic}
use Rattle.avr_view.specs.Registers.{Regs, pair, put, put_next, does_all}
use Rattle.avr_view.specs.Run.{Run}
use Rattle.avr_view.specs.View.{View}
use Rattle.avr_view.proofs.MemorySteps.{goes_lds, goes_ldx_after, goes_sts, goes_stx_after}
use Rattle.vg_templates.specs.Spots.{number, read, written}
use Rattle.vg_templates.specs.Layouts.{IsLayout, IsOwned}
use Rattle.vg_templates.specs.Frames.{Places}
use Rattle.vg_templates.proofs.Linking.{borrowed}
use Rattle.vg_templates.proofs.Numbers.{cut, put_other, put_same}
use Rattle.vg_templates.specs.Pieces.{Takes}
use Rattle.vg_templates.specs.Transfers.{known}
use Rattle.vg_templates.specs.Transferred.{Fetched}
use Rattle.vg_templates.specs.Held.{Held, IsReady, IsSet, brings, Brought}
use Rattle.vg_templates.specs.Homes.{home_of, made_in, settles, IsHome}
use Rattle.vg_templates.proofs.Composing.{takes_none, takes_then, takes_next, takes_wider, takes_bytes, takes_plain}
use Rattle.vg_templates.proofs.Holding.{held_scratch, takes_brings}
use Rattle.vg_templates.proofs.Settling.{home_is, made_low, takes_settles}
use Rattle.vg_templates.proofs.Accessing.{written_digits}
use Rattle.vg_templates.proofs.Spotting.{takes_known}
use Rattle.vg_templates.specs.Numbers.{number_in, AreBeside}
use Rattle.vg_templates.specs.Operands.{finds, found_in}
use Rattle.vg_templates.specs.Outcomes.{Found, Lies, IsKept}
use Rattle.vg_templates.proofs.Finding.{found-length, found-beside, takes_finds}
use Rattle.vg_templates.proofs.Storing.{held_fewer}
use Rattle.vg_templates.specs.Accesses.{plus_base, points_x, loads_x, stores_x, loads_at, stores_at, points_by, loads_by, stores_by, loads_column, stores_column}

-- registers that X and a block may have changed; all others are as they were
abbrev Outside : (d n x : ℕ) → Type 0
Outside d n x = ((x < 26) ⊎ (28 ≤ x)) × ((x < d) ⊎ (d + n ≤ x))

record Loaded (d n value : ℕ) (old new : View) : Type 0 where
  pub others : (x : ℕ) → Outside d n x → new.regs.of x ≡ old.regs.of x
  pub holds : number new.regs d n ≡ value
  pub same : new ≡ record old { regs = new.regs }

next_other : (g : Regs) (d b x : ℕ) → x ≢ 26 → x ≢ 27 → x ≢ d → (put_next (put g d b) 26).of x ≡ g.of x
next_other g d b x p q r = put_other (put (put g d b) 26 _) 27 _ x q ∙ put_other (put g d b) 26 _ x p ∙ put_other g d b x r

next_here : (g : Regs) (d b : ℕ) → d < 26 → (put_next (put g d b) 26).of d ≡ b
next_here g d b h =
    put_other (put (put g d b) 26 _) 27 _ d (let ne : d ≢ 27 = omega arith in ne) ∙ put_other (put g d b) 26 _ d (let ne : d ≢ 26 = omega arith in ne) ∙ put_same g d b

next_pointer : (g : Regs) (d b p : ℕ) → d < 26 → pair g 26 ≡ p → p + 1 < 65536 → pair (put_next (put g d b) 26) 26 ≡ p + 1
next_pointer g d b p h e low =
    let one = put_other g d b 26 (let ne : 26 ≢ d = omega arith in ne) in
    let two = put_other g d b 27 (let ne : 27 ≢ d = omega arith in ne) in
    let same : pair (put g d b) 26 ≡ p = omega (arith, one, two, e) in
    let value : (pair (put g d b) 26 + 1) % 65536 ≡ p + 1 = omega (arith, same) in
    let parts : (p + 1) % 256 + 256 * ((p + 1) / 256) ≡ p + 1 = omega arith in
    ap (λ v. v % 256 + 256 * (v / 256)) value ∙ parts

-- bytes of the static area hold what was in registers
record Stored (rs : List ℕ) (j : ℕ) (old new : View) : Type 0 where
  pub others : (x : ℕ) → (x < 26) ⊎ (28 ≤ x) → new.regs.of x ≡ old.regs.of x
  pub same : new ≡ record old { regs = new.regs; static = written old.static j (length rs) (number_in old.regs rs) }

next_past : (g : Regs) (x : ℕ) → (x < 26) ⊎ (28 ≤ x) → (put_next g 26).of x ≡ g.of x
next_past g x (inl h) = put_other (put g 26 _) 27 _ x (let ne : x ≢ 27 = omega arith in ne) ∙ put_other g 26 _ x (let ne : x ≢ 26 = omega arith in ne)
next_past g x (inr h) = put_other (put g 26 _) 27 _ x (let ne : x ≢ 27 = omega arith in ne) ∙ put_other g 26 _ x (let ne : x ≢ 26 = omega arith in ne)

moved_pointer : (g : Regs) (p : ℕ) → pair g 26 ≡ p → p + 1 < 65536 → pair (put_next g 26) 26 ≡ p + 1
moved_pointer g p e low =
    let value : (pair g 26 + 1) % 65536 ≡ p + 1 = omega (arith, e) in
    let parts : (p + 1) % 256 + 256 * ((p + 1) / 256) ≡ p + 1 = omega arith in
    ap (λ v. v % 256 + 256 * (v / 256)) value ∙ parts

number_still : (g : Regs) (rs : List ℕ) → AreBeside 26 28 rs → number_in (put_next g 26) rs ≡ number_in g rs
number_still g [] k = refl
number_still g (r ∷ rs) (here, more) = let one = next_past g r here.0 in let rest = number_still g rs more in omega (arith, one, rest)

-- a number is cut where it is written
written_cut : (l : List ℕ) (at w y : ℕ) → written l at w (y % 256 ^ w) ≡ written l at w y
written_cut l at zero y = refl
written_cut l at (suc w) y =
    let a = y % 256 in
    let b = y / 256 % 256 ^ w in
    let whole : a + 256 * b ≡ y % 256 ^ suc w = cut y w a b refl refl in
    ap (written l at (suc w)) (sym whole) ∙ sym (written_digits l at w a b (omega arith)) ∙ written_cut (slice_set l at a) (suc at) w (y / 256)

same_writing : (l : List ℕ) (w at y : ℕ) → written l at w y ≡ with_number l w at y
same_writing l zero at y = refl
same_writing l (suc w) at y = same_writing (slice_set l at (y % 256)) w (suc at) (y / 256)

module _ (e : Run) (deep : Type 0) where
  takes_loads_x : (d n j : ℕ) (v : View) → d + n ≤ 26 → pair v.regs 26 ≡ 0x100 + j → j + n ≤ length v.static → length v.static ≤ 4096
      → Takes e deep v (loads_x d n) (Loaded d n (read v.static j n) v)
  takes_loads_x d zero j v top at inside size = takes_none e deep v (Loaded d 0 0 v) (record { others = λ x h. refl; holds = refl; same = refl })
  takes_loads_x d (suc n) j v top at inside size =
      let b = slice_index v.static j in
      let u : View = record v { regs = put_next (put v.regs d b) 26 } in
      let rest = loads_x (suc d) n in
      let goal = Loaded d (suc n) (b + 256 * read v.static (suc j) n) v in
      let pointer : pair u.regs 26 ≡ 0x100 + suc j =
      next_pointer v.regs d b (0x100 + j) (omega arith) at (omega arith) ∙ (let e1 : 0x100 + j + 1 ≡ 0x100 + suc j = omega arith in e1) in
      takes_next e deep v u (LdXPlus d) rest goal (λ pc s stand room a. goes_ldx_after e deep pc v s a d (InStatic j) stand room (omega arith, at))
      (takes_wider e deep u rest (Loaded (suc d) n (read v.static (suc j) n) u) goal
      (λ t k.
      let first : t.regs.of d ≡ b = k.others d (inl (omega arith), inl (omega arith)) ∙ next_here v.regs d b (omega arith) in
      let more = k.holds in
      record {
        others = λ x h. k.others x (h.0, wider d n x h.1) ∙ next_other v.regs d b x (not_x x h.0).0 (not_x x h.0).1 (not_d d n x h.1);
        holds = omega (arith, first, more);
        same = k.same;
      })
      (takes_loads_x (suc d) n (suc j) u (omega arith) pointer (omega arith) size))
    where
      wider : (d n x : ℕ) → (x < d) ⊎ (d + suc n ≤ x) → (x < suc d) ⊎ (suc d + n ≤ x)
      wider d n x (inl h) = inl (omega arith)
      wider d n x (inr h) = inr (omega arith)

      not_d : (d n x : ℕ) → (x < d) ⊎ (d + suc n ≤ x) → x ≢ d
      not_d d n x (inl h) = omega arith
      not_d d n x (inr h) = omega arith

      not_x : (x : ℕ) → (x < 26) ⊎ (28 ≤ x) → (x ≢ 26) × (x ≢ 27)
      not_x x (inl h) = (let ne : x ≢ 26 = omega arith in ne, let ne : x ≢ 27 = omega arith in ne)
      not_x x (inr h) = (let ne : x ≢ 26 = omega arith in ne, let ne : x ≢ 27 = omega arith in ne)

  -- bytes go to the static area
  takes_stores_x : (rs : List ℕ) (j : ℕ) (v : View) → AreBeside 26 28 rs → pair v.regs 26 ≡ 0x100 + j → j + length rs ≤ length v.static
      → length v.static ≤ 4096 → Takes e deep v (stores_x rs) (Stored rs j v)
  takes_stores_x [] j v beside at inside size = takes_none e deep v (Stored [] j v) (record { others = λ x h. refl; same = refl })
  takes_stores_x (r ∷ rs) j v (here, more) at inside size =
      let b = v.regs.of r in
      let u : View = record v { regs = put_next v.regs 26; static = slice_set v.static j b } in
      let rest = stores_x rs in
      let n = length rs in
      let value = number_in v.regs rs in
      let goal = Stored (r ∷ rs) j v in
      let long = length-set v.static j b in
      let pointer : pair u.regs 26 ≡ 0x100 + suc j = moved_pointer v.regs (0x100 + j) at (omega arith) ∙ (let e1 : 0x100 + j + 1 ≡ 0x100 + suc j = omega arith in e1) in
      let still : number_in u.regs rs ≡ value = number_still v.regs rs more in
      takes_bytes e deep v (StXPlus r ∷ rest) goal
      (λ bytes. takes_next e deep v u (StXPlus r) rest goal
      (λ pc s stand room a. goes_stx_after e deep pc v s a r (InStatic j) stand room (omega arith, at))
      (takes_wider e deep u rest (Stored rs (suc j) u) goal
      (λ t k. record {
        others = λ x h. k.others x h ∙ next_past v.regs x h;
        same =
            k.same
            ∙ ap (λ z. record v { regs = t.regs; static = written (slice_set v.static j b) (suc j) n z }) still
            ∙ ap (λ z. record v { regs = t.regs; static = z }) (written_digits v.static j n b value (bytes r here.1));
      })
      (takes_stores_x rs (suc j) u more pointer (omega (arith, long)) (omega (arith, long)))))

-- at addresses that the instructions have
module _ (e : Run) (deep : Type 0) where
  takes_loads_at : (d n j a : ℕ) (v : View) → d + n ≤ 26 → a ≡ 0x100 + j → j + n ≤ length v.static → length v.static ≤ 4096
      → Takes e deep v (loads_at d n a) (Loaded d n (read v.static j n) v)
  takes_loads_at d zero j a v top at inside size = takes_none e deep v (Loaded d 0 0 v) (record { others = λ x h. refl; holds = refl; same = refl })
  takes_loads_at d (suc n) j a v top at inside size =
      let b = slice_index v.static j in
      let u : View = record v { regs = put v.regs d b } in
      let rest = loads_at (suc d) n (suc a) in
      let goal = Loaded d (suc n) (b + 256 * read v.static (suc j) n) v in
      let low : a % 65536 ≡ 0x100 + j = omega (arith, at, inside, size) in
      takes_next e deep v u (Lds d (a % 65536)) rest goal
      (λ pc s stand room k. goes_lds e deep pc v s k d (a % 65536) (InStatic j) stand room (omega (arith, inside), low))
      (takes_wider e deep u rest (Loaded (suc d) n (read v.static (suc j) n) u) goal
      (λ t k.
      let first : t.regs.of d ≡ b = k.others d (inl (omega arith), inl (omega arith)) ∙ put_same v.regs d b in
      let more = k.holds in
      record {
        others = λ x h. k.others x (h.0, wider d n x h.1) ∙ put_other v.regs d b x (not_d d n x h.1);
        holds = omega (arith, first, more);
        same = k.same;
      })
      (takes_loads_at (suc d) n (suc j) (suc a) u (omega arith) (omega (arith, at)) (omega (arith, inside)) size))
    where
      wider : (d n x : ℕ) → (x < d) ⊎ (d + suc n ≤ x) → (x < suc d) ⊎ (suc d + n ≤ x)
      wider d n x (inl h) = inl (omega arith)
      wider d n x (inr h) = inr (omega arith)

      not_d : (d n x : ℕ) → (x < d) ⊎ (d + suc n ≤ x) → x ≢ d
      not_d d n x (inl h) = omega arith
      not_d d n x (inr h) = omega arith

  takes_stores_at : (rs : List ℕ) (j a : ℕ) (v : View) → AreBeside 26 28 rs → a ≡ 0x100 + j → j + length rs ≤ length v.static
      → length v.static ≤ 4096 → Takes e deep v (stores_at rs a) (Stored rs j v)
  takes_stores_at [] j a v beside at inside size = takes_none e deep v (Stored [] j v) (record { others = λ x h. refl; same = refl })
  takes_stores_at (r ∷ rs) j a v (here, more) at inside size =
      let b = v.regs.of r in
      let u : View = record v { static = slice_set v.static j b } in
      let rest = stores_at rs (suc a) in
      let n = length rs in
      let value = number_in v.regs rs in
      let goal = Stored (r ∷ rs) j v in
      let long = length-set v.static j b in
      let low : a % 65536 ≡ 0x100 + j = omega (arith, at, inside, size) in
      takes_bytes e deep v (Sts (a % 65536) r ∷ rest) goal
      (λ bytes. takes_next e deep v u (Sts (a % 65536) r) rest goal
      (λ pc s stand room k. goes_sts e deep pc v s k (a % 65536) r (InStatic j) stand room (omega (arith, inside), low))
      (takes_wider e deep u rest (Stored rs (suc j) u) goal
      (λ t k. record {
        others = k.others;
        same = k.same ∙ ap (λ z. record v { regs = t.regs; static = z }) (written_digits v.static j n b value (bytes r here.1));
      })
      (takes_stores_at rs (suc j) (suc a) u more (omega (arith, at)) (omega (arith, inside, long)) (omega (arith, size, long)))))

-- what linear code reads of the columns is there
some_same : (x y : ℕ) → Some x ≡ Some y → x ≡ y
some_same x y e = cc

pub record There (bytes : List ℕ) (w i x : ℕ) : Type 0 where
  pub inside : i + w ≤ length bytes
  pub value : read bytes i w ≡ x

get_there : (bytes : List ℕ) (i : ℕ) (o : Option ℕ) → slice_get bytes i ≡ o → (b : ℕ) → o ≡ Some b → (i < length bytes) × (slice_index bytes i ≡ b)
get_there [] i o e b f = absurd (let clash : None ≡ Some b = e ∙ f in cc)
get_there (x ∷ xs) zero o e b f = (omega arith, some_same x b (e ∙ f))
get_there (x ∷ xs) (suc i) o e b f = let k = get_there xs i o e b f in (omega (arith, k.0), k.1)

joined_there : (a r : Option ℕ) (x : ℕ) → joined a r ≡ Some x → (b : ℕ) × ((c : ℕ) × ((a ≡ Some b) × (r ≡ Some c) × (b + 256 * c ≡ x)))
joined_there (Some b) (Some c) x e = (b, (c, (refl, refl, some_same _ x e)))
joined_there (Some b) None x e = absurd (let clash : None ≡ Some x = e in cc)
joined_there None r x e = absurd (let clash : None ≡ Some x = e in cc)

number_there : (bytes : List ℕ) (w i x : ℕ) → i ≤ length bytes → number_at bytes w i ≡ Some x → There bytes w i x
number_there bytes zero i x h e = record { inside = omega arith; value = some_same 0 x e }
number_there bytes (suc w) i x h e =
    let (b, (c, (first, rest, sum))) = joined_there (slice_get bytes i) (number_at bytes w (suc i)) x e in
    let here = get_there bytes i (slice_get bytes i) refl b first in
    let low = here.0 in
    let value = here.1 in
    let more = number_there bytes w (suc i) c (omega arith) rest in
    let inside = more.inside in
    let tail = more.value in
    record { inside = omega arith; value = omega (arith, value, tail, sum) }

pub some_there : (bytes : List ℕ) (w i x : ℕ) → 0 < w → number_at bytes w i ≡ Some x → There bytes w i x
some_there bytes zero i x some e = absurd (omega arith)
some_there bytes (suc w) i x some e =
    let (b, (c, (first, rest, sum))) = joined_there (slice_get bytes i) (number_at bytes w (suc i)) x e in
    let here = get_there bytes i (slice_get bytes i) refl b first in
    let low = here.0 in
    number_there bytes (suc w) i x (omega arith) e

-- ---- the pointer

record Pointed (i : Places) (m : ℕ) (live : ℕ → Bool) (s : State) (frames : List (Frame State)) (address : ℕ) (old new : View) : Type 0 where
  pub held : Held i m live s frames new
  pub pointer : pair new.regs 26 ≡ address
  pub same : new ≡ record old { regs = new.regs }

module _ (i : Places) (ok : (m : ℕ) → IsLayout (i.layouts m)) (m : ℕ) (frames : List (Frame State)) (e : Run) (deep : Type 0) where
  takes_size : (v : View) (is : List Instr) (K : View → Type 0) → (length v.static ≤ 4096 → Takes e deep v is K) → Takes e deep v is K
  takes_size v is K h pc s stand room a = h (let size = a.memory.size in omega (arith, size)) pc s stand room a

  by_x : (live : ℕ → Bool) (s : State) (v u : View) → ((x : ℕ) → x < 18 → u.regs.of x ≡ v.regs.of x) → ((x : ℕ) → 28 ≤ x → x < 30 → u.regs.of x ≡ v.regs.of x)
      → u ≡ record v { regs = u.regs } → Held i m live s frames v → Held i m live s frames u
  by_x live s v u below above same k = held_scratch i ok m frames live s v u same agree (below 1 (omega arith)) k
    where
      agree : (r : ℕ) → IsOwned r → u.regs.of r ≡ v.regs.of r
      agree r (inl h) = below r h.1
      agree r (inr h) = above r h.0 h.1

  -- other columns
  held_ram : (live : ℕ → Bool) (s : State) (ram : List ℕ) (v : View) → Held i m live s frames v
      → Held i m live (record s { ram = ram }) frames (record v { static = ram })
  held_ram live s ram v k =
      let t = k.stacked in
      record {
        stacked =
            record {
              wait = t.wait;
              own = t.own;
              under = t.under;
              cut = t.cut;
              points = t.points;
              waits = t.waits;
              fits = record { each = t.fits.each; widths = t.fits.widths; long = t.fits.long };
              callers = t.callers;
            };
        r1 = k.r1;
        ram = refl;
      }

  takes_some : (live : ℕ → Bool) (s : State) (base x : ℕ) (v : View) → 0 < base → base + x < 65536 → pair v.regs 26 ≡ x → Held i m live s frames v
      → Takes e deep v (Subi 26 ((65536 - base) % 256) ∷ Sbci 27 ((65536 - base) / 256) ∷ []) (Pointed i m live s frames (base + x) v)
  takes_some live s base x v some room at k =
      let is = Subi 26 ((65536 - base) % 256) ∷ Sbci 27 ((65536 - base) / 256) ∷ [] in
      let u : View = record v { regs = does_all e.flash is v.regs } in
      let goal = Pointed i m live s frames (base + x) v in
      takes_bytes e deep v is goal
      (λ bytes. takes_wider e deep v is (λ t. t ≡ u) goal (λ t put. subst goal (sym put) (pointed (bytes 26 (omega arith)) (bytes 27 (omega arith))))
      (takes_plain e deep v is (tt, (tt, tt))))
    where
      pointed : v.regs.of 26 < 256 → v.regs.of 27 < 256
          → Pointed i m live s frames (base + x) v
          (record v { regs = does_all e.flash (Subi 26 ((65536 - base) % 256) ∷ Sbci 27 ((65536 - base) / 256) ∷ []) v.regs })
      pointed a b =
          let sum = borrowed (v.regs.of 26) (v.regs.of 27) (65536 - base) a b (omega arith) in
          record {
            held =
                by_x live s v
                (record v { regs = does_all e.flash (Subi 26 ((65536 - base) % 256) ∷ Sbci 27 ((65536 - base) / 256) ∷ []) v.regs })
                (λ r low. put_other (put v.regs 26 _) 27 _ r (omega arith) ∙ put_other v.regs 26 _ r (omega arith))
                (λ r low high. put_other (put v.regs 26 _) 27 _ r (omega arith) ∙ put_other v.regs 26 _ r (omega arith)) refl k;
            pointer = omega (arith, sum, at);
            same = refl;
          }

  takes_base : (live : ℕ → Bool) (s : State) (base x : ℕ) (v : View) → base + x < 65536 → pair v.regs 26 ≡ x → Held i m live s frames v
      → Takes e deep v (plus_base 26 base) (Pointed i m live s frames (base + x) v)
  takes_base live s base x v room at k = by_test (base == 0) refl
    where
      by_test : (b : Bool) → (base == 0) ≡ b
          → Takes e deep v (if b then [] else Subi 26 ((65536 - base) % 256) ∷ Sbci 27 ((65536 - base) / 256) ∷ []) (Pointed i m live s frames (base + x) v)
      by_test true q =
          let none : base ≡ 0 = grind (arith, q) in
          takes_none e deep v (Pointed i m live s frames (base + x) v) (record { held = k; pointer = omega (arith, at, none); same = refl })
      by_test false q = let some : 0 < base = grind (arith, q) in takes_some live s base x v some room at k

  takes_points : (live : ℕ → Bool) (s : State) (base x : ℕ) (a : Operand) (v : View) → base + x < 65536 → IsReady (i.layouts m) live a
      → value a s ≡ Some x → Held i m live s frames v → Takes e deep v (points_x (i.layouts m) base a) (Pointed i m live s frames (base + x) v)
  takes_points live s base x (Known y) v room ready got k =
      let same : y ≡ x = some_same y x got in
      takes_wider e deep v (known 26 2 (base + y)) (Fetched 26 2 (base + y) v) (Pointed i m live s frames (base + x) v)
      (λ u f.
      let holds = f.holds in
      record {
        held =
            by_x live s v u (λ r low. f.others r (omega arith) (inl (omega arith))) (λ r low high. f.others r high (inr (omega arith))) f.same k;
        pointer = omega (arith, holds, same);
        same = f.same;
      })
      (takes_known e deep 26 2 (base + y) v)
  takes_points live s base x (Local j) v room ready got k =
      let l = i.layouts m in
      let js = plus_base 26 base in
      let goal = Pointed i m live s frames (base + x) v in
      takes_then e deep v (brings l (Local j) 26 2) js (Brought i m live s frames 26 2 x v) goal
      (takes_brings i ok m frames e deep live s (Local j) 26 2 x v ready got (omega arith) (omega arith) k)
      (λ u b.
      let holds = b.fetched.holds in
      takes_wider e deep u js (Pointed i m live s frames (base + x) u) goal
      (λ t p. record { held = p.held; pointer = p.pointer; same = p.same ∙ ap (λ (q : View). record q { regs = t.regs }) b.fetched.same })
      (takes_base live s base x u room (omega (arith, holds)) b.held))

  -- ---- a load

  -- what was loaded goes to its local
  takes_loaded : (live behind : ℕ → Bool) (s : State) (w to z : ℕ) (h : Option ℕ) (v u t : View) → w ≤ 4 → IsSet (i.layouts m) live behind to
      → IsHome (i.layouts m) to w h → Held i m live s frames u → Loaded (made_in h) w z u t → u.out ≡ v.out
      → Takes e deep t (settles (i.layouts m) to h w) (Lies i m behind (sets to z s) frames v.out)
  takes_loaded live behind s w to z h v u t small can is k d out =
      takes_wider e deep t (settles (i.layouts m) to h w) (Lies i m behind (sets to z s) frames t.out) (Lies i m behind (sets to z s) frames v.out)
      (λ q g. record { held = g.held; out = g.out ∙ ap (λ (y : View). y.out) d.same ∙ out })
      (takes_settles i ok m frames e deep live behind s to w z h u t can is small k
      (record {
        others = λ r kind beside. d.others r (beside_x r kind, beside);
        holds = d.holds;
        stack = ap (λ (y : View). y.stack) d.same;
        static = ap (λ (y : View). y.static) d.same;
      }))
    where
      beside_x : (r : ℕ) → (r ≡ 1) ⊎ IsOwned r → (r < 26) ⊎ (28 ≤ r)
      beside_x r (inl one) = inl (omega arith)
      beside_x r (inr (inl k')) = let up = k'.1 in inl (omega arith)
      beside_x r (inr (inr k')) = inr k'.0

  takes_loads_far : (live behind : ℕ → Bool) (s : State) (w to base : ℕ) (index : Operand) (x z : ℕ) (v : View) → 0 < w → w ≤ 4 → 0x100 ≤ base + x
      → IsReady (i.layouts m) live index → IsSet (i.layouts m) live behind to → value index s ≡ Some x
      → number_at s.ram w (base + x - 0x100) ≡ Some z → Held i m live s frames v
      → (let h = home_of (i.layouts m) to w in
      Takes e deep v (points_x (i.layouts m) base index ++ (loads_x (made_in h) w ++ settles (i.layouts m) to h w)) (Lies i m behind (sets to z s) frames v.out))
  takes_loads_far live behind s w to base index x z v wide small high ready can got loaded k =
      let l = i.layouts m in
      let is = points_x l base index in
      let h = home_of l to w in
      let d = made_in h in
      let js = loads_x d w ++ settles l to h w in
      let at = base + x - 0x100 in
      let there = some_there s.ram w at z wide loaded in
      let inside = there.inside in
      let low = made_low l (ok m) to w h can.there small (home_is l to w) in
      let goal = Lies i m behind (sets to z s) frames v.out in
      takes_size v (is ++ js) goal
      (λ size.
      let length_is : length v.static ≡ length s.ram = ap length k.ram in
      takes_then e deep v is js (Pointed i m live s frames (base + x) v) goal
      (takes_points live s base x index v (omega (arith, size, length_is, inside)) ready got k)
      (λ u p.
      let ram_is : u.static ≡ s.ram = p.held.ram in
      let same_length : length u.static ≡ length s.ram = ap length ram_is in
      let pointer = p.pointer in
      let value_is : read u.static at w ≡ z = ap (λ q. read q at w) ram_is ∙ there.value in
      takes_then e deep u (loads_x d w) (settles l to h w) (Loaded d w (read u.static at w) u) goal
      (takes_loads_x e deep d w at u low (omega (arith, pointer, high)) (omega (arith, same_length, inside)) (omega (arith, same_length, size, length_is)))
      (λ t got'. takes_loaded live behind s w to z h v u t small can (home_is l to w) p.held (subst (λ y. Loaded d w y u t) value_is got')
      (ap (λ (y : View). y.out) p.same))))

  takes_loads_near : (live behind : ℕ → Bool) (s : State) (w to a x z : ℕ) (v : View) → 0 < w → w ≤ 4 → 0x100 ≤ x → IsSet (i.layouts m) live behind to
      → a ≡ x → number_at s.ram w (x - 0x100) ≡ Some z → Held i m live s frames v
      → (let h = home_of (i.layouts m) to w in
      Takes e deep v (loads_at (made_in h) w a ++ settles (i.layouts m) to h w) (Lies i m behind (sets to z s) frames v.out))
  takes_loads_near live behind s w to a x z v wide small high can same loaded k =
      let l = i.layouts m in
      let h = home_of l to w in
      let d = made_in h in
      let is = loads_at d w a in
      let js = settles l to h w in
      let at = x - 0x100 in
      let there = some_there s.ram w at z wide loaded in
      let inside = there.inside in
      let low = made_low l (ok m) to w h can.there small (home_is l to w) in
      let goal = Lies i m behind (sets to z s) frames v.out in
      takes_size v (is ++ js) goal
      (λ size.
      let length_is : length v.static ≡ length s.ram = ap length k.ram in
      let value_is : read v.static at w ≡ z = ap (λ q. read q at w) k.ram ∙ there.value in
      takes_then e deep v is js (Loaded d w (read v.static at w) v) goal
      (takes_loads_at e deep d w at a v low (omega (arith, same, high)) (omega (arith, length_is, inside)) size)
      (λ t got'. takes_loaded live behind s w to z h v v t small can (home_is l to w) k (subst (λ y. Loaded d w y v t) value_is got') refl))

  pub takes_loads_column : (live behind : ℕ → Bool) (s : State) (w to base : ℕ) (index : Operand) (x z : ℕ) (v : View) → 0 < w → w ≤ 4
      → 0x100 ≤ base + x → IsReady (i.layouts m) live index → IsSet (i.layouts m) live behind to → value index s ≡ Some x
      → number_at s.ram w (base + x - 0x100) ≡ Some z → Held i m live s frames v
      → Takes e deep v (loads_column (i.layouts m) w to base index) (Lies i m behind (sets to z s) frames v.out)
  takes_loads_column live behind s w to base (Local j) x z v wide small high ready can got loaded k =
      takes_loads_far live behind s w to base (Local j) x z v wide small high ready can got loaded k
  takes_loads_column live behind s w to base (Known y) x z v wide small high ready can got loaded k = by_near (nat_le w 2)
    where
      by_near : (b : Bool)
          → (let h = home_of (i.layouts m) to w in
          Takes e deep v (points_by b (i.layouts m) base (Known y) ++ (loads_by b (made_in h) w (base + y) ++ settles (i.layouts m) to h w))
          (Lies i m behind (sets to z s) frames v.out))
      by_near false = takes_loads_far live behind s w to base (Known y) x z v wide small high ready can got loaded k
      by_near true =
          takes_loads_near live behind s w to (base + y) (base + x) z v wide small high can (ap (λ n. base + n) (some_same y x got)) loaded k

  -- ---- a store

  -- what a store makes of the view
  stored_lies : (live behind : ℕ → Bool) (s : State) (w at y : ℕ) (rs : List ℕ) (v t q : View) → IsKept live behind → length rs ≡ w
      → number_in t.regs rs ≡ y % 256 ^ w → t.out ≡ v.out → Held i m live s frames t → Stored rs at t q
      → Lies i m behind (record s { ram = with_number s.ram w at y }) frames v.out q
  stored_lies live behind s w at y rs v t q kept long holds out k d =
      let ram' = with_number s.ram w at y in
      let static_is : written t.static at (length rs) (number_in t.regs rs) ≡ ram' =
      ap (λ z. written z at (length rs) (number_in t.regs rs)) k.ram ∙ ap (λ n. written s.ram at n (number_in t.regs rs)) long
      ∙ ap (written s.ram at w) holds ∙ written_cut s.ram at w y ∙ same_writing s.ram w at y in
      let first : Held i m live s frames (record t { regs = q.regs }) =
      by_x live s t (record t { regs = q.regs }) (λ r low. d.others r (inl (omega arith))) (λ r low top. d.others r (inr low)) refl k in
      let made : Held i m live (record s { ram = ram' }) frames (record t { regs = q.regs; static = ram' }) =
      held_ram live s ram' (record t { regs = q.regs }) first in
      let shape : q ≡ record t { regs = q.regs; static = ram' } = d.same ∙ ap (λ z. record t { regs = q.regs; static = z }) static_is in
      record {
        held = held_fewer i m live behind (record s { ram = ram' }) frames q kept (subst (Held i m live (record s { ram = ram' }) frames) (sym shape) made);
        out = ap (λ (z : View). z.out) shape ∙ out;
      }

  takes_stores_far : (live behind : ℕ → Bool) (s : State) (w base : ℕ) (index from : Operand) (x y : ℕ) (v : View) → w ≤ 4
      → 0x100 ≤ base + x → base + x - 0x100 + w ≤ length s.ram → IsReady (i.layouts m) live index → IsReady (i.layouts m) live from → IsKept live behind
      → value index s ≡ Some x → value from s ≡ Some y → Held i m live s frames v
      → (let l = i.layouts m in
      Takes e deep v (points_x l base index ++ (finds l from 22 w ++ stores_x (found_in l from 22 w)))
      (Lies i m behind (record s { ram = with_number s.ram w (base + x - 0x100) y }) frames v.out))
  takes_stores_far live behind s w base index from x y v small high inside ready ready' kept got got' k =
      let l = i.layouts m in
      let is = points_x l base index in
      let rs = found_in l from 22 w in
      let js = finds l from 22 w ++ stores_x rs in
      let long = found-length l from 22 w in
      let beside = found-beside l (ok m) live from 22 w 26 28 ready' (omega arith) (omega (arith, small)) (omega arith) in
      let at = base + x - 0x100 in
      let goal = Lies i m behind (record s { ram = with_number s.ram w at y }) frames v.out in
      takes_size v (is ++ js) goal
      (λ size.
      let length_is : length v.static ≡ length s.ram = ap length k.ram in
      takes_then e deep v is js (Pointed i m live s frames (base + x) v) goal
      (takes_points live s base x index v (omega (arith, size, length_is, inside)) ready got k)
      (λ u p. takes_then e deep u (finds l from 22 w) (stores_x rs) (Found i m live s frames 22 w y rs u) goal
      (takes_finds i ok m frames e deep live s from 22 w y u ready' got' (omega arith) (omega arith) p.held)
      (λ t b.
      let same_length : length t.static ≡ length s.ram = ap length b.held.ram in
      let pointer = p.pointer in
      let x_low = b.others 26 (omega arith) (inr (omega arith)) in
      let x_high = b.others 27 (omega arith) (inr (omega arith)) in
      takes_wider e deep t (stores_x rs) (Stored rs at t) goal
      (λ q d. stored_lies live behind s w at y rs v t q kept long b.holds (ap (λ (z : View). z.out) b.same ∙ ap (λ (z : View). z.out) p.same) b.held d)
      (takes_stores_x e deep rs at t beside (omega (arith, pointer, high, x_low, x_high)) (omega (arith, same_length, inside, long))
      (omega (arith, same_length, size, length_is))))))

  takes_stores_near : (live behind : ℕ → Bool) (s : State) (w a : ℕ) (from : Operand) (x y : ℕ) (v : View) → w ≤ 4 → 0x100 ≤ x
      → x - 0x100 + w ≤ length s.ram → IsReady (i.layouts m) live from → IsKept live behind → a ≡ x → value from s ≡ Some y → Held i m live s frames v
      → (let l = i.layouts m in
      Takes e deep v (finds l from 22 w ++ stores_at (found_in l from 22 w) a)
      (Lies i m behind (record s { ram = with_number s.ram w (x - 0x100) y }) frames v.out))
  takes_stores_near live behind s w a from x y v small high inside ready' kept same got' k =
      let l = i.layouts m in
      let is = finds l from 22 w in
      let rs = found_in l from 22 w in
      let js = stores_at rs a in
      let long = found-length l from 22 w in
      let beside = found-beside l (ok m) live from 22 w 26 28 ready' (omega arith) (omega (arith, small)) (omega arith) in
      let at = x - 0x100 in
      let goal = Lies i m behind (record s { ram = with_number s.ram w at y }) frames v.out in
      takes_size v (is ++ js) goal
      (λ size.
      let length_is : length v.static ≡ length s.ram = ap length k.ram in
      takes_then e deep v is js (Found i m live s frames 22 w y rs v) goal
      (takes_finds i ok m frames e deep live s from 22 w y v ready' got' (omega arith) (omega arith) k)
      (λ t b.
      let same_length : length t.static ≡ length s.ram = ap length b.held.ram in
      takes_wider e deep t js (Stored rs at t) goal
      (λ q d. stored_lies live behind s w at y rs v t q kept long b.holds (ap (λ (z : View). z.out) b.same) b.held d)
      (takes_stores_at e deep rs at a t beside (omega (arith, same, high)) (omega (arith, same_length, inside, long))
      (omega (arith, same_length, size, length_is)))))

  pub takes_stores_column : (live behind : ℕ → Bool) (s : State) (w base : ℕ) (index from : Operand) (x y : ℕ) (v : View) → w ≤ 4
      → 0x100 ≤ base + x → base + x - 0x100 + w ≤ length s.ram → IsReady (i.layouts m) live index → IsReady (i.layouts m) live from → IsKept live behind
      → value index s ≡ Some x → value from s ≡ Some y → Held i m live s frames v
      → Takes e deep v (stores_column (i.layouts m) w base index from)
      (Lies i m behind (record s { ram = with_number s.ram w (base + x - 0x100) y }) frames v.out)
  takes_stores_column live behind s w base (Local j) from x y v small high inside ready ready' kept got got' k =
      takes_stores_far live behind s w base (Local j) from x y v small high inside ready ready' kept got got' k
  takes_stores_column live behind s w base (Known n) from x y v small high inside ready ready' kept got got' k = by_near (nat_le w 2)
    where
      by_near : (b : Bool)
          → (let l = i.layouts m in
          Takes e deep v (points_by b l base (Known n) ++ (finds l from 22 w ++ stores_by b (found_in l from 22 w) (base + n)))
          (Lies i m behind (record s { ram = with_number s.ram w (base + x - 0x100) y }) frames v.out))
      by_near false = takes_stores_far live behind s w base (Known n) from x y v small high inside ready ready' kept got got' k
      by_near true =
          takes_stores_near live behind s w (base + n) from (base + x) y v small high inside ready' kept (ap (λ z. base + z) (some_same n x got)) got' k
