-- Slots: how they grow, and what the bytes that a text names make of them.
use Rattle.std.proofs.Common.{◌≡◌, ℕ, zero, suc, ◌+◌, ◌-◌, ◌<◌, Bool, true, false, List, [], ◌∷◌, ◌++◌, length, length-append, max, Option, Some}
use Rattle.std.proofs.Common.{None, refl, sym, ap, ◌∙◌, subst, arith, append_assoc, ◌==◌, get_or}
use Rattle.std.specs.Prelude.{if◌then◌else◌, ◌||◌, nat_le, replicate}
use Rattle.std.proofs.lemmas.Bool.{false≢true}
use Rattle.std.proofs.lemmas.List.{get_or-set_same, get_or-set_other, length-set, length-replicate, length-map, nil_from_length}
use Rattle.vg_hex.specs.declared.fault.HexFault.{HexFault}
use Rattle.vg_hex.specs.declared.fault.HexFault.TheVariants.{Twice, Beyond, NoEnd}
use Rattle.vg_hex.specs.declared.hex_record.Base.{Base}
use Rattle.vg_hex.specs.declared.hex_record.HexRecord.{HexRecord}
use Rattle.vg_hex.specs.declared.hex_record.HexRecord.TheVariants.{Blank, Data, Base as Based, End, Passed, NoSum, NoForm}
use Rattle.vg_hex.specs.declared.reader.Step.{Step}
use Rattle.vg_hex.specs.declared.reader.Step.TheVariants.{Goes, Ends}
use Rattle.vg_lines.specs.Lines.{lines}
use Rattle.vg_hex.specs.HexRecords.{read_line}
use Rattle.vg_hex.specs.HexImage.{Named, Byte, Bad, bytes_named, record_named, lines_named, behind_end, named, is_among, first_fault, fault_in}
use Rattle.vg_hex.specs.HexImage.{byte_at, reach, HexImage}
use Rattle.vg_hex.specs.Walk.{is_some, is_taken, padded, placed, fault_at, first_of, fault_behind, slots_behind, record_fault, record_bytes}
use Rattle.vg_hex.specs.Walk.{base_behind, Leaves, byte_in, bytes_in}

-- one empty slot more
pub pad_more : (slots more : List (Option ℕ)) (n : ℕ) (all : List (Option ℕ)) → length slots < n → more ≡ slots ++ None ∷ [] → padded slots n ≡ all
    → padded more n ≡ all
pad_more slots more n all h e whole =
    let one : List (Option ℕ) = None ∷ [] in
    let len = length-append slots one in
    let k : n - length slots ≡ suc (n - length (slots ++ one)) = omega (arith, h, len) in
    ap (λ s. padded s n) e
    ∙ append_assoc slots one (replicate (n - length (slots ++ one)) None)
    ∙ ap (λ m. slots ++ replicate m None) (sym k)
    ∙ whole

-- slots that are padded have what they had, and no more
get_empty : (k b : ℕ) (empty : Option ℕ) → get_or (replicate k empty) b empty ≡ empty
get_empty zero b empty = refl
get_empty (suc k) zero empty = refl
get_empty (suc k) (suc b) empty = get_empty k b empty

get_padded : (slots : List (Option ℕ)) (k b : ℕ) (empty : Option ℕ) → get_or (slots ++ replicate k empty) b empty ≡ get_or slots b empty
get_padded [] k b empty = get_empty k b empty
get_padded (o ∷ slots) k zero empty = refl
get_padded (o ∷ slots) k (suc b) empty = get_padded slots k b empty

length_padded : (slots : List (Option ℕ)) (n : ℕ) → length (padded slots n) ≡ max (length slots) n
length_padded slots n =
    let empty : Option ℕ = None in
    let e = length-append slots (replicate (n - length slots) empty) in
    let f = length-replicate (n - length slots) empty in
    omega (arith, e, f)

length_placed : (slots : List (Option ℕ)) (a v : ℕ) → length (placed slots a v) ≡ max (length slots) (a + 1)
length_placed slots a v = length-set (padded slots (a + 1)) a (Some v) ∙ length_padded slots (a + 1)

get_placed_same : (slots : List (Option ℕ)) (a v : ℕ) → get_or (placed slots a v) a None ≡ Some v
get_placed_same slots a v = let l = length_padded slots (a + 1) in get_or-set_same (padded slots (a + 1)) a (Some v) None (omega (arith, l))

get_placed_other : (slots : List (Option ℕ)) (a v b : ℕ) → (b ≡ a → ⊥) → get_or (placed slots a v) b None ≡ get_or slots b None
get_placed_other slots a v b h =
    get_or-set_other (padded slots (a + 1)) a b (Some v) None h ∙ get_padded slots (a + 1 - length slots) b None

taken_placed : (slots : List (Option ℕ)) (a v b : ℕ) → is_taken b (placed slots a v) ≡ ((b == a) || is_taken b slots)
taken_placed slots a v b = by_test (b == a) refl
  where
    by_test : (t : Bool) → (b == a) ≡ t → is_taken b (placed slots a v) ≡ (t || is_taken b slots)
    by_test true e =
        let same : b ≡ a = grind (arith, e) in
        ap (λ i. is_some (get_or (placed slots a v) i None)) same ∙ ap is_some (get_placed_same slots a v)
    by_test false e = ap is_some (get_placed_other slots a v b (grind (arith, e)))

-- the faults with slots are those of the definition
pub same_fault : (slots : List (Option ℕ)) (seen : List ℕ) (es : List Named) → ((a : ℕ) → is_taken a slots ≡ is_among a seen)
    → fault_behind slots es ≡ first_fault seen es
same_fault slots seen [] h = refl
same_fault slots seen (Bad f ∷ es) h = refl
same_fault slots seen (Byte a v ∷ es) h =
    by_tests (nat_le 131072 a) (is_taken a slots) (is_among a seen) (h a)
    (same_fault (placed slots a v) (a ∷ seen) es (λ b. taken_placed slots a v b ∙ ap (λ t. (b == a) || t) (h b)))
  where
    by_tests : (x y z : Bool) → y ≡ z → fault_behind (placed slots a v) es ≡ first_fault (a ∷ seen) es
        → first_of (if x then Some (Beyond a) else if y then Some (Twice a) else None) (fault_behind (placed slots a v) es)
        ≡ (if x then Some (Beyond a) else if z then Some (Twice a) else first_fault (a ∷ seen) es)
    by_tests true y z e rest = refl
    by_tests false true true e rest = refl
    by_tests false true false e rest = absurd (false≢true (sym e))
    by_tests false false true e rest = absurd (false≢true e)
    by_tests false false false e rest = rest

-- records one behind another
fault_append : (slots : List (Option ℕ)) (xs ys : List Named) → fault_behind slots (xs ++ ys) ≡ first_of (fault_behind slots xs)
    (fault_behind (slots_behind slots xs) ys)
fault_append slots [] ys = refl
fault_append slots (Bad f ∷ xs) ys = refl
fault_append slots (Byte a v ∷ xs) ys = by_fault (fault_at slots a) (fault_append (placed slots a v) xs ys)
  where
    by_fault : (o : Option HexFault) → fault_behind (placed slots a v) (xs ++ ys) ≡ first_of (fault_behind (placed slots a v) xs)
        (fault_behind (slots_behind (placed slots a v) xs) ys) → first_of o (fault_behind (placed slots a v) (xs ++ ys)) ≡ first_of
        (first_of o (fault_behind (placed slots a v) xs)) (fault_behind (slots_behind (placed slots a v) xs) ys)
    by_fault (Some f) h = refl
    by_fault None h = h

slots_append : (slots : List (Option ℕ)) (xs ys : List Named) → slots_behind slots (xs ++ ys) ≡ slots_behind (slots_behind slots xs) ys
slots_append slots [] ys = refl
slots_append slots (Bad f ∷ xs) ys = slots_append slots xs ys
slots_append slots (Byte a v ∷ xs) ys = slots_append (placed slots a v) xs ys

goes_named : (n : ℕ) (base next : Base) (made : HexRecord) (rest : Base → List Named) (behind : List Named) → base_behind base made ≡ Some next
    → record_named n base made rest behind ≡ record_bytes base made ++ rest next
goes_named n base next Blank rest behind e = ap rest (cc)
goes_named n base next (Data at bytes) rest behind e = ap (λ b. bytes_named base at 0 bytes ++ rest b) (cc)
goes_named n base next (Based new) rest behind e = ap rest (cc)
goes_named n base next End rest behind e = cc
goes_named n base next Passed rest behind e = ap rest (cc)
goes_named n base next NoSum rest behind e = cc
goes_named n base next NoForm rest behind e = cc

pub goes_fault : (n : ℕ) (base next : Base) (made : HexRecord) (rest : Base
    → List Named) (behind : List Named) (old new : List (Option ℕ)) (step : Step) (all : Option HexFault)
    → Leaves base made old new step → step ≡ Goes next → fault_behind old (record_named n base made rest behind) ≡ all → fault_behind new (rest next) ≡ all
goes_fault n base next made rest behind old new step all h e whole =
    let k : Leaves base made old new (Goes next) = subst (Leaves base made old new) e h in
    ap (λ s. fault_behind s (rest next)) k.2
    ∙ sym (ap (λ o. first_of o (fault_behind (slots_behind old (record_bytes base made)) (rest next))) k.1)
    ∙ sym (fault_append old (record_bytes base made) (rest next))
    ∙ ap (fault_behind old) (sym (goes_named n base next made rest behind k.0))
    ∙ whole

pub goes_slots : (n : ℕ) (base next : Base) (made : HexRecord) (rest : Base
    → List Named) (behind : List Named) (old new : List (Option ℕ)) (step : Step) (all : List (Option ℕ))
    → Leaves base made old new step → step ≡ Goes next → slots_behind old (record_named n base made rest behind) ≡ all → slots_behind new (rest next) ≡ all
goes_slots n base next made rest behind old new step all h e whole =
    let k : Leaves base made old new (Goes next) = subst (Leaves base made old new) e h in
    ap (λ s. slots_behind s (rest next)) k.2
    ∙ sym (slots_append old (record_bytes base made) (rest next))
    ∙ ap (slots_behind old) (sym (goes_named n base next made rest behind k.0))
    ∙ whole

-- a record with a fault is where the text has its first
pub stops_fault : (n : ℕ) (base : Base) (made : HexRecord) (rest : Base
    → List Named) (behind : List Named) (old : List (Option ℕ)) (f : HexFault) (all : Option HexFault)
    → record_fault n old base made ≡ Some f → fault_behind old (record_named n base made rest behind) ≡ all → all ≡ Some f
stops_fault n base (Data at bytes) rest behind old f all h whole =
    sym whole ∙ fault_append old (bytes_named base at 0 bytes) (rest base)
    ∙ ap (λ o. first_of o (fault_behind (slots_behind old (bytes_named base at 0 bytes)) (rest base))) h
stops_fault n base NoSum rest behind old f all h whole = sym whole ∙ h
stops_fault n base NoForm rest behind old f all h whole = sym whole ∙ h
stops_fault n base Blank rest behind old f all h whole = cc
stops_fault n base (Based new) rest behind old f all h whole = cc
stops_fault n base End rest behind old f all h whole = cc
stops_fault n base Passed rest behind old f all h whole = cc

-- the image of a text without a fault
reach_slots : (slots : List (Option ℕ)) (es : List Named) → length (slots_behind slots es) ≡ max (length slots) (reach es)
reach_slots slots [] = omega arith
reach_slots slots (Bad f ∷ es) = reach_slots slots es
reach_slots slots (Byte a v ∷ es) =
    let h = reach_slots (placed slots a v) es in
    let l = length_placed slots a v in
    omega (arith, h, l)

-- a slot's byte, and where it is empty another
abbrev or_else : Option ℕ → ℕ → ℕ
or_else None other = other
or_else (Some v) other = v

free_at : (slots : List (Option ℕ)) (a : ℕ) (rest : Option HexFault) → first_of (fault_at slots a) rest ≡ None → (is_taken a slots ≡ false) × (rest ≡ None)
free_at slots a rest h = by_tests (nat_le 131072 a) (is_taken a slots) h
  where
    by_tests : (x y : Bool) → first_of (if x then Some (Beyond a) else if y then Some (Twice a) else None) rest ≡ None → (y ≡ false) × (rest ≡ None)
    by_tests true y h = absurd (cc)
    by_tests false true h = absurd (cc)
    by_tests false false h = (refl, h)

byte_slots : (slots : List (Option ℕ)) (es : List Named) (b : ℕ) → fault_behind slots es ≡ None
    → byte_in (get_or (slots_behind slots es) b None) ≡ or_else (get_or slots b None) (byte_at b es)
byte_slots slots [] b h = at_end (get_or slots b None)
  where
    at_end : (o : Option ℕ) → byte_in o ≡ or_else o 255
    at_end None = refl
    at_end (Some v) = refl
byte_slots slots (Bad f ∷ es) b h = absurd (cc)
byte_slots slots (Byte a v ∷ es) b h =
    let k = free_at slots a (fault_behind (placed slots a v) es) h in
    byte_slots (placed slots a v) es b k.1 ∙ by_test (b == a) refl k.0
  where
    other_byte : (o : Option ℕ) (x : ℕ) → is_some o ≡ false → or_else o x ≡ x
    other_byte None x e = refl
    other_byte (Some w) x e = absurd (false≢true (sym e))

    by_test : (t : Bool) → (b == a) ≡ t → is_taken a slots ≡ false → or_else (get_or (placed slots a v) b None) (byte_at b es) ≡ or_else
        (get_or slots b None) (if t then v else byte_at b es)
    by_test true e free =
        let same : b ≡ a = grind (arith, e) in
        ap (λ i. or_else (get_or (placed slots a v) i None) (byte_at b es)) same
        ∙ ap (λ o. or_else o (byte_at b es)) (get_placed_same slots a v)
        ∙ sym (other_byte (get_or slots b None) v (ap (λ i. is_taken i slots) same ∙ free))
    by_test false e free = ap (λ o. or_else o (byte_at b es)) (get_placed_other slots a v b (grind (arith, e)))

bytes_at : (slots : List (Option ℕ)) (b : ℕ) → b < length slots → get_or (bytes_in slots) b 0 ≡ byte_in (get_or slots b None)
bytes_at [] b h = absurd (omega (arith, h))
bytes_at (o ∷ slots) zero h = refl
bytes_at (o ∷ slots) (suc b) h = bytes_at slots b (omega (arith, h))

pub image_read : (text image : List ℕ) (slots : List (Option ℕ)) → fault_behind [] (named text) ≡ None → slots ≡ slots_behind [] (named text)
    → image ≡ bytes_in slots → HexImage text image
image_read text image slots h e i =
    let nowhere : (a : ℕ) → is_taken a [] ≡ is_among a [] = λ a. refl in
    let r = reach_slots [] (named text) in
    let l : length image ≡ length slots = ap length i ∙ length-map slots byte_in in
    let whole : length image ≡ reach (named text) = l ∙ ap length e ∙ r ∙ omega arith in
    record {
      faultless = sym (same_fault [] [] (named text) nowhere) ∙ h;
      whole = whole;
      bytes = λ a lt. ap (λ bs. get_or bs a 0) i ∙ bytes_at slots a (subst (λ n. a < n) l lt) ∙ ap (λ s. byte_in (get_or s a None)) e
          ∙ byte_slots [] (named text) a h;
    }

pub fault_read : (text : List ℕ) (f : HexFault) → fault_behind [] (named text) ≡ Some f → fault_in text ≡ Some f
fault_read text f h =
    let nowhere : (a : ℕ) → is_taken a [] ≡ is_among a [] = λ a. refl in
    sym (same_fault [] [] (named text) nowhere) ∙ h

-- what is still to be read names what the whole text does, behind the slots so far
abbrev Left : (text rest : List ℕ) (n : ℕ) (base : Base) (slots : List (Option ℕ)) → Type 0
Left text rest n base slots =
    (fault_behind slots (lines_named n (lines rest) base) ≡ fault_behind [] (named text))
    × (slots_behind slots (lines_named n (lines rest) base) ≡ slots_behind [] (named text))

-- the first line taken apart
first_fault_left : (text rest bytes behind : List ℕ) (n : ℕ) (base : Base) (slots : List (Option ℕ)) → lines rest ≡ bytes ∷ lines behind
    → Left text rest n base slots
    → fault_behind slots (record_named n base (read_line bytes) (lines_named (n + 1) (lines behind)) (behind_end (n + 1) (lines behind))) ≡ fault_behind []
    (named text)
first_fault_left text rest bytes behind n base slots e left = ap (λ ls. fault_behind slots (lines_named n ls base)) (sym e) ∙ left.0

first_slots_left : (text rest bytes behind : List ℕ) (n : ℕ) (base : Base) (slots : List (Option ℕ)) → lines rest ≡ bytes ∷ lines behind
    → Left text rest n base slots
    → slots_behind slots (record_named n base (read_line bytes) (lines_named (n + 1) (lines behind)) (behind_end (n + 1) (lines behind))) ≡ slots_behind []
    (named text)
first_slots_left text rest bytes behind n base slots e left = ap (λ ls. slots_behind slots (lines_named n ls base)) (sym e) ∙ left.1

pub line_goes : (text rest bytes behind : List ℕ) (n : ℕ) (base next : Base) (old new : List (Option ℕ)) (step : Step) → lines rest ≡ bytes ∷ lines behind
    → Leaves base (read_line bytes) old new step → step ≡ Goes next → Left text rest n base old → Left text behind (n + 1) next new
line_goes text rest bytes behind n base next old new step e h s left = (
  goes_fault n base next (read_line bytes) (lines_named (n + 1) (lines behind)) (behind_end (n + 1) (lines behind)) old new step
      (fault_behind [] (named text)) h s (first_fault_left text rest bytes behind n base old e left),
  goes_slots n base next (read_line bytes) (lines_named (n + 1) (lines behind)) (behind_end (n + 1) (lines behind)) old new step
      (slots_behind [] (named text)) h s (first_slots_left text rest bytes behind n base old e left),
)

pub line_stops : (text rest bytes behind : List ℕ) (n : ℕ) (base : Base) (old : List (Option ℕ)) (f : HexFault) → lines rest ≡ bytes ∷ lines behind
    → record_fault n old base (read_line bytes) ≡ Some f → Left text rest n base old → fault_in text ≡ Some f
line_stops text rest bytes behind n base old f e h left =
    fault_read text f (stops_fault n base (read_line bytes) (lines_named (n + 1) (lines behind)) (behind_end (n + 1) (lines behind)) old f
    (fault_behind [] (named text)) h (first_fault_left text rest bytes behind n base old e left))

-- the end line
ended : (text rest bytes behind : List ℕ) (n : ℕ) (base : Base) (old new : List (Option ℕ)) (step : Step) (last : List Named)
    → lines rest ≡ bytes ∷ lines behind
    → Leaves base (read_line bytes) old new step → step ≡ Ends → behind_end (n + 1) (lines behind) ≡ last → Left text rest n base old
    → (fault_behind [] (named text) ≡ fault_behind old last) × (slots_behind [] (named text) ≡ slots_behind old last) × (new ≡ old)
ended text rest bytes behind n base old new step last e h s b left =
    let k : Leaves base (read_line bytes) old new Ends = subst (Leaves base (read_line bytes) old new) s h in
    let rows : record_named n base (read_line bytes) (lines_named (n + 1) (lines behind)) (behind_end (n + 1) (lines behind)) ≡ last =
    ap (λ r. record_named n base r (lines_named (n + 1) (lines behind)) (behind_end (n + 1) (lines behind))) k.0 ∙ b in (
      sym (first_fault_left text rest bytes behind n base old e left) ∙ ap (fault_behind old) rows,
      sym (first_slots_left text rest bytes behind n base old e left) ∙ ap (slots_behind old) rows,
      k.1,
    )

pub end_stops : (text rest bytes behind : List ℕ) (n : ℕ) (base : Base) (old new : List (Option ℕ)) (step : Step) (f : HexFault)
    → lines rest ≡ bytes ∷ lines behind
    → Leaves base (read_line bytes) old new step → step ≡ Ends → behind_end (n + 1) (lines behind) ≡ Bad f ∷ [] → Left text rest n base old
    → fault_in text ≡ Some f
end_stops text rest bytes behind n base old new step f e h s b left =
    fault_read text f (ended text rest bytes behind n base old new step (Bad f ∷ []) e h s b left).0

pub end_image : (text rest bytes behind image : List ℕ) (n : ℕ) (base : Base) (old new : List (Option ℕ)) (step : Step) → lines rest ≡ bytes ∷ lines behind
    → Leaves base (read_line bytes) old new step → step ≡ Ends → behind_end (n + 1) (lines behind) ≡ [] → Left text rest n base old → image ≡ bytes_in new
    → HexImage text image
end_image text rest bytes behind image n base old new step e h s b left i =
    let k = ended text rest bytes behind n base old new step [] e h s b left in
    image_read text image new k.0 (k.2 ∙ sym k.1) i

pub no_end : (text rest : List ℕ) (n : ℕ) (base : Base) (slots : List (Option ℕ)) (f : HexFault) → length rest ≡ 0 → NoEnd ≡ f → Left text rest n base slots
    → fault_in text ≡ Some f
no_end text rest n base slots f e g left =
    fault_read text f (sym left.0 ∙ ap (λ r. fault_behind slots (lines_named n (lines r) base)) (nil_from_length rest e) ∙ ap Some g)
