-- Where columns stand.
use Rattle.std.proofs.Common.{◌≡◌, refl, sym, ap, subst, ◌∙◌, arith, ℕ, zero, suc, ◌+◌, ◌<◌, ◌≤◌, List, [], ◌∷◌, Some, slice_get}
use Rattle.std.proofs.lemmas.Option.{same_Some, none-some}
use Rattle.vg_firm.specs.declared.step.Home.{Home}
use Rattle.vg_firm.specs.declared.step.Home.TheVariants.{Ram, Flash}
use Rattle.vg_placement.specs.declared.column.Column.{Column}
use Rattle.vg_placement.specs.Columns.{bytes_of, address_for, ram_behind, flash_behind, placed, bytes_where, home_bytes}

-- behind a column the next of its home has moved by its bytes, and one of the other home has not
moved : (h c : Home) (ram flash bytes : ℕ)
    → address_for h (ram_behind c ram bytes) (flash_behind c flash bytes) ≡ address_for h ram flash + bytes_where h c bytes
moved Ram Ram ram flash bytes = refl
moved Flash Flash ram flash bytes = refl
moved Ram Flash ram flash bytes = omega arith
moved Flash Ram ram flash bytes = omega arith

own : (h : Home) (bytes : ℕ) → bytes_where h h bytes ≡ bytes
own Ram bytes = refl
own Flash bytes = refl

pub within : (ram flash : ℕ) (cs : List Column) (i : ℕ) (a : Column) → slice_get (placed ram flash cs) i ≡ Some a
    → (address_for a.home ram flash ≤ a.at) × (a.at + bytes_of a ≤ address_for a.home ram flash + home_bytes a.home cs)
within ram flash [] i a e = absurd (none-some a e)
within ram flash (c ∷ cs) zero a e =
    subst (λ z. (address_for z.home ram flash ≤ z.at) × (z.at + bytes_of z ≤ address_for z.home ram flash + home_bytes z.home (c ∷ cs)))
    (same_Some _ a e) (omega arith, first c.home (bytes_of c) (address_for c.home ram flash) (home_bytes c.home cs))
  where
    first : (h : Home) (bytes address more : ℕ) → address + bytes ≤ address + (bytes_where h h bytes + more)
    first Ram bytes address more = omega arith
    first Flash bytes address more = omega arith
within ram flash (c ∷ cs) (suc i) a e =
    let r = within (ram_behind c.home ram (bytes_of c)) (flash_behind c.home flash (bytes_of c)) cs i a e in
    let m = moved a.home c.home ram flash (bytes_of c) in
    further (address_for a.home ram flash) (bytes_where a.home c.home (bytes_of c)) _ a.at (bytes_of a) (home_bytes a.home cs) m r.0 r.1
  where
    further : (x b y at n more : ℕ) → y ≡ x + b → y ≤ at → at + n ≤ y + more → (x ≤ at) × (at + n ≤ x + (b + more))
    further x b y at n more m low high = (omega (arith, m, low), omega (arith, m, high))

pub behind : (ram flash : ℕ) (cs : List Column) (i j : ℕ) (a b : Column) → i < j → slice_get (placed ram flash cs) i ≡ Some a
    → slice_get (placed ram flash cs) j ≡ Some b → a.home ≡ b.home → a.at + bytes_of a ≤ b.at
behind ram flash [] i j a b lt ea eb h = absurd (none-some a ea)
behind ram flash (c ∷ cs) i zero a b lt ea eb h = absurd (omega (arith, lt))
behind ram flash (c ∷ cs) zero (suc j) a b lt ea eb h =
    let r = within (ram_behind c.home ram (bytes_of c)) (flash_behind c.home flash (bytes_of c)) cs j b eb in
    let bc : b.home ≡ c.home = sym h ∙ ap (λ z. z.home) (sym (same_Some _ a ea)) in
    let m = moved b.home c.home ram flash (bytes_of c) in
    let o : bytes_where b.home c.home (bytes_of c) ≡ bytes_of c = ap (λ z. bytes_where z c.home (bytes_of c)) bc ∙ own c.home (bytes_of c) in
    let at : address_for b.home ram flash ≡ address_for c.home ram flash = ap (λ z. address_for z ram flash) bc in
    subst (λ z. z.at + bytes_of z ≤ b.at) (same_Some _ a ea)
    (first (address_for c.home ram flash) (bytes_of c) (address_for b.home ram flash) (bytes_where b.home c.home (bytes_of c)) _ b.at at o m r.0)
  where
    first : (x n y m1 z at : ℕ) → y ≡ x → m1 ≡ n → z ≡ y + m1 → z ≤ at → x + n ≤ at
    first x n y m1 z at e1 e2 e3 e4 = omega (arith, e1, e2, e3, e4)
behind ram flash (c ∷ cs) (suc i) (suc j) a b lt ea eb h =
    behind (ram_behind c.home ram (bytes_of c)) (flash_behind c.home flash (bytes_of c)) cs i j a b (omega (arith, lt)) ea eb h
