-- Registers one by one: their numbers, their names and the look-up of their addresses.
-- Registers that fit so far are kept beside a look-up of their addresses; one more goes behind them. A new name has no address
-- among the earlier ones, and each earlier one keeps its own.
use Rattle.std.proofs.Common.{◌≡◌, ℕ, Bool, true, false, List, [], ◌∷◌, ◌++◌, Option, Some, None, refl, sym, ap, ◌∙◌}
use Rattle.std.specs.Prelude.{if◌then◌else◌, cond, bytes_eq, is_some}
use Rattle.std.proofs.lemmas.Slice.Eq.{bytes_eq-Decides}
use denote.Bor.{Bor}
use Rattle.vg_first_text.specs.FirstText.{FirstRegister, IsRegisterNumber, AreRegisters, register_address}
use Rattle.vg_first_text.specs.FirstViews.{TellsAddresses, same_name}
use Rattle.vg_syntax.specs.Hexadecimal.{hex_value}

-- the first where it is there, else the second
either : Option ℕ → Option ℕ → Option ℕ
either (Some a) b = Some a
either None b = b

either_if : (p : Bool) (a : ℕ) (b c : Option ℕ) → (if p then Some a else either b c) ≡ either (if p then Some a else b) c
unfolding either
either_if true a b c = refl
either_if false a b c = refl

address_one_more : (rs : List FirstRegister) (r : FirstRegister) (name : List ℕ)
    → register_address (rs ++ r ∷ []) name ≡ either (register_address rs name) (if bytes_eq r.name name then Some (hex_value r.digits) else None)
unfolding either
address_one_more [] r name = refl
address_one_more (x ∷ xs) r name =
    ap (λ o. if bytes_eq x.name name then Some (hex_value x.digits) else o) (address_one_more xs r name)
    ∙ either_if (bytes_eq x.name name) (hex_value x.digits) (register_address xs name) (if bytes_eq r.name name then Some (hex_value r.digits) else None)

not_equal : (a b : List ℕ) → (a ≡ b → ⊥) → bytes_eq a b ≡ false
not_equal a b f = by_test (bytes_eq a b) refl
  where
    by_test : (t : Bool) → bytes_eq a b ≡ t → t ≡ false
    by_test true e = absurd (f ((bytes_eq-Decides a b).0 e))
    by_test false e = refl

equal : (a : List ℕ) → bytes_eq a a ≡ true
equal a = (bytes_eq-Decides a a).1 refl

-- a name without an address is not that of the first register, and has none among the others
no_address : (x : FirstRegister) (xs : List FirstRegister) (name : List ℕ) → register_address (x ∷ xs) name ≡ None → (x.name ≡ name → ⊥) × (register_address xs name ≡ None)
no_address x xs name e = by_test (bytes_eq x.name name) refl e
  where
    by_test : (t : Bool) → bytes_eq x.name name ≡ t → (if t then Some (hex_value x.digits) else register_address xs name) ≡ None
        → (x.name ≡ name → ⊥) × (register_address xs name ≡ None)
    by_test true q e = absurd (let clash : Some (hex_value x.digits) ≡ None = e in cc)
    by_test false q e = (λ s. let clash : true ≡ false = sym ((bytes_eq-Decides x.name name).1 s) ∙ q in cc, e)

still_none : (rs : List FirstRegister) (r : FirstRegister) (name : List ℕ) → register_address rs name ≡ None → (r.name ≡ name → ⊥)
    → register_address (rs ++ r ∷ []) name ≡ None
unfolding either
still_none rs r name e f =
    address_one_more rs r name ∙ ap (λ o. either o (if bytes_eq r.name name then Some (hex_value r.digits) else None)) e
    ∙ ap (λ t. if t then Some (hex_value r.digits) else None) (not_equal r.name name f)

-- one register more, with a number of its own and a new name
pub one_more_fits : (rs : List FirstRegister) (r : FirstRegister) → AreRegisters rs → IsRegisterNumber r.digits → register_address rs r.name ≡ None
    → AreRegisters (rs ++ r ∷ [])
one_more_fits [] r h n e = (n, refl, tt)
one_more_fits (x ∷ xs) r h n e =
    let apart = no_address x xs r.name e in
    (h.0, still_none xs r x.name h.1 (λ s. apart.0 (sym s)), one_more_fits xs r h.2 n apart.1)

-- what fits has a number at each place
pub number_at : (done : List FirstRegister) (r : FirstRegister) (rest : List FirstRegister) → AreRegisters (done ++ r ∷ rest) → IsRegisterNumber r.digits
number_at [] r rest h = h.0
number_at (x ∷ xs) r rest h = number_at xs r rest h.2

absent : (xs : List FirstRegister) (r : FirstRegister) (rest : List FirstRegister) (name : List ℕ) → register_address (xs ++ r ∷ rest) name ≡ None → r.name ≡ name → ⊥
absent [] r rest name e = (no_address r rest name e).0
absent (x ∷ xs) r rest name e = absent xs r rest name (no_address x (xs ++ r ∷ rest) name e).1

-- what fits has a new name at each place
pub name_at : (done : List FirstRegister) (r : FirstRegister) (rest : List FirstRegister) → AreRegisters (done ++ r ∷ rest) → register_address done r.name ≡ None
name_at [] r rest h = refl
name_at (x ∷ xs) r rest h =
    ap (λ t. if t then Some (hex_value x.digits) else register_address xs r.name) (not_equal x.name r.name (λ s. absent xs r rest x.name h.1 (sym s)))
    ∙ name_at xs r rest h.2

none_last : (o : Option ℕ) → either o None ≡ o
unfolding either
none_last (Some x) = refl
none_last None = refl

-- what was found is none
pub found_none : (found : Option ℕ) → is_some found ≡ false → found ≡ None
found_none (Some a) e = absurd (let clash : true ≡ false = e in cc)
found_none None e = refl

-- a look-up that is told one register more
pub one_more_told : (found found' : Bor (List ℕ) → Option ℕ) (rs : List FirstRegister) (r : FirstRegister) (key : Bor (List ℕ)) (address : ℕ)
    → TellsAddresses found rs → key.now ≡ r.name → address ≡ hex_value r.digits → found key ≡ None
    → ((q : Bor (List ℕ)) → found' q ≡ cond (same_name key q) (Some address) (found q)) → TellsAddresses found' (rs ++ r ∷ [])
unfolding either
one_more_told found found' rs r key address told k a none update q =
    update q ∙ by_test (bytes_eq key.now q.now) refl ∙ sym (address_one_more rs r q.now)
  where
    by_test : (t : Bool) → bytes_eq key.now q.now ≡ t
        → cond t (Some address) (found q) ≡ either (register_address rs q.now) (if bytes_eq r.name q.now then Some (hex_value r.digits) else None)
    by_test true e =
        let same : r.name ≡ q.now = sym k ∙ (bytes_eq-Decides key.now q.now).0 e in
        let gone : register_address rs q.now ≡ None = ap (register_address rs) (sym same ∙ sym k) ∙ sym (told key) ∙ none in
        let test : bytes_eq r.name q.now ≡ true = (bytes_eq-Decides r.name q.now).1 same in
        ap Some a ∙ sym (ap (λ o. either o (if bytes_eq r.name q.now then Some (hex_value r.digits) else None)) gone
        ∙ ap (λ u. if u then Some (hex_value r.digits) else None) test)
    by_test false e =
        let test : bytes_eq r.name q.now ≡ false = ap (λ n. bytes_eq n q.now) (sym k) ∙ e in
        told q ∙ sym (ap (λ u. either (register_address rs q.now) (if u then Some (hex_value r.digits) else None)) test ∙ none_last (register_address rs q.now))
