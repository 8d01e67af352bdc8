-- The registers of a legal text are those of devices of the chip, and its entries are of interrupts.
use Rattle.std.proofs.Common.{◌≡◌, refl, sym, subst, arith, ℕ, ◌==◌, ◌&&◌, not, nat_le, Bool, true, false, List, [], ◌∷◌, ◌++◌}
use Rattle.std.proofs.Common.{Option, Some, None, bytes_eq, if◌then◌else◌}
use Rattle.std.specs.List.{AllByRecursion, list_all}
use Rattle.vg_meaning.specs.Device.{IsDeviceAddress}
use Rattle.vg_meaning.specs.Outside.{IsVector}
use Rattle.vg_syntax.specs.Bytes.{is_digit}
use Rattle.vg_syntax.specs.Lexemes.{is_hexadecimal}
use Rattle.vg_syntax.specs.Tree.{Node, Then, DeviceDecl, RegisterDecl, ClassDecl, ComponentDecl, ProgramDecl, EntryDecl}
use Rattle.vg_source.specs.Names.{Name, is_among}
use Rattle.vg_source.specs.Literals.{number_of}
use Rattle.vg_source.specs.Declared.{or_else, as_device, device_named, as_register, register_in}
use Rattle.vg_source.specs.Program.{entries_in, declared_handler, handlers_in}
use Rattle.vg_source.specs.Resolved.{register_of}
use Rattle.vg_source.specs.Steps.{Handler, Method}
use Rattle.vg_rules.specs.Breach.{Breach, asks, ◌or◌}
use Rattle.vg_rules.specs.Entries.{is_main, mains, is_taken, is_vector, keys_keep, methods_breach, entries_breach}
use Rattle.vg_rules.specs.Signatures.{address_keeps, of_the_machine, registers_breach, signatures_breach}
use Rattle.vg_text_chip.proofs.Shapes.{AreEntries, AreRegisters, AreShaped}
use Rattle.vg_text_chip.proofs.Walks.{IsFound, KeepsRegisters}

pub kept : (x y : Option Breach) → (x or y) ≡ None → (x ≡ None) × (y ≡ None)
kept None y e = (refl, e)
kept (Some b) y e = absurd (let clash : Some b ≡ None = e in cc)

both : (a b : Bool) → (a && b) ≡ true → (a ≡ true) × (b ≡ true)
both true true e = (refl, refl)
both true false e = absurd (let clash : false ≡ true = e in cc)
both false b e = absurd (let clash : false ≡ true = e in cc)

-- ---- registers

address_is : (number : List ℕ) → address_keeps number ≡ true → IsDeviceAddress (number_of number)
address_is number e = by (number_of number) (is_hexadecimal number) e
  where
    by : (n : ℕ) (h : Bool) → (h && nat_le 0x20 n && nat_le n 0xFF && not (of_the_machine n)) ≡ true → IsDeviceAddress n
    by n h q =
        record {
          from = grind (arith, q);
          below = grind (arith, q);
          no_rampz = λ x. absurd (grind (arith, q, x));
          no_spl = λ x. absurd (grind (arith, q, x));
          no_sph = λ x. absurd (grind (arith, q, x));
          no_sreg = λ x. absurd (grind (arith, q, x));
        }

found_else : (a b : Option ℕ) → IsFound a → IsFound b → IsFound (or_else a b)
found_else (Some x) b h g = h
found_else None b h g = g

row_found : (rs : Node) (seen : List Name) → AreRegisters rs → registers_breach seen rs ≡ None → (x : Name) → IsFound (register_in rs x)
row_found (Then (RegisterDecl at y number) rest) seen (a, h) e x =
    found_else (as_register (RegisterDecl at y number) x) (register_in rest x) (first (bytes_eq y x)) (row_found rest (y ∷ seen) h (kept _ _ e).1 x)
  where
    address : IsDeviceAddress (number_of number)
    address = by (address_keeps number) (not (is_among seen y)) refl (kept _ _ e).0
      where
        by : (b c : Bool) → address_keeps number ≡ b → asks (b && c) 12 at ≡ None → IsDeviceAddress (number_of number)
        by true c q f = address_is number q
        by false c q f = absurd (let clash : asks false 12 at ≡ None = f in cc)

    first : (b : Bool) → IsFound (if b then Some (number_of number) else None)
    first true = address
    first false = tt
row_found (Then _ rest) seen (a, h) e x = absurd a
row_found _ seen h e x = tt

module _ (ds : Node) where
  abbrev Keep : Option Node → Type 0
  Keep o = (x : Name) → IsFound (register_of o x)

  either : (a b : Option Node) → Keep a → Keep b → Keep (or_else a b)
  either (Some rs) b h g = h
  either None b h g = g

  one : (at : _) (d : Name) (registers : Node) (y : Name) → Keep (Some registers) → Keep (as_device (DeviceDecl at d registers) y)
  one at d registers y h = by (bytes_eq d y)
    where
      by : (b : Bool) → Keep (if b then Some registers else None)
      by true = h
      by false = λ x. tt

  devices_keep : (rows : Node) → AreShaped rows → signatures_breach ds rows ≡ None → (y : Name) → Keep (device_named rows y)
  devices_keep (Then (ClassDecl at c above members) rest) (a, h) e y = devices_keep rest h (kept _ _ e).1 y
  devices_keep (Then (ComponentDecl at c members) rest) (a, h) e y = devices_keep rest h (kept _ _ e).1 y
  devices_keep (Then (DeviceDecl at d registers) rest) (a, h) e y =
      either (as_device (DeviceDecl at d registers) y) (device_named rest y) (one at d registers y (row_found registers [] a (kept _ _ e).0))
      (devices_keep rest h (kept _ _ e).1 y)
  devices_keep (Then d rest) (a, h) e y = devices_keep rest h e y
  devices_keep _ h e y = λ x. tt

  pub keeps : AreShaped ds → signatures_breach ds ds ≡ None → KeepsRegisters ds
  keeps h e d x = devices_keep ds h e d x

-- ---- entries

abbrev pub AreOfInterrupts : List Handler → Type 0
AreOfInterrupts = AllByRecursion (λ h. IsVector h.vector)

of_both : (xs ys : List Handler) → AreOfInterrupts xs → AreOfInterrupts ys → AreOfInterrupts (xs ++ ys)
of_both [] ys h g = g
of_both (x ∷ xs) ys (a, h) g = (a, of_both xs ys h g)

vector_is : (taken key : List ℕ) → is_vector taken key ≡ true → IsVector (number_of key)
vector_is taken key e = by (number_of key) (list_all is_digit key) (not (is_taken taken (number_of key))) e
  where
    by : (n : ℕ) (d t : Bool) → (d && nat_le 1 n && nat_le n 34 && t) ≡ true → IsVector n
    by n d t q = (grind (arith, q), grind (arith, q))

keys_of : (es : Node) (taken : List ℕ) → AreEntries es → keys_keep taken es ≡ true → AreOfInterrupts (handlers_in es)
keys_of (Then (EntryDecl at key c m) rest) taken (a, h) e = by (is_main key) refl e (λ ts f. keys_of rest ts h f)
  where
    by : (b : Bool) → is_main key ≡ b → (if b then keys_keep taken rest else is_vector taken key && keys_keep (number_of key ∷ taken) rest) ≡ true
        → ((ts : List ℕ) → keys_keep ts rest ≡ true → AreOfInterrupts (handlers_in rest)) → AreOfInterrupts (handlers_in (Then (EntryDecl at key c m) rest))
    by true q f again =
        of_both (declared_handler (EntryDecl at key c m)) (handlers_in rest)
        (subst (λ z. AreOfInterrupts (if z then [] else record { vector = number_of key; target = Method c m } ∷ [])) (sym q) tt) (again taken f)
    by false q f again =
        let g = both (is_vector taken key) (keys_keep (number_of key ∷ taken) rest) f in
        of_both (declared_handler (EntryDecl at key c m)) (handlers_in rest)
        (subst (λ z. AreOfInterrupts (if z then [] else record { vector = number_of key; target = Method c m } ∷ [])) (sym q) (vector_is taken key g.0, tt))
        (again (number_of key ∷ taken) g.1)
keys_of (Then _ rest) taken (a, h) e = absurd a
keys_of _ taken h e = tt

pub entries_keep : (ds rows : Node) → AreShaped rows → entries_breach ds rows ≡ None → AreOfInterrupts (handlers_in (entries_in rows))
entries_keep ds (Then (ProgramDecl at p entries) rest) (a, h) e =
    let q = kept (methods_breach ds entries) _ e in
    let r = kept (asks (mains entries == 1 && keys_keep [] entries) 3 at) _ q.1 in by (mains entries == 1) (keys_keep [] entries) refl r.0
  where
    by : (b c : Bool) → keys_keep [] entries ≡ c → asks (b && c) 3 at ≡ None → AreOfInterrupts (handlers_in entries)
    by true true f g = keys_of entries [] a f
    by true false f g = absurd (let clash : asks false 3 at ≡ None = g in cc)
    by false c f g = absurd (let clash : asks false 3 at ≡ None = g in cc)
entries_keep ds (Then d rest) (a, h) e = entries_keep ds rest h e
entries_keep ds _ h e = tt
