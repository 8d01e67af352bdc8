-- How long the generated text is at most.
use Rattle.std.proofs.Common.{ℕ, zero, suc, ◌+◌, ◌*◌, ◌≤◌, List, ◌++◌, length, arith}
use Rattle.std.specs.Prelude.{decimal}
use Rattle.std.proofs.Math.Nat.{mod-le}
use Rattle.std.proofs.lemmas.List.{length-append}
use Rattle.std.proofs.lemmas.Fmt.{length-decimal-le}
use Rattle.vg_gen.specs.Generated.{base_class, base_constructor, base_dead, base_fields, base_step, class_end, class_line, class_name, class_of, class_step, classes_of}
use Rattle.vg_gen.specs.Generated.{device, generated, lines, main_constructed, main_constructor, main_fields, main_method, new_object, object_class, object_end}
use Rattle.vg_gen.specs.Generated.{object_line, object_value, program}

both : (s t : List ℕ) (m n : ℕ) → length s ≤ m → length t ≤ n → length (s ++ t) ≤ m + n
both s t m n a b = let e = length-append s t in omega (arith, e, a, b)

number_short : (n : ℕ) → n ≤ 500 → length (decimal n) ≤ 3
number_short n few = length-decimal-le 3 n (omega arith) (omega (arith, few)) (omega (arith, few))

-- lines that are short together
lines_short : (line : ℕ → List ℕ) (most : ℕ) (n : ℕ) → n ≤ 500 → ((i : ℕ) → i ≤ 500 → length (line i) ≤ most) → length (lines line n) ≤ n * most
lines_short line most zero few each = omega arith
lines_short line most (suc n) few each =
    let front = lines_short line most n (omega (arith, few)) each in
    let e = both (lines line n) (line (suc n)) (n * most) most front (each (suc n) few) in
    omega (arith, e)

class_name_short : length class_name ≤ 10
unfolding class_name
class_name_short = omega arith

class_step_short : length class_step ≤ 100
unfolding class_step
class_step_short = omega arith

class_end_short : length class_end ≤ 20
unfolding class_end
class_end_short = omega arith

class_line_short : (i : ℕ) → i ≤ 500 → length (class_line i) ≤ 136
class_line_short i few =
    let d = number_short i few in
    let named = both class_name (decimal i) 10 3 class_name_short d in
    let stepped = both _ class_step 13 100 named class_step_short in
    both _ class_end 116 20 (both _ (decimal i) 113 3 stepped d) class_end_short

object_class_short : length object_class ≤ 20
unfolding object_class
object_class_short = omega arith

object_value_short : length object_value ≤ 4
unfolding object_value
object_value_short = omega arith

object_end_short : length object_end ≤ 10
unfolding object_end
object_end_short = omega arith

new_object_short : (class value : ℕ) → class ≤ 500 → value ≤ 500 → length (new_object class value) ≤ 40
new_object_short class value few small =
    let made = both object_class (decimal class) 20 3 object_class_short (number_short class few) in
    let given = both _ object_value 23 4 made object_value_short in
    both _ object_end 30 10 (both _ (decimal value) 27 3 given (number_short value small)) object_end_short

-- the lines of at most 500 objects name classes up to the 500th
class_small : (classes j : ℕ) → j ≤ 500 → class_of classes j ≤ 500
class_small classes zero few = let e = mod-le 0 classes in omega (arith, e)
class_small classes (suc j) few = let e = mod-le j classes in omega (arith, e, few)

object_line_short : (classes j : ℕ) → j ≤ 500 → length (object_line classes j) ≤ 40
object_line_short classes j few = new_object_short (class_of classes j) j (class_small classes j few) few

device_short : length device ≤ 100
unfolding device
device_short = omega arith

base_fields_short : length base_fields ≤ 100
unfolding base_fields
base_fields_short = omega arith

base_constructor_short : length base_constructor ≤ 100
unfolding base_constructor
base_constructor_short = omega arith

base_step_short : length base_step ≤ 100
unfolding base_step
base_step_short = omega arith

base_dead_short : length base_dead ≤ 100
unfolding base_dead
base_dead_short = omega arith

main_fields_short : length main_fields ≤ 100
unfolding main_fields
main_fields_short = omega arith

main_constructor_short : length main_constructor ≤ 100
unfolding main_constructor
main_constructor_short = omega arith

main_constructed_short : length main_constructed ≤ 100
unfolding main_constructed
main_constructed_short = omega arith

main_method_short : length main_method ≤ 200
unfolding main_method
main_method_short = omega arith

program_short : length program ≤ 100
unfolding program
program_short = omega arith

base_class_short : length base_class ≤ 400
base_class_short =
    let made = both base_fields base_constructor 100 100 base_fields_short base_constructor_short in
    both _ base_dead 300 100 (both _ base_step 200 100 made base_step_short) base_dead_short

-- the text of at most 500 objects
pub generated_short : (n : ℕ) → n ≤ 500 → length (generated n) ≤ 262144
generated_short n few =
    let classes = lines_short class_line 136 (classes_of n) (omega (arith, few)) class_line_short in
    let objects = lines_short (object_line (classes_of n)) 40 n few (object_line_short (classes_of n)) in
    let c = classes_of n * 136 in
    let o = n * 40 in
    let base = both device base_class 100 400 device_short base_class_short in
    let below = both _ (lines class_line (classes_of n)) 500 c base classes in
    let head = both _ main_fields (500 + c) 100 below main_fields_short in
    let built = both _ main_constructor (500 + c + 100) 100 head main_constructor_short in
    let made = both _ (lines (object_line (classes_of n)) n) (500 + c + 100 + 100) o built objects in
    let end = both _ main_constructed (500 + c + 100 + 100 + o) 100 made main_constructed_short in
    let method = both _ main_method (500 + c + 100 + 100 + o + 100) 200 end main_method_short in
    let whole = both _ program (500 + c + 100 + 100 + o + 100 + 200) 100 method program_short in
    omega (arith, whole, few)
