-- The text of the generated program: classes in a row under one class, and a list of objects of these, which main walks along.
use Rattle.std.specs.Prelude.{ℕ, zero, suc, ◌+◌, ◌-◌, ◌%◌, min, List, [], ◌++◌, codes, decimal}

-- ---- the lines that each text has

unfoldable pub device : List ℕ
device = codes "device M { register OUT = 0x38; }\n"

unfoldable pub base_fields : List ℕ
base_fields = codes "class A0 { field v: int; field d: int; field next: A0;\n"

unfoldable pub base_constructor : List ℕ
base_constructor = codes "  constructor(k: int, n: A0) { v = k; next = n; }\n"

unfoldable pub base_step : List ℕ
base_step = codes "  method step(x: int): int { return x + v; }\n"

unfoldable pub base_dead : List ℕ
base_dead = codes "  method dead(): int { return d; } }\n"

unfoldable pub main_fields : List ℕ
main_fields = codes "component Main { field list: A0;\n"

unfoldable pub main_constructor : List ℕ
main_constructor = codes "  constructor() {\n"

unfoldable pub main_constructed : List ℕ
main_constructed = codes "  }\n"

unfoldable pub main_method : List ℕ
main_method =
    codes "  method main() { local x: int = 1; local p: A0 = list; while (p != null) { x = p.step(x); p = p.next; } M.OUT = x :: raw.8; } }\n"

unfoldable pub program : List ℕ
program = codes "program P { entry main = Main.main; }\n"

-- ---- the line of a class

unfoldable pub class_name : List ℕ
class_name = codes "class A"

unfoldable pub class_step : List ℕ
class_step = codes " extends A0 { constructor(k: int, n: A0): super(k, n) { } method step(x: int): int { return x * "

unfoldable pub class_end : List ℕ
class_end = codes " + v; } }\n"

abbrev pub class_line : (i : ℕ) → List ℕ
class_line i = class_name ++ decimal i ++ class_step ++ decimal i ++ class_end

-- ---- the line of an object

unfoldable pub object_class : List ℕ
object_class = codes "    list = new A"

unfoldable pub object_value : List ℕ
object_value = codes "("

unfoldable pub object_end : List ℕ
object_end = codes ", list);\n"

-- The objects take the classes in turn.
abbrev pub class_of : (classes j : ℕ) → ℕ
class_of classes j = (j - 1) % classes + 1

abbrev pub new_object : (class value : ℕ) → List ℕ
new_object class value = object_class ++ decimal class ++ object_value ++ decimal value ++ object_end

abbrev pub object_line : (classes j : ℕ) → List ℕ
object_line classes j = new_object (class_of classes j) j

-- ---- the whole text

-- These lines for 1 to n.
abbrev pub lines : (line : ℕ → List ℕ) → (n : ℕ) → List ℕ
lines line zero = []
lines line (suc n) = lines line n ++ line (suc n)

-- There are as many classes as objects, and at most 100.
abbrev pub classes_of : (n : ℕ) → ℕ
classes_of n = min n 100

abbrev pub base_class : List ℕ
base_class = base_fields ++ base_constructor ++ base_step ++ base_dead

abbrev pub generated : (n : ℕ) → List ℕ
generated n = device ++ base_class ++ lines class_line (classes_of n)
    ++ main_fields ++ main_constructor ++ lines (object_line (classes_of n)) n ++ main_constructed ++ main_method ++ program
