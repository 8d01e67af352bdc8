-- What a text may have just so many of, and one more.
use Rattle.std.specs.Prelude.{◌≡◌, refl, ℕ, zero, suc, ◌+◌, List, [], ◌∷◌, ◌++◌, Some, None}
use Rattle.vg_syntax.specs.declared.kind.Kind.TheVariants as kind
use Rattle.vg_syntax.specs.Tree.{IntType, NoType, ClassDecl, ComponentDecl, MethodDecl, Local, Param, Node, Nothing}
use Rattle.vg_syntax.specs.Numbering.{numbered}
use Rattle.vg_rules.specs.declared.what.What.{What}
use Rattle.vg_rules.specs.declared.what.What.TheVariants.{Classes, Methods, Locals, Height}
use Rattle.vg_rules.specs.Refusal.{TooMany, refusal_of}
use Rattle.vg_rule_texts.specs.Writing.{IsLegal, here, row, raw, of_class, class, subclass, component, param, field, method, constructor}
use Rattle.vg_rule_texts.specs.Writing.{constructor_with_super, block, arm, choice, loop, assign, eval, gives, number}
use Rattle.vg_rule_texts.specs.Writing.{yes, name, this, prefixed, chain, part, suffixed, dot, call}
use Rattle.vg_rule_texts.specs.Writing.{frame, in_main, with_members, with_declarations, with_more}

-- The declaration at this node is the first with more of this than there may be, which is so many.
abbrev pub IsTooMany : What → (limit node : ℕ) → Node → Type 0
IsTooMany what limit node text = refusal_of (numbered 0 text) ≡ Some (TooMany what limit node)

-- ---- many

-- A name of two bytes, by two numbers.
abbrev two_bytes : (n k : ℕ) → List ℕ
two_bytes n k = (97 + n) ∷ (97 + k) ∷ []

-- So many things that are made from numbers, the largest first.
abbrev many : {A : Type 0} → (ℕ → A) → ℕ → List A
many make zero = []
many make (suc n) = make n ∷ many make n

-- So many rows of things.
abbrev many_rows : {A : Type 0} → (ℕ → List A) → ℕ → List A
many_rows make zero = []
many_rows make (suc n) = make n ++ many_rows make n

-- ---- classes and components: 200 together, three of them in the frame

-- The n-th ten classes.
abbrev ten : ℕ → List Node
ten n = many (λ k. ClassDecl here (two_bytes n k) None Nothing) 10

classes_200 : IsLegal (with_declarations (class "x" [] ∷ many_rows ten 19 ++ many (λ k. ComponentDecl here (two_bytes 19 k) Nothing) 6))
classes_200 = refl

class_201 : IsTooMany Classes 200 213 (
    with_declarations (many_rows ten 19 ++ many (λ k. ComponentDecl here (two_bytes 19 k) Nothing) 7 ++ class "x" [] ∷ []))
class_201 = refl

component_201 : IsTooMany Classes 200 213 (
    with_declarations (class "x" [] ∷ many_rows ten 19 ++ many (λ k. ComponentDecl here (two_bytes 19 k) Nothing) 7))
component_201 = refl

-- ---- methods and constructors: 2000 together, two of them in the frame

abbrev methods : ℕ → List Node
methods n = many (λ k. MethodDecl here (two_bytes 0 k) [] NoType (block [])) n

-- So many components of a hundred methods each.
abbrev hundreds : ℕ → List Node
hundreds n = many (λ i. ComponentDecl here (two_bytes i 0) (row (methods 100))) n

methods_2000 : IsLegal (with_declarations (hundreds 19 ++ component "x" (constructor [] [] ∷ methods 97) ∷ []))
methods_2000 = refl

constructor_2001 : IsTooMany Methods 2000 4032 (with_declarations (hundreds 19 ++ component "x" (methods 98 ++ constructor [] [] ∷ []) ∷ []))
constructor_2001 = refl

method_2001 : IsTooMany Methods 2000 4033 (with_declarations (hundreds 19 ++ class "x" (constructor [] [] ∷ field "y" IntType Nothing ∷ methods 98) ∷ []))
method_2001 = refl

-- ---- parameters and locals of one method or constructor: 60

-- So many locals, whose names begin with the n-th byte.
abbrev locals : (n : ℕ) → ℕ → List Node
locals n = many (λ k. Local here (two_bytes n k) IntType Nothing)

abbrev params : ℕ → List Param
params = many (λ k. record { name = two_bytes 0 k; type = IntType })

locals_60 : IsLegal (in_main (locals 0 60))
locals_60 = refl

locals_61 : IsTooMany Locals 60 10 (in_main (locals 0 61))
locals_61 = refl

params_60 : IsLegal (with_members (method "n" (params 60) NoType [] ∷ []))
params_60 = refl

params_61 : IsTooMany Locals 60 12 (with_members (method "n" (params 61) NoType [] ∷ []))
params_61 = refl

params_and_locals_60 : IsLegal (with_declarations (class "C" (constructor (params 30) (locals 1 30) ∷ []) ∷ []))
params_and_locals_60 = refl

params_and_locals_61 : IsTooMany Locals 60 17 (with_declarations (class "C" (constructor (params 30) (locals 1 31) ∷ []) ∷ []))
params_and_locals_61 = refl

-- Locals count that are never in scope together, and those that nothing reaches.
abbrev in_blocks : (last : ℕ) → Node
in_blocks last = in_main (
    block (locals 0 20)
    ∷ loop yes (locals 0 20)
    ∷ gives Nothing
    ∷ choice (arm yes (locals 0 10) Nothing) (block (locals 0 last))
    ∷ [])

locals_of_blocks_60 : IsLegal (in_blocks 10)
locals_of_blocks_60 = refl

locals_of_blocks_61 : IsTooMany Locals 60 10 (in_blocks 11)
locals_of_blocks_61 = refl

locals_of_two_methods : IsLegal (with_members (method "n" (params 60) NoType [] ∷ method "o" (params 60) NoType [] ∷ []))
locals_of_two_methods = refl

-- ---- the height of a method, a constructor or a field initialiser: 48

-- So many blocks in one another, around a block.
abbrev nested : ℕ → Node
nested zero = block []
nested (suc n) = block (nested n ∷ [])

-- So many calls in one another, each the argument of the next: two levels each.
abbrev calls : ℕ → Node → Node
calls zero e = e
calls (suc n) e = suffixed (name "Main") (dot "f" ∷ call (calls n e ∷ []) ∷ [])

-- method f(x: raw.8): raw.8 { return x; }
abbrev passes : Node
passes = method "f" (param "x" (raw "8") ∷ []) (raw "8") (gives (name "x") ∷ [])

abbrev complement : Node → Node
complement e = prefixed (kind.Complement ∷ []) e

blocks_48 : IsLegal (in_main (nested 45 ∷ []))
blocks_48 = refl

blocks_49 : IsTooMany Height 48 10 (in_main (nested 46 ∷ []))
blocks_49 = refl

-- method n() { M.R = CALLS; }
abbrev writes : Node → Node
writes e = with_members (passes ∷ method "n" [] NoType (assign (suffixed (name "M") (dot "R" ∷ [])) e ∷ []) ∷ [])

calls_48 : IsLegal (writes (calls 22 (number "0x01")))
calls_48 = refl

calls_50 : IsTooMany Height 48 16 (writes (calls 23 (number "0x01")))
calls_50 = refl

-- field x: raw.8 = CALLS;
abbrev begins_with : Node → Node
begins_with e = with_members (passes ∷ field "x" (raw "8") e ∷ [])

initialiser_48 : IsLegal (begins_with (calls 23 (complement (number "0x01"))))
initialiser_48 = refl

initialiser_49 : IsTooMany Height 48 16 (begins_with (complement (calls 23 (complement (number "0x01")))))
initialiser_49 = refl

-- class C { constructor(x: raw.8) { } } class D extends C { constructor(): super(CALLS) { } }
abbrev with_super : Node → Node
with_super e = with_more (passes ∷ []) [] (
    class "C" (constructor (param "x" (raw "8") ∷ []) [] ∷ [])
    ∷ subclass "D" "C" (constructor_with_super [] (e ∷ []) [] ∷ [])
    ∷ [])

super_48 : IsLegal (with_super (calls 23 (number "0x01")))
super_48 = refl

super_49 : IsTooMany Height 48 24 (with_super (calls 23 (complement (number "0x01"))))
super_49 = refl

-- What stands in a row adds no height: parts, suffixes, arms, statements, members.
many_parts : IsLegal (in_main (eval (chain (number "1") (many (λ k. part kind.Plus (number "1")) 100)) ∷ []))
many_parts = refl

many_prefixes : IsLegal (in_main (eval (prefixed (many (λ k. kind.Minus) 100) (number "1")) ∷ []))
many_prefixes = refl

-- class C { field c: C; method n() { this.c.c .. ; } }
many_suffixes : IsLegal (with_declarations (
    class "C" (field "c" (of_class "C") Nothing ∷ method "n" [] NoType (eval (suffixed this (many (λ k. dot "c") 100)) ∷ []) ∷ [])
    ∷ []))
many_suffixes = refl

-- So many arms.
abbrev arms : ℕ → Node
arms zero = Nothing
arms (suc n) = arm yes [] (arms n)

many_arms : IsLegal (in_main (choice (arms 100) Nothing ∷ []))
many_arms = refl

many_statements : IsLegal (in_main (many (λ k. eval (number "1")) 100))
many_statements = refl

-- ---- which comes first

-- Classes come before methods, methods before locals, locals before heights, each before what stands earlier in the text.
classes_before_locals : IsTooMany Classes 200 276 (
    with_more (method "n" [] NoType (locals 0 61) ∷ []) [] (class "x" [] ∷ many_rows ten 20))
classes_before_locals = refl

methods_before_locals : IsTooMany Methods 2000 4093 (
    with_more (method "n" [] NoType (locals 0 61) ∷ []) [] (hundreds 19 ++ component "x" (methods 98) ∷ []))
methods_before_locals = refl

locals_before_heights : IsTooMany Locals 60 59 (frame (nested 46 ∷ []) (method "n" [] NoType (locals 0 61) ∷ []) [] [])
locals_before_heights = refl

first_in_the_text : IsTooMany Locals 60 12 (with_members (method "n" [] NoType (locals 0 61) ∷ method "o" [] NoType (locals 0 70) ∷ []))
first_in_the_text = refl

-- What is too many comes before what is broken.
many_before_broken : IsTooMany Locals 60 12 (with_members (method "main" [] NoType (locals 0 61) ∷ []))
many_before_broken = refl
