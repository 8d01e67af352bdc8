-- The rules on what each class, component and device declares for itself.
use Rattle.std.specs.Prelude.{ℕ, ◌==◌, ◌&&◌, ◌||◌, not, nat_le, Bool, true, false, List, [], ◌∷◌, Option, Some, None, bytes_eq}
use Rattle.vg_syntax.specs.Tree.{Param, Node, Then, ClassDecl, ComponentDecl, DeviceDecl, RegisterDecl, FieldDecl, MethodDecl, ConstructorDecl}
use Rattle.vg_syntax.specs.Lexemes.{is_hexadecimal}
use Rattle.vg_source.specs.Names.{Name, is_among}
use Rattle.vg_source.specs.Literals.{number_of}
use Rattle.vg_rules.specs.Breach.{Breach, asks, ◌or◌}
use Rattle.vg_rules.specs.Written.{type_keeps, param_types_keep}

-- A parameter has this name.
abbrev pub is_param : List Param → Name → Bool
is_param [] x = false
is_param (p ∷ ps) x = bytes_eq p.name x || is_param ps x

-- Rule 11 for parameters: their names differ.
abbrev pub params_differ : List Param → Bool
params_differ [] = true
params_differ (p ∷ ps) = not (is_param ps p.name) && params_differ ps

-- Where members stand: in a component, in a class, or in a class that extends another.
pub data Home : Type 0 where
  OfComponent : Home
  OfClass : Home
  OfSubclass : Home

abbrev pub home_of : Option Name → Home
home_of None = OfClass
home_of (Some above) = OfSubclass

-- Rule 9: a component's constructor has no parameters, and `super` is called only where a class extends another.
abbrev pub constructor_keeps : Home → List Param → (calls_super : Bool) → Bool
constructor_keeps OfSubclass ps calls = true
constructor_keeps OfClass ps calls = not calls
constructor_keeps OfComponent [] calls = not calls
constructor_keeps OfComponent (p ∷ ps) calls = false

-- Rules 6, 8, 9 and 11 for members, behind members of these names, and behind a constructor where `made` holds. Rule 6: no two members
-- have one name, and there is one constructor at most.
abbrev pub members_breach : Node → Home → (seen : List Name) → (made : Bool) → Node → Option Breach
members_breach ds home seen made (Then (FieldDecl at x t e) rest) =
    asks (not (is_among seen x)) 6 at or asks (type_keeps ds t) 8 at or members_breach ds home (x ∷ seen) made rest
members_breach ds home seen made (Then (MethodDecl at x ps t body) rest) =
    asks (not (is_among seen x)) 6 at or asks (param_types_keep ds ps && type_keeps ds t) 8 at or asks (params_differ ps) 11 at
    or members_breach ds home (x ∷ seen) made rest
members_breach ds home seen made (Then (ConstructorDecl at ps calls args body) rest) =
    asks (not made) 6 at or asks (param_types_keep ds ps) 8 at or asks (constructor_keeps home ps calls) 9 at
    or asks (params_differ ps) 11 at or members_breach ds home seen true rest
members_breach ds home seen made _ = None

-- The stack pointer, the status register and RAMPZ, which are no registers of a device (ATmega128 datasheet, "Register Summary").
abbrev pub of_the_machine : ℕ → Bool
of_the_machine a = (a == 0x5B) || (a == 0x5D) || (a == 0x5E) || (a == 0x5F)

-- Rule 12 for a number: it is hexadecimal, from 0x20 to 0xFF, and that of no register of the machine.
abbrev pub address_keeps : List ℕ → Bool
address_keeps number =
    is_hexadecimal number && nat_le 0x20 (number_of number) && nat_le (number_of number) 0xFF && not (of_the_machine (number_of number))

-- Rule 12 for registers, behind those of these names: their names differ.
abbrev pub registers_breach : (seen : List Name) → Node → Option Breach
registers_breach seen (Then (RegisterDecl at x number) rest) =
    asks (address_keeps number && not (is_among seen x)) 12 at or registers_breach (x ∷ seen) rest
registers_breach seen _ = None

-- These rules for all declarations.
abbrev pub signatures_breach : Node → Node → Option Breach
signatures_breach ds (Then (ClassDecl at c above members) rest) =
    members_breach ds (home_of above) [] false members or signatures_breach ds rest
signatures_breach ds (Then (ComponentDecl at c members) rest) = members_breach ds OfComponent [] false members or signatures_breach ds rest
signatures_breach ds (Then (DeviceDecl at d registers) rest) = registers_breach [] registers or signatures_breach ds rest
signatures_breach ds (Then d rest) = signatures_breach ds rest
signatures_breach ds _ = None
