-- Mirrors: how the code asks what declarations say for themselves. No clause of a public function cites them.
use Rattle.std.specs.Prelude.{ℕ, ◌+◌, ◌==◌, ◌&&◌, ◌||◌, not, nat_le, Bool, true, false, List, [], Option, Some, None, is_some, if◌then◌else◌}
use Rattle.std.specs.Option.{option_map}
use Rattle.vg_syntax.specs.Tree.{TypeTree, Node, ClassDecl, ComponentDecl, DeviceDecl, RegisterDecl, FieldDecl, MethodDecl, ConstructorDecl}
use Rattle.vg_syntax.specs.Lexemes.{is_hexadecimal}
use Rattle.vg_tree.specs.Held.{text_at}
use Rattle.vg_source.specs.Names.{Name}
use Rattle.vg_source.specs.Literals.{number_of}
use Rattle.vg_rules.specs.Breach.{Breach}
use Rattle.vg_rules.specs.Written.{levels, type_keeps, param_types_keep}
use Rattle.vg_rules.specs.Signatures as rules
use Rattle.vg_rules.specs.Signatures.{params_differ, home_of, constructor_keeps, members_breach, registers_breach}
use Rattle.vg_types_views.specs.ByText.{found, added}
use Rattle.vg_types_signatures.specs.declared.registers.Register.{Register as HeldRegister}
use Rattle.vg_types_signatures.specs.declared.members.Home.{Home}
use Rattle.vg_types_signatures.specs.declared.members.Home.TheVariants.{Component, Class, Subclass}
use Rattle.vg_types_signatures.specs.declared.members.Keeps.{Keeps}
use Rattle.vg_types_signatures.specs.declared.members.Asked.{Asked as HeldAsked}
use Rattle.vg_types_signatures.specs.declared.members.Passed.{Passed}

-- ---- types

abbrev pub width_keeps : List ℕ → Bool
width_keeps width = not (is_hexadecimal width) && nat_le 1 (number_of width) && nat_le (number_of width) 32

-- so many levels over an element are not too many; where there are none the element is asked alone
abbrev pub levels_keep : ℕ → TypeTree → Bool
levels_keep n element = (n == 0) || nat_le (n + levels element) 4

-- ---- registers

pub record Register : Type 0 where
  pub name : Name
  pub number : List ℕ

abbrev pub register_of : Node → Option Register
register_of (RegisterDecl at x number) = Some (record { name = x; number = number })
register_of _ = None

abbrev pub register_view : List (List ℕ) → HeldRegister → Register
register_view texts r = record { name = text_at texts r.name; number = text_at texts r.number }

-- ---- members

abbrev pub home_view : Home → rules.Home
home_view Component = rules.OfComponent
home_view Class = rules.OfClass
home_view Subclass = rules.OfSubclass

-- before the first member
abbrev pub no_members : Passed
no_members = record { names = []; constructor = false }

-- behind a member of this name, or behind a constructor
abbrev pub with_member : Option Name → Passed → Passed
with_member (Some x) p = record p { names = added x tt p.names }
with_member None p = record p { constructor = true }

-- what was asked of a member, and its name
pub record Asked : Type 0 where
  pub keeps : Keeps
  pub name : Option Name

abbrev pub asked_view : List (List ℕ) → HeldAsked → Asked
asked_view texts a = record { keeps = a.keeps; name = option_map (text_at texts) a.name }

abbrev pub asked_of : Node → rules.Home → Passed → Node → Option Asked
asked_of ds home p (FieldDecl at x t e) =
    Some (record { keeps = record { name = not (is_some (found x p.names)); types = type_keeps ds t; constructor = true; params = true }; name = Some x })
asked_of ds home p (MethodDecl at x ps t body) =
    Some (record {
      keeps = record {
        name = not (is_some (found x p.names));
        types = param_types_keep ds ps && type_keeps ds t;
        constructor = true;
        params = params_differ ps;
      };
      name = Some x;
    })
asked_of ds home p (ConstructorDecl at ps calls args body) =
    Some (record {
      keeps = record {
        name = not p.constructor;
        types = param_types_keep ds ps;
        constructor = constructor_keeps home ps calls;
        params = params_differ ps;
      };
      name = None;
    })
asked_of ds home p _ = None

-- the first rule that is broken
abbrev pub broken_rule : Keeps → Option ℕ
broken_rule k =
    if not k.name then Some 6 else if not k.types then Some 8 else if not k.constructor then Some 9 else if not k.params then Some 11 else None

-- ---- declarations

-- the first breach in what one declaration says for itself
abbrev pub one_breach : Node → Node → Option Breach
one_breach ds (ClassDecl at c above members) = members_breach ds (home_of above) [] false members
one_breach ds (ComponentDecl at c members) = members_breach ds rules.OfComponent [] false members
one_breach ds (DeviceDecl at d registers) = registers_breach [] registers
one_breach ds _ = None
