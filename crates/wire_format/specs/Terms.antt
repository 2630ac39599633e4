-- Expressions in JSON, in their shortest form.
use Rattle.std.specs.Prelude.{ℕ, true, List, codes}
use Rattle.serde_json.specs.Data.{Data, boolean, string, array, object, no_items, item, no_members, member}
use Rattle.term_core.specs.declared.operator.Operator.{Operator}
use Rattle.term_core.specs.declared.operator.Operator.TheVariants.{Sum, Difference, Less, Equal, Concatenated}
use Rattle.term_core.specs.declared.target.Target.{Target}
use Rattle.term_core.specs.declared.target.Target.TheVariants.{Itself, Sender, Child, Object}
use Rattle.term_core.specs.Term.{Term, const, arg, state, prop, binary, choice}
use Rattle.variant_value.specs.Values.{json_of}
use Rattle.wire_format.specs.Json.{json_of_number}

-- The key of an operator's form.
abbrev pub operator_key : Operator → List ℕ
operator_key Sum = codes "+"
operator_key Difference = codes "-"
operator_key Less = codes "<"
operator_key Equal = codes "="
operator_key Concatenated = codes "cat"

-- An object with one member.
abbrev pub only : List ℕ → Data → Data
only key json = object (member key json no_members)

-- A property of a named object.
abbrev pub json_of_property_of : Data → List ℕ → Data
json_of_property_of of name = object (member (codes "of") of (member (codes "prop") (string name) no_members))

-- A property of a target. The object itself is not named.
abbrev pub json_of_read : Target → List ℕ → Data
json_of_read Itself name = only (codes "prop") (string name)
json_of_read Sender name = json_of_property_of (string (codes "sender")) name
json_of_read (Child child) name = json_of_property_of (only (codes "child") (string child)) name
json_of_read (Object number) name = json_of_property_of (json_of_number number) name

-- An expression in JSON.
abbrev pub json_of_term : Term → Data
json_of_term (const value) = only (codes "const") (json_of value)
json_of_term (arg place) = only (codes "arg") (json_of_number place)
json_of_term state = only (codes "state") (boolean true)
json_of_term (prop target name) = json_of_read target name
json_of_term (binary operator a b) = only (operator_key operator) (array (item (json_of_term a) (item (json_of_term b) no_items)))
json_of_term (choice test a b) = only (codes "if") (array (item (json_of_term test) (item (json_of_term a) (item (json_of_term b) no_items))))
