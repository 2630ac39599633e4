-- A table of classes, as the code keeps it.
use Rattle.std.specs.Prelude.{◌≡◌, List, map, string_bytes}
use Rattle.indexmap.specs.IndexMap.{keys, values}
use Rattle.class_table.specs.declared.class.Class.{Class}
use Rattle.class_table.specs.declared.table.ClassTable.TheInside.{Inside}
use Rattle.class_table.specs.Sound.{IsTable}

-- The classes in the order of the file, `QObject` first.
abbrev pub classes_of : Inside → List Class
classes_of table = values table.classes

-- Each class is stored under its name, and is a class of a table.
pub record IsSound (table : Inside) : Type 0 where
  pub by_name : map (λ key. string_bytes key) (keys table.classes) ≡ map (λ class. class.name) (values table.classes)
  pub is_table : IsTable (values table.classes)
