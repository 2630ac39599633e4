-- A server that a host program opens, or why there is none.
use Rattle.std.specs.Prelude.{◌≡◌, ◌<◌, ◌⊎◌, ℕ, List, [], ◌∷◌, Option, Some, Result, Ok, Err, length}
use Rattle.class_table.specs.declared.class.Class.{Class}
use Rattle.class_table.specs.declared.fault.ClassFaultKind.{ClassFaultKind}
use Rattle.class_table.specs.declared.fault.ClassFaultKind.TheVariants.{NotJson, BadForm, NameTaken, NoSuperclass, BadSignature}
use Rattle.class_table.specs.declared.fault.ClassFaultKind.TheVariants.{DeclaredTwice, BadNotify, BadBody, Limit}
use Rattle.class_table.specs.declared.fault.ClassFault.{ClassFault}
use Rattle.class_table.specs.ClassFile.{table_of}
use Rattle.command_line.specs.Demonstration.{demonstration}
use Rattle.session_model.specs.State.{empty}
use Rattle.server_world.specs.Server.{IsNew, settings, states}
use Rattle.metad_c.specs.declared.Opened.{Opened}
use Rattle.metad_c.specs.declared.kept.Kept.{Kept}
use Rattle.metad_c.specs.declared.opening.Stop.{Stop}
use Rattle.metad_c.specs.declared.opening.Stop.TheVariants.{Classes, Keys, Memory}
use Rattle.metad_c.specs.Answers.{seen}
use Rattle.metad_c.specs.Functors.{program_functors}

-- A server with these classes and turns and the functors of the program, which has had no command.
pub record IsOpened (classes : List Class) (turns : ℕ) (kept : Kept) : Type 0 where
  pub states : (name : List ℕ) → states (seen kept).server name ≡ empty
  pub new : IsNew (seen kept).server
  pub settings : settings (seen kept).server ≡ record { turns = turns; classes = classes; functors = program_functors }
  pub said : (seen kept).said ≡ []

-- The classes of a class file, or its fault. An empty file gives the demonstration classes.
abbrev pub classes_of : List ℕ → Result (List Class) ClassFault
classes_of [] = Ok demonstration
classes_of (byte ∷ bytes) = table_of (byte ∷ bytes)

-- The handle has such a server.
pub record IsOpen (bytes : List ℕ) (turns : ℕ) (value : Option Kept) : Type 0 where
  pub classes : List Class
  pub kept : Kept
  pub are : classes_of bytes ≡ Ok classes
  pub opened : IsOpened classes turns kept
  pub is : value ≡ Some kept

-- The number of a kind of fault, as in its code.
abbrev pub number_of : ClassFaultKind → ℕ
number_of NotJson = 1
number_of BadForm = 2
number_of NameTaken = 3
number_of NoSuperclass = 4
number_of BadSignature = 5
number_of DeclaredTwice = 6
number_of BadNotify = 7
number_of BadBody = 8
number_of Limit = 9

-- There are no classes: the file has this fault, or memory ran out.
abbrev pub StopsAtClasses : List ℕ → Stop → Type 0
StopsAtClasses bytes (Classes fault) = classes_of bytes ≡ Err fault
StopsAtClasses bytes Keys = ⊥
StopsAtClasses bytes Memory = Unit {0}

-- There are classes, but too few random bytes, or memory ran out.
abbrev pub StopsAfterClasses : List ℕ → Stop → Type 0
StopsAfterClasses keys (Classes fault) = ⊥
StopsAfterClasses keys Keys = length keys < 16
StopsAfterClasses keys Memory = Unit {0}

-- Why there is no server. The classes are checked first.
abbrev pub Stops : List ℕ → List ℕ → Stop → Type 0
Stops bytes keys (Classes fault) = classes_of bytes ≡ Err fault
Stops bytes keys Keys = (classes : List Class) × (classes_of bytes ≡ Ok classes) × (length keys < 16)
Stops bytes keys Memory = Unit {0}

-- What the host program gets then.
abbrev pub opened_of : Stop → Opened
opened_of (Classes fault) = record { status = 1; kind = number_of fault.kind; class = fault.class }
opened_of Keys = record { status = 4; kind = 0; class = 0 }
opened_of Memory = record { status = 5; kind = 0; class = 0 }

-- The server is open if the status is 0. Otherwise the handle is unchanged, and the result says why.
abbrev pub Opens : List ℕ → ℕ → List ℕ → Option Kept → Option Kept → Opened → Type 0
Opens bytes turns keys old new opened =
    ((opened.status ≡ 0) × IsOpen bytes turns new)
    ⊎ ((new ≡ old) × ((stop : Stop) × Stops bytes keys stop × (opened ≡ opened_of stop)))
