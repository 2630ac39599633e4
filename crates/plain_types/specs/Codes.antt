-- How the protocol prints its codes.
use Rattle.std.specs.Prelude.{ℕ, List, codes}
use Rattle.plain_types.specs.declared.code.Code.{Code}
use Rattle.plain_types.specs.declared.code.Code.TheVariants.{UnreadableLine, NotACommand, NoSuchClass, NoSuchObject, NoSuchMethod}
use Rattle.plain_types.specs.declared.code.Code.TheVariants.{BadSignature, DoesNotFit, ConnectedAlready, UniqueFunctor, NoSuchFunctor}
use Rattle.plain_types.specs.declared.code.Code.TheVariants.{NoSuchProperty, Cycle, Dying, Limit, NameTaken, OwnSession, NoGroup, NotBindable}
use Rattle.plain_types.specs.declared.code.Code.TheVariants.{NumbersUsedUp, SessionFailed, OutOfMemory, BadValue, TurnsUsedUp}

-- The bytes of a code.
abbrev pub code_text : Code → List ℕ
code_text UnreadableLine = codes "E01"
code_text NotACommand = codes "E02"
code_text NoSuchClass = codes "E03"
code_text NoSuchObject = codes "E04"
code_text NoSuchMethod = codes "E05"
code_text BadSignature = codes "E06"
code_text DoesNotFit = codes "E07"
code_text ConnectedAlready = codes "E08"
code_text UniqueFunctor = codes "E09"
code_text NoSuchFunctor = codes "E10"
code_text NoSuchProperty = codes "E11"
code_text Cycle = codes "E12"
code_text Dying = codes "E13"
code_text Limit = codes "E14"
code_text NameTaken = codes "E15"
code_text OwnSession = codes "E16"
code_text NoGroup = codes "E17"
code_text NotBindable = codes "E18"
code_text NumbersUsedUp = codes "E19"
code_text SessionFailed = codes "E20"
code_text OutOfMemory = codes "E21"
code_text BadValue = codes "E22"
code_text TurnsUsedUp = codes "E23"
