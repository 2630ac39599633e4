-- What a box without a type owns.
use base.Fml.{Fml, ftrue}
use base.Stored.{Coded}
use Rattle.std.specs.Coded.{coded_option}
use denote.RawPtr.{Ptr}
use Rattle.std.specs.Box.Ownership.{box_owns}
use Rattle.std.specs.Global.{Global}
use Rattle.std.specs.Prelude.{Option, Some, None}
use Rattle.std_heap.specs.contracts.GlobalAllocator.TheImpl.{ghosts}
use Rattle.metad_c.specs.contracts.kept.Kept.{the_row}

-- What a box owns; nothing if there is no box.
abbrev pub owned : Option the_row.Denot → Global → Ptr → Fml
owned (Some x) alloc at = box_owns (ghosts.dealloc_token alloc) the_row at x
owned None alloc at = ftrue

abbrev pub kept_coded : Coded (Option the_row.Denot)
kept_coded = coded_option the_row.coded
