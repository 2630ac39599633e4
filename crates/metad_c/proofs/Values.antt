-- A loose box owns what a box at the same types owns.
use mathlib.Core.List.{[]}
use mir.Syntax.{impl, tnil, dnil}
use denote.Signature.{Slot, plain}
use Rattle.std_alloc.proofs.BoxSteps.Form.{Bx}
use Rattle.std_heap.specs.contracts.Global as Heap
use Rattle.std_heap.specs.contracts.GlobalAllocator.TheImpl.{ghosts, dict}
use Rattle.std_heap.proofs.Global.TheLaws as heap
use Rattle.metad_c.specs.contracts.kept.Kept as Kept
use Rattle.metad_c.proofs.kept.Kept.TheLaws as kept
use Rattle.metad_c.specs.contracts.parts.Parts as Parts
use Rattle.metad_c.specs.contracts.loose.Loose as Loose

abbrev pub E : Bx
E = record {
  row = Kept.the_row;
  laws = kept.the_row_laws;
  al = record { row = Heap.the_row; laws = heap.the_row_laws; g = ghosts; d = dict; drops = impl [] tnil dnil };
}

abbrev pub FromParts : Slot 0
FromParts = plain (λ _. Parts.the_row Kept.the_row Heap.the_row ghosts)

abbrev pub FromLoose : Slot 0
FromLoose = plain (λ _. Loose.the_row)

abbrev pub FromGlobal : Slot 0
FromGlobal = plain (λ _. Heap.the_row)
