-- The commands of the event loop.
use Rattle.std.specs.Prelude.{List, [], ◌∷◌, Option, None, codes, option_map}
use Rattle.session_model.specs.Asked.{Ask, Asked, Do, Spin}
use Rattle.session_model.specs.declared.operation.Operation.TheVariants.{Block, DeleteLater}
use Rattle.session_model.specs.declared.query.Query.TheVariants.{Status}
use Rattle.wire_commands.specs.declared.keys.Holds.TheVariants.{Number, Truth}
use Rattle.wire_commands.specs.Form.{Form}
use Rattle.wire_commands.specs.Held.{Held, number_of, truth_of}
use Rattle.wire_commands.specs.Keys.{needed}
use Rattle.wire_commands.specs.Shared.{alone, of_object}

-- `spin` takes the queued events.
abbrev pub spin : Form
spin = alone (codes "spin") Spin

-- `deleteLater` deletes an object when its event is taken.
abbrev pub delete_later : Form
delete_later = of_object (codes "deleteLater") (λ target. Do (DeleteLater target))

-- `block` blocks the signals of an object, or unblocks them.
abbrev pub block_of : List Held → Option Asked
block_of (target ∷ on ∷ []) = option_map (λ number. Do (Block number (truth_of on))) (number_of target)
block_of held = None

abbrev pub block : Form
block = record { word = codes "block"; keys = needed (codes "object") Number ∷ needed (codes "on") Truth ∷ []; asks = block_of }

-- `status` answers with the counts of what the session holds.
abbrev pub status : Form
status = alone (codes "status") (Ask Status)

-- The forms of these commands.
unfoldable pub forms : List Form
forms = spin ∷ delete_later ∷ block ∷ status ∷ []
