use Rattle.std.proofs.Common.{refl}
use Rattle.wire_commands.specs.Bindings as bindings
use Rattle.wire_commands.specs.Classes as classes
use Rattle.wire_commands.specs.Events as events
use Rattle.wire_commands.specs.Properties as properties
use Rattle.wire_commands.specs.Shared.{alone, of_class, of_object, of_property, of_search}
use Rattle.wire_commands.specs.Sharing as sharing
use Rattle.wire_commands.specs.Signals as signals
use Rattle.wire_commands.specs.Trees as trees
use Rattle.wire_commands.proofs.commands_have_distinct_words.Goals as goal

pub returns : goal.returns
unfolding trees.forms properties.forms bindings.forms classes.forms signals.forms events.forms sharing.forms alone of_class of_object of_property of_search
returns c = refl
