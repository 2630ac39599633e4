use Rattle.command_line.proofs.DemonstrationLemmas.{by_demonstration}
use Rattle.command_line.proofs.class_file.demonstration_classes.Goals as goal

pub returns : goal.returns
returns c = by_demonstration c.as_bytes.result.now c.table_from.result c.as_bytes.ensures.value c.table_from.ensures
