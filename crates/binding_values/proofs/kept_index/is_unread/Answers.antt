use Rattle.binding_values.proofs.ReachedLemmas.{done_all, done_first}
use Rattle.binding_values.proofs.kept_index.is_unread.Goals as goal

pub reader_at-requires : goal.reader_at-requires
reader_at-requires c = c.start_of-start.ensures.1

pub returns-in-None : goal.returns-in-None
returns-in-None c = λ on rows. done_all c.args.readers.now rows c.args.read c.start_of-start.result
    (done_first c.args.readers.now rows c.args.read c.start_of-start.result c.start_of-start.ensures.0) c.in-None.ensures.none
