use Rattle.std.proofs.Common.{◌∙◌, [], sym}
use Rattle.std.proofs.lemmas.List.Elements.{All-cons, All-nil}
use Rattle.binding_values.specs.EvalResult.{kept_of}
use Rattle.binding_values.specs.Keeping.{entries, standing}
use Rattle.binding_values.specs.Reached.{IsUnread}
use Rattle.binding_values.proofs.KeepingLemmas.{fresh_is_last}
use Rattle.binding_values.proofs.MapLemmas.{not_there}
use Rattle.binding_values.proofs.ReachedLemmas.{gone_already, nothing_reads}
use Rattle.binding_values.proofs.kept_index.KeptIndex.reaches_nothing.Goals as goal

pub returns : goal.returns
returns c = λ on. rw (← c.self.view_is)
    (nothing_reads (kept_of (standing c.self.inside.rows)) _ (standing c.self.inside.rows) (entries c.self.inside.rows) c.self.inside.readers
    (gone_already c.args.at (standing c.self.inside.rows) (not_there _ _ _ c.at.ensures (sym c.is_some.ensures ∙ c.if-is_some.false)))
    (All-cons (IsUnread c.self.inside.readers (standing c.self.inside.rows)) c.args.at [] (c.is_unread.ensures on (standing c.self.inside.rows))
    (All-nil (IsUnread c.self.inside.readers (standing c.self.inside.rows))))
    (fresh_is_last c.self.inside.rows c.count.ensures) c.self.invariant)
