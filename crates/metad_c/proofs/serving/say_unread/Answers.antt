use Rattle.metad_c.specs.Answers.{seen}
use Rattle.metad_c.proofs.ServingLemmas.{refused}
use Rattle.metad_c.proofs.serving.say_unread.Goals as goal

pub returns : goal.returns
returns c =
    refused (seen c.args.kept.now) _ c.say-said.result c.said_or.result c.said_or.ensures c.note_memory_refused.ensures.refused
    c.note_memory_refused.ensures.settings c.say-said.ensures.ok c.say-said.ensures.err
