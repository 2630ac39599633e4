use Rattle.session_effects.specs.Setup.{settings_of}
use Rattle.session_effects.proofs.WritingLemmas.{told_one}
use Rattle.session_effects.proofs.announcing.news_of.Goals as goal

pub returns-in-Some : goal.returns-in-Some
returns-in-Some c = rw c.in-Written.is (λ state has depth. told_one
    (settings_of c.args.caller.now.setup.now) state c.args.object c.args.class c.args.number has depth c.in-Some.notice c.in-Some.ensures)
