use Rattle.std.proofs.Common.{arith}
use Rattle.std.proofs.lemmas.Grind.{common_steps}
use Rattle.signature_core.proofs.Normal.{normal_text_read}
use Rattle.signature_core.proofs.signature.Signature.text.Goals as goal

pub returns-in_err-text-clause-read_again : goal.returns-in_err-text-clause-read_again
returns-in_err-text-clause-read_again c = normal_text_read c.args.self.now

pub returns-in_err-push-clause-read_again : goal.returns-in_err-push-clause-read_again
returns-in_err-push-clause-read_again c = normal_text_read c.args.self.now

pub returns-in_err-push_names-clause-read_again : goal.returns-in_err-push_names-clause-read_again
returns-in_err-push_names-clause-read_again c = normal_text_read c.args.self.now

pub returns-in_err-push-2-clause-read_again : goal.returns-in_err-push-2-clause-read_again
returns-in_err-push-2-clause-read_again c = normal_text_read c.args.self.now

pub returns-clause-read_again : goal.returns-clause-read_again
returns-clause-read_again c = normal_text_read c.args.self.now

pub returns-clause-text : goal.returns-clause-text
returns-clause-text c = grind (arith, common_steps)
