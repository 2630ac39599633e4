use Rattle.std.proofs.Common.{◌≡◌, ◌∙◌, ap, sym, None}
use Rattle.signature_core.specs.Reading.{signature_of}
use Rattle.signature_core.proofs.Complete.{spells_read}
use Rattle.signature_core.proofs.Sound.{signature_spelled}
use Rattle.signature_core.proofs.Normal.{read_iff, read_normal}
use Rattle.signature_core.proofs.signature.Signature.normalise.Goals as goal

pub returns-in_err-signature-clause-grammar : goal.returns-in_err-signature-clause-grammar
returns-in_err-signature-clause-grammar c = read_iff c.args.text.now

pub returns-in-Some-clause-grammar : goal.returns-in-Some-clause-grammar
returns-in-Some-clause-grammar c = read_iff c.args.text.now

pub returns-in-Some-clause-found : goal.returns-in-Some-clause-found
returns-in-Some-clause-found c =
    signature_spelled c.args.text.now c.in-Some.signature (ap signature_of (sym c.as_bytes.ensures.value) ∙ (sym c.in_ok-signature.ensures ∙ c.in-Some.is))

pub returns-in-Some-clause-normal : goal.returns-in-Some-clause-normal
returns-in-Some-clause-normal c =
    read_normal c.args.text.now c.in-Some.signature (ap signature_of (sym c.as_bytes.ensures.value) ∙ (sym c.in_ok-signature.ensures ∙ c.in-Some.is))

pub returns-in-None-clause-grammar : goal.returns-in-None-clause-grammar
returns-in-None-clause-grammar c = read_iff c.args.text.now

pub returns-in-None-clause-refused : goal.returns-in-None-clause-refused
returns-in-None-clause-refused c = λ _ name kinds spelled.
    let none : signature_of c.args.text.now ≡ None = ap signature_of (sym c.as_bytes.ensures.value) ∙ (sym c.in_ok-signature.ensures ∙ c.in-None.is) in
    let some = spells_read c.args.text.now name kinds spelled in
    cc
