-- What a run answers where only its sink may fail, and lines that are said one after another up to one that finds no memory.
use Rattle.std.proofs.Common.{◌≡◌, ℕ, ◌+◌, ◌<◌, false, List, [], ◌∷◌, ◌++◌, length, take, drop, get_or, Result, Ok, Err, sym, ap, ◌∙◌, subst, append-nil}
use Rattle.std.proofs.Common.{take-append-drop, append_assoc}
use Rattle.std.specs.List.{flat_map}
use Rattle.std.proofs.lemmas.Grind.{flat_map-append}
use Rattle.std.proofs.lemmas.List.{take_more}
use Rattle.wire_format.specs.Counts.{CountsErrors}
use Rattle.wire_format.specs.declared.traits.Failed.{Failed}
use Rattle.session_model.specs.declared.line.Line.{Line}
use Rattle.wire_format.specs.Parts.{has_parts}
use Rattle.wire_format.specs.Text.{text_of_line}
use Rattle.wire_lines.specs.declared.fault.RunFault.{RunFault}
use Rattle.wire_lines.specs.declared.fault.RunFault.TheVariants.{Memory}
use Rattle.wire_lines.specs.Sending.{Out, Sent, SentAll}
use Rattle.wire_lines.specs.Stream.{IsStuckBy, SendFails, by_sink}
use Rattle.wire_lines.proofs.Sent.{Sent-trans}

pub SentAll-by_sink : (a b : Out) (r : Result (Unit {0}) Failed) (text : List ℕ) (answer : Result (Unit {0}) RunFault) → answer ≡ by_sink r → SentAll a b r text
    → SentAll a b answer text
SentAll-by_sink a b r text answer is sent = subst (λ (q : Result (Unit {0}) RunFault). SentAll a b q text) (sym is) (by r sent)
  where
    by : (r : Result (Unit {0}) Failed) → SentAll a b r text → SentAll a b (by_sink r) text
    by (Ok done) sent = sent
    by (Err failed) sent = sent

pub SendFails-by_sink : (f f' : ℕ) (r : Result (Unit {0}) Failed) (answer : Result (Unit {0}) RunFault) → answer ≡ by_sink r → CountsErrors f f' r
    → SendFails f f' answer
SendFails-by_sink f f' r answer is counts = subst (λ (q : Result (Unit {0}) RunFault). SendFails f f' q) (sym is) (by r counts)
  where
    by : (r : Result (Unit {0}) Failed) → CountsErrors f f' r → SendFails f f' (by_sink r)
    by (Ok done) counts = counts
    by (Err failed) counts = counts

-- it wants no memory
pub by_sink-memory : (r : Result (Unit {0}) Failed) (answer : Result (Unit {0}) RunFault) → answer ≡ by_sink r → answer ≡ Err Memory → ⊥
by_sink-memory r answer is memory = by r (sym is ∙ memory)
  where
    by : (r : Result (Unit {0}) Failed) → by_sink r ≡ Err Memory → ⊥
    by (Ok done) bad = absurd (cc bad)
    by (Err failed) bad = absurd (cc bad)

-- of some lines those before this one are said, and this one finds no memory
pub IsStuckBy-lines : (session : List ℕ) (lines : List Line) (i : ℕ) (a b c : Out) (d : Line) → i < length lines → has_parts (get_or lines i d) ≡ false
    → Sent a b (flat_map (text_of_line session) (take i lines)) → Sent b c [] → IsStuckBy [] (λ text. text ≡ flat_map (text_of_line session) lines) a c
IsStuckBy-lines session lines i a b c d within long before now =
    let f = text_of_line session in
    let more : take (i + 1) lines ≡ take i lines ++ get_or lines i d ∷ [] = take_more lines i d within in
    let whole : (flat_map f (take i lines) ++ (f (get_or lines i d) ++ [])) ++ flat_map f (drop (i + 1) lines) ≡ flat_map f lines =
    ap (λ l. l ++ flat_map f (drop (i + 1) lines)) (sym (ap (flat_map f) more ∙ flat_map-append f (take i lines) (get_or lines i d ∷ [])))
    ∙ sym (flat_map-append f (take (i + 1) lines) (drop (i + 1) lines)) ∙ ap (flat_map f) (take-append-drop (i + 1) lines) in
    record {
      told = flat_map f (take i lines);
      session = session;
      line = get_or lines i d;
      rest = flat_map f (drop (i + 1) lines);
      text = sym (append_assoc (flat_map f (take i lines)) (f (get_or lines i d)) (flat_map f (drop (i + 1) lines)))
          ∙ ap (λ l. (flat_map f (take i lines) ++ l) ++ flat_map f (drop (i + 1) lines)) (sym (append-nil (f (get_or lines i d)))) ∙ whole;
      long = long;
      sent = subst (Sent a c) (append-nil (flat_map f (take i lines))) (Sent-trans a b c (flat_map f (take i lines)) [] before now);
    }

-- what holds of the text of the lines holds of what they come to
pub IsStuckBy-means : (says more : List ℕ → Type 0) (a b : Out) → ((text : List ℕ) → says text → more text) → IsStuckBy [] says a b → IsStuckBy [] more a b
IsStuckBy-means says more a b means it = record {
  told = it.told;
  session = it.session;
  line = it.line;
  rest = it.rest;
  text = means (it.told ++ (text_of_line it.session it.line ++ it.rest)) it.text;
  long = it.long;
  sent = it.sent;
}
