-- Steps of a run, one after another.
use Rattle.std.proofs.Common.{◌≡◌, ℕ, ◌+◌, ◌<◌, List, [], ◌∷◌, ◌++◌, length, Option, Result, Ok, Err, refl, sym, ap, ◌∙◌, subst, arith, append-nil}
use Rattle.std.proofs.Common.{append_assoc, length-append}
use Rattle.wire_lines.specs.declared.fault.RunFault.{RunFault}
use Rattle.wire_lines.specs.declared.fault.RunFault.TheVariants.{Read, Write, Endless, Memory}
use Rattle.server_world.specs.Server.{Server}
use Rattle.wire_format.specs.Input.{Piece}
use Rattle.wire_lines.specs.Sending.{Out, Sent, SentFront}
use Rattle.wire_lines.specs.Steps.{AreAnswered, read_lines}
use Rattle.wire_lines.specs.Stream.{Later, Point, Fed, Done, SentUntil, Cut, IsOver, IsStuck, IsStuckBy, Stops, StuckIn, Feeds, Finishes, SinkFails}
use Rattle.wire_lines.proofs.Answering.{AreAnswered-append, AreAnswered-later}
use Rattle.wire_lines.proofs.Sent.{Sent-nothing, Sent-trans, SentFront-after, SentFront-whole}

-- with more bytes behind those of a point
abbrev pub and_then : Point → List ℕ → Point
and_then point bytes = record { server = point.server; out = point.out; lines = point.lines; begun = point.begun ++ bytes }

pub Fed-refl : (a : Point) → Fed a a
Fed-refl a = record { lines = []; text = []; reads = λ rest. refl; answered = (refl, refl); sent = Sent-nothing a.out; counted = omega arith }

pub Fed-trans : (a b c : Point) → Fed a b → Fed b c → Fed a c
Fed-trans a b c first second = record {
  lines = first.lines ++ second.lines;
  text = first.text ++ second.text;
  reads = λ rest. first.reads rest ∙ ap (λ l. first.lines ++ l) (second.reads rest) ∙ sym (append_assoc first.lines second.lines _);
  answered = AreAnswered-append a.server b.server c.server first.lines second.lines first.text second.text first.answered second.answered;
  sent = Sent-trans a.out b.out c.out first.text second.text first.sent second.sent;
  counted = let both = length-append first.lines second.lines in omega (arith, both, first.counted, second.counted);
}

pub Fed-later : (a b : Point) → Fed a b → Later a.server b.server
Fed-later a b fed = AreAnswered-later a.server b.server (a.begun ++ []) fed.lines (read_lines (b.begun ++ [])) fed.text (fed.reads []) fed.answered

pub Cut-later : (fault : RunFault) (a b : Point) (rest : List ℕ) → Cut fault a b rest → Later a.server b.server
Cut-later fault a b rest cut = AreAnswered-later a.server b.server (a.begun ++ rest) cut.lines cut.behind cut.text cut.reads cut.answered

-- what follows the bytes of both points may be put behind them
pub Fed-more : (a b : Point) (bytes : List ℕ) → Fed a b → Fed (and_then a bytes) (and_then b bytes)
Fed-more a b bytes fed = record {
  lines = fed.lines;
  text = fed.text;
  reads = λ rest. ap read_lines (append_assoc a.begun bytes rest) ∙ fed.reads (bytes ++ rest)
      ∙ ap (λ l. fed.lines ++ read_lines l) (sym (append_assoc b.begun bytes rest));
  answered = fed.answered;
  sent = fed.sent;
  counted = fed.counted;
}

-- what is sent whole is sent enough for each fault,
pub SentUntil-whole : (fault : RunFault) (a b : Out) (text : List ℕ) → Sent a b text → SentUntil fault a b text
SentUntil-whole Read a b text sent = sent
SentUntil-whole Endless a b text sent = sent
SentUntil-whole Write a b text sent = SentFront-whole a b text sent
SentUntil-whole Memory a b text sent = SentFront-whole a b text sent

-- of what is sent enough, a front is sent,
pub SentUntil-front : (fault : RunFault) (a b : Out) (text : List ℕ) → SentUntil fault a b text → SentFront a b text
SentUntil-front Read a b text sent = SentFront-whole a b text sent
SentUntil-front Endless a b text sent = SentFront-whole a b text sent
SentUntil-front Write a b text sent = sent
SentUntil-front Memory a b text sent = sent

-- and behind a text that is sent, enough of both is
pub SentUntil-after : (fault : RunFault) (a b c : Out) (text behind : List ℕ) → Sent a b text → SentUntil fault b c behind
    → SentUntil fault a c (text ++ behind)
SentUntil-after Read a b c text behind first second = Sent-trans a b c text behind first second
SentUntil-after Endless a b c text behind first second = Sent-trans a b c text behind first second
SentUntil-after Write a b c text behind first second = SentFront-after a b c text behind first second
SentUntil-after Memory a b c text behind first second = SentFront-after a b c text behind first second

-- the same text found no memory, where something else is sent before it
pub IsStuckBy-sent : (says : List ℕ → Type 0) (said more : List ℕ) (before after old new : Out) (it : IsStuckBy said says before after)
    → Sent old new (more ++ it.told) → IsStuckBy more says old new
IsStuckBy-sent says said more before after old new it sent =
    record { told = it.told; session = it.session; line = it.line; rest = it.rest; text = it.text; long = it.long; sent = sent }

-- a line that found no memory for its text, after others
pub IsStuck-after : (a b c : Server) (before between after : Out) (lines more : List (Option Piece)) (text : List ℕ) → AreAnswered a lines text b
    → Sent before between text
    → IsStuck b more c between after → IsStuck a (lines ++ more) c before after
IsStuck-after a b c before between after lines more text answered sent it = record {
  first = lines ++ it.first;
  last = it.last;
  between = it.between;
  said = text ++ it.said;
  lines_are = ap (λ l. lines ++ l) it.lines_are ∙ sym (append_assoc lines it.first (it.last ∷ []));
  answered = AreAnswered-append a b it.between lines it.first text it.said answered it.answered;
  stuck = IsStuckBy-sent _ it.said (text ++ it.said) between after before after it.stuck
      (subst (Sent before after) (sym (append_assoc text it.said it.stuck.told))
      (Sent-trans before between after text (it.said ++ it.stuck.told) sent it.stuck.sent));
}

pub StuckIn-after : (fault : RunFault) (a b c : Server) (before between after : Out) (lines more : List (Option Piece)) (text : List ℕ)
    → AreAnswered a lines text b → Sent before between text
    → StuckIn fault b more c between after → StuckIn fault a (lines ++ more) c before after
StuckIn-after Read a b c before between after lines more text answered sent it = tt
StuckIn-after Endless a b c before between after lines more text answered sent it = tt
StuckIn-after Write a b c before between after lines more text answered sent it = tt
StuckIn-after Memory a b c before between after lines more text answered sent it = IsStuck-after a b c before between after lines more text answered sent it

-- an end that comes too early, where other bytes are read alike,
pub Cut-alike : (fault : RunFault) (a b : Point) (begun rest other : List ℕ) → read_lines (begun ++ other) ≡ read_lines (a.begun ++ rest) → Cut fault a b rest
    → Cut fault (record { server = a.server; out = a.out; lines = a.lines; begun = begun }) b other
Cut-alike fault a b begun rest other alike cut = record {
  lines = cut.lines;
  behind = cut.behind;
  text = cut.text;
  reads = alike ∙ cut.reads;
  answered = cut.answered;
  sent = cut.sent;
  counted = cut.counted;
  stuck = cut.stuck;
}

-- where more of what was said is written behind it,
pub Cut-sent : (fault other : RunFault) (a b c : Point) (rest : List ℕ) → c.server ≡ b.server → c.lines ≡ b.lines
    → ((text : List ℕ) → SentUntil fault a.out b.out text → SentUntil other a.out c.out text)
    → ((lines : List (Option Piece)) (new : Server) → StuckIn fault a.server lines new a.out b.out → StuckIn other a.server lines new a.out c.out)
    → Cut fault a b rest → Cut other a c rest
Cut-sent fault other a b c rest same count more stuck cut = record {
  lines = cut.lines;
  behind = cut.behind;
  text = cut.text;
  reads = cut.reads;
  answered = subst (AreAnswered a.server cut.lines cut.text) (sym same) cut.answered;
  sent = more cut.text cut.sent;
  counted = count ∙ cut.counted;
  stuck = subst (λ server. StuckIn other a.server cut.lines server a.out c.out) (sym same) (stuck cut.lines b.server cut.stuck);
}

-- and where nothing more is said
pub Cut-silent : (fault : RunFault) (a b : Point) (rest : List ℕ) → b.server ≡ a.server → b.lines ≡ a.lines → SentUntil fault a.out b.out []
    → StuckIn fault a.server [] b.server a.out b.out → Cut fault a b rest
Cut-silent fault a b rest same count sent stuck = record {
  lines = [];
  behind = read_lines (a.begun ++ rest);
  text = [];
  reads = refl;
  answered = (same, refl);
  sent = sent;
  counted = omega (arith, count);
  stuck = stuck;
}

pub Cut-more : (fault : RunFault) (a b : Point) (bytes rest : List ℕ) → Cut fault a b (bytes ++ rest) → Cut fault (and_then a bytes) b rest
Cut-more fault a b bytes rest cut = Cut-alike fault a b (a.begun ++ bytes) (bytes ++ rest) rest (ap read_lines (append_assoc a.begun bytes rest)) cut

-- a step, and then an end that comes too early
pub Cut-after : (fault : RunFault) (a b c : Point) (rest : List ℕ) → Fed a b → Cut fault b c rest → Cut fault a c rest
Cut-after fault a b c rest fed cut = record {
  lines = fed.lines ++ cut.lines;
  behind = cut.behind;
  text = fed.text ++ cut.text;
  reads = fed.reads rest ∙ ap (λ l. fed.lines ++ l) cut.reads ∙ sym (append_assoc fed.lines cut.lines cut.behind);
  answered = AreAnswered-append a.server b.server c.server fed.lines cut.lines fed.text cut.text fed.answered cut.answered;
  sent = SentUntil-after fault a.out b.out c.out fed.text cut.text fed.sent cut.sent;
  counted = let both = length-append fed.lines cut.lines in omega (arith, both, fed.counted, cut.counted);
  stuck = StuckIn-after fault a.server b.server c.server a.out b.out c.out fed.lines cut.lines fed.text fed.answered fed.sent cut.stuck;
}

pub IsOver-after : (most : ℕ) (a b c : Point) (rest : List ℕ) → Fed a b → IsOver most b c rest → IsOver most a c rest
IsOver-after most a b c rest fed over =
    let lines = ap length (fed.reads rest) ∙ length-append fed.lines (read_lines (b.begun ++ rest)) in
    (over.0, omega (arith, lines, fed.counted, over.1))

-- a step, and then the last
pub Done-after : (a b c : Point) → Fed a b → Done b c → Done a c
Done-after a b c fed done =
    let whole : read_lines a.begun ≡ fed.lines ++ read_lines b.begun = ap read_lines (sym (append-nil a.begun)) ∙ fed.reads []
    ∙ ap (λ l. fed.lines ++ read_lines l) (append-nil b.begun) in
    let lines = ap length whole ∙ length-append fed.lines (read_lines b.begun) in
    record {
      text = fed.text ++ done.text;
      answered = subst (λ lines. AreAnswered a.server lines (fed.text ++ done.text) c.server) (sym whole)
          (AreAnswered-append a.server b.server c.server fed.lines (read_lines b.begun) fed.text done.text fed.answered done.answered);
      sent = Sent-trans a.out b.out c.out fed.text done.text fed.sent done.sent;
      counted = omega (arith, lines, fed.counted, done.counted);
    }

-- how a run stops, from one point and from another
pub Stops-along : (most : ℕ) (fault : RunFault) (a b c d : Point) (rest other : List ℕ) → (Cut fault a b rest → Cut fault c d other)
    → (IsOver most a b rest → IsOver most c d other) → Stops most fault a b rest → Stops most fault c d other
Stops-along most Read a b c d rest other cut over stops = cut stops
Stops-along most Write a b c d rest other cut over stops = cut stops
Stops-along most Memory a b c d rest other cut over stops = cut stops
Stops-along most Endless a b c d rest other cut over stops = (cut stops.0, over stops.1)

pub Stops-cut : (most : ℕ) (fault : RunFault) (a b : Point) (rest : List ℕ) → Stops most fault a b rest → Cut fault a b rest
Stops-cut most Read a b rest stops = stops
Stops-cut most Write a b rest stops = stops
Stops-cut most Memory a b rest stops = stops
Stops-cut most Endless a b rest stops = stops.0

pub Finishes-later : {T : Type 0} (most : ℕ) (a b : Point) (r : Result T RunFault) → Finishes most a b r → Later a.server b.server
Finishes-later most a b (Ok done) finishes = AreAnswered-later a.server b.server a.begun (read_lines a.begun) [] finishes.text
    (sym (append-nil (read_lines a.begun))) finishes.answered
Finishes-later most a b (Err fault) finishes = Cut-later fault a b [] (Stops-cut most fault a b [] finishes)

pub Stops-after : (most : ℕ) (fault : RunFault) (a b c : Point) (rest : List ℕ) → Fed a b → Stops most fault b c rest → Stops most fault a c rest
Stops-after most fault a b c rest fed stops = Stops-along most fault b c a c rest rest (Cut-after fault a b c rest fed) (IsOver-after most a b c rest fed) stops

pub Stops-more : (most : ℕ) (fault : RunFault) (a b : Point) (bytes rest : List ℕ) → Stops most fault a b (bytes ++ rest)
    → Stops most fault (and_then a bytes) b rest
Stops-more most fault a b bytes rest stops =
    let same : a.begun ++ (bytes ++ rest) ≡ (a.begun ++ bytes) ++ rest = sym (append_assoc a.begun bytes rest) in
    Stops-along most fault a b (and_then a bytes) b (bytes ++ rest) rest (Cut-more fault a b bytes rest)
    (λ over. (over.0, subst (λ l. most < a.lines + length (read_lines l)) same over.1)) stops

-- where a run has stopped, nothing is said of what has begun
pub Stops-anywhere : (most : ℕ) (fault : RunFault) (a b : Point) (begun rest : List ℕ) → Stops most fault a b rest
    → Stops most fault a (record { server = b.server; out = b.out; lines = b.lines; begun = begun }) rest
Stops-anywhere most fault a b begun rest stops =
    Stops-along most fault a b a (record { server = b.server; out = b.out; lines = b.lines; begun = begun }) rest rest
    (Cut-sent fault fault a b (record { server = b.server; out = b.out; lines = b.lines; begun = begun }) rest refl refl (λ text sent. sent)
    (λ lines new stuck. stuck)) (λ over. over) stops

pub Feeds-after : {T : Type 0} (most : ℕ) (a b c : Point) (r : Result T RunFault) → Fed a b → Feeds most b c r → Feeds most a c r
Feeds-after most a b c (Ok done) fed feeds = Fed-trans a b c fed feeds
Feeds-after most a b c (Err fault) fed feeds = λ rest. Stops-after most fault a b c rest fed (feeds rest)

-- a step to a point with more bytes behind it, and then a stop before them
pub Feeds-stopped : {T : Type 0} (most : ℕ) (fault : RunFault) (a b c : Point) (bytes begun : List ℕ) (r : Result T RunFault) →
    Fed a (and_then b bytes) → ((rest : List ℕ) → Stops most fault b c rest) → r ≡ Err fault
    → Feeds most a (record { server = c.server; out = c.out; lines = c.lines; begun = begun }) r
Feeds-stopped {T} most fault a b c bytes begun r fed stops is =
    subst (Feeds most a (record { server = c.server; out = c.out; lines = c.lines; begun = begun })) (sym is)
    (λ (rest : List ℕ). Stops-anywhere most fault a c begun rest
    (Stops-after most fault a (and_then b bytes) c rest fed (Stops-more most fault b c bytes rest (stops (bytes ++ rest)))))

-- what feeds a run does not read
pub SinkFails-unread : (T : Type 0) (old new : ℕ) (fault : RunFault) → SinkFails {T = T} old new (Err fault) → fault ≡ Read → ⊥
SinkFails-unread T old new fault fails is = subst (λ f. SinkFails {T = T} old new (Err f)) is fails
