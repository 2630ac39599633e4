-- How a whole run ends, and what it has written.
use Rattle.std.proofs.Common.{IfOk, ⊎_elim, ◌≡◌, ◌⊎◌, ◌≤◌, ℕ, ◌+◌, ◌<◌, true, List, [], ◌∷◌, ◌++◌, length, take, drop, Option, Some, Result, Ok, Err, IsOk}
use Rattle.std.proofs.Common.{IsErr, IsFalse, inl, inr, refl, sym, ap, ap₂, ◌∙◌, subst, arith, append-nil, append_assoc, take-append-drop}
use Rattle.std.specs.Prelude.{MatchResult}
use Rattle.std.specs.Io.KnownBytes.{Appends}
use Rattle.std.proofs.lemmas.List.{length-map, take_all, take-append-le}
use Rattle.server_world.specs.Server.{Server, states, was_refused, settings}
use Rattle.wire_format.specs.Bytes.{AppendsFront}
use Rattle.wire_format.specs.Input.{Piece, lines_of, piece_of}
use Rattle.wire_format.specs.Output.{output, world_of}
use Rattle.wire_lines.specs.declared.fault.RunFault.{RunFault}
use Rattle.wire_lines.specs.declared.fault.RunFault.TheVariants.{Read, Write, Endless, Memory}
use Rattle.wire_lines.specs.declared.stream.Summary.{Summary}
use Rattle.wire_lines.specs.Sending.{out, Sent, SentFront}
use Rattle.wire_lines.specs.Steps.{AreAnswered, read_lines}
use Rattle.wire_lines.specs.Stream.{Point, Done, SentUntil, Cut, IsStuck, StuckIn}
use Rattle.wire_lines.specs.Run.{AppendsSome, AppendsUntil, WritesAll, WritesUntil, WritesFirst, HasAnsweredRead, HasCountedRead, HasStuck, IsUnbegun}
use Rattle.wire_lines.specs.Run.{IsPastLines, IsPastReads, Reads, line_ends, IsWrittenOut, device_failed, ReadFails, WriteFails, Ends, Runs}
use Rattle.wire_lines.proofs.Answering.{front_found, output_found, world_found}
use Rattle.wire_lines.proofs.Feeding.{IsStuckBy-sent, SentUntil-front, SentUntil-whole, Cut-sent}
use Rattle.wire_lines.proofs.Sent.{Sent-then, SentFront-then, SentFront-then_front}
use Rattle.wire_lines.proofs.Kept.{point}
use Rattle.wire_lines.proofs.Reading.{Cut-here}

-- a run that has come to its end, before what is gathered is written and after
module _ (a : Point) (server : Server) (old new : Option (List ℕ)) (gathered left : List ℕ) (lines : ℕ) (none : left ≡ []) where
  abbrev before : Point
  before = point server (out old gathered) lines []

  abbrev after : Point
  after = point server (out new left) lines []

  module _ (bytes : Appends old new gathered) where
    SentUntil-then : (fault : RunFault) (text : List ℕ) → SentUntil fault a.out before.out text → SentUntil fault a.out after.out text
    SentUntil-then Read text sent = Sent-then a.out old new gathered left text none sent bytes
    SentUntil-then Endless text sent = Sent-then a.out old new gathered left text none sent bytes
    SentUntil-then Write text sent = SentFront-then a.out old new gathered left text none sent bytes
    SentUntil-then Memory text sent = SentFront-then a.out old new gathered left text none sent bytes

    -- it is written behind what was said before a text that found no memory
    StuckIn-then : (fault : RunFault) (answered : List (Option Piece)) (end : Server) → StuckIn fault a.server answered end a.out before.out
        → StuckIn fault a.server answered end a.out after.out
    StuckIn-then Read answered end it = tt
    StuckIn-then Endless answered end it = tt
    StuckIn-then Write answered end it = tt
    StuckIn-then Memory answered end it = record {
      first = it.first;
      last = it.last;
      between = it.between;
      said = it.said;
      lines_are = it.lines_are;
      answered = it.answered;
      stuck = IsStuckBy-sent _ it.said it.said a.out before.out a.out after.out it.stuck
          (Sent-then a.out old new gathered left (it.said ++ it.stuck.told) none it.stuck.sent bytes);
    }

    Cut-then : (fault : RunFault) → Cut fault a before [] → Cut fault a after []
    Cut-then fault cut = Cut-sent fault fault a before after [] refl refl (SentUntil-then fault) (StuckIn-then fault) cut

    pub Ends-flushed : {T : Type 0} (most reads : ℕ) (calls calls_after : Reads) (left_after : Option (List ℕ)) (r : Result T RunFault)
        → Ends most reads calls calls_after left_after a before r → Ends most reads calls calls_after left_after a after r
    Ends-flushed most reads calls calls_after left_after (Ok done) ends = record {
      text = ends.text;
      answered = ends.answered;
      sent = Sent-then a.out old new gathered left ends.text none ends.sent bytes;
      counted = ends.counted;
    }
    Ends-flushed most reads calls calls_after left_after (Err Read) ends = (Cut-then Read ends.0, ends.1)
    Ends-flushed most reads calls calls_after left_after (Err Write) ends = Cut-then Write ends
    Ends-flushed most reads calls calls_after left_after (Err Memory) ends = Cut-then Memory ends
    Ends-flushed most reads calls calls_after left_after (Err Endless) ends = (Cut-then Endless ends.0, ends.1)

  -- or only a front of it is written
  module _ (bytes : AppendsFront old new gathered) where
    Cut-then_front : (fault : RunFault) → Cut fault a before [] → Cut Write a after []
    Cut-then_front fault cut = Cut-sent fault Write a before after [] refl refl
        (λ text sent. SentFront-then_front a.out old new gathered left text none (SentUntil-front fault a.out before.out text sent) bytes)
        (λ answered end stuck. tt) cut

    Cut-done : Done a before → Cut Write a before []
    Cut-done done = record {
      lines = read_lines a.begun;
      behind = [];
      text = done.text;
      reads = ap read_lines (append-nil a.begun) ∙ sym (append-nil (read_lines a.begun));
      answered = done.answered;
      sent = SentUntil-whole Write a.out before.out done.text done.sent;
      counted = done.counted;
      stuck = tt;
    }

    pub Ends-flush_failed : {T : Type 0} (most reads : ℕ) (calls calls_after : Reads) (left_after : Option (List ℕ)) (r : Result T RunFault)
        → Ends most reads calls calls_after left_after a before r → Cut Write a after []
    Ends-flush_failed most reads calls calls_after left_after (Ok done) ends = Cut-then_front Write (Cut-done ends)
    Ends-flush_failed most reads calls calls_after left_after (Err Read) ends = Cut-then_front Read ends.0
    Ends-flush_failed most reads calls calls_after left_after (Err Write) ends = Cut-then_front Write ends
    Ends-flush_failed most reads calls calls_after left_after (Err Memory) ends = Cut-then_front Memory ends
    Ends-flush_failed most reads calls calls_after left_after (Err Endless) ends = Cut-then_front Endless ends.0

-- what a run has written out where a device has failed, and where nothing is gathered
pub IsWrittenOut-failed : {T : Type 0} (r : Result T RunFault) (gathered : List ℕ) → device_failed r ≡ true → (r ≡ Err Read → gathered ≡ [])
    → IsWrittenOut r gathered
IsWrittenOut-failed (Ok done) gathered failed none = absurd (cc failed)
IsWrittenOut-failed (Err Read) gathered failed none = none refl
IsWrittenOut-failed (Err Write) gathered failed none = tt
IsWrittenOut-failed (Err Endless) gathered failed none = absurd (cc failed)
IsWrittenOut-failed (Err Memory) gathered failed none = absurd (cc failed)

pub IsWrittenOut-empty : {T : Type 0} (r : Result T RunFault) (gathered : List ℕ) → gathered ≡ [] → IsWrittenOut r gathered
IsWrittenOut-empty (Ok done) gathered none = none
IsWrittenOut-empty (Err Read) gathered none = none
IsWrittenOut-empty (Err Write) gathered none = tt
IsWrittenOut-empty (Err Endless) gathered none = none
IsWrittenOut-empty (Err Memory) gathered none = none

-- a run from the beginning of its input
abbrev pub beginning : Server → Option (List ℕ) → List ℕ → Point
beginning server held input = point server (out held []) 0 input

pub front_written : (held held_after : Option (List ℕ)) (left text : List ℕ) → SentFront (out held []) (out held_after left) text
    → AppendsSome held held_after text
front_written held held_after left text front =
    let (w, bytes, (rest, sent)) = front in
    (w, (left ++ rest, sent ∙ append_assoc w left rest), bytes)

pub all_written : (held held_after : Option (List ℕ)) (left text : List ℕ) → left ≡ [] → Sent (out held []) (out held_after left) text
    → Appends held held_after text
all_written held held_after left text none sent =
    let (w, bytes, is) = sent in
    subst (Appends held held_after) (sym (is ∙ ap (λ l. w ++ l) none ∙ append-nil w)) bytes

-- what is written of a text that was sent, where nothing is gathered any more unless the sink failed
until_written : (T : Type 0) (fault : RunFault) (held held_after : Option (List ℕ)) (left text : List ℕ) → IsWrittenOut {T = T} (Err fault) left
    → SentUntil fault (out held []) (out held_after left) text → AppendsUntil fault held held_after text
until_written T Read held held_after left text none sent = all_written held held_after left text none sent
until_written T Endless held held_after left text none sent = all_written held held_after left text none sent
until_written T Write held held_after left text none sent = front_written held held_after left text sent
until_written T Memory held held_after left text none sent = front_written held held_after left text sent

some_written : (fault : RunFault) (held held_after : Option (List ℕ)) (text : List ℕ) → AppendsUntil fault held held_after text
    → AppendsSome held held_after text
some_written Read held held_after text bytes = (text, ([], sym (append-nil text)), bytes)
some_written Endless held held_after text bytes = (text, ([], sym (append-nil text)), bytes)
some_written Write held held_after text bytes = bytes
some_written Memory held held_after text bytes = bytes

-- how many lines an input has
counted_lines : (input : List ℕ) → length (read_lines input) ≡ length (lines_of input)
counted_lines input = length-map (lines_of input) piece_of

-- what was answered where a run has stopped
module _ (T : Type 0) (fault : RunFault) (input : List ℕ) (held held_after : Option (List ℕ)) (old new : Server) (left : List ℕ) (count : ℕ)
    (none : IsWrittenOut {T = T} (Err fault) left) where
  pub WritesUntil-cut : Cut fault (beginning old held input) (point new (out held_after left) count []) []
      → WritesUntil fault count input held old held_after new
  WritesUntil-cut cut =
      let all : read_lines input ≡ cut.lines ++ cut.behind = ap read_lines (sym (append-nil input)) ∙ cut.reads in
      let same : count ≡ length cut.lines = omega (arith, cut.counted) in
      let first : take count (read_lines input) ≡ cut.lines =
      ap₂ take same all ∙ take-append-le (length cut.lines) cut.lines cut.behind (omega arith) ∙ take_all (length cut.lines) cut.lines (omega arith) in (
        cut.text,
        subst (λ lines. AreAnswered old lines cut.text new) (sym first) cut.answered,
        until_written T fault held held_after left cut.text none cut.sent,
      )

  pub HasAnsweredRead-cut : (left_after : Option (List ℕ)) → HasCountedRead left_after (beginning old held input) (point new (out held_after left) count [])
      → Cut fault (beginning old held input) (point new (out held_after left) count []) [] → HasAnsweredRead fault input left_after held old held_after new
  HasAnsweredRead-cut left_after counts cut =
      let same : count ≡ line_ends counts.0 = omega (arith, counts.4) in
      (counts.0, counts.1, counts.2, counts.3, subst (λ n. WritesUntil fault n input held old held_after new) same (WritesUntil-cut cut))

  pub HasStuck-cut : left ≡ [] → (cut : Cut fault (beginning old held input) (point new (out held_after left) count []) [])
      → IsStuck old cut.lines new (out held []) (out held_after left) → HasStuck input held old held_after new
  HasStuck-cut nothing cut it =
      let all : read_lines input ≡ cut.lines ++ cut.behind = ap read_lines (sym (append-nil input)) ∙ cut.reads in
      record {
        first = it.first;
        last = it.last;
        behind = cut.behind;
        between = it.between;
        said = it.said;
        lines_are = all ∙ ap (λ l. l ++ cut.behind) it.lines_are ∙ append_assoc it.first (it.last ∷ []) cut.behind;
        answered = it.answered;
        told = it.stuck.told;
        session = it.stuck.session;
        line = it.stuck.line;
        rest = it.stuck.rest;
        last_answered = it.stuck.text;
        long = it.stuck.long;
        written = all_written held held_after left (it.said ++ it.stuck.told) nothing it.stuck.sent;
      }

  pub WritesFirst-cut : (most : ℕ) → count ≤ most → Cut fault (beginning old held input) (point new (out held_after left) count []) []
      → WritesFirst fault most input held old held_after new
  WritesFirst-cut most within cut = (count, within, WritesUntil-cut cut)

-- where a run has not begun, it has answered and written nothing
pub Runs-unbegun : (max_lines max_reads : ℕ) (calls : Reads) (input : List ℕ) (held : Option (List ℕ)) (server : Server)
    → Runs max_lines max_reads calls calls input (Some input) held server held server (Err Memory)
Runs-unbegun max_lines max_reads calls input held server = (
  WritesFirst-cut (Unit {0}) Write input held held server server [] 0 tt max_lines (omega arith) (Cut-here Write (beginning server held input) [] [] tt),
  inl (record { server = refl; written = refl; asked = refl; left = refl }),
)

-- a run, and what follows of it
module _ (max_lines max_reads : ℕ) (calls calls_after : Reads) (input : List ℕ) (left_after : Option (List ℕ)) (held held_after : Option (List ℕ))
    (old new : Server) where
  abbrev Ran : Result Summary RunFault → Type 0
  Ran = Runs max_lines max_reads calls calls_after input left_after held old held_after new

  -- it stopped
  module _ (left : List ℕ) (count : ℕ) (T : Type 0) where
    abbrev end : Point
    end = point new (out held_after left) count []

    stopped : (fault : RunFault) → IsWrittenOut {T = T} (Err fault) left → count ≤ max_lines
        → Ends {T = T} max_lines max_reads calls calls_after left_after (beginning old held input) end (Err fault) → Ran (Err fault)
    stopped Read none within ends = (
      WritesFirst-cut T Read input held held_after old new left count none max_lines within ends.0,
      HasAnsweredRead-cut T Read input held held_after old new left count none left_after ends.1 ends.0,
    )
    stopped Write none within ends = WritesFirst-cut T Write input held held_after old new left count none max_lines within ends
    stopped Memory none within ends = (
      WritesFirst-cut T Memory input held held_after old new left count none max_lines within ends,
      inr (HasStuck-cut T Memory input held held_after old new left count none none ends ends.stuck),
    )
    stopped Endless none within ends = (
      WritesFirst-cut T Endless input held held_after old new left count none max_lines within ends.0,
      ⊎_elim
          (λ (over : (count ≡ max_lines) × (max_lines < 0 + length (read_lines (input ++ [])))).
          let same = ap (λ l. length (read_lines l)) (append-nil input) in
          let counts = counted_lines input in
          inl (
            omega (arith, same, counts, over.1),
            subst (λ n. WritesUntil Endless n input held old held_after new) over.0
                (WritesUntil-cut T Endless input held held_after old new left count none ends.0),
          ))
          (λ (past : IsPastReads max_reads input calls calls_after × HasCountedRead left_after (beginning old held input) end).
          inr (past.0, HasAnsweredRead-cut T Endless input held held_after old new left count none left_after past.1 ends.0))
          ends.1,
    )

    pub Runs-stopped : (fault : RunFault) (r : Result Summary RunFault) → r ≡ Err fault → IsWrittenOut {T = T} (Err fault) left → count ≤ max_lines
        → Ends {T = T} max_lines max_reads calls calls_after left_after (beginning old held input) end (Err fault) → Ran r
    Runs-stopped fault r is none within ends = subst Ran (sym is) (stopped fault none within ends)

  -- it went well
  pub Runs-done : (left : List ℕ) (summary : Summary) → left ≡ [] → summary.lines ≤ max_lines
      → Done (beginning old held input) (point new (out held_after left) summary.lines []) → Ran (Ok summary)
  Runs-done left summary none within done =
      let counts = counted_lines input in
      ((done.text, done.answered, all_written held held_after left done.text none done.sent), omega (arith, counts, done.counted), within)

  pub Runs-answered : (r : Result Summary RunFault) → Ran r
      → MatchResult r (λ _. WritesAll input held old held_after new) (λ fault. WritesFirst fault max_lines input held old held_after new)
  Runs-answered (Ok summary) runs = runs.0
  Runs-answered (Err Read) runs = runs.0
  Runs-answered (Err Write) runs = runs
  Runs-answered (Err Memory) runs = runs.0
  Runs-answered (Err Endless) runs = runs.0

  pub Runs-well : (r : Result Summary RunFault) → Ran r → IsOk r → IsFalse (was_refused new)
      → Appends held held_after (output (settings old) (states old) input) × (states new ≡ world_of (settings old) (states old) input)
  Runs-well (Ok summary) runs ok found =
      let (text, answered, written) = runs.0 in
      (subst (Appends held held_after) (output_found old new input text answered found) written, world_found old new input text answered found)
  Runs-well (Err fault) runs ok found = absurd (cc ok)

  pub Runs-lines : (r : Result Summary RunFault) → Ran r → IfOk r (λ summary. (summary.lines ≡ length (lines_of input)) × (summary.lines ≤ max_lines))
  Runs-lines (Ok summary) runs = (runs.1, runs.2)
  Runs-lines (Err fault) runs = tt

  first_written : (fault : RunFault) → WritesFirst fault max_lines input held old held_after new → IsFalse (was_refused new)
      → AppendsSome held held_after (output (settings old) (states old) input)
  first_written fault writes found =
      let (count, within, until) = writes in
      let (text, answered, some) = until in
      let (front, (more, is), written) = some_written fault held held_after text some in
      let (rest, all) = front_found old new input (take count (read_lines input)) (drop count (read_lines input)) text
      (sym (take-append-drop count (read_lines input))) answered found in
      (front, (more ++ rest, all ∙ ap (λ l. l ++ rest) is ∙ append_assoc front more rest), written)

  pub Runs-prefix : (r : Result Summary RunFault) → Ran r → IsErr r → IsFalse (was_refused new)
      → AppendsSome held held_after (output (settings old) (states old) input)
  Runs-prefix (Ok summary) runs failed found = absurd (cc failed)
  Runs-prefix (Err Read) runs failed found = first_written Read runs.0 found
  Runs-prefix (Err Write) runs failed found = first_written Write runs found
  Runs-prefix (Err Memory) runs failed found = first_written Memory runs.0 found
  Runs-prefix (Err Endless) runs failed found = first_written Endless runs.0 found

  pub Runs-endless : (r : Result Summary RunFault) → Ran r → r ≡ Err Endless
      → IsPastLines max_lines input held old held_after new ⊎ IsPastReads max_reads input calls calls_after
      × HasAnsweredRead Endless input left_after held old held_after new
  Runs-endless r runs is = let ended : Ran (Err Endless) = subst Ran is runs in ended.1

  pub Runs-unread : (r : Result Summary RunFault) → Ran r → r ≡ Err Read → HasAnsweredRead Read input left_after held old held_after new
  Runs-unread r runs is = let ended : Ran (Err Read) = subst Ran is runs in ended.1

  pub Runs-memory : (r : Result Summary RunFault) → Ran r → r ≡ Err Memory
      → IsUnbegun calls calls_after input left_after held old held_after new ⊎ HasStuck input held old held_after new
  Runs-memory r runs is = let ended : Ran (Err Memory) = subst Ran is runs in ended.1

-- a run with nothing gathered and nothing begun stands at the beginning
pub Ends-beginning : {T : Type 0} (max_lines max_reads : ℕ) (calls calls_after : Reads) (left_after : Option (List ℕ)) (most lines : ℕ)
    (gathered begun input : List ℕ) (held : Option (List ℕ)) (old : Server) (end : Point) (r : Result T RunFault) →
    most ≡ max_lines → gathered ≡ [] → lines ≡ 0 → begun ≡ [] →
    Ends most max_reads calls calls_after left_after (point old (out held gathered) lines (begun ++ input)) end r
    → Ends max_lines max_reads calls calls_after left_after (beginning old held input) end r
Ends-beginning max_lines max_reads calls calls_after left_after most lines gathered begun input held old end r same nothing zero_lines none ends =
    subst (λ m. Ends m max_reads calls calls_after left_after (beginning old held input) end r) same
    (subst (λ g. Ends most max_reads calls calls_after left_after (point old (out held g) 0 input) end r) nothing
    (subst (λ n. Ends most max_reads calls calls_after left_after (point old (out held gathered) n input) end r) zero_lines
    (subst (λ b. Ends most max_reads calls calls_after left_after (point old (out held gathered) lines (b ++ input)) end r) none ends)))

-- faults of devices in calls whose answers are of two types
read_fault : (T U : Type 0) (old new : ℕ) (fault : RunFault) → ReadFails {T = T} old new (Err fault) → ReadFails {T = U} old new (Err fault)
read_fault T U old new Read fails = fails
read_fault T U old new Write fails = fails
read_fault T U old new Endless fails = fails
read_fault T U old new Memory fails = fails

write_fault : (T U : Type 0) (old new : ℕ) (fault : RunFault) → WriteFails {T = T} old new (Err fault) → WriteFails {T = U} old new (Err fault)
write_fault T U old new Read fails = fails
write_fault T U old new Write fails = fails
write_fault T U old new Endless fails = fails
write_fault T U old new Memory fails = fails

pub ReadFails-fault : (T : Type 0) {U : Type 0} (old new : ℕ) (fault : RunFault) (r : Result U RunFault) → ReadFails {T = T} old new (Err fault) → r ≡ Err fault
    → ReadFails old new r
ReadFails-fault T {U = U} old new fault r fails is = subst (ReadFails old new) (sym is) (read_fault T U old new fault fails)

pub WriteFails-fault : (T : Type 0) {U : Type 0} (old new : ℕ) (fault : RunFault) (r : Result U RunFault) → WriteFails {T = T} old new (Err fault)
    → r ≡ Err fault → WriteFails old new r
WriteFails-fault T {U = U} old new fault r fails is = subst (WriteFails old new) (sym is) (write_fault T U old new fault fails)
