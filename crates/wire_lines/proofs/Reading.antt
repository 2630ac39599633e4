-- Steps of a run that write what is gathered and read more, over an input that is known.
use Rattle.std.proofs.Common.{◌≡◌, ℕ, ◌+◌, ◌<◌, List, [], ◌++◌, length, Option, Some, None, Result, Ok, Err, inl, refl, sym, ap, ◌∙◌, subst, arith, append-nil}
use Rattle.std.proofs.Common.{append_assoc}
use Rattle.std.specs.Io.KnownBytes.{Appends, Consumes, IsAtEnd}
use Rattle.server_world.specs.Server.{Server}
use Rattle.wire_format.specs.Bytes.{AppendsFront}
use Rattle.wire_lines.specs.declared.fault.RunFault.{RunFault}
use Rattle.wire_lines.specs.declared.fault.RunFault.TheVariants.{Read, Write, Endless, Memory}
use Rattle.wire_lines.specs.Sending.{out, Sent}
use Rattle.wire_lines.specs.Steps.{read_lines}
use Rattle.wire_lines.specs.Stream.{Point, Fed, Cut, Stops, StuckIn, Finishes, SinkFails}
use Rattle.wire_lines.specs.Run.{Ends, HasCountedRead, Reads}
use Rattle.wire_lines.proofs.Sent.{Sent-flushed, SentFront-emptied, Sent-nothing}
use Rattle.wire_lines.proofs.Feeding.{and_then, SentUntil-whole, Cut-after, Cut-alike, Cut-silent, Fed-trans, Fed-more, Done-after, Stops-after, Stops-along}
use Rattle.wire_lines.proofs.Feeding.{SinkFails-unread}
use Rattle.wire_lines.proofs.Ended.{Fed-ends}
use Rattle.wire_format.specs.Input.{NoEnd}
use Rattle.wire_lines.proofs.Kept.{point}

-- what is left of a known input
pub known_rest : (a b : Option (List ℕ)) (bytes input : List ℕ) → Consumes a b bytes → a ≡ Some input
    → (rest : List ℕ) × (b ≡ Some rest) × (input ≡ bytes ++ rest)
known_rest None b bytes input consumed is = absurd (cc is)
known_rest (Some all) None bytes input consumed is = absurd consumed
known_rest (Some all) (Some rest) bytes input consumed is = (rest, refl, (let same : all ≡ input = cc in sym same ∙ consumed))

pub known_end : (a : Option (List ℕ)) (rest : List ℕ) → IsAtEnd a → a ≡ Some rest → rest ≡ []
known_end None rest end is = absurd (cc is)
known_end (Some all) rest end is = let same : all ≡ rest = cc in sym same ∙ end

-- what is gathered is written
pub Fed-flushed : (start : Point) (server : Server) (old new : Option (List ℕ)) (gathered left begun : List ℕ) (lines : ℕ)
    → Fed start (point server (out old gathered) lines begun) → left ≡ [] → Appends old new gathered → Fed start (point server (out new left) lines begun)
Fed-flushed start server old new gathered left begun lines so_far none bytes =
    Fed-trans start (point server (out old gathered) lines begun) (point server (out new left) lines begun) so_far (record {
      lines = [];
      text = [];
      reads = λ rest. refl;
      answered = (refl, refl);
      sent = subst (λ l. Sent (out old gathered) (out new l) []) (sym none) (Sent-flushed old new gathered [] bytes);
      counted = omega arith;
    })

-- a front of what is gathered is written
pub Cut-flushed : (start : Point) (server : Server) (old new : Option (List ℕ)) (gathered left begun later_begun rest : List ℕ) (lines : ℕ)
    → Fed start (point server (out old gathered) lines begun) → left ≡ [] → AppendsFront old new gathered
    → Cut Write start (point server (out new left) lines later_begun) rest
Cut-flushed start server old new gathered left begun later_begun rest lines so_far none bytes =
    Cut-after Write start (point server (out old gathered) lines begun) (point server (out new left) lines later_begun) rest so_far
    (Cut-silent Write (point server (out old gathered) lines begun) (point server (out new left) lines later_begun) rest refl refl
    (SentFront-emptied old new gathered left [] none bytes) tt)

-- nothing more is said
pub Cut-here : (fault : RunFault) (a : Point) (begun rest : List ℕ) → StuckIn fault a.server [] a.server a.out a.out
    → Cut fault a (point a.server a.out a.lines begun) rest
Cut-here fault a begun rest stuck = Cut-silent fault a (point a.server a.out a.lines begun) rest refl refl
    (SentUntil-whole fault a.out a.out [] (Sent-nothing a.out)) stuck

-- with the bytes that are left, all of the input is behind the point
module _ (start end : Point) (bytes rest input : List ℕ) (is : input ≡ bytes ++ rest) where
  all_bytes : (start.begun ++ bytes) ++ rest ≡ (start.begun ++ input) ++ []
  all_bytes = append_assoc start.begun bytes rest ∙ ap (λ l. start.begun ++ l) (sym is) ∙ sym (append-nil (start.begun ++ input))

  pub Cut-known : (fault : RunFault) → Cut fault (and_then start bytes) end rest → Cut fault (and_then start input) end []
  Cut-known fault cut = Cut-alike fault (and_then start bytes) end (start.begun ++ input) rest [] (ap read_lines (sym all_bytes)) cut

  pub Stops-known : (most : ℕ) (fault : RunFault) → Stops most fault (and_then start bytes) end rest → Stops most fault (and_then start input) end []
  Stops-known most fault stops =
      Stops-along most fault (and_then start bytes) end (and_then start input) end rest [] (Cut-known fault)
      (λ over. (over.0, subst (λ l. most < start.lines + length (read_lines l)) all_bytes over.1)) stops

-- more bytes behind those of a start
pub Fed-read : (start a b : Point) (bytes more : List ℕ) → Fed (and_then start bytes) a → Fed (and_then a more) b → Fed (and_then start (bytes ++ more)) b
Fed-read start a b bytes more so_far fed =
    subst (λ l. Fed (record { server = start.server; out = start.out; lines = start.lines; begun = l }) b) (append_assoc start.begun bytes more)
    (Fed-trans (and_then (and_then start bytes) more) (and_then a more) b (Fed-more (and_then start bytes) a more so_far) fed)

pub Stops-read : (most : ℕ) (fault : RunFault) (start a b : Point) (bytes more rest : List ℕ) → Fed (and_then start bytes) a
    → Stops most fault (and_then a more) b rest → Stops most fault (and_then start (bytes ++ more)) b rest
Stops-read most fault start a b bytes more rest so_far stops =
    subst (λ l. Stops most fault (record { server = start.server; out = start.out; lines = start.lines; begun = l }) b rest)
    (append_assoc start.begun bytes more)
    (Stops-after most fault (and_then (and_then start bytes) more) (and_then a more) b rest (Fed-more (and_then start bytes) a more so_far) stops)

-- how a run ends by a fault that is not the source's
pub Ends-fault : (T : Type 0) (most reads : ℕ) (calls calls_after : Reads) (left_after : Option (List ℕ)) (fault : RunFault) (a b : Point) → (fault ≡ Read → ⊥)
    → Stops most fault a b [] → Ends {T = T} most reads calls calls_after left_after a b (Err fault)
Ends-fault T most reads calls calls_after left_after Read a b unread stops = absurd (unread refl)
Ends-fault T most reads calls calls_after left_after Write a b unread stops = stops
Ends-fault T most reads calls calls_after left_after Memory a b unread stops = stops
Ends-fault T most reads calls calls_after left_after Endless a b unread stops = (stops.0, inl stops.1)

pub Ends-stopped : {T : Type 0} (most reads : ℕ) (calls calls_after : Reads) (left_after : Option (List ℕ)) (fault : RunFault) (a b : Point)
    (r : Result T RunFault) → (fault ≡ Read → ⊥) → Stops most fault a b [] → r ≡ Err fault → Ends most reads calls calls_after left_after a b r
Ends-stopped {T = T} most reads calls calls_after left_after fault a b r unread stops is =
    subst (Ends most reads calls calls_after left_after a b) (sym is) (Ends-fault T most reads calls calls_after left_after fault a b unread stops)

-- and how by its last line
pub Ends-finished : {T : Type 0} (most reads : ℕ) (calls calls_after : Reads) (left_after : Option (List ℕ)) (a b c : Point) (r : Result T RunFault) (f f' : ℕ)
    → SinkFails f f' r → Fed a b → Finishes most b c r → Ends most reads calls calls_after left_after a c r
Ends-finished {T = T} most reads calls calls_after left_after a b c (Ok done) f f' fails fed finishes = Done-after a b c fed finishes
Ends-finished {T = T} most reads calls calls_after left_after a b c (Err fault) f f' fails fed finishes =
    Ends-fault T most reads calls calls_after left_after fault a c (SinkFails-unread T f f' fault fails) (Stops-after most fault a b c [] fed finishes)

pub not_read : Write ≡ Read → ⊥
not_read is = absurd (cc is)

-- the lines that ended in what was read are counted
pub counted_read : (start b : Point) (bytes rest input : List ℕ) (left_after : Option (List ℕ)) (begun : List ℕ) → input ≡ bytes ++ rest
    → left_after ≡ Some rest → Fed (and_then start bytes) b → NoEnd b.begun →
    HasCountedRead left_after (and_then start input) (point b.server b.out b.lines begun)
counted_read start b bytes rest input left_after begun is left fed no_end = (
  start.begun ++ bytes,
  rest,
  ap (λ l. start.begun ++ l) is ∙ sym (append_assoc start.begun bytes rest),
  left,
  Fed-ends (and_then start bytes) b fed no_end,
)
