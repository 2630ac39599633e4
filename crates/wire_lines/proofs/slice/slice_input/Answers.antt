use Rattle.std.proofs.Common.{◌<◌, ◌^◌, ◌∙◌, Vec, Global, inl, inr, ℕ, List, Err, length, refl, sym, ap, subst}
use Rattle.std.specs.Prelude.{All}
use Rattle.server_world.specs.Server.{seen_as}
use Rattle.wire_lines.specs.declared.fault.RunFault.TheVariants.{Memory}
use Rattle.wire_lines.specs.Taking.{HasStopped}
use Rattle.wire_lines.specs.Standing.{noted}
use Rattle.wire_lines.proofs.Answering.{Later-same}
use Rattle.wire_lines.proofs.Asking.{AsksSource-failed, AsksSource-means, UsesDevices-spared, UsesDevices-unwritten, UsesDevices-wanting}
use Rattle.wire_lines.proofs.Kept.{err_is}
use Rattle.wire_lines.proofs.SliceEnds.{HasRun-nothing, HasStopped-endless, HasStopped-run, HasStopped-unread, HasStopped-unwritten, HasTaken-within}
use Rattle.wire_lines.proofs.SliceEnds.{SlicesOver-unwritten, WriteFails-other}
use Rattle.wire_lines.proofs.SliceSent.{SlicesOver-front, SlicesOver-sent, SlicesOver-wanting}
use Rattle.wire_lines.proofs.Whole.{ReadFails-fault}
use Rattle.wire_lines.proofs.slice.slice_input.Goals as goal

pub returns-in_err-input-clause-slices : goal.returns-in_err-input-clause-slices
returns-in_err-input-clause-slices g c = λ input known.
    let read = c.in_err-input.ensures in
    let server = seen_as c.args.server.now in
    SlicesOver-unwritten c.args.session.now input server server (HasRun-nothing input server) _ _ _ _ _ c.in_err-input.field-0.0 _
    (err_is _ _ c.from_residual.ensures.1) (λ is. read.unwritten (ap Err is)) refl (λ is. inr (read.endless input known (ap Err is), refl)) (λ is. refl)

pub returns-in_err-input-clause-devices : goal.returns-in_err-input-clause-devices
returns-in_err-input-clause-devices g c =
    let read = c.in_err-input.ensures in
    let fault = c.in_err-input.field-0.0 in
    let is = err_is _ _ c.from_residual.ensures.1 in
    record {
      asked = AsksSource-failed {T = Vec ℕ Global} (2 ^ 40) _ _ (Err fault) fault _ is read.asked;
      read = ReadFails-fault (Vec ℕ Global) _ _ fault _ read.failed is;
      write = WriteFails-other _ _ fault _ is (λ written. read.unwritten (ap Err written)) refl;
    }

pub returns-in_err-input-clause-later : goal.returns-in_err-input-clause-later
returns-in_err-input-clause-later g c = Later-same (seen_as c.args.server.now) (seen_as c.args.server.now) refl

pub returns-in_err-buffer-clause-slices : goal.returns-in_err-buffer-clause-slices
returns-in_err-buffer-clause-slices g c = λ input known.
    let server = seen_as c.args.server.now in
    SlicesOver-unwritten c.args.session.now input server server (HasRun-nothing input server) _ _ _ _ _ Memory _
    (err_is _ _ c.from_residual-in_err-buffer.ensures.1) (λ is. absurd (cc is)) refl (λ is. absurd (cc is)) (λ is. absurd (cc is))

pub returns-in_err-slicing-clause-slices : goal.returns-in_err-slicing-clause-slices
returns-in_err-slicing-clause-slices g c = λ input known.
    let old = seen_as c.args.server.now in
    let new = seen_as c.take_all.new.server in
    let fault = c.in_err-slicing.field-0.0 in
    let stopped : HasStopped fault input old new = subst (λ (bytes : List ℕ). HasStopped fault bytes old new)
    (c.deref.ensures.value ∙ (c.in_ok-input.ensures.bytes input known).0) c.in_err-slicing.ensures.stopped in
    SlicesOver-unwritten c.args.session.now input old new (HasStopped-run fault input old new stopped) _ _ _ _ _ fault _
    (err_is _ _ c.from_residual-in_err-slicing.ensures.1) (HasStopped-unwritten fault input old new stopped) refl
    (λ is. inl (HasStopped-endless fault input old new stopped is)) (λ is. absurd (HasStopped-unread fault input old new stopped is))

pub returns-then-memory_refused-clause-slices : goal.returns-then-memory_refused-clause-slices
returns-then-memory_refused-clause-slices g c = λ input known.
    SlicesOver-wanting c.args.session.now _ input (c.deref.ensures.value ∙ (c.in_ok-input.ensures.bytes input known).0) (seen_as c.args.server.now)
    (noted c.in_ok-slicing.slicing (seen_as c.take_all.new.server)) _ c.in_ok-slicing.ensures.taken _ _ _ _ (Err Memory) refl

pub returns-in_err-numbers-clause-slices : goal.returns-in_err-numbers-clause-slices
returns-in_err-numbers-clause-slices g c = λ input known.
    SlicesOver-wanting c.args.session.now _ input (c.deref.ensures.value ∙ (c.in_ok-input.ensures.bytes input known).0) (seen_as c.args.server.now)
    (noted c.in_ok-slicing.slicing (seen_as c.take_all.new.server)) _ c.in_ok-slicing.ensures.taken _ _ _ _ _
    (err_is _ _ c.from_residual-in_err-numbers.ensures.1)

pub write-requires-clause-numbers : goal.write-requires-clause-numbers
write-requires-clause-numbers g c =
    let slicing = c.in_ok-slicing.slicing in
    let now = noted slicing (seen_as c.take_all.new.server) in
    let found = sym c.if-memory_refused.ensures in
    subst (All (λ (number : ℕ). number < length slicing.starts.items)) (sym c.deref-3.ensures.value)
    (HasTaken-within c.deref.result.now (seen_as c.args.server.now) now slicing.count c.in_ok-slicing.ensures.taken c.args.session.now
    c.in_ok-numbers.numbers.items found c.in_ok-numbers.ensures)

pub returns-in_err-write-clause-slices : goal.returns-in_err-write-clause-slices
returns-in_err-write-clause-slices g c = λ input known.
    let given = c.in_ok-input.ensures.bytes input known in
    SlicesOver-front c.args.session.now _ input (c.deref.ensures.value ∙ given.0) (seen_as c.args.server.now)
    (noted c.in_ok-slicing.slicing (seen_as c.take_all.new.server)) _ c.in_ok-slicing.ensures.taken _ _ _ _
    (sym c.if-memory_refused.ensures) _ _ _ (c.deref-2.ensures.value ∙ given.0) c.deref-3.ensures.value c.in_ok-numbers.ensures
    (g.W.Sink.held c.write.new.writer) c.in_ok-buffer.buffer c.write.new.buffer c.in_ok-buffer.ensures _
    (err_is _ _ c.from_residual-in_err-write.ensures.1) c.in_err-write.ensures.sent

pub returns-clause-slices : goal.returns-clause-slices
returns-clause-slices g c = λ input known.
    let given = c.in_ok-input.ensures.bytes input known in
    SlicesOver-sent c.args.session.now _ input (c.deref.ensures.value ∙ given.0) (seen_as c.args.server.now)
    (noted c.in_ok-slicing.slicing (seen_as c.take_all.new.server)) _ c.in_ok-slicing.ensures.taken _ _ _ _
    (sym c.if-memory_refused.ensures) _ _ _ (c.deref-2.ensures.value ∙ given.0) c.deref-3.ensures.value c.in_ok-numbers.ensures
    (g.W.Sink.held c.write.new.writer) c.in_ok-buffer.buffer c.write.new.buffer c.in_ok-buffer.ensures
    c.in_ok-write.ensures.emptied c.in_ok-write.ensures.sent given.1 c.in_ok-slicing.slicing.within

-- the source is asked no more once all is read
pub returns-in_err-buffer-clause-devices : goal.returns-in_err-buffer-clause-devices
returns-in_err-buffer-clause-devices g c = UsesDevices-wanting (2 ^ 40) _ _ _ _ _ _ _ (err_is _ _ c.from_residual-in_err-buffer.ensures.1)
    c.in_ok-input.ensures.asked c.in_ok-input.ensures.failed

pub returns-in_err-slicing-clause-devices : goal.returns-in_err-slicing-clause-devices
returns-in_err-slicing-clause-devices g c =
    let fault = c.in_err-slicing.field-0.0 in
    let stopped = c.in_err-slicing.ensures.stopped in
    UsesDevices-spared (2 ^ 40) _ _ _ _ _ _ fault _ (err_is _ _ c.from_residual-in_err-slicing.ensures.1)
    (HasStopped-unread fault _ _ _ stopped) (HasStopped-unwritten fault _ _ _ stopped) c.in_ok-input.ensures.asked c.in_ok-input.ensures.failed

pub returns-then-memory_refused-clause-devices : goal.returns-then-memory_refused-clause-devices
returns-then-memory_refused-clause-devices g c =
    UsesDevices-wanting (2 ^ 40) _ _ _ _ _ _ (Err Memory) refl c.in_ok-input.ensures.asked c.in_ok-input.ensures.failed

pub returns-in_err-numbers-clause-devices : goal.returns-in_err-numbers-clause-devices
returns-in_err-numbers-clause-devices g c = UsesDevices-wanting (2 ^ 40) _ _ _ _ _ _ _ (err_is _ _ c.from_residual-in_err-numbers.ensures.1)
    c.in_ok-input.ensures.asked c.in_ok-input.ensures.failed

pub returns-in_err-write-clause-devices : goal.returns-in_err-write-clause-devices
returns-in_err-write-clause-devices g c = UsesDevices-unwritten (2 ^ 40) _ _ _ _ _ _ _ _ (err_is _ _ c.from_residual-in_err-write.ensures.1)
    c.in_ok-input.ensures.asked c.in_ok-input.ensures.failed c.in_err-write.ensures.counted

pub returns-clause-devices : goal.returns-clause-devices
returns-clause-devices g c = record {
  asked = AsksSource-means (2 ^ 40) _ _ _ _ (λ ok. refl) c.in_ok-input.ensures.asked;
  read = c.in_ok-input.ensures.failed;
  write = c.in_ok-write.ensures.counted;
}
