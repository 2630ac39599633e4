-- What a run writes keeps sessions apart.
use Rattle.std.proofs.Common.{◌≡◌, ℕ, List, refl, sym, ap, ◌∙◌}
use Rattle.isolation.specs.Laws.{SameFor}
use Rattle.isolation.specs.Machine.{Tagged}
use Rattle.isolation.specs.Pieces.{commands_of}
use Rattle.isolation.specs.Slice.{kept}
use Rattle.isolation.specs.World.{at_session, world_after, world_lines}
use Rattle.isolation.proofs.ForCallers.{between_law, leaving_out, told-piece_answers, told_alone}
use Rattle.server_world.specs.Server.{Server, states, names, settings}
use Rattle.server_world.proofs.ForCallers.{knows_all}
use Rattle.session_model.specs.Asked.{Asked}
use Rattle.session_model.specs.Machine.{machine}
use Rattle.session_model.specs.Thread.{Settings}
use Rattle.session_model.proofs.ForCallers.{lawful}
use Rattle.wire_format.specs.declared.fault.LineFault.{LineFault}
use Rattle.wire_format.specs.Input.{pieces_of}
use Rattle.wire_format.specs.Output.{World, world_of}
use Rattle.wire_format.proofs.ForCallers.{leaving_out_strangers}
use Rattle.wire_lines.specs.Isolation.{IsAlikeFor, IsToldAlone, IsToldAsWithout, IsToldBetween, IsToldInterleaved}

-- each session is told what it would be told alone
pub told_as_alone : (settings : Settings) (world : World) (input s : List ℕ) → IsToldAlone settings world input s
told_as_alone settings world input s = told_alone LineFault (machine settings) (lawful settings) s world (pieces_of input)

-- and what it would be told without strangers
pub told_as_without : (server : Server) (input s : List ℕ) → IsToldAsWithout (settings server) (states server) (names server) input s
told_as_without server input s =
    sym (leaving_out_strangers (settings server) (states server) (names server) input (knows_all (settings server) server.engine) s)

-- inputs are alike for s where their commands are
alike_for : (settings : Settings) (world : World) (input other s : List ℕ) (fewer : List (Tagged (List ℕ) Asked))
    → commands_of (pieces_of other) ≡ fewer → SameFor (machine settings) s world (commands_of (pieces_of input)) world fewer
    → IsAlikeFor settings world input other s
unfolding world_of
alike_for settings world input other s fewer is same =
    let m = machine settings in
    record {
      lines = told-piece_answers m s world (pieces_of other)
          ∙ ap (λ ts. at_session m s ts (world_lines m world ts)) is
          ∙ same.lines
          ∙ sym (told-piece_answers m s world (pieces_of input));
      state = ap (λ ts. world_after m world ts s) is ∙ same.state;
    }

-- every input between the slice and the whole,
pub told_between : (settings : Settings) (world : World) (input s : List ℕ) → IsToldBetween settings world input s
told_between settings world input s other between =
    let ts = commands_of (pieces_of input) in
    alike_for settings world input other s (kept between.more ts) between.commands
    (between_law (machine settings) (lawful settings) s world ts between.more between.within)

-- and every input that has the commands of closed sessions in one order
pub told_interleaved : (settings : Settings) (world : World) (input s : List ℕ) → IsToldInterleaved settings world input s
told_interleaved settings world input s keep passes other alike =
    let m = machine settings in
    let ts = commands_of (pieces_of input) in
    let us = commands_of (pieces_of other) in
    let one = leaving_out m (lawful settings) keep world world ts alike.closed (λ name passes. refl) s passes in
    let two = leaving_out m (lawful settings) keep world world us alike.closed_too (λ name passes. refl) s passes in
    alike_for settings world input other s us refl (record {
      lines = sym two.lines ∙ ap (λ cs. at_session m s cs (world_lines m world cs)) (sym alike.same) ∙ one.lines;
      state = sym two.state ∙ ap (λ cs. world_after m world cs s) (sym alike.same) ∙ one.state;
    })
