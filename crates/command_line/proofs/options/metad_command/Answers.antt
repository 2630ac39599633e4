-- The command that is built is the one of the definition.
use Rattle.std.proofs.Common.{◌≡◌, ◌∙◌, rules, ap₂, codes, true}
use Rattle.std.proofs.lemmas.Result.{IfOk-weaker}
use Rattle.clap.specs.Simple.{on_top}
use Rattle.clap.specs.Words.{app_of, new_app, with_rule}
use Rattle.command_line.proofs.options.metad_command.Goals as goal

pub returns : goal.returns
returns c =
    let classes = c.classes_argument.ensures in
    let turns = c.turns_argument.ensures in
    let slice = c.slice_argument.ensures in
    let bare_is : app_of c.after_help.result ≡ on_top (λ s. record s { no_binary_name = true }) (new_app (codes "metad")) = search rules in
    let first_is = c.in_ok-arg.ensures.shape classes.own ∙ ap₂ with_rule bare_is classes.rule in
    let second_is = c.in_ok-arg-2.ensures.shape turns.own ∙ ap₂ with_rule first_is turns.rule in
    IfOk-weaker c.arg-3.result _ _ (λ command adds. adds.shape slice.own ∙ ap₂ with_rule second_is slice.rule) c.arg-3.ensures
