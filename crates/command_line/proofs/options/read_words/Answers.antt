-- clap's own contract at the command line of metad, and by it what the words ask for.
use Rattle.std.proofs.Common.{◌≡◌, ◌∙◌, ap, subst, sym, List, codes, map, Option}
use Rattle.std.specs.Prelude.{ℕ}
use Rattle.clap.specs.Words.{App, HasKind, app_of, fault_of, first_of, is_simple, is_simple_and_free, kind_of, matches_of, found_of, one_of, one_text}
use Rattle.std.specs.Str.Parse.{ParsesUnsigned, ExplainsUnsignedError, HasUnsignedDigitsIfOk}
use Rattle.clap.proofs.WalkLemmas.{first_value-rows, one_text-rows}
use Rattle.command_line.specs.Program.{metad}
use Rattle.command_line.specs.Asked.{Gives, asked}
use Rattle.command_line.proofs.NumberLemmas.{gives_once, turns_read}
use Rattle.command_line.proofs.WalkLemmas.{kind_says, reads_refusal, run_asked, same_run}
use Rattle.command_line.proofs.WordLemmas.{simple, simple_and_free}
use Rattle.command_line.proofs.options.read_words.Goals as goal

pub returns-in_err-matches-clause-asked : goal.returns-in_err-matches-clause-asked
returns-in_err-matches-clause-asked g c =
    let is_metad : app_of c.in_ok-command.command ≡ metad = c.in_ok-command.ensures in
    let refused = c.in_err-matches.ensures.kinds (ap is_simple_and_free is_metad ∙ simple_and_free) in
    let says = kind_says (map g.S.AsStr.text c.args.words.now) (kind_of c.in_err-matches.field-0.0)
    (subst (λ (a : App). HasKind (fault_of a (map g.S.AsStr.text c.args.words.now)) c.in_err-matches.field-0.0) is_metad refused) in
    reads_refusal (asked (map g.S.AsStr.text c.args.words.now)) c.from_residual-in_err-matches.result c.in_err-matches.field-0.0
    c.from_residual-in_err-matches.ensures.1 says

pub returns-clause-kinds : goal.returns-clause-kinds
returns-clause-kinds g c =
    let is_metad : app_of c.in_ok-command.command ≡ metad = c.in_ok-command.ensures in
    sym (ap (λ (a : App). fault_of a (map g.S.AsStr.text c.args.words.now)) is_metad)
    ∙ c.in_ok-matches.ensures.kinds (ap is_simple_and_free is_metad ∙ simple_and_free)

pub returns-clause-found : goal.returns-clause-found
returns-clause-found g c =
    let words = map g.S.AsStr.text c.args.words.now in
    let is_metad : app_of c.in_ok-command.command ≡ metad = c.in_ok-command.ensures in
    let found = found_of c.in_ok-matches.matches in
    let exact = (c.in_ok-matches.ensures.matches (ap is_simple is_metad ∙ simple)).0 ∙ ap (λ (a : App). matches_of a words) is_metad in
    let same = one_text-rows found (codes "turns") ∙ ap (one_of (codes "turns")) exact in
    let asks = run_asked words (returns-clause-kinds g c) in
    let given : Gives (one_text found (codes "turns")) asks.0 = subst (λ (o : Option (List ℕ)). Gives o asks.0) (sym same) asks.2 in
    let is : c.unwrap_or-turns.result ≡ asks.0 = c.unwrap_or-turns.ensures ∙ turns_read
    (λ bs r. ParsesUnsigned 32 10 bs r × ExplainsUnsignedError 10 bs r × HasUnsignedDigitsIfOk bs r) (one_text found (codes "turns")) c.get_one.result
    asks.0 given c.get_one.ensures.none c.get_one.ensures.value (λ text result reads. reads.0) in
    record {
      classes = c.in_ok-classes.ensures ∙ (first_value-rows found (codes "classes") ∙ ap (first_of (codes "classes")) exact);
      turns = subst (Gives (one_of (codes "turns") (matches_of metad words))) (sym is) asks.2;
      slice = c.in_ok-slice.ensures ∙ (first_value-rows found (codes "slice") ∙ ap (first_of (codes "slice")) exact);
    }

pub returns-clause-asked : goal.returns-clause-asked
returns-clause-asked g c =
    let found = returns-clause-found g c in
    let asks = run_asked (map g.S.AsStr.text c.args.words.now) (returns-clause-kinds g c) in
    let turns = gives_once _ asks.0 c.unwrap_or-turns.result asks.2 found.turns in
    asks.1 ∙ same_run _ _ asks.0 c.unwrap_or-turns.result _ _ found.classes turns found.slice
