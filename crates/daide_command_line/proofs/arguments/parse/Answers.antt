use Rattle.std.proofs.Common.{◌≡◌, ◌⊎◌, ◌∙◌, List, true, false, Result, Ok, Err, refl, sym, ap, subst, map}
use Rattle.std.specs.List.{list_any}
use Rattle.std.specs.Result.{IfOk}
use Rattle.clap.specs.Words.{App, Text, app_of, is_simple, is_simple_and_free, fault_of, subcommand_of, kind_of, HasMatchesOf, FailsBy}
use Rattle.clap.specs.Kinds.{IsAmong}
use Rattle.clap.specs.declared.error.Error.{Error}
use Rattle.clap.specs.declared.error.kind.ErrorKind.TheVariants.{OutOfMemory}
use Rattle.clap.specs.declared.parser.matches.ArgMatches.{ArgMatches}
use Rattle.daide_command_line.specs.CommandLine.{begins_negative, gate_app, ParsesTo, parsed_by}
use Rattle.daide_command_line.proofs.arguments.parse.Goals as goal

simple : is_simple gate_app ≡ true
simple = refl

free : is_simple_and_free gate_app ≡ true
free = refl

gives : (app : App) (words : List Text) (parsed : Result ArgMatches Error) →
    (list_any begins_negative words ≡ false → app ≡ gate_app) → IfOk parsed (HasMatchesOf app words) →
    (is_simple_and_free app ≡ true → FailsBy (fault_of app words) parsed) → ParsesTo words (parsed_by parsed)
gives app words (Ok matches) is matched failed = λ plain.
    let e = is plain in (
      ap (λ (a : App). fault_of a words) (sym e) ∙ failed (ap is_simple_and_free e ∙ free),
      (matched (ap is_simple e ∙ simple)).1 ∙ ap (λ (a : App). subcommand_of a words) e,
    )
gives app words (Err why) is matched failed = λ plain.
    let e = is plain in
    subst (λ (a : App). (kind_of why ≡ OutOfMemory) ⊎ IsAmong (kind_of why) (fault_of a words)) e
    (failed (ap is_simple_and_free e ∙ free))

pub returns : goal.returns
returns g c = gives (app_of c.in_ok-command.command) (map g.S.AsStr.text c.args.words.now) c.try_get_matches_from.result
    (λ plain. c.in_ok-command.ensures (c.has_negative.ensures ∙ plain))
    c.try_get_matches_from.ensures.matches c.try_get_matches_from.ensures.kinds
