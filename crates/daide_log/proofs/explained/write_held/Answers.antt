use Rattle.std.specs.Option.{unwrap_or}
use Rattle.daide_grammar.specs.Level.{level_of_number}
use Rattle.daide_log.proofs.Common.{◌≡◌, ◌∙◌, Some, ap, sym, Config, L0}
use Rattle.daide_log.proofs.explained.write_held.Goals as goal

pub write_message-requires-clause-ruled : goal.write_message-requires-clause-ruled
write_message-requires-clause-ruled g c = rw c.body.ensures.value c.requires.right.ruled

pub write_message-requires-clause-within : goal.write_message-requires-clause-within
write_message-requires-clause-within g c = rw (c.body.ensures.value, c.verdict_by.ensures) c.requires.right.within

pub write_message-requires-clause-verdict : goal.write_message-requires-clause-verdict
write_message-requires-clause-verdict g c =
    rw (c.side2_of.ensures, c.noted.ensures, c.verdict_by.ensures, c.body.ensures.value) c.requires.right.verdict

pub returns-clause-text : goal.returns-clause-text
returns-clause-text g c =
    let config = c.args.head.now.limits.config in
    let level : level_of_number config.top_level ≡ Some c.top_level.result =
    ap (λ (k : Config). level_of_number k.top_level) (sym c.of-limits.ensures) ∙ c.top_level.ensures in
    let top : c.top_level.result ≡ unwrap_or (level_of_number config.top_level) L0 =
    sym (ap (λ o. unwrap_or o L0) level) in
    rw (
      c.side2_of.ensures,
      c.verdict_by.ensures,
      c.body.ensures.value,
      c.capped_from.ensures,
      top,
      c.noted.ensures,
    ) at c.write_message.ensures.text
