use Rattle.std.proofs.Common.{rules}
use Rattle.daide_tools.proofs.Reading.{whole_text}
use Rattle.daide_tools.proofs.settings_file.read_text.Goals as goal

pub returns-in-Ok-from_utf8-clause-whole : goal.returns-in-Ok-from_utf8-clause-whole
returns-in-Ok-from_utf8-clause-whole g c =
    whole_text (g.I.Read.remaining c.args.input.now) _ 65537 c.new-bytes.result.items c.read_to_end.new.buf.items _
    c.new-bytes.ensures.items (search rules) c.in-Ok.ensures.bytes (search rules) (search rules)
