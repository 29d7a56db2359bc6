use Rattle.daide_log.proofs.RecordHead.{config_put}
use Rattle.daide_log.proofs.record_text.put_config.Goals as goal

pub returns-clause-text : goal.returns-clause-text
returns-clause-text c =
    config_put c.args.config.now c.args.words c.args.line.now.items c.put.new.line.items c.put_number.new.line.items
    c.put-2.new.line.items c.put_number-2.new.line.items c.put-3.new.line.items c.put_number-3.new.line.items
    c.put-4.new.line.items c.put_number-4.new.line.items c.put-5.new.line.items c.put.ensures.text
    c.put_number.ensures.text c.put-2.ensures.text c.put_number-2.ensures.text c.put-3.ensures.text
    c.put_number-3.ensures.text c.put-4.ensures.text c.put_number-4.ensures.text c.put-5.ensures.text
