use Rattle.daide_run.proofs.folder.Folder.start.Goals as goal

pub returns-clause-started : goal.returns-clause-started
returns-clause-started g c = (
  _,
  _,
  c.address_text-address.ensures,
  rw c.new-log.ensures at c.begin_record-began.ensures.record_of,
  c.begin_record-began.ensures.last,
)
