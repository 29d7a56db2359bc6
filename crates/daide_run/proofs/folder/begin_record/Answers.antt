use Rattle.daide_run.proofs.folder.begin_record.Goals as goal

pub returns-in-Some-Some-clause-record_of : goal.returns-in-Some-Some-clause-record_of
returns-in-Some-Some-clause-record_of g c =
    rw c.in-Some-Some.is-0 (rw c.in-Some-Some.is-1 (rw c.as_str.ensures.value at c.put_beginning.ensures))
