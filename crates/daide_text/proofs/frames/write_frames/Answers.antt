use Rattle.std.proofs.Common.{ℕ, List, ◌∷◌, subst, arith, rules}
use Rattle.daide_words.specs.Word.{names_of}
use Rattle.daide_words.specs.Words.{words_of}
use Rattle.daide_causes.specs.Causes.{HasFailed, WasRefused}
use Rattle.daide_text.specs.Frames.{IsFaultOfNext, IsTextCause, WritesUpTo}
use Rattle.daide_text.proofs.Written.{at_error, cause_of, fault_of_input, fault_of_line, fault_of_write, more_written, too_many}
use Rattle.daide_text.proofs.frames.write_frames.Goals as goal

pub returns-in_err-line-clause-refused : goal.returns-in_err-line-clause-refused
returns-in_err-line-clause-refused g c =
    let added = names_of (words_of c.args.words.now) in
    let now = c.loop-count in
    at_error c.from_residual.result c.in_err-line.field-0.0
    (WritesUpTo added (g.R.Read.remaining c.args.reader.now) (g.W.Write.contents c.args.writer.now)
    (g.W.Write.contents now.writer)) c.from_residual.ensures.1
    (fault_of_input added (g.R.Read.remaining c.args.reader.now) (g.R.Read.remaining now.reader)
    (g.W.Write.contents c.args.writer.now) (g.W.Write.contents now.writer) now.count now.invariant
    c.in_err-line.field-0.0 c.in_err-line.ensures.refused)

pub returns-in_err-text-clause-refused : goal.returns-in_err-text-clause-refused
returns-in_err-text-clause-refused g c =
    let added = names_of (words_of c.args.words.now) in
    let now = c.loop-count in
    at_error c.from_residual-in_err-text.result c.in_err-text.field-0.0
    (WritesUpTo added (g.R.Read.remaining c.args.reader.now) (g.W.Write.contents c.args.writer.now)
    (g.W.Write.contents now.writer)) c.from_residual-in_err-text.ensures.1
    (fault_of_line added (g.R.Read.remaining c.args.reader.now) (g.R.Read.remaining now.reader)
    (g.W.Write.contents c.args.writer.now) (g.W.Write.contents now.writer) now.count now.invariant
    (g.R.Read.remaining c.read_line.new.reader) c.in-Some.line.items (search rules)
    c.in_err-text.field-0.0
    (λ k more e. subst (λ (l : List ℕ). IsFaultOfNext added k (l ∷ more) c.in_err-text.field-0.0) c.as_slice.ensures.value
    (c.in_err-text.ensures.refused k more e)))

pub returns-then-is_err-clause-refused : goal.returns-then-is_err-clause-refused
returns-then-is_err-clause-refused g c =
    let added = names_of (words_of c.args.words.now) in
    let now = c.loop-count in
    fault_of_write added (g.R.Read.remaining c.args.reader.now) (g.R.Read.remaining now.reader)
    (g.W.Write.contents c.args.writer.now) (g.W.Write.contents now.writer) now.count now.invariant
    (g.R.Read.remaining c.read_line.new.reader) c.in-Some.line.items (search rules)
    c.in_ok-text.text.items (g.W.Write.contents c.write_whole.new.self) (search rules)

pub loop-count-preserved : goal.loop-count-preserved
loop-count-preserved g c =
    let added = names_of (words_of c.args.words.now) in
    let now = c.loop-count in
    more_written added (g.R.Read.remaining c.args.reader.now) (g.R.Read.remaining now.reader)
    (g.W.Write.contents c.args.writer.now) (g.W.Write.contents now.writer) now.count now.invariant
    (g.R.Read.remaining c.read_line.new.reader) c.in-Some.line.items (search rules)
    c.in_ok-text.text.items (g.W.Write.contents c.write_whole.new.self) (search rules) (search rules)

pub returns-in_err-_line-clause-refused : goal.returns-in_err-_line-clause-refused
returns-in_err-_line-clause-refused g c =
    let added = names_of (words_of c.args.words.now) in
    let now = c.loop-count in
    at_error c.from_residual-in_err-_line.result c.in_err-_line.field-0.0
    (WritesUpTo added (g.R.Read.remaining c.args.reader.now) (g.W.Write.contents c.args.writer.now)
    (g.W.Write.contents now.writer)) c.from_residual-in_err-_line.ensures.1
    (fault_of_input added (g.R.Read.remaining c.args.reader.now) (g.R.Read.remaining now.reader)
    (g.W.Write.contents c.args.writer.now) (g.W.Write.contents now.writer) now.count now.invariant
    c.in_err-_line.field-0.0 (search rules))

pub returns-in-Some-2-clause-refused : goal.returns-in-Some-2-clause-refused
returns-in-Some-2-clause-refused g c =
    let added = names_of (words_of c.args.words.now) in
    let now = c.loop-count in
    too_many added (g.R.Read.remaining c.args.reader.now) (g.R.Read.remaining now.reader)
    (g.W.Write.contents c.args.writer.now) (g.W.Write.contents now.writer) now.count now.invariant
    (g.R.Read.remaining c.read_line-2.new.reader) c.in-Some-2._line.items (search rules)
    (omega (arith, c.loop-count-test.false, now.auto.count-end))

pub returns-in_err-line-clause-caused : goal.returns-in_err-line-clause-caused
returns-in_err-line-clause-caused g c =
    at_error c.from_residual.result c.in_err-line.field-0.0
    (IsTextCause (HasFailed g.R.Source.Fails) (WasRefused g.A.Memory.Refuses) (HasFailed g.W.Sink.Fails))
    c.from_residual.ensures.1 (cause_of (WasRefused g.A.Memory.Refuses) (λ h. h) (λ h. absurd h) c.in_err-line.field-0.0 c.in_err-line.ensures.caused)

pub returns-in_err-text-clause-caused : goal.returns-in_err-text-clause-caused
returns-in_err-text-clause-caused g c =
    at_error c.from_residual-in_err-text.result c.in_err-text.field-0.0
    (IsTextCause (HasFailed g.R.Source.Fails) (WasRefused g.A.Memory.Refuses) (HasFailed g.W.Sink.Fails))
    c.from_residual-in_err-text.ensures.1 (cause_of (WasRefused g.A.Memory.Refuses) (λ h. absurd h) (λ h. absurd h) c.in_err-text.field-0.0 c.in_err-text.ensures.caused)

pub returns-in_err-_line-clause-caused : goal.returns-in_err-_line-clause-caused
returns-in_err-_line-clause-caused g c =
    at_error c.from_residual-in_err-_line.result c.in_err-_line.field-0.0
    (IsTextCause (HasFailed g.R.Source.Fails) (WasRefused g.A.Memory.Refuses) (HasFailed g.W.Sink.Fails))
    c.from_residual-in_err-_line.ensures.1 (cause_of (WasRefused g.A.Memory.Refuses) (λ h. h) (λ h. absurd h) c.in_err-_line.field-0.0 c.in_err-_line.ensures.caused)
