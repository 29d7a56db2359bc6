use Rattle.std.proofs.Common.{rules}
use Rattle.daide_words.specs.Word.{names_of}
use Rattle.daide_words.specs.Words.{words_of}
use Rattle.daide_text.proofs.Taken.{all_read, fault_read, piece_read}
use Rattle.daide_text.proofs.line.read_tokens.Goals as goal

pub returns-in-Err-NotItem-clause-refused : goal.returns-in-Err-NotItem-clause-refused
returns-in-Err-NotItem-clause-refused g c =
    fault_read (names_of (words_of c.args.words.now)) c.args.line.now c.loop-rest.rest.now c.loop-rest.tokens.items
    c.loop-rest.invariant (c.in-Err-NotItem.ensures.refused (search rules))

pub loop-rest-preserved : goal.loop-rest-preserved
loop-rest-preserved g c =
    piece_read (names_of (words_of c.args.words.now)) c.args.line.now c.loop-rest.rest.now c.in-Ok.after.now
    c.loop-rest.tokens.items c.take_piece.new.tokens.items c.loop-rest.invariant c.in-Ok.ensures.taken

pub returns-clause-text : goal.returns-clause-text
returns-clause-text g c =
    all_read (names_of (words_of c.args.words.now)) c.args.line.now c.loop-rest.rest.now c.loop-rest.tokens.items
    c.loop-rest.invariant (search rules)
