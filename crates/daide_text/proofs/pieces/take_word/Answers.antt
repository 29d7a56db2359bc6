use Rattle.std.proofs.Common.{sym, subst, rules, List, ℕ}
use Rattle.daide_words.specs.Word.{names_of}
use Rattle.daide_words.specs.Words.{words_of}
use Rattle.daide_text.specs.Pieces.{IsTakenPiece}
use Rattle.std.proofs.lemmas.List.{take_rest}
use Rattle.daide_text.proofs.Taken.{word_refused, word_taken}
use Rattle.daide_text.proofs.pieces.take_word.Goals as goal

pub returns-in_default-clause-refused : goal.returns-in_default-clause-refused
returns-in_default-clause-refused g c _ =
    let end = c.word_end-end in
    word_refused (names_of (words_of c.args.words.now)) end.result c.args.rest.now c.requires end.ensures.word
    end.ensures.end (search rules)

pub returns-clause-taken : goal.returns-clause-taken
returns-clause-taken g c =
    let end = c.word_end-end in
    subst (λ (after : List ℕ). IsTakenPiece (names_of (words_of c.args.words.now)) c.args.rest.now after
    c.args.tokens.now.items c.append.new.tokens.items)
    (sym (take_rest c.args.rest.now end.result))
    (word_taken (names_of (words_of c.args.words.now)) end.result c.in-Some.token c.args.rest.now
    c.args.tokens.now.items c.append.new.tokens.items c.requires end.ensures.word end.ensures.end (search rules)
    c.in_ok-append.ensures.appended)
