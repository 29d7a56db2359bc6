use Rattle.std.proofs.Common.{sym, subst, List, ℕ, IfOk, rules}
use Rattle.daide_words.specs.Word.{names_of}
use Rattle.daide_words.specs.Words.{words_of}
use Rattle.daide_text.specs.Pieces.{IsRefusedPiece, IsTakenPiece}
use Rattle.daide_text.proofs.Taken.{blank_first, bra_first, first_and_rest, ket_first}
use Rattle.daide_text.proofs.pieces.take_piece.Goals as goal

pub returns-in-32-clause-taken : goal.returns-in-32-clause-taken
returns-in-32-clause-taken g c =
    blank_first (names_of (words_of c.args.words.now)) c.args.rest.now c.args.tokens.now.items c.requires c.in-32.is

pub returns-in_ok-append-in-40-clause-taken : goal.returns-in_ok-append-in-40-clause-taken
returns-in_ok-append-in-40-clause-taken g c =
    bra_first (names_of (words_of c.args.words.now)) c.args.rest.now c.args.tokens.now.items c.append.new.tokens.items
    c.requires c.in-40.is (search rules)

pub returns-in_ok-append-in-41-clause-taken : goal.returns-in_ok-append-in-41-clause-taken
returns-in_ok-append-in-41-clause-taken g c =
    ket_first (names_of (words_of c.args.words.now)) c.args.rest.now c.args.tokens.now.items
    c.append-in-41.new.tokens.items c.requires c.in-41.is (search rules)

pub returns-in-39-clause-taken : goal.returns-in-39-clause-taken
returns-in-39-clause-taken g c =
    let added = names_of (words_of c.args.words.now) in
    subst (λ (l : List ℕ). IfOk c.take_quote.result (λ after. IsTakenPiece added l after.now c.args.tokens.now.items
    c.take_quote.new.tokens.items))
    (sym (first_and_rest 39 c.args.rest.now c.requires c.in-39.is)) (c.take_quote.ensures.taken added)

pub returns-in-39-clause-refused : goal.returns-in-39-clause-refused
returns-in-39-clause-refused g c e =
    let added = names_of (words_of c.args.words.now) in
    subst (IsRefusedPiece added) (sym (first_and_rest 39 c.args.rest.now c.requires c.in-39.is))
    (c.take_quote.ensures.refused e added)
