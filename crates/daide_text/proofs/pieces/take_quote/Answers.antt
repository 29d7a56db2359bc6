use Rattle.std.proofs.Common.{sym, subst, rules, ◌∷◌, List, ℕ, ◌+◌}
use Rattle.daide_text.specs.Pieces.{IsTakenPiece}
use Rattle.std.proofs.lemmas.List.{take_rest}
use Rattle.daide_text.proofs.Taken.{quote_refused, quote_taken, unclosed_refused}
use Rattle.daide_text.proofs.pieces.take_quote.Goals as goal

pub returns-in_default-clause-refused : goal.returns-in_default-clause-refused
returns-in_default-clause-refused g c _ added = unclosed_refused added c.args.rest.now c.in_default.ensures

pub returns-then-not-are_printable-clause-refused : goal.returns-then-not-are_printable-clause-refused
returns-then-not-are_printable-clause-refused g c _ added =
    quote_refused added c.in-Some.end c.args.rest.now c.in-Some.ensures (search rules)

pub returns-clause-taken : goal.returns-clause-taken
returns-clause-taken g c added =
    subst (λ (after : List ℕ). IsTakenPiece added (39 ∷ c.args.rest.now) after c.args.tokens.now.items
    c.append_characters.new.tokens.items)
    (sym (take_rest c.args.rest.now (c.in-Some.end + 1)))
    (quote_taken added c.in-Some.end c.args.rest.now c.args.tokens.now.items c.append_characters.new.tokens.items
    c.in-Some.ensures (search rules) c.in_ok-append_characters.ensures.appended)
