use Rattle.daide_log.proofs.Common.{◌≡◌, ◌++◌, ℕ, List, Option, None, Some, sym, ap, ◌∙◌, append_assoc, Appends}
use Rattle.daide_log.proofs.Common.{append_known, some_text, tokens_of, all_of}
use Rattle.daide_token.specs.Names.{Named}
use Rattle.daide_log_lines.proofs.PageLemmas.{keeps_and_appends}
use Rattle.daide_log.proofs.page.put_some.Goals as goal

appended : (known : Option (List ℕ)) (items more text : List ℕ) → more ≡ items ++ text →
    Appends (append_known known items) (append_known known more) text
appended None items more text e = tt
appended (Some x) items more text e = ap (λ (l : List ℕ). x ++ l) e ∙ sym (append_assoc x items text)

pub returns-clause-text : goal.returns-clause-text
returns-clause-text g c =
    let held = c.make_room_for.new.output in
    keeps_and_appends (all_of g.W.Write.contents c.args.output.now) (all_of g.W.Write.contents held) _ _
    c.in_ok-make_room_for.ensures.kept
    (appended (g.W.Write.contents held.writer.now) held.page.items c.put_tokens-next.new.self.items _
    (c.put_tokens-next.ensures.items
    ∙ ap (λ (names : List Named). held.page.items ++ some_text names c.args.place (tokens_of c.args.tokens.now))
    c.names.ensures.names))
