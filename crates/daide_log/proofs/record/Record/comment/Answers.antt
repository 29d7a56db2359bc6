use Rattle.std.proofs.Common.{rules}
use Rattle.daide_log.proofs.Common.{◌≡◌, ◌<◌, ◌++◌, ℕ, List, sym, ◌∙◌, subst, append_known, Whole, Failed, most_lines, HasFailed}
use Rattle.daide_log.specs.RecordItem.{comment_line}
use Rattle.daide_log.proofs.PauseLemmas.{line_got, page_got}
use Rattle.daide_log.proofs.record.Record.comment.Goals as goal

pub returns-then-eq : goal.returns-then-eq
returns-then-eq g c =
    let still : c.make_room-self-inside.result ≡ Whole = search rules in
    let old : c.args.self.now.ending ≡ Whole = search rules in
    let few : c.args.self.now.lines < most_lines = search rules in
    let view : c.args.self.now.text ≡ append_known (g.W.Write.contents c.self.inside.writer) c.deref_mut.result.now.items =
    search rules in
    let page : c.make_room-self-inside.new.page.items ≡ c.deref_mut-then-eq.result.now.items = search rules in
    let put = subst (λ (l : List ℕ). c.put_comment.new.line.items ≡ l ++ comment_line c.args.comment) (sym page)
    c.put_comment.ensures in
    let text = page_got (g.W.Write.contents c.self.inside.writer) (g.W.Write.contents c.make_room-self-inside.new.writer)
    c.args.self.now.text c.deref_mut.result.now.items c.make_room-self-inside.new.page.items c.put_comment.new.line.items
    (comment_line c.args.comment) view
    (c.make_room-self-inside.ensures.kept (λ e. absurd (let no : Whole ≡ Failed = sym still ∙ e in cc))) put in
    line_got (HasFailed g.W.Sink.Fails) c.args.self.now _ (comment_line c.args.comment) old still few (search rules) text
