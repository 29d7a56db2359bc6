use Rattle.std.proofs.Common.{ℕ, ◌<◌, length, take, option_map, refl, ap, ◌∙◌, arith}
use Rattle.daide_tools.proofs.Reading.{whole_text}
use Rattle.daide_tools.proofs.controlling.answer_of.Goals as goal

pub returns-clause-whole : goal.returns-clause-whole
returns-clause-whole g c =
    let few : length c.read_to_end.new.buf.items < 4194305 = omega (arith, c.len.ensures, c.if-len-gt-MOST_BYTES.false) in
    whole_text (g.S.Read.remaining c.args.stream.now) _ 4194305 c.new-answer.result.items c.read_to_end.new.buf.items _
    c.new-answer.ensures.items
    (ap (λ (n : ℕ). option_map (take n) (g.S.Read.remaining c.take.result.inner.now)) c.take.ensures.limit
    ∙ ap (λ inner. option_map (take 4194305) (g.S.Read.remaining inner.now)) c.take.ensures.inner)
    c.in-Ok.ensures.bytes few refl
