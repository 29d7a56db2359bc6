use Rattle.std.proofs.Common.{◌≡◌, ℕ, ◌+◌, ◌<◌, ◌≤◌, List, [], ◌∷◌, ◌++◌, length, take, slice_set, ap, ◌∙◌, arith}
use Rattle.std.proofs.lemmas.Grind.{common_steps}
use Rattle.daide_log_lines.specs.Page.{Held}
use Rattle.daide_log_lines.proofs.page.Page.push.Goals as goal

one_more : (bytes : List ℕ) (n byte : ℕ) → n < length bytes →
    take (n + 1) (slice_set bytes n byte) ≡ take n bytes ++ byte ∷ []
one_more bytes n byte less = grind (arith, common_steps)

room : (bytes buffered : List ℕ) (n : ℕ) → take n bytes ≡ buffered → n ≤ 8192 → length bytes ≡ 8192 → length buffered < 8192 →
    n < length bytes
room bytes buffered n same most all few = grind (arith, common_steps, ap length same)

pub returns-clause-items : goal.returns-clause-items
returns-clause-items c =
    let same = ap (λ (buffered : Held). buffered.items) c.self.view_is in
    one_more c.self.inside.bytes c.self.inside.len c.args.byte
    (room _ _ _ same (omega arith) (omega arith) c.requires)
    ∙ ap (λ (t : List ℕ). t ++ c.args.byte ∷ []) same
