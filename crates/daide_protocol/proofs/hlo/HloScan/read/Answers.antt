use Rattle.std.proofs.Common.{◌==◌}
use Rattle.daide_protocol.proofs.Common.{◌≡◌, ℕ, ◌+◌, false, List, [], ◌∷◌, ◌++◌, take, drop, sym, ap, ◌∙◌, rules}
use Rattle.daide_protocol.proofs.Common.{take-append-drop, hlo, tokens_of, lvl_scan_of}
use Rattle.daide_protocol.proofs.HloLemmas.{first_tokens, no_hlo-begins, no_hlo-stays}
use Rattle.daide_protocol.proofs.hlo.HloScan.read.Goals as goal

pub returns-then-code-ne-HLO-clause-found : goal.returns-then-code-ne-HLO-clause-found
returns-then-code-ne-HLO-clause-found c = λ found.
    let m = tokens_of c.args.body.now in
    let from = c.args.from in
    let first = c.token_at-first.result in
    let before = found ∙ ap lvl_scan_of (first_tokens from c.args.body.now) in
    let next : take (from + 1) m ≡ take from m ++ first ∷ [] = c.token_at-first.ensures.front in
    let whole : (take from m ++ first ∷ []) ++ drop (from + 1) m ≡ m =
    ap (λ (l : List ℕ). l ++ drop (from + 1) m) (sym next) ∙ take-append-drop (from + 1) m in
    let other : (first == hlo) ≡ false = search rules in
    let none = no_hlo-begins (take from m) first (sym c.in-NoToken.is ∙ before) other in
    c.look.ensures.found (take from m) before ∙ sym none
    ∙ no_hlo-stays (take from m ++ first ∷ []) (drop (from + 1) m) none ∙ ap lvl_scan_of whole
