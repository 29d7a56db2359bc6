use Rattle.daide_grammar.proofs.Common.{◌≡◌, [], ◌∷◌, take, reverse, length, refl, sym, ap, ◌∙◌, arith, TableEntry}
use Rattle.daide_grammar.proofs.Common.{rest_of}
use Rattle.daide_grammar.proofs.RulesFit.{eight, cells_hold}
use Rattle.daide_grammar.proofs.predict.Move.cells.Goals as goal

eight_same : {X : Type 0} (a b c d e f g h a' b' c' d' e' f' g' h' : X) →
    a ≡ a' → b ≡ b' → c ≡ c' → d ≡ d' → e ≡ e' → f ≡ f' → g ≡ g' → h ≡ h' →
    (a ∷ b ∷ c ∷ d ∷ e ∷ f ∷ g ∷ h ∷ []) ≡ (a' ∷ b' ∷ c' ∷ d' ∷ e' ∷ f' ∷ g' ∷ h' ∷ [])
eight_same a b c d e f g h a' b' c' d' e' f' g' h' pa pb pc pd pe pf pg ph =
    rw pa (rw pb (rw pc (rw pd (rw pe (rw pf (rw pg (rw ph refl)))))))

pub returns : goal.returns
returns c =
    let n = c.self.inside.rule in
    ap (take (length (rest_of c.args.self.now)))
    (eight_same
    c.cell_of.result c.cell_of-2.result c.cell_of-3.result c.cell_of-4.result
    c.cell_of-5.result c.cell_of-6.result c.cell_of-7.result c.cell_of-8.result
    _ _ _ _ _ _ _ _
    c.cell_of.ensures c.cell_of-2.ensures c.cell_of-3.ensures c.cell_of-4.ensures
    c.cell_of-5.ensures c.cell_of-6.ensures c.cell_of-7.ensures c.cell_of-8.ensures)
    ∙ ap (λ (a : TableEntry). take (length (rest_of a)) (eight n)) (sym c.self.view_is)
    ∙ cells_hold n (omega arith)
    ∙ ap (λ (a : TableEntry). reverse (rest_of a)) c.self.view_is
