use Rattle.std.proofs.Common.{◌∙◌}
use Rattle.daide_words.specs.Words.{words_of}
use Rattle.daide_protocol.specs.Config.{limits_with}
use Rattle.daide_driver.proofs.HubLemmas.{places_counted}
use Rattle.daide_driver.proofs.hub.Hub.count.Goals as goal

pub returns : goal.returns
returns g c =
    let s = c.self.inside in
    c.len.ensures
    ∙ (s.places.ok.0
    ∙ places_counted (λ p. (p.session, p.ports)) (limits_with s.limits.config (words_of s.words)) s.max s.places.items
    c.args.self.now c.self.view_is)
