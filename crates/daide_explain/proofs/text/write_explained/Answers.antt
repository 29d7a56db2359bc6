use Rattle.daide_explain.proofs.Common.{◌*◌, [], subst, sym, refl, append-nil, on_ok_weaker, Verdict, IsExplained}
use Rattle.daide_explain.proofs.Common.{tokens_of, IsMessageOver, grammar_words, words_of, Huh, HasVerdict, place_in}
use Rattle.daide_explain.proofs.Places.{huh_plain, front_plain}
use Rattle.daide_explain.proofs.text.write_explained.Goals as goal

pub write_place-requires-clause-within : goal.write_place-requires-clause-within
write_place-requires-clause-within g c =
    let message = IsMessageOver (grammar_words (words_of c.args.rules.now.words.now)) c.args.rules.now.end c.args.rules.now.level in
    place_in message c.args.rules.now.max_depth c.args.body.now (Huh c.in-Huh.place)
    (subst (HasVerdict message c.args.rules.now.max_depth (tokens_of c.args.body.now)) c.in-Huh.is c.requires.verdict)

pub write_place-requires-clause-plain : goal.write_place-requires-clause-plain
write_place-requires-clause-plain g c =
    let words = grammar_words (words_of c.args.rules.now.words.now) in
    front_plain c.args.body.now (2 * c.in-Huh.place)
    (huh_plain words c.args.rules.now.end c.args.rules.now.level c.args.rules.now.max_depth (tokens_of c.args.body.now) c.in-Huh.place
    (subst (HasVerdict (IsMessageOver words c.args.rules.now.end c.args.rules.now.level) c.args.rules.now.max_depth (tokens_of c.args.body.now))
    c.in-Huh.is c.requires.verdict))

pub returns-in-Relay-clause-text : goal.returns-in-Relay-clause-text
returns-in-Relay-clause-text g c =
    let same = sym c.in-Relay.is in (
      [],
      subst (λ (v : Verdict). IsExplained (words_of c.args.rules.now.words.now) c.args.rules.now.end c.args.rules.now.level c.args.rules.now.max_depth (tokens_of c.args.body.now) v []) same refl,
      sym (append-nil c.args.text.now.items),
    )

pub returns-in-Prn-clause-text : goal.returns-in-Prn-clause-text
returns-in-Prn-clause-text g c =
    on_ok_weaker c.write_unpaired.result
    (λ w. (
      w.0,
      subst (λ (v : Verdict). IsExplained (words_of c.args.rules.now.words.now) c.args.rules.now.end c.args.rules.now.level c.args.rules.now.max_depth (tokens_of c.args.body.now) v w.0) (sym c.in-Prn.is) w.1,
      w.2,
    ))
    c.write_unpaired.ensures.text

pub returns-in-Huh-clause-text : goal.returns-in-Huh-clause-text
returns-in-Huh-clause-text g c =
    on_ok_weaker c.write_place.result
    (λ w. (
      w.0,
      subst (λ (v : Verdict). IsExplained (words_of c.args.rules.now.words.now) c.args.rules.now.end c.args.rules.now.level c.args.rules.now.max_depth (tokens_of c.args.body.now) v w.0) (sym c.in-Huh.is) w.1,
      w.2,
    ))
    c.write_place.ensures.text
