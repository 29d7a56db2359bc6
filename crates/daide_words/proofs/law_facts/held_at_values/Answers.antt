use Rattle.daide_words.proofs.Common.{[], ◌∷◌, refl, bra, ket, L0, L60, Client, entries, may_end_of, slot_of}
use Rattle.daide_words.proofs.Common.{table_answer}
use Rattle.daide_grammar.specs.Balanced.{plain}
use Rattle.daide_grammar.specs.declared.side.Side2.TheVariants.{Client as BotSide}
use Rattle.daide_words.proofs.Apart.{numbers_apart}
use Rattle.daide_words.proofs.law_facts.held_at_values.Goals as goal

pub returns : goal.returns
unfolding slot_of table_answer entries may_end_of
returns c = record {
  err = c.laws_hold_over.ensures.huh_with_err BotSide L0 (0x4A40 ∷ []) 0 (plain 0x4A40 (numbers_apart 0x4A40 bra refl) (numbers_apart 0x4A40 ket refl));
  entries = λ stack. c.laws_hold_over.ensures.laws.few_entries stack 62;
  codes = λ one other at there same.
      numbers_apart 0 15 refl (c.laws_hold_over.ensures.codes 0 15 one other at there same);
  client = λ word at. c.laws_hold_over.ensures.elsewhere 15 word (Client L60) at refl;
}
