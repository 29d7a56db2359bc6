use Rattle.daide_grammar.proofs.Common.{◌<◌, sym, subst, Class, class_number, all_classes}
use Rattle.daide_grammar.proofs.WordColumns.{own_class}
use Rattle.daide_grammar.proofs.plain.PlainPredict.class_of.Goals as goal

pub named-requires : goal.named-requires
named-requires c = subst (λ (x : Class). class_number x < all_classes) (sym c.class.ensures) (own_class c.args.token)
