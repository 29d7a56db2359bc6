-- A symbol with one entry has the entry of `must` or `may`. The other symbols have functions with their own contracts.
use Rattle.daide_grammar.proofs.Common.{[], ◌∷◌, refl, ◌∙◌, Bra, Ccd, Ket, Num, Power, Season, Snd, Text, Via, Vss, Wve}
use Rattle.daide_grammar.proofs.Common.{entries, may_end_of}
use Rattle.daide_token.specs.declared.class.Class.TheVariants.{Coast, Cto, Flt, Mrt, Mto, Note, Province}
use Rattle.daide_grammar.specs.declared.symbol.Sym.TheVariants.{Against, Any, AnyGroup, Arrangement, ArrangementGroup}
use Rattle.daide_grammar.specs.declared.symbol.Sym.TheVariants.{Borders, BordersGroup, BordersList, Cancel, CancelGroup}
use Rattle.daide_grammar.specs.declared.symbol.Sym.TheVariants.{CentresGroup, CivilDisorder, CivilDisorderGroup}
use Rattle.daide_grammar.specs.declared.symbol.Sym.TheVariants.{Closing, ConvoyTo, Fact, FactGroup, KindList}
use Rattle.daide_grammar.specs.declared.symbol.Sym.TheVariants.{KindPlaces, MaybeNumber, MaybeNumberGroup}
use Rattle.daide_grammar.specs.declared.symbol.Sym.TheVariants.{MaybePowersGroup, MaybeProvincesGroup, MissingFirst}
use Rattle.daide_grammar.specs.declared.symbol.Sym.TheVariants.{MissingTail, NoteGroup, NumberGroup, OneCoast, OneFleet}
use Rattle.daide_grammar.specs.declared.symbol.Sym.TheVariants.{OneNote, OneNumber, OneOrder, OneOutcome, OneParam}
use Rattle.daide_grammar.specs.declared.symbol.Sym.TheVariants.{OnePlace, OnePlayer, OnePower, OneProvince, OneStand}
use Rattle.daide_grammar.specs.declared.symbol.Sym.TheVariants.{OneTurn, OneUnit, Operand, OperandGroup, Operands}
use Rattle.daide_grammar.specs.declared.symbol.Sym.TheVariants.{OrderGroup, Orders, Outcomes, OutcomesGroup, Owned}
use Rattle.daide_grammar.specs.declared.symbol.Sym.TheVariants.{Owners, OwnersGroup, Params, ParamsGroup, Places}
use Rattle.daide_grammar.specs.declared.symbol.Sym.TheVariants.{PlacesGroup, Players, PowerGroup, Powers, PowersGroup}
use Rattle.daide_grammar.specs.declared.symbol.Sym.TheVariants.{Press, PressGroup, Provinces, ProvincesGroup, Reply}
use Rattle.daide_grammar.specs.declared.symbol.Sym.TheVariants.{ReplyGroup, Request, RequestGroup, Send, SendFirst}
use Rattle.daide_grammar.specs.declared.symbol.Sym.TheVariants.{SendGroup, SendTail, ShareGroup, Shares, StandTail}
use Rattle.daide_grammar.specs.declared.symbol.Sym.TheVariants.{Stands, SubmitFirst, SubmitTail, SupportTail, TextGroup}
use Rattle.daide_grammar.specs.declared.symbol.Sym.TheVariants.{Texts, Through, TurnGroup, UnitGroup, UnitGroups}
use Rattle.daide_grammar.specs.declared.symbol.Sym.TheVariants.{UnitType, Waived, Who, WhoGroup, WordList, WordsGroup}
use Rattle.daide_grammar.proofs.OneEntry.{must_told, may_told, by_name}
use Rattle.daide_grammar.proofs.plain.entry_of.Goals as goal

pub returns-in-Closing : goal.returns-in-Closing
unfolding entries may_end_of
returns-in-Closing c =
    must_told Closing Ket c.args.class [] c.in-Closing.is refl refl c.token.ensures

pub returns-in-OnePower : goal.returns-in-OnePower
unfolding entries may_end_of
returns-in-OnePower c =
    must_told OnePower Power c.args.class [] c.in-OnePower.is refl refl c.token-in-OnePower.ensures

pub returns-in-OneProvince : goal.returns-in-OneProvince
unfolding entries may_end_of
returns-in-OneProvince c =
    must_told OneProvince Province c.args.class [] c.in-OneProvince.is refl refl c.token-in-OneProvince.ensures

pub returns-in-OneCoast : goal.returns-in-OneCoast
unfolding entries may_end_of
returns-in-OneCoast c =
    must_told OneCoast Coast c.args.class [] c.in-OneCoast.is refl refl c.token-in-OneCoast.ensures

pub returns-in-OneNumber : goal.returns-in-OneNumber
unfolding entries may_end_of
returns-in-OneNumber c =
    must_told OneNumber Num c.args.class [] c.in-OneNumber.is refl refl c.token-in-OneNumber.ensures

pub returns-in-OneNote : goal.returns-in-OneNote
unfolding entries may_end_of
returns-in-OneNote c =
    must_told OneNote Note c.args.class [] c.in-OneNote.is refl refl c.token-in-OneNote.ensures

pub returns-in-OneFleet : goal.returns-in-OneFleet
unfolding entries may_end_of
returns-in-OneFleet c =
    must_told OneFleet Flt c.args.class [] c.in-OneFleet.is refl refl c.token-in-OneFleet.ensures

pub returns-in-Waived : goal.returns-in-Waived
unfolding entries may_end_of
returns-in-Waived c =
    must_told Waived Wve c.args.class [] c.in-Waived.is refl refl c.token-in-Waived.ensures

pub returns-in-ConvoyTo : goal.returns-in-ConvoyTo
unfolding entries may_end_of
returns-in-ConvoyTo c =
    must_told ConvoyTo Cto c.args.class [] c.in-ConvoyTo.is refl refl c.token-in-ConvoyTo.ensures

pub returns-in-Through : goal.returns-in-Through
unfolding entries may_end_of
returns-in-Through c =
    must_told Through Via c.args.class [] c.in-Through.is refl refl c.token-in-Through.ensures

pub returns-in-Against : goal.returns-in-Against
unfolding entries may_end_of
returns-in-Against c =
    must_told Against Vss c.args.class [] c.in-Against.is refl refl c.token-in-Against.ensures

pub returns-in-TextGroup : goal.returns-in-TextGroup
unfolding entries may_end_of
returns-in-TextGroup c =
    must_told TextGroup Bra c.args.class (Texts ∷ Closing ∷ []) c.in-TextGroup.is refl refl c.group.ensures

pub returns-in-Texts : goal.returns-in-Texts
unfolding entries may_end_of
returns-in-Texts c =
    may_told Texts Text c.args.class (Texts ∷ []) c.in-Texts.is refl refl c.may.ensures

pub returns-in-PowerGroup : goal.returns-in-PowerGroup
unfolding entries may_end_of
returns-in-PowerGroup c =
    must_told PowerGroup Bra c.args.class (OnePower ∷ Closing ∷ [])
    c.in-PowerGroup.is refl refl c.group-in-PowerGroup.ensures

pub returns-in-PowersGroup : goal.returns-in-PowersGroup
unfolding entries may_end_of
returns-in-PowersGroup c =
    must_told PowersGroup Bra c.args.class (OnePower ∷ Powers ∷ Closing ∷ [])
    c.in-PowersGroup.is refl refl c.must.ensures

pub returns-in-MaybePowersGroup : goal.returns-in-MaybePowersGroup
unfolding entries may_end_of
returns-in-MaybePowersGroup c =
    may_told MaybePowersGroup Bra c.args.class (OnePower ∷ Powers ∷ Closing ∷ [])
    c.in-MaybePowersGroup.is refl refl c.may-in-MaybePowersGroup.ensures

pub returns-in-Powers : goal.returns-in-Powers
unfolding entries may_end_of
returns-in-Powers c =
    may_told Powers Power c.args.class (Powers ∷ []) c.in-Powers.is refl refl c.may-in-Powers.ensures

pub returns-in-NumberGroup : goal.returns-in-NumberGroup
unfolding entries may_end_of
returns-in-NumberGroup c =
    must_told NumberGroup Bra c.args.class (OneNumber ∷ Closing ∷ [])
    c.in-NumberGroup.is refl refl c.group-in-NumberGroup.ensures

pub returns-in-MaybeNumberGroup : goal.returns-in-MaybeNumberGroup
unfolding entries may_end_of
returns-in-MaybeNumberGroup c =
    may_told MaybeNumberGroup Bra c.args.class (OneNumber ∷ Closing ∷ [])
    c.in-MaybeNumberGroup.is refl refl c.may-in-MaybeNumberGroup.ensures

pub returns-in-MaybeNumber : goal.returns-in-MaybeNumber
unfolding entries may_end_of
returns-in-MaybeNumber c =
    may_told MaybeNumber Num c.args.class [] c.in-MaybeNumber.is refl refl c.may-in-MaybeNumber.ensures

pub returns-in-ProvincesGroup : goal.returns-in-ProvincesGroup
unfolding entries may_end_of
returns-in-ProvincesGroup c =
    must_told ProvincesGroup Bra c.args.class (OneProvince ∷ Provinces ∷ Closing ∷ [])
    c.in-ProvincesGroup.is refl refl c.must-in-ProvincesGroup.ensures

pub returns-in-MaybeProvincesGroup : goal.returns-in-MaybeProvincesGroup
unfolding entries may_end_of
returns-in-MaybeProvincesGroup c =
    must_told MaybeProvincesGroup Bra c.args.class (Provinces ∷ Closing ∷ [])
    c.in-MaybeProvincesGroup.is refl refl c.group-in-MaybeProvincesGroup.ensures

pub returns-in-Provinces : goal.returns-in-Provinces
unfolding entries may_end_of
returns-in-Provinces c =
    may_told Provinces Province c.args.class (Provinces ∷ []) c.in-Provinces.is refl refl c.may-in-Provinces.ensures

pub returns-in-TurnGroup : goal.returns-in-TurnGroup
unfolding entries may_end_of
returns-in-TurnGroup c =
    must_told TurnGroup Bra c.args.class (OneTurn ∷ Closing ∷ [])
    c.in-TurnGroup.is refl refl c.group-in-TurnGroup.ensures

pub returns-in-OneTurn : goal.returns-in-OneTurn
unfolding entries may_end_of
returns-in-OneTurn c =
    must_told OneTurn Season c.args.class (OneNumber ∷ []) c.in-OneTurn.is refl refl c.must-in-OneTurn.ensures

pub returns-in-WordsGroup : goal.returns-in-WordsGroup
unfolding entries may_end_of
returns-in-WordsGroup c =
    must_told WordsGroup Bra c.args.class (WordList ∷ Closing ∷ [])
    c.in-WordsGroup.is refl refl c.group-in-WordsGroup.ensures

pub returns-in-WordList : goal.returns-in-WordList
returns-in-WordList c = c.word_list.ensures ∙ by_name c.args.class c.in-WordList.is

pub returns-in-AnyGroup : goal.returns-in-AnyGroup
unfolding entries may_end_of
returns-in-AnyGroup c =
    must_told AnyGroup Bra c.args.class (Any ∷ Closing ∷ []) c.in-AnyGroup.is refl refl c.group-in-AnyGroup.ensures

pub returns-in-Any : goal.returns-in-Any
returns-in-Any c = c.any.ensures ∙ by_name c.args.class c.in-Any.is

pub returns-in-OnePlace : goal.returns-in-OnePlace
returns-in-OnePlace c = c.one_place.ensures ∙ by_name c.args.class c.in-OnePlace.is

pub returns-in-PlacesGroup : goal.returns-in-PlacesGroup
unfolding entries may_end_of
returns-in-PlacesGroup c =
    must_told PlacesGroup Bra c.args.class (Places ∷ Closing ∷ [])
    c.in-PlacesGroup.is refl refl c.group-in-PlacesGroup.ensures

pub returns-in-Places : goal.returns-in-Places
returns-in-Places c = c.places.ensures ∙ by_name c.args.class c.in-Places.is

pub returns-in-UnitGroup : goal.returns-in-UnitGroup
unfolding entries may_end_of
returns-in-UnitGroup c =
    must_told UnitGroup Bra c.args.class (OneUnit ∷ Closing ∷ [])
    c.in-UnitGroup.is refl refl c.group-in-UnitGroup.ensures

pub returns-in-UnitGroups : goal.returns-in-UnitGroups
unfolding entries may_end_of
returns-in-UnitGroups c =
    may_told UnitGroups Bra c.args.class (OneUnit ∷ Closing ∷ UnitGroups ∷ [])
    c.in-UnitGroups.is refl refl c.groups.ensures

pub returns-in-OneUnit : goal.returns-in-OneUnit
unfolding entries may_end_of
returns-in-OneUnit c =
    must_told OneUnit Power c.args.class (UnitType ∷ OnePlace ∷ []) c.in-OneUnit.is refl refl c.must-in-OneUnit.ensures

pub returns-in-UnitType : goal.returns-in-UnitType
returns-in-UnitType c = c.unit_type.ensures ∙ by_name c.args.class c.in-UnitType.is

pub returns-in-OrderGroup : goal.returns-in-OrderGroup
unfolding entries may_end_of
returns-in-OrderGroup c =
    must_told OrderGroup Bra c.args.class (OneOrder ∷ Closing ∷ [])
    c.in-OrderGroup.is refl refl c.group-in-OrderGroup.ensures

pub returns-in-Orders : goal.returns-in-Orders
unfolding entries may_end_of
returns-in-Orders c =
    may_told Orders Bra c.args.class (OneOrder ∷ Closing ∷ Orders ∷ [])
    c.in-Orders.is refl refl c.groups-in-Orders.ensures

pub returns-in-OneOrder : goal.returns-in-OneOrder
returns-in-OneOrder c = c.one_order.ensures ∙ by_name c.args.class c.in-OneOrder.is

pub returns-in-OrderTail : goal.returns-in-OrderTail
returns-in-OrderTail c = c.order_tail.ensures ∙ by_name c.args.class c.in-OrderTail.is

pub returns-in-SupportTail : goal.returns-in-SupportTail
unfolding entries may_end_of
returns-in-SupportTail c =
    may_told SupportTail Mto c.args.class (OneProvince ∷ []) c.in-SupportTail.is refl refl c.may-in-SupportTail.ensures

pub returns-in-ArrangementGroup : goal.returns-in-ArrangementGroup
unfolding entries may_end_of
returns-in-ArrangementGroup c =
    must_told (ArrangementGroup c.in-ArrangementGroup.level) Bra c.args.class
    (Arrangement c.in-ArrangementGroup.level ∷ Closing ∷ [])
    c.in-ArrangementGroup.is refl refl c.group-in-ArrangementGroup.ensures

pub returns-in-Arrangement : goal.returns-in-Arrangement
returns-in-Arrangement c = c.arrangement.ensures ∙ by_name c.args.class c.in-Arrangement.is

pub returns-in-FactGroup : goal.returns-in-FactGroup
unfolding entries may_end_of
returns-in-FactGroup c =
    must_told (FactGroup c.in-FactGroup.level) Bra c.args.class (Fact c.in-FactGroup.level ∷ Closing ∷ [])
    c.in-FactGroup.is refl refl c.group-in-FactGroup.ensures

pub returns-in-Fact : goal.returns-in-Fact
returns-in-Fact c = c.fact.ensures ∙ by_name c.args.class c.in-Fact.is

pub returns-in-OperandGroup : goal.returns-in-OperandGroup
unfolding entries may_end_of
returns-in-OperandGroup c =
    must_told (OperandGroup c.in-OperandGroup.level) Bra c.args.class (Operand c.in-OperandGroup.level ∷ Closing ∷ [])
    c.in-OperandGroup.is refl refl c.group-in-OperandGroup.ensures

pub returns-in-Operands : goal.returns-in-Operands
unfolding entries may_end_of
returns-in-Operands c =
    may_told (Operands c.in-Operands.level) Bra c.args.class
    (Operand c.in-Operands.level ∷ Closing ∷ Operands c.in-Operands.level ∷ [])
    c.in-Operands.is refl refl c.groups-in-Operands.ensures

pub returns-in-Operand : goal.returns-in-Operand
returns-in-Operand c = c.operand.ensures ∙ by_name c.args.class c.in-Operand.is

pub returns-in-ShareGroup : goal.returns-in-ShareGroup
unfolding entries may_end_of
returns-in-ShareGroup c =
    must_told ShareGroup Bra c.args.class (OnePower ∷ Provinces ∷ Closing ∷ [])
    c.in-ShareGroup.is refl refl c.must-in-ShareGroup.ensures

pub returns-in-Shares : goal.returns-in-Shares
unfolding entries may_end_of
returns-in-Shares c =
    may_told Shares Bra c.args.class (OnePower ∷ Provinces ∷ Closing ∷ Shares ∷ [])
    c.in-Shares.is refl refl c.may-in-Shares.ensures

pub returns-in-PressGroup : goal.returns-in-PressGroup
unfolding entries may_end_of
returns-in-PressGroup c =
    must_told (PressGroup c.in-PressGroup.level) Bra c.args.class (Press c.in-PressGroup.level ∷ Closing ∷ [])
    c.in-PressGroup.is refl refl c.group-in-PressGroup.ensures

pub returns-in-Press : goal.returns-in-Press
returns-in-Press c = c.press.ensures ∙ by_name c.args.class c.in-Press.is

pub returns-in-SendGroup : goal.returns-in-SendGroup
unfolding entries may_end_of
returns-in-SendGroup c =
    must_told (SendGroup c.in-SendGroup.level) Bra c.args.class (Send c.in-SendGroup.level ∷ Closing ∷ [])
    c.in-SendGroup.is refl refl c.group-in-SendGroup.ensures

pub returns-in-MaybeSendGroup : goal.returns-in-MaybeSendGroup
returns-in-MaybeSendGroup c = c.maybe_send_group.ensures ∙ by_name c.args.class c.in-MaybeSendGroup.is

pub returns-in-Send : goal.returns-in-Send
unfolding entries may_end_of
returns-in-Send c =
    must_told (Send c.in-Send.level) Snd c.args.class (SendTail c.in-Send.level ∷ [])
    c.in-Send.is refl refl c.must-in-Send.ensures

pub returns-in-SendTail : goal.returns-in-SendTail
unfolding entries may_end_of
returns-in-SendTail c =
    must_told (SendTail c.in-SendTail.level) Bra c.args.class (SendFirst c.in-SendTail.level ∷ [])
    c.in-SendTail.is refl refl c.must-in-SendTail.ensures

pub returns-in-SendFirst : goal.returns-in-SendFirst
returns-in-SendFirst c = c.send_first.ensures ∙ by_name c.args.class c.in-SendFirst.is

pub returns-in-Client : goal.returns-in-Client
returns-in-Client c = c.client.ensures ∙ by_name c.args.class c.in-Client.is

pub returns-in-RequestGroup : goal.returns-in-RequestGroup
unfolding entries may_end_of
returns-in-RequestGroup c =
    must_told (RequestGroup c.in-RequestGroup.level) Bra c.args.class (Request c.in-RequestGroup.level ∷ Closing ∷ [])
    c.in-RequestGroup.is refl refl c.group-in-RequestGroup.ensures

pub returns-in-Request : goal.returns-in-Request
returns-in-Request c = c.request.ensures ∙ by_name c.args.class c.in-Request.is

pub returns-in-SubmitTail : goal.returns-in-SubmitTail
unfolding entries may_end_of
returns-in-SubmitTail c =
    may_told SubmitTail Bra c.args.class (SubmitFirst ∷ []) c.in-SubmitTail.is refl refl c.may-in-SubmitTail.ensures

pub returns-in-SubmitFirst : goal.returns-in-SubmitFirst
returns-in-SubmitFirst c = c.submit_first.ensures ∙ by_name c.args.class c.in-SubmitFirst.is

pub returns-in-CancelGroup : goal.returns-in-CancelGroup
unfolding entries may_end_of
returns-in-CancelGroup c =
    must_told CancelGroup Bra c.args.class (Cancel ∷ Closing ∷ [])
    c.in-CancelGroup.is refl refl c.group-in-CancelGroup.ensures

pub returns-in-Cancel : goal.returns-in-Cancel
returns-in-Cancel c = c.cancel.ensures ∙ by_name c.args.class c.in-Cancel.is

pub returns-in-ReplyGroup : goal.returns-in-ReplyGroup
unfolding entries may_end_of
returns-in-ReplyGroup c =
    must_told ReplyGroup Bra c.args.class (Reply ∷ Closing ∷ [])
    c.in-ReplyGroup.is refl refl c.group-in-ReplyGroup.ensures

pub returns-in-Reply : goal.returns-in-Reply
returns-in-Reply c = c.reply.ensures ∙ by_name c.args.class c.in-Reply.is

pub returns-in-Server : goal.returns-in-Server
returns-in-Server c = c.server.ensures ∙ by_name c.args.class c.in-Server.is

pub returns-in-WhoGroup : goal.returns-in-WhoGroup
unfolding entries may_end_of
returns-in-WhoGroup c =
    must_told WhoGroup Bra c.args.class (Who ∷ Closing ∷ []) c.in-WhoGroup.is refl refl c.group-in-WhoGroup.ensures

pub returns-in-Who : goal.returns-in-Who
returns-in-Who c = c.who.ensures ∙ by_name c.args.class c.in-Who.is

pub returns-in-ParamsGroup : goal.returns-in-ParamsGroup
unfolding entries may_end_of
returns-in-ParamsGroup c =
    must_told ParamsGroup Bra c.args.class (Params ∷ Closing ∷ [])
    c.in-ParamsGroup.is refl refl c.group-in-ParamsGroup.ensures

pub returns-in-Params : goal.returns-in-Params
unfolding entries may_end_of
returns-in-Params c =
    may_told Params Bra c.args.class (OneParam ∷ Closing ∷ Params ∷ [])
    c.in-Params.is refl refl c.groups-in-Params.ensures

pub returns-in-OneParam : goal.returns-in-OneParam
returns-in-OneParam c = c.one_param.ensures ∙ by_name c.args.class c.in-OneParam.is

pub returns-in-CentresGroup : goal.returns-in-CentresGroup
unfolding entries may_end_of
returns-in-CentresGroup c =
    must_told CentresGroup Bra c.args.class (OwnersGroup ∷ MaybeProvincesGroup ∷ Closing ∷ [])
    c.in-CentresGroup.is refl refl c.must-in-CentresGroup.ensures

pub returns-in-OwnersGroup : goal.returns-in-OwnersGroup
unfolding entries may_end_of
returns-in-OwnersGroup c =
    must_told OwnersGroup Bra c.args.class (Owners ∷ Closing ∷ [])
    c.in-OwnersGroup.is refl refl c.group-in-OwnersGroup.ensures

pub returns-in-Owners : goal.returns-in-Owners
unfolding entries may_end_of
returns-in-Owners c =
    may_told Owners Bra c.args.class (Owned ∷ Closing ∷ Owners ∷ []) c.in-Owners.is refl refl c.groups-in-Owners.ensures

pub returns-in-Owned : goal.returns-in-Owned
returns-in-Owned c = c.owned.ensures ∙ by_name c.args.class c.in-Owned.is

pub returns-in-BordersGroup : goal.returns-in-BordersGroup
unfolding entries may_end_of
returns-in-BordersGroup c =
    must_told BordersGroup Bra c.args.class (BordersList ∷ Closing ∷ [])
    c.in-BordersGroup.is refl refl c.group-in-BordersGroup.ensures

pub returns-in-BordersList : goal.returns-in-BordersList
unfolding entries may_end_of
returns-in-BordersList c =
    may_told BordersList Bra c.args.class (Borders ∷ Closing ∷ BordersList ∷ [])
    c.in-BordersList.is refl refl c.groups-in-BordersList.ensures

pub returns-in-Borders : goal.returns-in-Borders
unfolding entries may_end_of
returns-in-Borders c =
    must_told Borders Province c.args.class (KindList ∷ []) c.in-Borders.is refl refl c.must-in-Borders.ensures

pub returns-in-KindList : goal.returns-in-KindList
unfolding entries may_end_of
returns-in-KindList c =
    may_told KindList Bra c.args.class (KindPlaces ∷ Closing ∷ KindList ∷ [])
    c.in-KindList.is refl refl c.groups-in-KindList.ensures

pub returns-in-KindPlaces : goal.returns-in-KindPlaces
returns-in-KindPlaces c = c.kind_places.ensures ∙ by_name c.args.class c.in-KindPlaces.is

pub returns-in-Stands : goal.returns-in-Stands
unfolding entries may_end_of
returns-in-Stands c =
    may_told Stands Bra c.args.class (OneStand ∷ Closing ∷ Stands ∷ [])
    c.in-Stands.is refl refl c.groups-in-Stands.ensures

pub returns-in-OneStand : goal.returns-in-OneStand
unfolding entries may_end_of
returns-in-OneStand c =
    must_told OneStand Power c.args.class (UnitType ∷ OnePlace ∷ StandTail ∷ [])
    c.in-OneStand.is refl refl c.must-in-OneStand.ensures

pub returns-in-StandTail : goal.returns-in-StandTail
unfolding entries may_end_of
returns-in-StandTail c =
    may_told StandTail Mrt c.args.class (PlacesGroup ∷ []) c.in-StandTail.is refl refl c.may-in-StandTail.ensures

pub returns-in-MissingTail : goal.returns-in-MissingTail
unfolding entries may_end_of
returns-in-MissingTail c =
    may_told MissingTail Bra c.args.class (MissingFirst ∷ []) c.in-MissingTail.is refl refl c.may-in-MissingTail.ensures

pub returns-in-MissingFirst : goal.returns-in-MissingFirst
returns-in-MissingFirst c = c.missing_first.ensures ∙ by_name c.args.class c.in-MissingFirst.is

pub returns-in-NoteGroup : goal.returns-in-NoteGroup
unfolding entries may_end_of
returns-in-NoteGroup c =
    must_told NoteGroup Bra c.args.class (OneNote ∷ Closing ∷ [])
    c.in-NoteGroup.is refl refl c.group-in-NoteGroup.ensures

pub returns-in-OutcomesGroup : goal.returns-in-OutcomesGroup
unfolding entries may_end_of
returns-in-OutcomesGroup c =
    must_told OutcomesGroup Bra c.args.class (OneOutcome ∷ Outcomes ∷ Closing ∷ [])
    c.in-OutcomesGroup.is refl refl c.must-in-OutcomesGroup.ensures

pub returns-in-Outcomes : goal.returns-in-Outcomes
returns-in-Outcomes c = c.outcomes.ensures ∙ by_name c.args.class c.in-Outcomes.is

pub returns-in-OneOutcome : goal.returns-in-OneOutcome
returns-in-OneOutcome c = c.one_outcome.ensures ∙ by_name c.args.class c.in-OneOutcome.is

pub returns-in-CivilDisorderGroup : goal.returns-in-CivilDisorderGroup
unfolding entries may_end_of
returns-in-CivilDisorderGroup c =
    must_told CivilDisorderGroup Bra c.args.class (CivilDisorder ∷ Closing ∷ [])
    c.in-CivilDisorderGroup.is refl refl c.group-in-CivilDisorderGroup.ensures

pub returns-in-CivilDisorder : goal.returns-in-CivilDisorder
unfolding entries may_end_of
returns-in-CivilDisorder c =
    must_told CivilDisorder Ccd c.args.class (PowerGroup ∷ [])
    c.in-CivilDisorder.is refl refl c.must-in-CivilDisorder.ensures

pub returns-in-Players : goal.returns-in-Players
unfolding entries may_end_of
returns-in-Players c =
    may_told Players Bra c.args.class (OnePlayer ∷ Closing ∷ Players ∷ [])
    c.in-Players.is refl refl c.groups-in-Players.ensures

pub returns-in-OnePlayer : goal.returns-in-OnePlayer
unfolding entries may_end_of
returns-in-OnePlayer c =
    must_told OnePlayer Power c.args.class (TextGroup ∷ TextGroup ∷ OneNumber ∷ MaybeNumber ∷ [])
    c.in-OnePlayer.is refl refl c.must-in-OnePlayer.ensures
