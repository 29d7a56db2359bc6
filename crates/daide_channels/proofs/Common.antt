-- The names that several proofs of this crate cite, passed on from one place.
pub use Rattle.std.proofs.Common.{◌≡◌, ℕ, zero, suc, ◌+◌, ◌<◌, ◌≤◌, false, List, [], ◌∷◌, length, map, Option, Some}
pub use Rattle.std.proofs.Common.{None, refl, sym, ap, ◌∙◌, arith, is_some, ◌||◌, nat_lt, Bool, true, subst, drop}
pub use Rattle.std.proofs.Common.{if◌then◌else◌, ◌-◌, length-drop, append-nil, ◌++◌, ◌*◌, take, length-append}
pub use Rattle.std.proofs.Common.{append_assoc, sum_by, ◌/◌, rules}
pub use Rattle.std.proofs.lemmas.Bool.Decides.{nat_tests}
pub use Rattle.daide_token.specs.Token.{tokens_of}
pub use Rattle.daide_frame.proofs.PerSideLemmas.{at_put, put_all}
pub use Rattle.daide_frame.specs.Frames.{head_part, fed}
unfoldable pub use Rattle.daide_frame.specs.Frames.{head_in}
unfoldable pub use Rattle.daide_frame.specs.Head.{head_bytes}
pub use Rattle.daide_frame.specs.PerSide.{at, PerSide, put}
pub use Rattle.daide_frame.specs.Side.{other}
pub use Rattle.daide_frame.specs.declared.code.Code.{Code}
pub use Rattle.daide_frame.specs.declared.head.Head.{Head}
pub use Rattle.daide_frame.specs.declared.side.Side.{Side}
pub use Rattle.daide_frame.specs.declared.side.Side.TheVariants.{Bot, Server}
pub use Rattle.daide_grammar.specs.Table.Symbols.{start_symbol_of}
pub use Rattle.daide_grammar.specs.declared.level.Level.{Level}
pub use Rattle.daide_grammar.specs.declared.level.Level.TheVariants.{L0}
pub use Rattle.daide_grammar.specs.declared.side.Side2.{Side2}
pub use Rattle.daide_reader.specs.Reading.{Reading, IsRaised, HasReadPrefix}
pub use Rattle.daide_reader.specs.declared.verdict.Verdict.{Verdict}
pub use Rattle.daide_words.specs.Table.Extended.{extended_look_ups}
unfoldable pub use Rattle.daide_words.specs.Table.Extended.{spoken_words}
unfoldable pub use Rattle.daide_words.specs.Table.OverWords.{spoken}
pub use Rattle.daide_words.specs.contracts.extended.ExtendedPredict.TheImpl.{ghosts}
pub use Rattle.daide_protocol.specs.HloLevel.{lvl_scan_of}
pub use Rattle.daide_protocol.specs.Machine.{Sent, destination, IsCorrectVerdict, question_of, is_dm, side2_of}
pub use Rattle.daide_protocol.specs.Weight.{frame_tokens}
pub use Rattle.daide_protocol.specs.Wires.{is_awaited, is_answer, parts_after, first_len, sent_bytes, is_dm_head}
pub use Rattle.daide_channels.specs.Receiver.{Receiver, StartsFrame, whole_answer, answer_parts, front_after, front_in}
pub use Rattle.daide_channels.specs.Receiver.{Answers, bytes_by, parts_by, ReaderLimits, ReadsMessageBytes, receiver_of}
pub use Rattle.daide_channels.specs.Receiver.{rules_of, tokens_ended, words_in}
pub use Rattle.daide_channels.specs.SendQueue.{Queue, first_of, tail_of, pushed}
pub use Rattle.daide_channels.specs.declared.send_queue.QueuedFrame.{QueuedFrame}
pub use Rattle.daide_channels.specs.declared.send_queue.QueuedFrame.TheVariants.{Answer, Em, Fm}
