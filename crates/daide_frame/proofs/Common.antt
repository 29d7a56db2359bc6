-- The names that several proofs of this crate cite, passed on from one place.
pub use Rattle.std.proofs.lemmas.Bool.{lt-ltb}
pub use Rattle.std.proofs.lemmas.Bool.Decides.{leb_tells, nat_tests}
pub use Rattle.std.proofs.lemmas.List.{take-append-drop, take-append-le}
pub use Rattle.daide_frame.specs.Cutter.{AreKnown, IsConsistent, IsFed}
pub use Rattle.daide_frame.specs.Head.{kind_number}
unfoldable pub use Rattle.daide_frame.specs.Head.{parse_head, head_bytes}
unfoldable pub use Rattle.daide_frame.specs.InitialMessage.{im_of}
pub use Rattle.daide_frame.specs.declared.code.Code.{Code}
pub use Rattle.daide_frame.specs.declared.code.Code.TheVariants.{InvalidToken, WrongEndian, UnknownMessage, WrongLength}
pub use Rattle.daide_frame.specs.declared.code.Code.TheVariants.{WrongMagic, WrongVersion}
pub use Rattle.daide_frame.specs.declared.cutter.Step.{Step}
pub use Rattle.daide_frame.specs.declared.cutter.Step.TheVariants.{Bodied, More, Fault}
pub use Rattle.daide_frame.specs.declared.head.Head.{Head}
pub use Rattle.daide_frame.specs.declared.head.Kind.{Kind}
pub use Rattle.daide_frame.specs.declared.head.Kind.TheVariants.{Im, Rm, Dm, Fm, Em}
