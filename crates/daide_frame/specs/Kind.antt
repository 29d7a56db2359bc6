-- The names of the kinds of frames: docs/PROTOCOL.md, "Frames".
use Rattle.std.specs.Prelude.{ℕ, List, codes}
use Rattle.daide_frame.specs.declared.head.Kind.{Kind}
use Rattle.daide_frame.specs.declared.head.Kind.TheVariants.{Im, Rm, Dm, Fm, Em}

-- the two letters of a kind, as in the protocol
abbrev pub name_of_kind : Kind → List ℕ
name_of_kind Im = codes "IM"
name_of_kind Rm = codes "RM"
name_of_kind Dm = codes "DM"
name_of_kind Fm = codes "FM"
name_of_kind Em = codes "EM"
