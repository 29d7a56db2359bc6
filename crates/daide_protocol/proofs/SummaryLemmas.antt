-- A count modulo 2^64, and the same in unbounded numbers.
use Rattle.std.proofs.Math.Nat.{mod-add-mod}
use Rattle.daide_protocol.proofs.Common.{◌≡◌, ℕ, ◌+◌, ◌%◌, ◌^◌, refl, Note, Summary, count_note, counted_on, one_more}
use Rattle.daide_protocol.proofs.Common.{reduced}
use Rattle.daide_protocol.specs.declared.note.Deed.TheVariants as Deeds
use Rattle.daide_protocol.specs.declared.note.Note.TheVariants as Notes

-- adding one to a count modulo 2^64 is adding one to the count, modulo 2^64
one_more_mod : (n : ℕ) → one_more (n % 2 ^ 64) ≡ (n + 1) % 2 ^ 64
one_more_mod n = mod-add-mod n (2 ^ 64) 1

pub counted_reduced : (reported : Note) (s : Summary) → counted_on reported (reduced s) ≡ reduced (count_note reported s)
counted_reduced Notes.Nothing s = refl
counted_reduced (Notes.Frame head Deeds.Relayed) s = rw (one_more_mod s.relayed) refl
counted_reduced (Notes.Frame head Deeds.Dropped) s = refl
counted_reduced (Notes.Frame head Deeds.Prn) s = rw (one_more_mod s.prn) refl
counted_reduced (Notes.Frame head (Deeds.Huh place)) s = rw (one_more_mod s.huh) refl
counted_reduced (Notes.Fault code) s = rw (one_more_mod s.faults) refl
counted_reduced Notes.Stopped s = refl
