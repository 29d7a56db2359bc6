use Rattle.daide_show.proofs.Common.{[], ◌∷◌, refl, arith, digits}
use Rattle.std.specs.Fmt.{char_count, padded_integral}
use Rattle.daide_frame.specs.Frames.{is_alien}
use Rattle.daide_show.proofs.law_facts.invalid_token_at_two_frames.Goals as goal

pub returns : goal.returns
unfolding is_alien char_count digits padded_integral
returns c = record {
  first = c.invalid_token_is_explained.ensures 512 0 0x58 0 (2 ∷ 0 ∷ 0 ∷ 4 ∷ []) [] (0x60 ∷ 0 ∷ []) refl refl refl refl (omega arith);
  later = c.invalid_token_is_explained.ensures 512 1 0x60 1 (2 ∷ 0 ∷ 0 ∷ 6 ∷ []) (0x48 ∷ 3 ∷ []) (0x58 ∷ 0 ∷ []) refl refl refl refl
      (omega arith);
}
