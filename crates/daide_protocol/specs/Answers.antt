-- The answer to a frame: the frame itself, or a DM with its body within PRN or HUH, by docs/PROTOCOL.md, "Verdicts". It
-- is written with pad 0.
use Rattle.std.specs.Prelude.{ℕ, ◌+◌, ◌*◌, List, [], ◌∷◌, ◌++◌, take, drop}
use Rattle.daide_token.specs.Token.{bra, ket, huh, prn, err, bytes_of_tokens}
use Rattle.daide_frame.specs.declared.head.Kind.TheVariants.{Dm}
use Rattle.daide_frame.specs.declared.head.Head.{Head}
use Rattle.daide_frame.specs.Head.{head_bytes}
use Rattle.daide_reader.specs.declared.verdict.Verdict.{Verdict}
use Rattle.daide_reader.specs.declared.verdict.Verdict.TheVariants.{Relay, Prn, Huh}

-- the bytes of the tokens PRN (, of HUH (, of ERR and of )
abbrev pub prn_open : List ℕ
prn_open = bytes_of_tokens (prn ∷ bra ∷ [])

abbrev pub huh_open : List ℕ
huh_open = bytes_of_tokens (huh ∷ bra ∷ [])

abbrev pub err_bytes : List ℕ
err_bytes = bytes_of_tokens (err ∷ [])

abbrev pub close_bytes : List ℕ
close_bytes = bytes_of_tokens (ket ∷ [])

-- the body of the answer to a body: PRN ( body ) if its brackets are not paired; HUH ( body ), with ERR after `place`
-- of its tokens, if the grammar has no such message
abbrev pub answer_body : List ℕ → Verdict → List ℕ
answer_body body Relay = body
answer_body body Prn = prn_open ++ body ++ close_bytes
answer_body body (Huh place) = huh_open ++ take (2 * place) body ++ err_bytes ++ drop (2 * place) body ++ close_bytes

-- the header of that answer
abbrev pub answer_head : Head → Verdict → Head
answer_head head Relay = head
answer_head head Prn = record { kind = Dm; len = head.len + 6 }
answer_head head (Huh place) = record { kind = Dm; len = head.len + 8 }

-- the answer to a frame
unfoldable pub answer_bytes : Head → List ℕ → Verdict → List ℕ
answer_bytes head body verdict = head_bytes (answer_head head verdict) ++ answer_body body verdict
