-- What a session's sockets know: their readiness, their deadlines, and what they may do at once. (own)
use Rattle.std.specs.Prelude.{ℕ, Bool, true, false, ◌||◌, ◌&&◌, not, List, [], ◌∷◌}
use Rattle.daide_buffered_io.specs.Buffers.{Buffer}
use Rattle.daide_buffered_io.specs.declared.readiness.Readiness.{Readiness}

-- the readiness of a socket that is read once more in any case, if that is so
abbrev pub read_if : Bool → Readiness → Readiness
read_if true known = record known { may_read = true }
read_if false known = known

-- the readiness of a socket that is written once more in any case, if that is so
abbrev pub write_if : Bool → Readiness → Readiness
write_if true known = record known { may_write = true }
write_if false known = known

-- The readiness of a socket that is followed under another key, if that is accepted. Otherwise it counts as readable and
-- writable, since nothing more is reported of it.
abbrev pub after_move : Bool → Readiness → Readiness
after_move true known = known
after_move false known = record known { may_read = true; may_write = true }

abbrev pub is_some_byte : List ℕ → Bool
is_some_byte [] = false
is_some_byte (byte ∷ bytes) = true

-- Something may be done at once: a byte is buffered that may be written, or a read or a write must be tried again.
abbrev pub has_socket_work : {S : Type 0} → Buffer S → Readiness → Bool → Bool
has_socket_work stream known tries_again =
    tries_again || ((is_some_byte stream.write_buffer && not stream.has_failed) && known.may_write)
