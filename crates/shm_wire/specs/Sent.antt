-- The line of an envelope: `env`, its sites, where it was sent, and its message. One spelling for each.
use Rattle.std.specs.Prelude.{ℕ, List, ◌∷◌, codes, Option, Some}
use Rattle.std.specs.Fmt.{decimal}
use Rattle.std.specs.List.{join_with_byte}
use Rattle.shm_model.specs.Log.{Stamp}
use Rattle.shm_model.specs.Message.{Envelope}
use Rattle.shm_lines.specs.Words.{◌>>=◌, next_of, next_number, IsWide, wide_of}
use Rattle.shm_lines.specs.Spelling.{IsNumber}
use Rattle.shm_wire.specs.Messages.{IsMessage, message_of, message_words}

-- an envelope, and where it was sent
pub record Sent : Type 0 where
  pub source : Stamp
  pub envelope : Envelope

abbrev pub IsStamp : Stamp → Type 0
IsStamp stamp = IsWide stamp.at × IsWide stamp.index × IsWide stamp.place

-- the envelopes that have a line
abbrev pub IsSent : Sent → Type 0
IsSent sent = IsNumber sent.envelope.from × IsNumber sent.envelope.to × IsStamp sent.source × IsMessage sent.envelope.message

abbrev pub envelope_words : Sent → List (List ℕ)
envelope_words sent =
    codes "env" ∷ decimal sent.envelope.from ∷ decimal sent.envelope.to
    ∷ decimal sent.source.at ∷ decimal sent.source.index ∷ decimal sent.source.place ∷ message_words sent.envelope.message

abbrev pub envelope_line : Sent → List ℕ
envelope_line sent = join_with_byte 32 (envelope_words sent)

-- ---- how it is read

-- where it was sent: the clock, the index and the place
abbrev pub next_stamp : List (List ℕ) → Option (Stamp × List (List ℕ))
next_stamp words = do
  (at, words) ← next_of wide_of words
  (index, words) ← next_of wide_of words
  (place, words) ← next_of wide_of words
  Some (record { at = at; index = index; place = place }, words)

-- `from to clock index place message`
abbrev pub sent_of : List (List ℕ) → Option Sent
sent_of words = do
  (from, words) ← next_number words
  (to, words) ← next_number words
  (source, words) ← next_stamp words
  message ← message_of words
  Some (record { source = source; envelope = record { from = from; to = to; message = message } })
