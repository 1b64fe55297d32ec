-- The progress of a decoder in its stream, and the effect of one piece.
use Rattle.std.specs.Prelude.{◌≡◌, ℕ, ◌-◌, ◌<◌, ◌≤◌, Bool, true, false, List, [], ◌∷◌, ◌++◌, length, take, drop}
use Rattle.std.specs.Prelude.{if◌then◌else◌}
use Rattle.audit_wire.specs.declared.fed.Fed.{Fed}
use Rattle.audit_wire.specs.declared.fed.Fed.TheVariants as fed
use Rattle.audit_wire.specs.Frame.{frame, IsBodySize, IsPartial, IsBadLength}
use Rattle.audit_wire.specs.declared.grammar.Grammar.{Grammar}
use Rattle.audit_wire.specs.declared.request.Request.{Request}
use Rattle.audit_wire.specs.Stream.{Framed, spoiled, framed_by}

pub data DecoderProgress : Type 0 where
  -- these bytes of a frame have arrived: none, or not all
  reading : List ℕ → DecoderProgress
  -- the frame of this body was just completed
  whole : List ℕ → DecoderProgress
  -- this malformed length was just read
  malformed : List ℕ → DecoderProgress
  -- everything after a malformed length is dropped
  closed : DecoderProgress

-- what is held back: the bytes so far of the next frame
abbrev pub rest_of : DecoderProgress → List ℕ
rest_of (reading bytes) = bytes
rest_of _ = []

-- the bytes since the end of the previous frame
abbrev pub taken_of : DecoderProgress → List ℕ
taken_of (reading bytes) = bytes
taken_of (whole body) = frame body
taken_of (malformed bytes) = bytes
taken_of closed = []

-- the body that is lent
abbrev pub body_of : DecoderProgress → List ℕ
body_of (whole body) = body
body_of _ = []

-- a malformed length was read
abbrev pub is_spoiled : DecoderProgress → Bool
is_spoiled (reading bytes) = false
is_spoiled (whole body) = false
is_spoiled (malformed bytes) = true
is_spoiled closed = true

-- a body or a malformed length was just read
abbrev pub HasJustTaken : DecoderProgress → Type 0
HasJustTaken (reading bytes) = ⊥
HasJustTaken (whole body) = Unit {0}
HasJustTaken (malformed bytes) = Unit {0}
HasJustTaken closed = ⊥

-- what holds of every decoder's progress
abbrev pub IsDecoderProgress : DecoderProgress → Type 0
IsDecoderProgress (reading bytes) = IsPartial bytes
IsDecoderProgress (whole body) = IsBodySize (length body)
IsDecoderProgress (malformed bytes) = IsBadLength bytes
IsDecoderProgress closed = Unit {0}

-- the bytes of a piece that were taken
abbrev pub taken_by : Fed → List ℕ → List ℕ
taken_by fed.More piece = piece
taken_by (fed.Body taken) piece = take taken piece
taken_by (fed.Malformed taken) piece = take taken piece

-- a piece after the bytes held back: the frame continues, or its body is complete, or its length is malformed
abbrev pub IsPieceTaken : List ℕ → List ℕ → Fed → DecoderProgress → Type 0
IsPieceTaken held piece fed.More new = IsPartial (held ++ piece) × (new ≡ reading (held ++ piece))
IsPieceTaken held piece (fed.Body taken) new =
    (0 < taken) × (taken ≤ length piece)
    × ((body : List ℕ) × IsBodySize (length body) × (held ++ take taken piece ≡ frame body) × (new ≡ whole body))
IsPieceTaken held piece (fed.Malformed taken) new =
    (0 < taken) × (taken ≤ length piece) × IsBadLength (held ++ take taken piece)
    × (new ≡ malformed (held ++ take taken piece))

-- the effect of a piece in each state
abbrev pub IsDecoderFed : DecoderProgress → List ℕ → Fed → DecoderProgress → Type 0
IsDecoderFed (reading bytes) piece answer new = IsPieceTaken bytes piece answer new
IsDecoderFed (whole body) piece answer new = IsPieceTaken [] piece answer new
IsDecoderFed (malformed bytes) piece answer new = (answer ≡ fed.More) × (new ≡ closed)
IsDecoderFed closed piece answer new = (answer ≡ fed.More) × (new ≡ closed)

-- how many bytes of a piece of this size were taken, and the state that may follow
abbrev pub IsDecoderAnswer : Fed → ℕ → DecoderProgress → Type 0
IsDecoderAnswer fed.More size new = Unit {0}
IsDecoderAnswer (fed.Body taken) size new = (0 < taken) × (taken ≤ size) × HasJustTaken new
IsDecoderAnswer (fed.Malformed taken) size new = (0 < taken) × (taken ≤ size) × HasJustTaken new

-- whether the stream is spoiled, before and after a piece
abbrev pub Spoils : Fed → Bool → Bool → Type 0
Spoils fed.More before after = after ≡ before
Spoils (fed.Body taken) before after = (before ≡ false) × (after ≡ false)
Spoils (fed.Malformed taken) before after = (before ≡ false) × (after ≡ true)

-- the bytes of a piece that were taken, without the last one of a body or of a malformed length
abbrev pub taken_but_one : Fed → List ℕ → List ℕ
taken_but_one fed.More piece = piece
taken_but_one (fed.Body taken) piece = take (taken - 1) piece
taken_but_one (fed.Malformed taken) piece = take (taken - 1) piece

-- the bytes of a piece that weren't taken
abbrev pub untaken : Fed → List ℕ → List ℕ
untaken fed.More piece = []
untaken (fed.Body taken) piece = drop taken piece
untaken (fed.Malformed taken) piece = drop taken piece

-- the body that was just returned, if any
abbrev pub handed_out : DecoderProgress → List (List ℕ)
handed_out (whole body) = body ∷ []
handed_out _ = []

-- the requests of a grammar in the stream from here on, if these bytes come
abbrev pub requests_ahead : Grammar → DecoderProgress → List ℕ → Framed Request
requests_ahead grammar progress bytes =
    if is_spoiled progress then spoiled else framed_by grammar (rest_of progress ++ bytes)

-- the progress before the last byte taken; that byte led from the new to the old progress
pub record PutsBack (old new : DecoderProgress) : Type 0 where
  pub byte : ℕ
  pub taken : taken_of old ≡ rest_of new ++ byte ∷ []
  pub begun : new ≡ reading (rest_of new)
  pub partial : IsPartial (rest_of new)

-- ---- many pieces in a row

-- one piece, its result, and the progress after it
pub record Feeding : Type 0 where
  pub piece : List ℕ
  pub answer : Fed
  pub after : DecoderProgress

-- each piece is fed after the previous one
abbrev pub IsRun : DecoderProgress → List Feeding → Type 0
IsRun start [] = Unit {0}
IsRun start (feeding ∷ later) = IsDecoderFed start feeding.piece feeding.answer feeding.after
    × IsRun feeding.after later

-- the bytes taken, the bodies returned, and the progress at the end
abbrev pub bytes_taken : List Feeding → List ℕ
bytes_taken [] = []
bytes_taken (feeding ∷ later) = taken_by feeding.answer feeding.piece ++ bytes_taken later

abbrev pub bodies_given : List Feeding → List (List ℕ)
bodies_given [] = []
bodies_given (feeding ∷ later) = handed_out feeding.after ++ bodies_given later

abbrev pub progress_after : DecoderProgress → List Feeding → DecoderProgress
progress_after start [] = start
progress_after start (feeding ∷ later) = progress_after feeding.after later
