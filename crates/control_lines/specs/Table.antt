-- The grammar of control lines as a table, a row for each first word: docs/CONTROL.md, "Lines".
use Rattle.std.specs.Prelude.{ℕ, ℤ, Bool, true, false, ◌||◌, List, [], ◌∷◌, ◌++◌, codes}
use Rattle.control_core.specs.declared.request.Request.TheVariants as asks
use Rattle.control_core.specs.declared.event.Event.TheVariants.{Ask, Checkpoint, Settle, ReplayOpen, ReplayPoll, ReplayPollTo, ReplayClose, Sweep, Verify}
use Rattle.control_lines.specs.declared.line.Line.{Line}
use Rattle.control_lines.specs.declared.line.Line.TheVariants.{Event, Write, Block, Follow, Reopen, Compact, Merge, Quit}
use Rattle.control_lines.specs.declared.merge_line.MergeLine.TheVariants as merges

-- what a word is: a number of 32 bits, a number of 64 bits, hexadecimal digits, or a text without a blank
pub data Kind : Type 0 where
  int : Kind
  long : Kind
  hex : Kind
  plain : Kind

-- what it stands for
abbrev pub Value : Kind → Type 0
Value int = ℤ
Value long = ℤ
Value hex = List ℕ
Value plain = List ℕ

infixr 5 ◌&◌
-- what stands behind a first word: nothing, a text to the line's end, or a word and what stands behind that
pub data Fields : Type 0 where
  none : Fields
  text : Fields
  ◌&◌ : Kind → Fields → Fields

-- a word of this kind is copied as it is read, which takes memory
abbrev pub is_copied : Kind → Bool
is_copied int = false
is_copied long = false
is_copied hex = true
is_copied plain = true

-- one of these fields is, or the text
abbrev pub copies : Fields → Bool
copies none = false
copies text = true
copies (k & fields) = is_copied k || copies fields

-- a line, as soon as its fields are known
abbrev pub MakesLine : Fields → Type 0
MakesLine none = Line
MakesLine text = List ℕ → Line
MakesLine (k & fields) = Value k → MakesLine fields

-- the lines of a first word
pub record Row : Type 0 where
  pub word : List ℕ
  pub fields : Fields
  pub line : MakesLine fields

abbrev pub row : List ℕ → (fields : Fields) → MakesLine fields → Row
row word fields line = record { word = word; fields = fields; line = line }

abbrev pub start_row : Row
start_row = row (codes "start") (int & int & int & int & int & int & long & long & text)
    (λ stream session term term_length mtu segment_length position timestamp channel. Event (Ask (asks.Start (record {
      stream_id = stream;
      session_id = session;
      initial_term_id = term;
      term_length = term_length;
      mtu = mtu;
      segment_length = segment_length;
      start_position = position;
      timestamp = timestamp;
      channel = channel;
      source_identity = [];
    }))))

abbrev pub start_from_row : Row
start_from_row = row (codes "start-from") (plain & int & int & int & int & int & int & long & long & text)
    (λ source stream session term term_length mtu segment_length position timestamp channel. Event (Ask (asks.Start (record {
      stream_id = stream;
      session_id = session;
      initial_term_id = term;
      term_length = term_length;
      mtu = mtu;
      segment_length = segment_length;
      start_position = position;
      timestamp = timestamp;
      channel = channel;
      source_identity = source;
    }))))

abbrev pub extend_row : Row
extend_row = row (codes "extend") (long & int & int & int & int & int & long & none)
    (λ recording stream session term term_length mtu position. Event (Ask (asks.Extend (record {
      recording = recording;
      stream_id = stream;
      session_id = session;
      initial_term_id = term;
      term_length = term_length;
      mtu = mtu;
      join_position = position;
    }))))

-- recordings and their recorder sessions
abbrev pub recorder_rows : List Row
recorder_rows =
    start_row
    ∷ start_from_row
    ∷ extend_row
    ∷ row (codes "write") (long & hex & none) (λ session bytes. Write session bytes)
    ∷ row (codes "settle") (long & none) (λ session. Event (Settle session))
    ∷ row (codes "block") (long & hex & none) (λ session bytes. Block session bytes)
    ∷ []

-- requests that change the catalogue and open no recorder session
abbrev pub catalogue_rows : List Row
catalogue_rows =
    row (codes "stop") (long & long & none) (λ recording timestamp. Event (Ask (asks.Stop recording timestamp)))
    ∷ row (codes "truncate") (long & long & none) (λ recording position. Event (Ask (asks.Truncate recording position)))
    ∷ row (codes "purge-segments") (long & long & none) (λ recording position. Event (Ask (asks.PurgeSegments recording position)))
    ∷ row (codes "purge") (long & none) (λ recording. Event (Ask (asks.PurgeRecording recording)))
    ∷ []

-- requests that change nothing
abbrev pub asking_rows : List Row
asking_rows =
    row (codes "list") (long & long & none) (λ from count. Event (Ask (asks.List from count)))
    ∷ row (codes "find") (long & int & int & text)
    (λ least stream session fragment. Event (Ask (asks.Find (record {
      least = least;
      stream_id = stream;
      session_id = session;
      fragment = fragment;
    }))))
    ∷ row (codes "positions") (long & none) (λ recording. Event (Ask (asks.Positions recording)))
    ∷ row (codes "source") (long & none) (λ recording. Event (Ask (asks.Source recording)))
    ∷ []

-- a poll with a limit
abbrev pub poll_to_row : Row
poll_to_row = row (codes "poll-to") (long & long & long & none) (λ replay most limit. Event (ReplayPollTo replay most limit))

-- replays, and the archive as a whole
abbrev pub archive_rows : List Row
archive_rows =
    row (codes "replay") (long & long & long & none) (λ recording position size. Event (ReplayOpen recording position size))
    ∷ row (codes "poll") (long & long & none) (λ replay most. Event (ReplayPoll replay most))
    ∷ poll_to_row
    ∷ row (codes "close") (long & none) (λ replay. Event (ReplayClose replay))
    ∷ row (codes "follow") (long & long & long & none) (λ recording position size. Follow (record { recording = recording; position = position; length = size }))
    ∷ row (codes "sweep") none (Event Sweep)
    ∷ row (codes "checkpoint") none (Event Checkpoint)
    ∷ row (codes "verify") (long & none) (λ recording. Event (Verify recording))
    ∷ row (codes "reopen") none Reopen
    ∷ row (codes "compact") none Compact
    ∷ []

-- a merge, and the end
abbrev pub merge_rows : List Row
merge_rows =
    row (codes "merge") (int & int & long & none) (λ term term_length position. Merge (merges.Open term term_length position))
    ∷ row (codes "merge-replay") (hex & none) (λ bytes. Merge (merges.Replay bytes))
    ∷ row (codes "merge-live") (hex & none) (λ bytes. Merge (merges.Live bytes))
    ∷ row (codes "merge-take") none (Merge merges.Take)
    ∷ row (codes "merge-state") none (Merge merges.State)
    ∷ row (codes "quit") none Quit
    ∷ []

-- all lines
abbrev pub rows : List Row
rows = recorder_rows ++ (catalogue_rows ++ (asking_rows ++ (archive_rows ++ merge_rows)))
