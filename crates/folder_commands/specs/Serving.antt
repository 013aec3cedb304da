-- What `serve` does over the archive of a folder, and how it ends: docs/SERVING.md.
use Rattle.std.specs.Prelude.{◌≡◌, ◌⊎◌, ◌<◌, ◌≤◌, ◌%◌, ◌&&◌, ◌||◌, ◌==◌, ℕ, ℤ, pos, Bool, true, false, List, [], ◌∷◌, length, IfSome, IsTrue, IsSomeAnd, nat_le, nat_lt, Option, None, Some, is_some}
use Rattle.std.specs.Borrow.{Bor}
use Rattle.std.specs.Int.{is_power_of_two}
use Rattle.std.specs.List.{list_all}
use Rattle.std.specs.Net.Addr.{IsMulticastV4}
use Rattle.std.specs.Net.Grammar.{IsIpv4Text, IsSocketV4Text}
use Rattle.std.specs.Net.Socket.{v4_ip}
use Rattle.std.specs.declared.net.socket_addr.SocketAddrV4.{SocketAddrV4}
use Rattle.std.specs.declared.net.ipv4_addr.Ipv4Addr.{Ipv4Addr}
use Rattle.clap.specs.declared.error.ErrorKind.TheVariants.{ValueValidation}
use Rattle.frame_core.specs.declared.refusal.Refusal.TheVariants.{DeviceFault, NotCatalogue}
use Rattle.disk_core.specs.declared.file_id.FileId.{FileId}
use Rattle.disk_core.specs.declared.file_id.FileId.TheVariants.{BankA, BankB}
use Rattle.disk_core.specs.DiskImage.{DiskImage, bytes_of, reads}
use Rattle.disk_core.specs.Life.{IsQuiet, Life}
use Rattle.host_disk.specs.Events.{Given}
use Rattle.host_disk.specs.Replay.{life_from}
use Rattle.command_line.specs.declared.serving.ServeWords.{ServeWords}
use Rattle.command_line.specs.declared.usage.UsageError.{UsageError}
use Rattle.command_line.specs.declared.usage.UsageError.TheVariants.{Window, NeedsAeron, RecordNeedsAeron, Streams, NeedsRecord, SegmentLength, Checkpoints, NoCheckpointsNeedsAeron}
use Rattle.server.specs.declared.options.ServeOptions.{ServeOptions}
use Rattle.server.specs.Serving.{IsServedAs, IsServedUpTo}
use Rattle.folder_commands.specs.declared.why.Why.{Why}
use Rattle.folder_commands.specs.declared.why.Why.TheVariants.{Usage}
use Rattle.folder_commands.specs.declared.status.Ending.{Ending}
use Rattle.folder_commands.specs.Hidden.{MayHideEntries}
use Rattle.folder_commands.specs.Networks.{HasBadNetworks, HasBadSendNetworks, HasNetworks, HasSendNetworks}
use Rattle.folder_commands.specs.declared.status.Ending.TheVariants.{Done, Cut, Refused, Stuck, Hidden, Unopened, NoCommand, Failed}

-- ---- the words

-- the text is no IPv4 address of one machine: it is none, or a multicast address, from 224.0.0.0 to 239.255.255.255
abbrev pub IsNoAddress : List ℕ → Type 0
IsNoAddress text = (address : Ipv4Addr) → IsIpv4Text text address → IsMulticastV4 address

-- what is wrong with it: the first reason if it is none, the second if it is a multicast address
abbrev pub IsAddressReason : UsageError → UsageError → List ℕ → Why → Type 0
IsAddressReason none multicast text why =
    ((why ≡ Usage none) × ((address : Ipv4Addr) → IsIpv4Text text address → ⊥))
    ⊎ ((why ≡ Usage multicast) × ((address : Ipv4Addr) × IsIpv4Text text address × IsMulticastV4 address))

-- what `--consumers` and `--consumers-on` (each given or not) say of a port of consumers is wrong: an address comes without a port, or
-- it is no address of one machine, or there is no such port
abbrev pub IsNoConsumersEnd : Option ℕ → Option (Bor (List ℕ)) → Type 0
IsNoConsumersEnd None None = ⊥
IsNoConsumersEnd None (Some address) = Unit {0}
IsNoConsumersEnd (Some port) None = 65535 < port
IsNoConsumersEnd (Some port) (Some address) = IsNoAddress address.now ⊎ (65535 < port)

-- the text is no IPv4 address of one machine, with a port or alone: it is a multicast address with a port, or has no port, and is none
abbrev pub IsNoSendAddress : List ℕ → Type 0
IsNoSendAddress text =
    ((address : SocketAddrV4) × IsSocketV4Text text address × IsMulticastV4 (v4_ip address))
    ⊎ (((address : SocketAddrV4) → IsSocketV4Text text address → ⊥) × IsNoAddress text)

-- what `--send-on` (given or not) says is wrong, next to these texts of `--send-to`: it comes without one, or is no such address
abbrev pub IsNoSendEnd : List (Bor (List ℕ)) → Option (Bor (List ℕ)) → Type 0
IsNoSendEnd texts None = ⊥
IsNoSendEnd [] (Some address) = Unit {0}
IsNoSendEnd (text ∷ texts) (Some address) = IsNoSendAddress address.now

-- a receiver window that a server can have, in bytes: a multiple of 32, from 4,096 to 1,048,576
abbrev pub IsReceiverWindow : ℕ → Type 0
IsReceiverWindow bytes = (4096 ≤ bytes) × (bytes ≤ 1048576) × (bytes % 32 ≡ 0)

-- the receiver window, in bytes, that `--aeron` (set or not) and `--window` (given or not) ask for: none without `--aeron`; with it
-- that of `--window`, or Aeron's initial window
abbrev pub AsksForWindow : Bool → Option ℕ → Option ℤ → Type 0
AsksForWindow false None window = window ≡ None
AsksForWindow false (Some bytes) window = ⊥
AsksForWindow true None window = window ≡ Some (pos 131072)
AsksForWindow true (Some bytes) window = IsReceiverWindow bytes × (window ≡ Some (pos bytes))

-- a segment length that a recording can have, in bytes: a power of two from 65,536 to 1,073,741,824
abbrev pub IsSegmentLength : ℕ → Type 0
IsSegmentLength bytes = (65536 ≤ bytes) × (bytes ≤ 1073741824) × (is_power_of_two bytes ≡ true)

-- `--aeron` (set or not) and these streams of `--record` go together: with it at most 64 streams, without it none
abbrev pub MayAskToRecord : Bool → List ℤ → Type 0
MayAskToRecord true streams = length streams ≤ 64
MayAskToRecord false streams = streams ≡ []

-- the segment length, in bytes, that the streams of `--record` and `--segment-length` (given or not) ask for: that of
-- `--segment-length`, which needs a stream, or 134,217,728
abbrev pub AsksForSegments : List ℤ → Option ℕ → ℤ → Type 0
AsksForSegments streams None bytes = bytes ≡ pos 134217728
AsksForSegments [] (Some asked) bytes = ⊥
AsksForSegments (stream ∷ streams) (Some asked) bytes = IsSegmentLength asked × (bytes ≡ pos asked)

-- checkpoints are made with `--aeron` but not with `--no-checkpoints`, and without it with `--checkpoints`; `--no-checkpoints` goes
-- with `--aeron` alone, and not with `--checkpoints`
abbrev pub AsksForCheckpoints : Bool → Bool → Bool → Bool → Type 0
AsksForCheckpoints is_aeron asks false makes = makes ≡ (asks || is_aeron)
AsksForCheckpoints true false true makes = makes ≡ false
AsksForCheckpoints is_aeron asks true makes = ⊥

-- a letter or a digit of ASCII, `_`, `.` or `-`
abbrev pub is_name_byte : ℕ → Bool
is_name_byte b =
    (nat_le 48 b && nat_le b 57) || ((nat_le 65 b && nat_le b 90) || ((nat_le 97 b && nat_le b 122) || ((b == 95) || ((b == 46) || (b == 45)))))

-- a name of a recorder: 1 to 64 of these
abbrev pub is_recorder_name : List ℕ → Bool
is_recorder_name text = nat_le 1 (length text) && (nat_le (length text) 64 && list_all is_name_byte text)

module _ (words : ServeWords) where
  -- the name that the words give, if they give one, is one of a recorder
  abbrev pub HasName : Type 0
  HasName = IfSome words.name (λ text. IsTrue (is_recorder_name text.now))

  -- it is not
  abbrev pub HasBadName : Type 0
  HasBadName = HasName → ⊥

  -- the words ask for this receiver window, or for none
  abbrev pub HasWindow : Option ℤ → Type 0
  HasWindow window = AsksForWindow words.is_aeron words.window window

  -- what they say of a receiver window is wrong
  abbrev pub HasBadWindow : Type 0
  HasBadWindow = (window : Option ℤ) → HasWindow window → ⊥

  -- the server may record the streams that the words name
  abbrev pub RecordsStreams : Type 0
  RecordsStreams = MayAskToRecord words.is_aeron words.streams.items

  -- it may not
  abbrev pub HasBadStreams : Type 0
  HasBadStreams = RecordsStreams → ⊥

  -- the words ask for segments of this length, in bytes
  abbrev pub HasSegments : ℤ → Type 0
  HasSegments bytes = AsksForSegments words.streams.items words.segment_length bytes

  -- what they say of a segment length is wrong
  abbrev pub HasBadSegments : Type 0
  HasBadSegments = (bytes : ℤ) → HasSegments bytes → ⊥

  -- what they say of checkpoints is wrong
  abbrev pub HasBadCheckpoints : Type 0
  HasBadCheckpoints = (makes : Bool) → AsksForCheckpoints words.is_aeron words.checkpoints words.no_checkpoints makes → ⊥

  -- what they say of a receiver window, of streams, of segments, of checkpoints, of a name or of networks is wrong
  abbrev pub HasBadOptions : Type 0
  HasBadOptions = HasBadWindow ⊎ HasBadStreams ⊎ HasBadSegments ⊎ HasBadCheckpoints ⊎ HasBadName ⊎ HasBadNetworks words ⊎ HasBadSendNetworks words

  -- the options of a server are those of the words, with this receiver's number
  pub record AreOptions (receiver : ℤ) (options : ServeOptions) : Type 0 where
    pub idle : options.idle_seconds ≡ words.idle
    pub settle : options.settle_every ≡ words.settle_every
    pub window : HasWindow options.window
    pub id : options.receiver_id ≡ receiver
    pub clients : options.clients ≡ words.clients
    pub may_record : RecordsStreams
    pub streams : options.streams.now ≡ words.streams.items
    pub networks : HasNetworks words options.networks
    pub sends : HasSendNetworks words options.send_to
    pub segments : HasSegments options.segment_length
    pub strict : options.is_strict ≡ words.is_strict
    pub measured : options.is_measured ≡ (is_some words.metrics || is_some words.times)
    pub checkpoints : AsksForCheckpoints words.is_aeron words.checkpoints words.no_checkpoints options.makes_checkpoints
    pub begins : options.begins_short ≡ options.makes_checkpoints
    pub named : HasName

  -- what they say of a port of consumers is wrong
  abbrev pub HasNoConsumersEnd : Type 0
  HasNoConsumersEnd = IsNoConsumersEnd words.consumers words.consumers_on

  -- what they say of the address that recordings are sent from is wrong
  abbrev pub HasNoSendEnd : Type 0
  HasNoSendEnd = IsNoSendEnd words.send_to.items words.send_on

  -- the words name no address, or no ports
  abbrev pub HasNoEnds : Type 0
  HasNoEnds = IsNoAddress words.receive_on.now ⊎ (65535 < words.control) ⊎ (65535 < words.receive) ⊎ HasNoConsumersEnd ⊎ HasNoSendEnd

  -- they are wrong: a usage error
  abbrev pub AreWrong : Type 0
  AreWrong = HasNoEnds ⊎ HasBadOptions

-- what is wrong with the words of a bad receiver window
abbrev pub window_reason : Bool → UsageError
window_reason false = NeedsAeron
window_reason true = Window

-- of bad streams
abbrev pub streams_reason : Bool → UsageError
streams_reason false = RecordNeedsAeron
streams_reason true = Streams

-- and of bad segments, if the words name these streams
abbrev pub segment_reason : List ℤ → UsageError
segment_reason [] = NeedsRecord
segment_reason (stream ∷ streams) = SegmentLength

-- and of bad words on checkpoints
abbrev pub checkpoints_reason : Bool → UsageError
checkpoints_reason true = Checkpoints
checkpoints_reason false = NoCheckpointsNeedsAeron

-- ---- the folder

-- a port of a server is not bound: the system refuses it
abbrev pub IsUnbound : Ending → Type 0
IsUnbound (Failed fault) = Unit {0}
IsUnbound ending = ⊥

-- a file of an image has bytes
abbrev pub has_bytes : FileId → DiskImage → Bool
has_bytes file image = nat_lt 0 (length (bytes_of (image file)))

-- an image has a catalogue: one of its banks has bytes
abbrev pub has_catalogue : DiskImage → Bool
has_catalogue image = has_bytes BankA image || has_bytes BankB image

-- a disk was looked at, up to this life, and has a catalogue, if it obeys the crash model
abbrev pub HasCatalogue : Life → Life → Type 0
HasCatalogue old new = IsTrue new.obeys → has_catalogue (reads old.now) ≡ true

-- it has none, or a call of the disk failed
abbrev pub LacksCatalogue : Life → Life → Ending → Type 0
LacksCatalogue old new (Refused NotCatalogue) = IsTrue new.obeys → has_catalogue (reads old.now) ≡ false
LacksCatalogue old new (Refused DeviceFault) = Unit {0}
LacksCatalogue old new ending = ⊥

-- a server that asks for a catalogue ended so, and left a disk without one, which was at most looked at
pub record LeavesUncatalogued (asked : Bool) (old : Life) (left : Option Life) (ending : Ending) : Type 0 where
  pub must : IsTrue asked
  pub new : Life
  pub quiet : IsQuiet old new
  pub lacks : LacksCatalogue old new ending
  pub is : left ≡ Some new

-- ---- the server

-- How a server over a disk ends, a strict one or one that is not, and what it leaves: by a line that quits, or early. A strict one
-- ends so exactly if its archive could record something then; else it ends by what that is.
abbrev pub ServesOver : Bool → Life → Life → Ending → Type 0
ServesOver strict old new Done = IsServedAs strict old new None
ServesOver strict old new (Stuck stop) = IsServedAs strict old new (Some stop)
ServesOver strict old new (Cut end) = IsServedUpTo old new end
ServesOver strict old new ending = ⊥

-- `serve` over the archive of a folder with these files. If its words are wrong, it ends by that, and then alone; else the folder
-- is not opened, and nothing is left; or a port is not bound, and the folder is left as it was; or it is served, and with
-- `--no-create` it has a catalogue then. Or it has none, and was at most looked at. Or a strict server looked at the folder, up to
-- this life, and its catalogue may hide entries: then the archive is not opened, and the folder is left as it was.
abbrev pub ServesFolder : Given → ServeWords → Option Life → Option Life → Ending → Type 0
ServesFolder given words looked None (NoCommand kind) = (kind ≡ ValueValidation) × AreWrong words
ServesFolder given words looked None (Unopened fault) = AreWrong words → ⊥
ServesFolder given words looked None ending = ⊥
ServesFolder given words looked (Some new) Hidden =
    (AreWrong words → ⊥) × IsTrue words.is_strict × IsSomeAnd looked (MayHideEntries given) × (new ≡ life_from given)
ServesFolder given words looked (Some new) (Failed fault) = (AreWrong words → ⊥) × (new ≡ life_from given)
ServesFolder given words looked (Some new) (Refused refusal) =
    (AreWrong words → ⊥) × IsTrue words.no_create × IsQuiet (life_from given) new × LacksCatalogue (life_from given) new (Refused refusal)
ServesFolder given words looked (Some new) ending =
    (AreWrong words → ⊥) × (old : Life) × IsQuiet (life_from given) old × (IsTrue words.no_create → HasCatalogue (life_from given) old)
    × ServesOver words.is_strict old new ending
