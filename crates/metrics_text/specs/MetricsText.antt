-- The text of measures, in the text format 0.0.4 of Prometheus: docs/SERVING.md, "Metrics".
use Rattle.std.specs.Prelude.{◌++◌, ◌/◌, ◌%◌, ℕ, Bool, true, false, List, [], ◌∷◌, codes, decimal}
use Rattle.std.specs.Fmt.{signed_decimal}
use Rattle.std.specs.List.{flat_map}
use Rattle.metrics_text.specs.declared.about.RecorderAbout.{RecorderAbout}
use Rattle.metrics_text.specs.declared.measures.ArchiveMeasures.{ArchiveMeasures}
use Rattle.metrics_text.specs.declared.measures.RecorderMeasures.{RecorderMeasures}
use Rattle.metrics_text.specs.declared.measures.DatagramMeasures.{DatagramMeasures}
use Rattle.metrics_text.specs.declared.measures.ResumeMeasures.{ResumeMeasures}
use Rattle.metrics_text.specs.declared.places.PlaceMeasures.{PlaceMeasures}
use Rattle.metrics_text.specs.declared.places.RefusedMeasures.{RefusedMeasures}
use Rattle.metrics_text.specs.declared.measures.ClientMeasures.{ClientMeasures}
use Rattle.metrics_text.specs.declared.measures.RecordingMeasures.{RecordingMeasures}
use Rattle.metrics_text.specs.declared.measures.ReplayMeasures.{ReplayMeasures}
use Rattle.metrics_text.specs.declared.measures.ImageMeasures.{ImageMeasures}
use Rattle.metrics_text.specs.declared.measures.Measures.{Measures}
use Rattle.metrics_text.specs.declared.image_family.ImageFamily.{ImageFamily}
use Rattle.metrics_text.specs.declared.image_family.ImageFamily.TheVariants.{Rebuilt, Consumed, Gap, GapBytes, Datagrams, Naks, Lost, LastDatagram}
use Rattle.metrics_text.specs.declared.sends.SendFamily.{SendFamily}
use Rattle.metrics_text.specs.declared.sends.SendFamily.TheVariants as sends
use Rattle.metrics_text.specs.declared.sends.SendMeasures.{SendMeasures}
use Rattle.metrics_text.specs.declared.sends.SendsMeasures.{SendsMeasures}
use Rattle.metrics_text.specs.declared.settle_times.SettleBucket.{SettleBucket}
use Rattle.metrics_text.specs.declared.settle_times.SettleTimes.{SettleTimes}
use Rattle.metrics_text.specs.SettleTimes.{held_sum}

-- ---- numbers

-- 1 if a fact holds, 0 if not
abbrev pub one_or_zero : Bool → ℕ
one_or_zero true = 1
one_or_zero false = 0

-- microseconds as seconds, with six decimals
unfoldable pub seconds : ℕ → List ℕ
seconds us = decimal (us / 1000000) ++ (codes "." ++ (decimal (us / 100000 % 10) ++ (decimal (us / 10000 % 10) ++ (decimal (us / 1000 % 10)
    ++ (decimal (us / 100 % 10) ++ (decimal (us / 10 % 10) ++ decimal (us % 10)))))))

-- ---- lines

-- a line: a name, labels, a blank, and a number
abbrev pub line : List ℕ → List ℕ → List ℕ → List ℕ
line name labels number = name ++ (labels ++ (codes " " ++ (number ++ codes "\n")))

-- the label of each line of a recorder of this name, in which nothing has to be escaped
abbrev pub own_labels : List ℕ → List ℕ
own_labels who = codes "{recorder=\"" ++ (who ++ codes "\"}")

-- the labels of a bucket: up to which time it counts, in seconds
abbrev pub bucket_labels_begin : List ℕ → List ℕ
bucket_labels_begin who = codes "{recorder=\"" ++ (who ++ codes "\",le=\"")

abbrev pub bucket_labels : List ℕ → List ℕ → List ℕ
bucket_labels who time = bucket_labels_begin who ++ (time ++ codes "\"}")

abbrev pub time_labels : List ℕ → ℕ → List ℕ
time_labels who us = bucket_labels who (seconds us)

-- The labels of recordings, replays and images. All of them are numbers, in which nothing has to be escaped.
abbrev pub recording_labels : List ℕ → RecordingMeasures → List ℕ
recording_labels who r = codes "{recorder=\"" ++ (who ++ (codes "\",recording=\"" ++ (signed_decimal r.recording ++ (codes "\",stream=\"" ++ (signed_decimal r.stream_id
    ++ (codes "\",session=\"" ++ (signed_decimal r.session_id ++ codes "\"}")))))))

abbrev pub replay_labels : List ℕ → ReplayMeasures → List ℕ
replay_labels who r = codes "{recorder=\"" ++ (who ++ (codes "\",replay=\"" ++ (signed_decimal r.replay ++ (codes "\",recording=\"" ++ (signed_decimal r.recording
    ++ codes "\"}")))))

abbrev pub image_labels : List ℕ → ImageMeasures → List ℕ
image_labels who i = codes "{recorder=\"" ++ (who ++ (codes "\",image=\"" ++ (decimal i.image ++ (codes "\",stream=\"" ++ (signed_decimal i.stream_id
    ++ (codes "\",session=\"" ++ (signed_decimal i.session_id ++ codes "\"}")))))))

-- the labels of the program that runs: its version, and that of the catalogues that it writes
abbrev pub build_labels : RecorderAbout → List ℕ
build_labels a = codes "{recorder=\"" ++ (a.name.now ++ (codes "\",version=\"" ++ (a.version.now ++ (codes "\",catalogue=\"" ++ (a.catalogue.now ++ codes "\"}")))))

-- ---- families

-- a family: its name, the kind of its numbers, what they are, and a line for each of them
pub record Family : Type 0 where
  pub name : List ℕ
  pub kind : List ℕ
  pub help : List ℕ
  pub lines : List ℕ

-- the two lines that say what it is
unfoldable pub head : List ℕ → List ℕ → List ℕ → List ℕ
head kind name help = codes "# HELP " ++ (name ++ (codes " " ++ (help ++ (codes "\n# TYPE " ++ (name ++ (codes " " ++ (kind ++ codes "\n")))))))

-- its text
unfoldable pub family_text : Family → List ℕ
family_text f = head f.kind f.name f.help ++ f.lines

-- a family with these lines
abbrev pub family : List ℕ → List ℕ → List ℕ → List ℕ → Family
family kind name help lines = record { name = name; kind = kind; help = help; lines = lines }

-- a number that never falls while a server runs, and one that may
abbrev pub counter : List ℕ → List ℕ → List ℕ → ℕ → Family
counter who name help n = family (codes "counter") name help (line name (own_labels who) (decimal n))

abbrev pub gauge : List ℕ → List ℕ → List ℕ → List ℕ → Family
gauge who name help number = family (codes "gauge") name help (line name (own_labels who) number)

-- a fact: 1 if it holds, 0 if not
abbrev pub fact : List ℕ → List ℕ → List ℕ → Bool → Family
fact who name help holds = gauge who name help (decimal (one_or_zero holds))

-- a bucket's line: how many settles took at most its time
unfoldable pub bucket_line : List ℕ → List ℕ → ℕ → List ℕ
bucket_line name labels n = line (name ++ codes "_bucket") labels (decimal n)

-- the lines of buckets, if so many settles took less time than that of the first
abbrev pub bucket_lines : List ℕ → List ℕ → ℕ → List SettleBucket → List ℕ
bucket_lines who name before [] = []
bucket_lines who name before (b ∷ bs) =
    bucket_line name (time_labels who b.most) (held_sum before b.count) ++ bucket_lines who name (held_sum before b.count) bs

-- how many took at most each time, how many seconds they took in all, and how many there were
abbrev pub histogram : List ℕ → List ℕ → List ℕ → SettleTimes → Family
histogram who name help t = family (codes "histogram") name help
    (bucket_lines who name 0 t.buckets ++ (bucket_line name (bucket_labels who (codes "+Inf")) t.count
    ++ (line (name ++ codes "_sum") (own_labels who) (seconds t.micros) ++ line (name ++ codes "_count") (own_labels who) (decimal t.count))))

-- ---- what is measured, in the order of the text

-- which program runs, and since when
unfoldable pub build_line : RecorderAbout → List ℕ
build_line a = line (codes "aeron_recorder_build_info") (build_labels a) (decimal 1)

abbrev pub build_family : RecorderAbout → Family
build_family a = family (codes "gauge") (codes "aeron_recorder_build_info") (codes "The program, and the catalogues that it writes.") (build_line a)

abbrev pub start_family : RecorderAbout → Family
start_family a = gauge a.name.now (codes "aeron_recorder_start_time_seconds") (codes "When the server began, since 1970.") (seconds a.started_micros)

abbrev pub about_families : RecorderAbout → List Family
about_families a = build_family a ∷ start_family a ∷ []

abbrev pub state_families : List ℕ → ArchiveMeasures → List Family
state_families who a =
    fact who (codes "aeron_recorder_archive_open") (codes "Whether an archive is open.") a.is_open
    ∷ fact who (codes "aeron_recorder_archive_broken") (codes "Whether a device fault broke the archive.") a.is_broken
    ∷ fact who (codes "aeron_recorder_history_full") (codes "Whether the history has no room for an entry.") a.is_full
    ∷ []

abbrev pub history_families : List ℕ → ArchiveMeasures → List Family
history_families who a =
    gauge who (codes "aeron_recorder_history_entries") (codes "Entries of the history that are used.") (decimal a.entries)
    ∷ gauge who (codes "aeron_recorder_history_limit_entries") (codes "Entries that the history may have.") (decimal a.limit)
    ∷ counter who (codes "aeron_recorder_checkpoints_total") (codes "Checkpoints that were made.") a.checkpoints
    ∷ counter who (codes "aeron_recorder_checkpoints_refused_total") (codes "Checkpoints that were refused.") a.refused_checkpoints
    ∷ []

abbrev pub recorder_families : List ℕ → RecorderMeasures → List Family
recorder_families who r =
    counter who (codes "aeron_recorder_recorded_bytes_total") (codes "Bytes of streams that are settled.") r.bytes
    ∷ counter who (codes "aeron_recorder_recorded_frames_total") (codes "Frames that were written.") r.frames
    ∷ histogram who (codes "aeron_recorder_settle_seconds") (codes "Settles, and how long they took.") r.settles
    ∷ []

abbrev pub received_families : List ℕ → DatagramMeasures → List Family
received_families who d =
    counter who (codes "aeron_recorder_datagrams_received_total") (codes "Datagrams that came.") d.received
    ∷ counter who (codes "aeron_recorder_datagrams_dropped_total") (codes "Datagrams that changed nothing.") d.dropped
    ∷ counter who (codes "aeron_recorder_datagrams_lost_total") (codes "Datagrams that were lost past the stock of an image.") d.lost
    ∷ counter who (codes "aeron_recorder_datagrams_repeated_total") (codes "Datagrams that came late or again.") d.repeats
    ∷ []

abbrev pub sent_families : List ℕ → DatagramMeasures → List Family
sent_families who d =
    counter who (codes "aeron_recorder_naks_sent_total") (codes "NAK frames that were sent.") d.naks
    ∷ counter who (codes "aeron_recorder_status_messages_sent_total") (codes "Status messages that were sent.") d.status_messages
    ∷ counter who (codes "aeron_recorder_images_joined_total") (codes "Images that joined.") d.images
    ∷ []

abbrev pub hole_families : List ℕ → ResumeMeasures → List Family
hole_families who r =
    counter who (codes "aeron_recorder_holes_total") (codes "Holes between recordings of one publication.") r.holes
    ∷ counter who (codes "aeron_recorder_hole_bytes_total") (codes "Bytes of such holes.") r.hole_bytes
    ∷ []

abbrev pub resume_families : List ℕ → ResumeMeasures → List Family
resume_families who r =
    counter who (codes "aeron_recorder_resumed_total") (codes "Images that began before their setup frames, where a recording stands.") r.resumed
    ∷ counter who (codes "aeron_recorder_resumed_bytes_total") (codes "Bytes that were missing before setup frames, and came.") r.resumed_bytes
    ∷ gauge who (codes "aeron_recorder_resuming") (codes "Images that wait for such bytes.") (decimal r.resuming)
    ∷ []

abbrev pub client_families : List ℕ → ClientMeasures → List Family
client_families who c =
    counter who (codes "aeron_recorder_connections_total") (codes "Connections that were taken.") c.connections
    ∷ gauge who (codes "aeron_recorder_clients") (codes "Clients of the control port that are served.") (decimal c.clients)
    ∷ gauge who (codes "aeron_recorder_client_places") (codes "Clients of the control port that are served at a time at most.") (decimal c.places)
    ∷ []

abbrev pub poll_families : List ℕ → ClientMeasures → List Family
poll_families who c =
    counter who (codes "aeron_recorder_polls_total") (codes "Polls that were answered.") c.polls
    ∷ gauge who (codes "aeron_recorder_open_replays") (codes "Replays that are open.") (decimal c.replays)
    ∷ []

-- where each recording is settled to
unfoldable pub recorded_line : List ℕ → RecordingMeasures → List ℕ
recorded_line who r = line (codes "aeron_recorder_recorded_position_bytes") (recording_labels who r) (signed_decimal r.recorded)

abbrev pub recorded_family : List ℕ → List RecordingMeasures → Family
recorded_family who recordings =
    family (codes "gauge") (codes "aeron_recorder_recorded_position_bytes") (codes "Where an active recording is settled to.") (flat_map (recorded_line who) recordings)

-- where each replay goes on
unfoldable pub replay_line : List ℕ → ReplayMeasures → List ℕ
replay_line who r = line (codes "aeron_recorder_replay_position_bytes") (replay_labels who r) (signed_decimal r.next)

abbrev pub replay_family : List ℕ → List ReplayMeasures → Family
replay_family who replays =
    family (codes "gauge") (codes "aeron_recorder_replay_position_bytes") (codes "Where the next frame of an open replay begins.") (flat_map (replay_line who) replays)

-- what is measured of each image: a family's name, the kind of its numbers, what its numbers are, and the number of an image
unfoldable pub image_name : ImageFamily → List ℕ
image_name Rebuilt = codes "aeron_recorder_rebuilt_position_bytes"
image_name Consumed = codes "aeron_recorder_consumed_position_bytes"
image_name Gap = codes "aeron_recorder_gap_seconds"
image_name GapBytes = codes "aeron_recorder_gap_bytes"
image_name Datagrams = codes "aeron_recorder_image_datagrams_total"
image_name Naks = codes "aeron_recorder_image_naks_total"
image_name Lost = codes "aeron_recorder_image_lost_total"
image_name LastDatagram = codes "aeron_recorder_image_last_datagram_seconds"

abbrev pub image_kind : ImageFamily → List ℕ
image_kind Datagrams = codes "counter"
image_kind Naks = codes "counter"
image_kind Lost = codes "counter"
image_kind f = codes "gauge"

abbrev pub image_help : ImageFamily → List ℕ
image_help Rebuilt = codes "Where all of an image is received to."
image_help Consumed = codes "Where an image is taken to, to be recorded."
image_help Gap = codes "How long the first gap of an image has stood."
image_help GapBytes = codes "Bytes of the first gap of an image that are asked for."
image_help Datagrams = codes "Datagrams of an image that came."
image_help Naks = codes "NAK frames that were sent for an image."
image_help Lost = codes "Datagrams that were lost past the stock of an image."
image_help LastDatagram = codes "How long ago the last datagram of an image came."

unfoldable pub image_number : ImageFamily → ImageMeasures → List ℕ
image_number Rebuilt i = signed_decimal i.rebuilt
image_number Consumed i = signed_decimal i.consumed
image_number Gap i = seconds i.gap_micros
image_number GapBytes i = decimal i.gap_bytes
image_number Datagrams i = decimal i.datagrams
image_number Naks i = decimal i.naks
image_number Lost i = decimal i.lost
image_number LastDatagram i = seconds i.silent_micros

unfoldable pub image_metric_line : List ℕ → ImageFamily → ImageMeasures → List ℕ
image_metric_line who f i = line (image_name f) (image_labels who i) (image_number f i)

abbrev pub image_family : List ℕ → ImageFamily → List ImageMeasures → Family
image_family who f images = family (image_kind f) (image_name f) (image_help f) (flat_map (image_metric_line who f) images)

-- families of all recordings and images
abbrev pub position_text : List ℕ → List RecordingMeasures → List ImageMeasures → List ℕ
position_text who recordings images =
    family_text (recorded_family who recordings)
    ++ (family_text (image_family who Rebuilt images) ++ (family_text (image_family who Consumed images)
    ++ (family_text (image_family who Gap images) ++ family_text (image_family who GapBytes images))))

-- families of what was received of images
abbrev pub received_image_text : List ℕ → List ImageMeasures → List ℕ
received_image_text who images =
    family_text (image_family who Datagrams images)
    ++ (family_text (image_family who Naks images) ++ (family_text (image_family who Lost images) ++ family_text (image_family who LastDatagram images)))

-- ---- holes of publications

-- the labels of a publication, which are numbers
abbrev pub publication_labels : List ℕ → ImageMeasures → List ℕ
publication_labels who i = codes "{recorder=\"" ++ (who ++ (codes "\",stream=\"" ++ (signed_decimal i.stream_id
    ++ (codes "\",session=\"" ++ (signed_decimal i.session_id ++ codes "\"}")))))

-- bytes of holes of an image's publication
unfoldable pub hole_line : List ℕ → ImageMeasures → List ℕ
hole_line who i = line (codes "aeron_recorder_publication_hole_bytes") (publication_labels who i) (decimal i.hole_bytes)

-- those of each publication that has an image
abbrev pub publication_holes_family : List ℕ → List ImageMeasures → Family
publication_holes_family who images =
    family (codes "gauge") (codes "aeron_recorder_publication_hole_bytes") (codes "Bytes of holes between recordings of a publication that has an image.") (flat_map (hole_line who) images)

-- ---- places and recordings

-- the labels of a line that has a word, in which nothing has to be escaped
abbrev pub word_labels : List ℕ → List ℕ → List ℕ → List ℕ
word_labels who label word =
    codes "{recorder=\"" ++ (who ++ (codes "\"," ++ (label ++ (codes "=\"" ++ (word ++ codes "\"}")))))

unfoldable pub word_line : List ℕ → List ℕ → List ℕ → List ℕ → ℕ → List ℕ
word_line who name label word n = line name (word_labels who label word) (decimal n)

-- publications that are not recorded, by the cause
abbrev pub refused_line : List ℕ → List ℕ → ℕ → List ℕ
refused_line who cause n = word_line who (codes "aeron_recorder_publications_refused_total") (codes "cause") cause n

abbrev pub late_lines : List ℕ → RefusedMeasures → List ℕ
late_lines who r =
    refused_line who (codes "history") r.history
    ++ (refused_line who (codes "broken") r.broken ++ (refused_line who (codes "memory") r.memory ++ refused_line who (codes "other") r.other))

abbrev pub refusal_lines : List ℕ → RefusedMeasures → List ℕ
refusal_lines who r =
    refused_line who (codes "places") r.places
    ++ (refused_line who (codes "recordings") r.recordings ++ (refused_line who (codes "starts") r.starts ++ late_lines who r))

abbrev pub refusals_family : List ℕ → RefusedMeasures → Family
refusals_family who r =
    family (codes "counter") (codes "aeron_recorder_publications_refused_total") (codes "Publications that are not recorded.") (refusal_lines who r)

-- images, by their rank
abbrev pub rank_line : List ℕ → List ℕ → ℕ → List ℕ
rank_line who rank n = word_line who (codes "aeron_recorder_images") (codes "rank") rank n

abbrev pub rank_lines : List ℕ → PlaceMeasures → List ℕ
rank_lines who p = rank_line who (codes "recorded") p.recorded ++ (rank_line who (codes "waiting") p.waiting ++ rank_line who (codes "other") p.other)

abbrev pub ranks_family : List ℕ → PlaceMeasures → Family
ranks_family who p = family (codes "gauge") (codes "aeron_recorder_images") (codes "Images.") (rank_lines who p)

abbrev pub recording_families : List ℕ → PlaceMeasures → List Family
recording_families who p =
    gauge who (codes "aeron_recorder_image_places") (codes "Images that there may be.") (decimal p.places)
    ∷ gauge who (codes "aeron_recorder_recordings") (codes "Recordings that stand.") (decimal p.recordings)
    ∷ gauge who (codes "aeron_recorder_recordings_limit") (codes "Recordings that may stand.") (decimal p.limit)
    ∷ []

-- families of places and recordings
abbrev pub place_text : List ℕ → PlaceMeasures → List ℕ
place_text who p =
    family_text (counter who (codes "aeron_recorder_datagrams_foreign_total") (codes "Datagrams of another address or network.") p.foreign)
    ++ (family_text (refusals_family who p.refused) ++ (family_text (ranks_family who p) ++ flat_map family_text (recording_families who p)))

-- ---- recordings that are sent

-- of all of them

abbrev pub sent_count_families : List ℕ → SendsMeasures → List Family
sent_count_families who s =
    gauge who (codes "aeron_recorder_sends") (codes "Recordings that are sent.") (decimal s.live)
    ∷ counter who (codes "aeron_recorder_sent_datagrams_total") (codes "Datagrams of recordings that were sent.") s.datagrams
    ∷ counter who (codes "aeron_recorder_sent_bytes_total") (codes "Bytes of such datagrams.") s.bytes
    ∷ counter who (codes "aeron_recorder_repeated_datagrams_total") (codes "Datagrams of recordings that were repeated.") s.repeats
    ∷ []

abbrev pub answer_families : List ℕ → SendsMeasures → List Family
answer_families who s =
    counter who (codes "aeron_recorder_naks_received_total") (codes "NAK frames of receivers that came.") s.naks
    ∷ counter who (codes "aeron_recorder_status_messages_received_total") (codes "Status messages of receivers that came.") s.status_messages
    ∷ counter who (codes "aeron_recorder_foreign_feedback_total") (codes "Datagrams that came and count for no sending.") s.foreign
    ∷ []

-- the labels of a sending. All of them are numbers, in which nothing has to be escaped
abbrev pub send_labels : List ℕ → SendMeasures → List ℕ
send_labels who s = codes "{recorder=\"" ++ (who ++ (codes "\",send=\"" ++ (decimal s.send ++ (codes "\",recording=\"" ++ (signed_decimal s.recording
    ++ (codes "\",stream=\"" ++ (signed_decimal s.stream_id ++ (codes "\",session=\"" ++ (signed_decimal s.session_id ++ codes "\"}")))))))))

-- a family's name, what its numbers are, and the number of a sending
unfoldable pub send_name : SendFamily → List ℕ
send_name sends.Position = codes "aeron_recorder_sender_position_bytes"
send_name sends.Limit = codes "aeron_recorder_sender_limit_bytes"
send_name sends.Consumed = codes "aeron_recorder_consumed_by_receiver_bytes"

abbrev pub send_help : SendFamily → List ℕ
send_help sends.Position = codes "Up to where a recording was sent."
send_help sends.Limit = codes "Up to where a receiver admits a recording."
send_help sends.Consumed = codes "Up to where a receiver has consumed a recording."

unfoldable pub send_number : SendFamily → SendMeasures → List ℕ
send_number sends.Position s = decimal s.position
send_number sends.Limit s = decimal s.limit
send_number sends.Consumed s = decimal s.consumed

unfoldable pub send_metric_line : List ℕ → SendFamily → SendMeasures → List ℕ
send_metric_line who f s = line (send_name f) (send_labels who s) (send_number f s)

abbrev pub send_family : List ℕ → SendFamily → List SendMeasures → Family
send_family who f all = family (codes "gauge") (send_name f) (send_help f) (flat_map (send_metric_line who f) all)

abbrev pub send_position_text : List ℕ → List SendMeasures → List ℕ
send_position_text who all =
    family_text (send_family who sends.Position all) ++ (family_text (send_family who sends.Limit all) ++ family_text (send_family who sends.Consumed all))

-- families of recordings that are sent
abbrev pub sends_text : List ℕ → SendsMeasures → List SendMeasures → List ℕ
sends_text who counted all =
    flat_map family_text (sent_count_families who counted) ++ (flat_map family_text (answer_families who counted) ++ send_position_text who all)

-- ---- all

-- families of a recorder of this name
abbrev pub measures_text : List ℕ → Measures → List ℕ
measures_text who m =
    flat_map family_text (state_families who m.archive)
    ++ (flat_map family_text (history_families who m.archive)
    ++ (flat_map family_text (recorder_families who m.recorder)
    ++ (flat_map family_text (received_families who m.datagrams)
    ++ (flat_map family_text (sent_families who m.datagrams)
    ++ (flat_map family_text (hole_families who m.resumes)
    ++ (flat_map family_text (resume_families who m.resumes)
    ++ (place_text who m.places
    ++ (flat_map family_text (client_families who m.clients)
    ++ (flat_map family_text (poll_families who m.clients)
    ++ (family_text (replay_family who m.replays.items)
    ++ (position_text who m.recordings.items m.images.items
    ++ (received_image_text who m.images.items
    ++ (family_text (publication_holes_family who m.images.items)
    ++ sends_text who m.sending m.sends.items)))))))))))))

-- the text: that of each family, one after another
abbrev pub metrics_text : RecorderAbout → Measures → List ℕ
metrics_text a m = flat_map family_text (about_families a) ++ measures_text a.name.now m
