-- The text of replies: docs/CONTROL.md, "Lines". Each line has its end.
use Rattle.std.specs.Prelude.{◌++◌, ℕ, ℤ, Bool, true, false, List, [], length, codes, decimal, Option, Some, None}
use Rattle.std.specs.Fmt.{signed_decimal}
use Rattle.std.specs.List.{flat_map}
use Rattle.hex.specs.Hex.{encode_lower}
use Rattle.frame_core.specs.FrameEncoding.{encoded}
use Rattle.archive_model.specs.declared.descriptor.Descriptor.{Descriptor}
use Rattle.archive_model.specs.declared.reply.PolledFrame.{PolledFrame}
use Rattle.archive_model.specs.declared.reply.Reply.{Reply}
use Rattle.archive_model.specs.declared.reply.Reply.TheVariants as replies

-- a word and a number
abbrev pub told : List ℕ → ℤ → List ℕ
told word z = word ++ (signed_decimal z ++ codes "\n")

-- a follower's frames come behind this line, from a position on
abbrev pub following_line : ℤ → List ℕ
following_line position = told (codes "following ") position

-- a number of a longer line
abbrev pub told_with : ℤ → List ℕ → List ℕ
told_with z rest = codes " " ++ (signed_decimal z ++ rest)

-- a recording's descriptor
abbrev pub descriptor_line : Descriptor → List ℕ
descriptor_line d =
    codes "recording" ++ told_with d.recording (told_with d.start_timestamp (told_with d.stop_timestamp (
    told_with d.start_position (told_with d.stop_position (told_with d.initial_term_id (told_with d.segment_length (
    told_with d.term_length (told_with d.mtu (told_with d.session_id (told_with d.stream_id (
    codes " " ++ (d.channel ++ codes "\n"))))))))))))

-- a frame's encoding, and where the frame lies
abbrev pub encoded_line : ℤ → List ℕ → List ℕ
encoded_line position bytes = codes "frame " ++ (signed_decimal position ++ (codes " " ++ (encode_lower bytes ++ codes "\n")))

-- a frame, and where it lies
abbrev pub frame_line : PolledFrame → List ℕ
frame_line f = encoded_line f.position (encoded f.frame)

-- who sends a recording's stream: the length of that text in bytes, and the text where it has any
abbrev pub source_line : List ℕ → List ℕ
source_line [] = codes "source 0\n"
source_line text = codes "source " ++ (decimal (length text) ++ (codes " " ++ (text ++ codes "\n")))

-- where a poll ended
abbrev pub end_line : Option ℤ → List ℕ
end_line None = codes "done\n"
end_line (Some next) = told (codes "more ") next

-- the next frame of a merge
abbrev pub taken_line : Option PolledFrame → List ℕ
taken_line None = codes "none\n"
taken_line (Some f) = frame_line f

abbrev pub swept_line : Bool → List ℕ
swept_line true = codes "swept 1\n"
swept_line false = codes "swept 0\n"

abbrev pub merge_line : Bool → ℤ → List ℕ
merge_line true cursor = told (codes "merged yes ") cursor
merge_line false cursor = told (codes "merged no ") cursor

-- one of the positions that a settling of several sessions answers: none for a session that isn't open
abbrev pub position_word : Option ℤ → List ℕ
position_word None = codes " -"
position_word (Some position) = codes " " ++ signed_decimal position

-- no line asks for such a settling
abbrev pub settled_all_line : List (Option ℤ) → List ℕ
settled_all_line positions = codes "settled-all" ++ flat_map position_word positions ++ codes "\n"

-- a reply's lines
abbrev pub reply_text : Reply → List ℕ
reply_text (replies.Started recording session) =
    codes "started " ++ (signed_decimal recording ++ (codes " " ++ (signed_decimal session ++ codes "\n")))
reply_text (replies.Extended session) = told (codes "extended ") session
reply_text (replies.Written position) = told (codes "written ") position
reply_text (replies.Settled position) = told (codes "settled ") position
reply_text (replies.SettledAll positions) = settled_all_line positions
reply_text (replies.Stopped position) = told (codes "stopped ") position
reply_text (replies.Truncated position) = told (codes "truncated ") position
reply_text (replies.Purged segments) = told (codes "purged ") segments
reply_text replies.PurgedRecording = codes "purged-recording\n"
reply_text (replies.Recordings descriptors) =
    flat_map descriptor_line descriptors ++ (codes "end " ++ (decimal (length descriptors) ++ codes "\n"))
reply_text (replies.Found recording) = told (codes "found ") recording
reply_text (replies.Positions start recorded stop) =
    codes "positions " ++ (signed_decimal start ++ (codes " " ++ (signed_decimal recorded ++ (codes " " ++ (signed_decimal stop ++ codes "\n")))))
reply_text (replies.Source text) = source_line text
reply_text (replies.ReplayOpened replay) = told (codes "replay ") replay
reply_text (replies.Polled frames next) = flat_map frame_line frames ++ end_line next
reply_text replies.Closed = codes "closed\n"
reply_text (replies.Swept removed) = swept_line removed
reply_text (replies.Verified frames) = told (codes "verified ") frames
reply_text (replies.Reopened recordings) = told (codes "reopened ") recordings
reply_text replies.Compacted = codes "compacted\n"
reply_text replies.Checkpointed = codes "checkpointed\n"
reply_text (replies.MergeOpened position) = told (codes "merge ") position
reply_text replies.Held = codes "held\n"
reply_text replies.Ignored = codes "ignored\n"
reply_text replies.Full = codes "full\n"
reply_text (replies.Taken frame) = taken_line frame
reply_text (replies.MergeState is_merged cursor) = merge_line is_merged cursor
reply_text replies.Bye = codes "bye\n"
