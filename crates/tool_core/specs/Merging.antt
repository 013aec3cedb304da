-- What each line to a merge is answered, and the merge after it, if there is one. docs/CONTROL.md, "Merging".
use Rattle.std.specs.Prelude.{◌≡◌, ◌≢◌, ℕ, ℤ, pos, true, false, List, [], ◌∷◌, length, unsigned_abs, Option, Some, None, Result, Ok, Err}
use Rattle.frame_core.specs.declared.frame.Frame.{Frame}
use Rattle.frame_core.specs.declared.geometry.Geometry.{Geometry}
use Rattle.frame_core.specs.declared.refusal.Refusal.{Refusal}
use Rattle.frame_core.specs.declared.refusal.Refusal.TheVariants.{UnknownReplay, BadParameter, BadBlock, NoMemory, BadFrame}
use Rattle.frame_core.specs.Datagram.{IsDatagram, IsBadAt}
use Rattle.archive_model.specs.declared.reply.PolledFrame.{PolledFrame}
use Rattle.archive_model.specs.declared.reply.Reply.{Reply}
use Rattle.archive_model.specs.declared.reply.Reply.TheVariants as replies
use Rattle.archive_model.specs.Descriptor.{may_begin_at}
use Rattle.merge_core.specs.declared.merge.Offered.{Offered}
use Rattle.merge_core.specs.declared.merge.Offered.TheVariants.{Held, Ignored, Full}
use Rattle.merge_core.specs.Merge.{Merging, opened_merge, answer_to, after_replay_frame, after_live_frame, after_take, next_frame}
use Rattle.control_lines.specs.declared.merge_line.MergeLine.{MergeLine}
use Rattle.control_lines.specs.declared.merge_line.MergeLine.TheVariants as merges

-- what a line may end with: its answer, and what it is about then
abbrev pub Ends : Type 0 → Type 1
Ends S = Result Reply Refusal → S → Type 0

-- refused, and nothing is changed
abbrev pub Refused : {S : Type 0} → S → Refusal → Ends S
Refused a refusal outcome new = (outcome ≡ Err refusal) × (new ≡ a)

-- answered, and nothing is changed
abbrev pub Answered : {S : Type 0} → S → Reply → Ends S
Answered a reply outcome new = (outcome ≡ Ok reply) × (new ≡ a)

-- the same, or want of memory, which changes nothing
abbrev pub OrNoMemory : {S : Type 0} → S → Ends S → Ends S
OrNoMemory old ends (Ok reply) new = ends (Ok reply) new
OrNoMemory old ends (Err NoMemory) new = new ≡ old
OrNoMemory old ends (Err refusal) new = ends (Err refusal) new

-- a merge reads no MTU
abbrev pub merge_geometry : ℤ → ℤ → Geometry
merge_geometry term term_length = record { initial_term_id = term; term_length = term_length; mtu = pos 65504 }

-- a merge begins anew, or none may begin there, and an earlier one stays
abbrev pub OpenEnds : Option Merging → ℤ → ℤ → ℤ → Ends (Option Merging)
OpenEnds old term term_length position (Ok reply) new =
    (may_begin_at term_length position ≡ true)
    × (reply ≡ replies.MergeOpened position)
    × (new ≡ Some (opened_merge (merge_geometry term term_length) (unsigned_abs position)))
OpenEnds old term term_length position (Err refusal) new =
    (may_begin_at term_length position ≡ false) × (refusal ≡ BadParameter) × (new ≡ old)

-- The bytes are the datagram of one frame; or why they are none: no datagram, or one of more frames.
abbrev pub IsOffer : List ℕ → Result Frame Refusal → Type 0
IsOffer bytes (Ok frame) = IsDatagram bytes (frame ∷ [])
IsOffer bytes (Err (BadFrame offset)) = IsBadAt bytes offset
IsOffer bytes (Err BadBlock) = (frames : List Frame) × IsDatagram bytes frames × (length frames ≢ 1)
IsOffer bytes (Err refusal) = ⊥

-- the same, or want of memory
abbrev pub IsOfferOrMemory : List ℕ → Result Frame Refusal → Type 0
IsOfferOrMemory bytes (Err NoMemory) = Unit {0}
IsOfferOrMemory bytes offer = IsOffer bytes offer

abbrev pub offer_reply : Result Offered Refusal → Result Reply Refusal
offer_reply (Ok Held) = Ok replies.Held
offer_reply (Ok Ignored) = Ok replies.Ignored
offer_reply (Ok Full) = Ok replies.Full
offer_reply (Err refusal) = Err refusal

-- that frame is offered
abbrev pub FrameEnds : (Frame → Merging → Merging) → Merging → Result Frame Refusal → Ends (Option Merging)
FrameEnds after m (Ok frame) outcome new = (outcome ≡ offer_reply (answer_to frame m)) × (new ≡ Some (after frame m))
FrameEnds after m (Err refusal) outcome new = Refused (Some m) refusal outcome new

abbrev pub OfferEnds : (Frame → Merging → Merging) → Merging → List ℕ → Ends (Option Merging)
OfferEnds after m bytes outcome new = (offer : Result Frame Refusal) × IsOffer bytes offer × FrameEnds after m offer outcome new

-- the next frame of the output, and where it begins
abbrev pub frame_at : ℕ → Option Frame → Option PolledFrame
frame_at position None = None
frame_at position (Some frame) = Some (record { position = pos position; frame = frame })

abbrev pub TakeEnds : Merging → Ends (Option Merging)
TakeEnds m outcome new = (outcome ≡ Ok (replies.Taken (frame_at m.cursor (next_frame m)))) × (new ≡ Some (after_take m))

-- lines to a merge that was begun; only an offer may want memory
abbrev pub BegunMergeEnds : Merging → MergeLine → Ends (Option Merging)
BegunMergeEnds m (merges.Open term term_length position) = OpenEnds (Some m) term term_length position
BegunMergeEnds m (merges.Replay bytes) = OrNoMemory (Some m) (OfferEnds after_replay_frame m bytes)
BegunMergeEnds m (merges.Live bytes) = OrNoMemory (Some m) (OfferEnds after_live_frame m bytes)
BegunMergeEnds m merges.Take = TakeEnds m
BegunMergeEnds m merges.State = Answered (Some m) (replies.MergeState m.is_merged (pos m.cursor))

-- lines to none
abbrev pub FirstEnds : MergeLine → Ends (Option Merging)
FirstEnds (merges.Open term term_length position) = OpenEnds None term term_length position
FirstEnds line = Refused None UnknownReplay

abbrev pub MergeEnds : Option Merging → MergeLine → Ends (Option Merging)
MergeEnds None line = FirstEnds line
MergeEnds (Some m) line = BegunMergeEnds m line
