-- The names that three files or more of these proofs use.
pub use Rattle.archive_model.proofs.HistoriesLemmas.{covered-append}
pub use Rattle.archive_model.proofs.RegisterLemmas.{found_number}
pub use Rattle.archive_model.proofs.StateLemmas.{each_change, each_found}
pub use Rattle.archive_model.proofs.WellLemmas.{both}
pub use Rattle.archive_model.specs.Accepting.{Accepts}
pub use Rattle.archive_model.specs.Checks.{Tests, block_checks, checked, checks, first_checks, is_of, last_checks, passes}
pub use Rattle.archive_model.specs.Commands.{after, frames_of}
pub use Rattle.archive_model.specs.Keyed.{Each, change, find}
pub use Rattle.archive_model.specs.Register.{RegisterState, all_stopped, is_end, no_recordings, registration_in}
pub use Rattle.archive_model.specs.Replay.{begins_frame, is_boundary, polled}
pub use Rattle.archive_model.specs.State.{Recording, State, empty, geometry_of, id_of, is_active, publication_of, recorded_position, register_of, registration_of}
pub use Rattle.archive_model.specs.WellFormed.{IsKept, IsOfStream, IsWell}
pub use Rattle.archive_model.specs.declared.command.Command.{Command}
pub use Rattle.archive_model.specs.declared.command.Command.TheVariants.{Append, Restart}
pub use Rattle.archive_model.specs.declared.descriptor.Descriptor.{Descriptor}
pub use Rattle.archive_model.specs.declared.registration.Registration.{Registration}
pub use Rattle.archive_model.specs.declared.reply.PolledFrame.{PolledFrame}
pub use Rattle.archive_model.specs.declared.reply.Reply.{Reply}
pub use Rattle.archive_model.specs.declared.version.BankVersion.{BankVersion}
pub use Rattle.catalogue_entries.proofs.CallerLemmas.{after_more}
pub use Rattle.catalogue_entries.specs.Fold.{admits, after_entries, after_entry, counts}
pub use Rattle.catalogue_entries.specs.History.{IsRequested, entry_of}
pub use Rattle.catalogue_entries.specs.declared.entry.Entry.{Entry}
pub use Rattle.catalogue_log.proofs.CallerLemmas.{banks_left, log_catalogue, one_catalogue, other_files, rest_left}
pub use Rattle.catalogue_log.specs.Banks.{bank_file}
pub use Rattle.catalogue_log.specs.Catalogue.{ChangesBank, IsCatalogue}
pub use Rattle.catalogue_log.specs.LogState.{IsAtRest, IsLogIn, LogState}
pub use Rattle.catalogue_log.specs.declared.bank.BankHeader.{BankHeader}
pub use Rattle.control_core.proofs.ConsistentLemmas.{polled_open}
pub use Rattle.control_core.proofs.DecidedLemmas.{held}
pub use Rattle.control_core.proofs.FaultLemmas.{call_is_allowed}
pub use Rattle.control_core.specs.Callers.{replay_number, session_number, written_to}
pub use Rattle.control_core.specs.Changes.{broken_desk, desk_after, reply_after, settled, with_block}
pub use Rattle.control_core.specs.Consistent.{HasBlocks, IsAtBoundary, IsConsistent, StaysConsistent, StaysOpen}
pub use Rattle.control_core.specs.Decided.{Decision}
pub use Rattle.control_core.specs.Decisions.{Allows, Decides, command_in, decision_of, takes_memory}
pub use Rattle.control_core.specs.Desk.{DeskState, opened_desk}
pub use Rattle.control_core.specs.Exact.{Archive, ArchiveEnds, CallEnds, archive_after, asked_of, book_of, broken, opened_archive, recording_at, told_of, with_desk}
pub use Rattle.control_core.specs.Machine.{Outcome, Stepped}
pub use Rattle.control_core.specs.Orderly.{IsLaid, KeepsDesk, LiesBehind}
pub use Rattle.control_core.specs.Seats.{IsWriting}
pub use Rattle.control_core.specs.Turns.{open_decision, open_replay_in, poll_decision, session_in, settle_decision, write_decision, write_tests}
pub use Rattle.control_core.specs.declared.callers.OpenReplay.{OpenReplay}
pub use Rattle.control_core.specs.declared.callers.RecorderSession.{RecorderSession}
pub use Rattle.control_core.specs.declared.callers.Written.{Written}
pub use Rattle.control_core.specs.declared.event.Event.{Event}
pub use Rattle.control_core.specs.declared.request.Request.{Request}
pub use Rattle.disk_core.proofs.CallerLemmas.{goes_on_part, goes_quiet, now_leaves, same_file, started, weaker}
pub use Rattle.disk_core.specs.DiskImage.{DiskImage, FileState, Files, LeavesFile, MayLeave, bytes_of, durable, reads}
pub use Rattle.disk_core.specs.FileNames.{AreFilesWith}
pub use Rattle.disk_core.specs.Life.{HasFailed, IsQuiet, LeavesOnly, Life, moment}
pub use Rattle.disk_core.specs.Standing.{Holds}
pub use Rattle.disk_core.specs.declared.file_id.FileId.{FileId}
pub use Rattle.disk_core.specs.declared.file_id.FileId.TheVariants.{BankA, BankB, Segment}
pub use Rattle.engine_core.specs.Calls.{CallEnded, CommitEnds, EndsAs, EndsEvent, IsRun}
pub use Rattle.engine_core.specs.Catalogued.{AddsBehind, HasEntries, IsCatalogued, KeepsFound}
pub use Rattle.engine_core.specs.Consistent.{IsCrashConsistent, LieIn, MayStandIn, Stands, StandsBehind}
pub use Rattle.engine_core.specs.Engine.{Content, DiskGoesOn, EngineState, IsTied, KeepsBank, archive_of, content_of}
pub use Rattle.engine_core.specs.Making.{CommitsEntry, Restarts, after_failure}
pub use Rattle.engine_core.specs.Moves.{AddsEntry, ChangesThese, Enters, EntryLeads, HasEntryRoom, KeepsSegments, Moves, RestsAfter, SettlesAt, keeps_of, registered_keeps}
pub use Rattle.engine_core.specs.Opening.{ReadsAsBefore}
pub use Rattle.engine_core.specs.Reading.{IsOutside, RecordingIsRead}
pub use Rattle.engine_core.specs.Recovery.{HoldsRecording, IsDurable, IsEither, IsSound, Recovers, RecoversTo, first_of, last_of}
pub use Rattle.engine_core.specs.Seen.{seen, state_of}
pub use Rattle.frame_core.proofs.LimitsLemmas.{is_power}
pub use Rattle.frame_core.specs.Block.{AreEncodable, IsBlock, covered, end_position}
pub use Rattle.frame_core.specs.FrameEncoding.{IsAligned, aligned_length, stored}
pub use Rattle.frame_core.specs.Limits.{is_term_length}
pub use Rattle.frame_core.specs.declared.block.Block.{Block}
pub use Rattle.frame_core.specs.declared.frame.Frame.{Frame}
pub use Rattle.frame_core.specs.declared.frame.FrameKind.{FrameKind}
pub use Rattle.frame_core.specs.declared.frame.FrameKind.TheVariants.{Heartbeat, Message, Pad}
pub use Rattle.frame_core.specs.declared.geometry.Geometry.{Geometry}
pub use Rattle.frame_core.specs.declared.refusal.Refusal.{Refusal}
pub use Rattle.frame_core.specs.declared.refusal.Refusal.TheVariants.{BadPosition, Damaged, DeviceFault, NoMemory}
pub use Rattle.recording_reads.specs.Reading.{RefusesBoundaryIn, RefusesCount, RefusesPoll, TellsBoundaryIn}
pub use Rattle.recording_reads.specs.Recording.{layout_of}
pub use Rattle.segment_store.specs.Layout.{IsFromStart, IsLayout, file_of, offset_of}
pub use Rattle.segment_store.specs.Stale.{SweepsAtMost}
pub use Rattle.segment_store.specs.Stored.{AreDurableBytes, AreDurableFrames, ChangesFile, HoldsFrames}
pub use Rattle.segment_store.specs.declared.keep.Keep.{Keep}
pub use Rattle.segment_store.specs.declared.keep.Keep.TheVariants.{Below}
pub use Rattle.segment_store.specs.declared.layout.Layout.{Layout}
unfoldable pub use Rattle.archive_model.specs.Register.{is_later_base}
unfoldable pub use Rattle.segment_store.specs.Layout.{base_of}
