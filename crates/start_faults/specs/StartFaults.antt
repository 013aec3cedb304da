-- Which word of a line `start` or `start-from` breaks its rule: docs/SERVING.md, "If `start` is `error 10 BadParameter`".
use Rattle.std.specs.Prelude.{◌&&◌, not, ℕ, Bool, List, [], ◌∷◌, Option, codes, find, int_le}
use Rattle.frame_core.specs.Limits.{is_mtu, is_term_length}
use Rattle.archive_model.specs.declared.command.StartFields.{StartFields}
use Rattle.archive_model.specs.Descriptor.{is_channel, is_negative, is_source, is_start_position}
use Rattle.start_faults.specs.declared.word.StartWord.{StartWord}
use Rattle.start_faults.specs.declared.word.StartWord.TheVariants.{Source, TermLength, Mtu, SegmentLength, StartPosition, Timestamp, Channel}

-- the words that have rules, in the order of the line
abbrev pub words : List StartWord
words = Source ∷ TermLength ∷ Mtu ∷ SegmentLength ∷ StartPosition ∷ Timestamp ∷ Channel ∷ []

-- a word keeps its rule: archive_model has each of them
abbrev pub keeps_rule : StartFields → StartWord → Bool
keeps_rule f Source = is_source f.source_identity
keeps_rule f TermLength = is_term_length f.term_length
keeps_rule f Mtu = is_mtu f.mtu
keeps_rule f SegmentLength = is_term_length f.segment_length && int_le f.term_length f.segment_length
keeps_rule f StartPosition = is_start_position f.start_position f.term_length
keeps_rule f Timestamp = not (is_negative f.timestamp)
keeps_rule f Channel = is_channel f.channel

-- the first one that does not
unfoldable pub wrong_word : StartFields → Option StartWord
wrong_word f = find (λ word. not (keeps_rule f word)) words

-- how docs/CONTROL.md, "Lines", names it
abbrev pub name_of : StartWord → List ℕ
name_of Source = codes "<source>"
name_of TermLength = codes "<term length>"
name_of Mtu = codes "<mtu>"
name_of SegmentLength = codes "<segment length>"
name_of StartPosition = codes "<start position>"
name_of Timestamp = codes "<timestamp>"
name_of Channel = codes "<channel>"

-- what it has to be
abbrev pub rule_of : StartWord → List ℕ
rule_of Source = codes "at most 128 bytes of UTF-8, without blanks and control characters"
rule_of TermLength = codes "a power of two from 65536 to 1073741824"
rule_of Mtu = codes "a multiple of 32, from 64 to 65504"
rule_of SegmentLength = codes "a power of two from the term length to 1073741824"
rule_of StartPosition = codes "a multiple of 32 from 0, less than 2147483648 term lengths"
rule_of Timestamp = codes "0 or more"
rule_of Channel = codes "1 to 1024 bytes of UTF-8, without control characters"
