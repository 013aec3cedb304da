use Rattle.std.proofs.Common.{rules, subst}
use Rattle.std.specs.Prelude.{Bool, true, false}
use Rattle.std.specs.Bool.{MatchBool}
use Rattle.frame_core.specs.declared.frame.Frame.{Frame}
use Rattle.frame_core.specs.FrameEncoding.{Fits, HasLength, IsAligned, IsEncodable}
use Rattle.frame_core.proofs.frame.Frame.is_encodable.Goals as goal

-- a frame of values of their types, and of a length of its kind, is decided by its offset
decided : (f : Frame) (b : Bool) → Fits f → HasLength f.kind f.length f.payload → MatchBool b (IsAligned f.term_offset) (IsAligned f.term_offset → ⊥)
    → MatchBool b (IsEncodable f) (IsEncodable f → ⊥)
decided f true fits size offset = record { fits = fits; length = size; offset = offset }
decided f false fits size offset = λ encodable. offset encodable.offset

pub returns-then-has_length : goal.returns-then-has_length
returns-then-has_length c =
    decided
    c.args.self.now
    c.is_aligned.result
    (record {
      flags = search rules;
      length = search rules;
      term_offset = search rules;
      session_id = search rules;
      stream_id = search rules;
      term_id = search rules;
      reserved = search rules;
    })
    (subst (λ (f : Frame). HasLength f.kind f.length f.payload) c.as_ref.ensures c.if-has_length.ensures)
    c.is_aligned.ensures
