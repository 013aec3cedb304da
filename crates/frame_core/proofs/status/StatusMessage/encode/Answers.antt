use Rattle.std.proofs.Common.{rules, ◌≡◌, refl, ◌++◌, ℕ, List, take, drop, pos, FitsSigned, w32, w64}
use Rattle.std.specs.Prelude.{replicate, slice_set}
use Rattle.std.proofs.lemmas.Int.{to_z-of_z}
use Rattle.byteorder.specs.Endian.{little_bytes}
use Rattle.frame_core.specs.declared.status.StatusMessage.{StatusMessage}
use Rattle.frame_core.specs.FrameEncoding.{i32_bytes, i64_bytes}
use Rattle.frame_core.specs.Status.{encoded_status}
use Rattle.frame_core.proofs.StatusLemmas.{IsStatus-encoded_status}
use Rattle.frame_core.proofs.status.StatusMessage.encode.Goals as goal

-- bytes with others written over them, from an offset on
abbrev over : List ℕ → ℕ → List ℕ → ℕ → List ℕ
over out offset xs behind = take offset out ++ xs ++ drop behind out

-- the frame is what the writes leave
built : (s : StatusMessage) (o1 o2 o3 o4 o5 o6 o7 o8 : List ℕ) → o1 ≡ i32_bytes (pos 36) ++ replicate 32 0
    → o2 ≡ over (slice_set o1 5 s.flags) 6 (little_bytes 2 3) 8 → o3 ≡ over o2 8 (i32_bytes s.session_id) 12 → o4 ≡ over o3 12 (i32_bytes s.stream_id) 16
    → o5 ≡ over o4 16 (i32_bytes s.consumption_term_id) 20 → o6 ≡ over o5 20 (i32_bytes s.consumption_term_offset) 24
    → o7 ≡ over o6 24 (i32_bytes s.receiver_window) 28 → o8 ≡ over o7 28 (i64_bytes s.receiver_id) 36 → o8 ≡ encoded_status s
unfolding encoded_status
built s o1 o2 o3 o4 o5 o6 o7 o8 e1 e2 e3 e4 e5 e6 e7 e8 = rw (e8, e7, e6, e5, e4, e3, e2, e1) refl

pub returns-clause-bytes : goal.returns-clause-bytes
returns-clause-bytes c =
    let session_fits : FitsSigned w32 c.args.self.now.session_id = search rules in
    let stream_fits : FitsSigned w32 c.args.self.now.stream_id = search rules in
    let term_fits : FitsSigned w32 c.args.self.now.consumption_term_id = search rules in
    let offset_fits : FitsSigned w32 c.args.self.now.consumption_term_offset = search rules in
    let window_fits : FitsSigned w32 c.args.self.now.receiver_window = search rules in
    let receiver_fits : FitsSigned w64 c.args.self.now.receiver_id = search rules in
    built
    c.args.self.now
    c.put_i32.new.out
    c.put_u16.new.out
    c.put_i32-2.new.out
    c.put_i32-3.new.out
    c.put_i32-4.new.out
    c.put_i32-5.new.out
    c.put_i32-6.new.out
    c.put_i64.new.out
    c.put_i32.ensures
    c.put_u16.ensures
    (simp to_z-of_z at c.put_i32-2.ensures)
    (simp to_z-of_z at c.put_i32-3.ensures)
    (simp to_z-of_z at c.put_i32-4.ensures)
    (simp to_z-of_z at c.put_i32-5.ensures)
    (simp to_z-of_z at c.put_i32-6.ensures)
    (simp to_z-of_z at c.put_i64.ensures)

pub returns-clause-read : goal.returns-clause-read
returns-clause-read c may rest =
    rw (returns-clause-bytes c)
    (IsStatus-encoded_status
    c.args.self.now
    rest
    (record {
      session_id = search rules;
      stream_id = search rules;
      term_id = search rules;
      term_offset = search rules;
      window = search rules;
      receiver = search rules;
    })
    may)
