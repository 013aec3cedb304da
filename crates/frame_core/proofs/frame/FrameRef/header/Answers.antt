use Rattle.std.proofs.Common.{rules, ◌≡◌, refl, ◌++◌, ℕ, List, take, drop, FitsSigned, w32, w64}
use Rattle.std.specs.Prelude.{replicate, slice_set}
use Rattle.std.proofs.lemmas.Int.{to_z-of_z}
use Rattle.byteorder.specs.Endian.{little_bytes}
use Rattle.frame_core.specs.declared.frame.Frame.{Frame}
use Rattle.frame_core.specs.FrameEncoding.{i32_bytes, i64_bytes, frame_of, header_of, type_of}
use Rattle.frame_core.proofs.frame.FrameRef.header.Goals as goal

-- bytes with others written over them, from an offset on
abbrev over : List ℕ → ℕ → List ℕ → ℕ → List ℕ
over out offset xs behind = take offset out ++ xs ++ drop behind out

-- the header is what the writes leave
built : (f : Frame) (number : ℕ) (o1 o2 o3 o4 o5 o6 o7 : List ℕ) → o1 ≡ i32_bytes f.length ++ replicate 28 0 → number ≡ type_of f.kind
    → o2 ≡ over (slice_set o1 5 f.flags) 6 (little_bytes 2 number) 8 → o3 ≡ over o2 8 (i32_bytes f.term_offset) 12 → o4 ≡ over o3 12 (i32_bytes f.session_id) 16
    → o5 ≡ over o4 16 (i32_bytes f.stream_id) 20 → o6 ≡ over o5 20 (i32_bytes f.term_id) 24 → o7 ≡ over o6 24 (i64_bytes f.reserved) 32 → o7 ≡ header_of f
unfolding header_of
built f number o1 o2 o3 o4 o5 o6 o7 e1 n e2 e3 e4 e5 e6 e7 = rw (e7, e6, e5, e4, e3, e2, e1, n) refl

pub returns : goal.returns
returns c =
    let length_fits : FitsSigned w32 c.args.self.now.length = search rules in
    let offset_fits : FitsSigned w32 c.args.self.now.term_offset = search rules in
    let session_fits : FitsSigned w32 c.args.self.now.session_id = search rules in
    let stream_fits : FitsSigned w32 c.args.self.now.stream_id = search rules in
    let term_fits : FitsSigned w32 c.args.self.now.term_id = search rules in
    let reserved_fits : FitsSigned w64 c.args.self.now.reserved = search rules in
    built
    (frame_of c.args.self.now)
    c.number.result
    c.put_i32.new.out
    c.put_u16.new.out
    c.put_i32-2.new.out
    c.put_i32-3.new.out
    c.put_i32-4.new.out
    c.put_i32-5.new.out
    c.put_i64.new.out
    (simp to_z-of_z at c.put_i32.ensures)
    c.number.ensures
    c.put_u16.ensures
    (simp to_z-of_z at c.put_i32-2.ensures)
    (simp to_z-of_z at c.put_i32-3.ensures)
    (simp to_z-of_z at c.put_i32-4.ensures)
    (simp to_z-of_z at c.put_i32-5.ensures)
    (simp to_z-of_z at c.put_i64.ensures)
