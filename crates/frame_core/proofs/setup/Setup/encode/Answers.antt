use Rattle.std.proofs.Common.{rules, ◌≡◌, refl, ◌++◌, ℕ, List, take, drop, pos, FitsSigned, w32}
use Rattle.std.specs.Prelude.{replicate, slice_set}
use Rattle.std.proofs.lemmas.Int.{to_z-of_z}
use Rattle.byteorder.specs.Endian.{little_bytes}
use Rattle.frame_core.specs.declared.setup.Setup.{Setup}
use Rattle.frame_core.specs.FrameEncoding.{i32_bytes}
use Rattle.frame_core.specs.Setup.{encoded_setup}
use Rattle.frame_core.proofs.SetupLemmas.{IsSetup-encoded_setup}
use Rattle.frame_core.proofs.setup.Setup.encode.Goals as goal

-- bytes with others written over them, from an offset on
abbrev over : List ℕ → ℕ → List ℕ → ℕ → List ℕ
over out offset xs behind = take offset out ++ xs ++ drop behind out

-- the frame is what the writes leave
built : (s : Setup) (o1 o2 o3 o4 o5 o6 o7 o8 o9 o10 : List ℕ) → o1 ≡ i32_bytes (pos 40) ++ replicate 36 0
    → o2 ≡ over (slice_set o1 5 s.flags) 6 (little_bytes 2 5) 8 → o3 ≡ over o2 8 (i32_bytes s.term_offset) 12 → o4 ≡ over o3 12 (i32_bytes s.session_id) 16
    → o5 ≡ over o4 16 (i32_bytes s.stream_id) 20 → o6 ≡ over o5 20 (i32_bytes s.initial_term_id) 24 → o7 ≡ over o6 24 (i32_bytes s.active_term_id) 28
    → o8 ≡ over o7 28 (i32_bytes s.term_length) 32 → o9 ≡ over o8 32 (i32_bytes s.mtu) 36 → o10 ≡ over o9 36 (i32_bytes s.ttl) 40 → o10 ≡ encoded_setup s
unfolding encoded_setup
built s o1 o2 o3 o4 o5 o6 o7 o8 o9 o10 e1 e2 e3 e4 e5 e6 e7 e8 e9 e10 = rw (e10, e9, e8, e7, e6, e5, e4, e3, e2, e1) refl

pub returns-clause-bytes : goal.returns-clause-bytes
returns-clause-bytes c =
    let offset_fits : FitsSigned w32 c.args.self.now.term_offset = search rules in
    let session_fits : FitsSigned w32 c.args.self.now.session_id = search rules in
    let stream_fits : FitsSigned w32 c.args.self.now.stream_id = search rules in
    let initial_fits : FitsSigned w32 c.args.self.now.initial_term_id = search rules in
    let active_fits : FitsSigned w32 c.args.self.now.active_term_id = search rules in
    let length_fits : FitsSigned w32 c.args.self.now.term_length = search rules in
    let mtu_fits : FitsSigned w32 c.args.self.now.mtu = search rules in
    let ttl_fits : FitsSigned w32 c.args.self.now.ttl = search rules in
    built
    c.args.self.now
    c.put_i32.new.out
    c.put_u16.new.out
    c.put_i32-2.new.out
    c.put_i32-3.new.out
    c.put_i32-4.new.out
    c.put_i32-5.new.out
    c.put_i32-6.new.out
    c.put_i32-7.new.out
    c.put_i32-8.new.out
    c.put_i32-9.new.out
    c.put_i32.ensures
    c.put_u16.ensures
    (simp to_z-of_z at c.put_i32-2.ensures)
    (simp to_z-of_z at c.put_i32-3.ensures)
    (simp to_z-of_z at c.put_i32-4.ensures)
    (simp to_z-of_z at c.put_i32-5.ensures)
    (simp to_z-of_z at c.put_i32-6.ensures)
    (simp to_z-of_z at c.put_i32-7.ensures)
    (simp to_z-of_z at c.put_i32-8.ensures)
    (simp to_z-of_z at c.put_i32-9.ensures)

pub returns-clause-read : goal.returns-clause-read
returns-clause-read c usable rest =
    rw (returns-clause-bytes c)
    (IsSetup-encoded_setup
    c.args.self.now
    rest
    (record {
      term_offset = search rules;
      session_id = search rules;
      stream_id = search rules;
      initial_term_id = search rules;
      active_term_id = search rules;
      term_length = search rules;
      mtu = search rules;
      ttl = search rules;
    })
    usable)
