use Rattle.std.proofs.Common.{rules, ◌≡◌, refl, ◌++◌, ℕ, List, take, drop, pos, FitsSigned, w32}
use Rattle.std.specs.Prelude.{replicate}
use Rattle.std.proofs.lemmas.Int.{to_z-of_z}
use Rattle.byteorder.specs.Endian.{little_bytes}
use Rattle.frame_core.specs.declared.nak.Nak.{Nak}
use Rattle.frame_core.specs.FrameEncoding.{i32_bytes}
use Rattle.frame_core.specs.Nak.{encoded_nak}
use Rattle.frame_core.proofs.NakLemmas.{IsNak-encoded_nak}
use Rattle.frame_core.proofs.nak.Nak.encode.Goals as goal

-- bytes with others written over them, from an offset on
abbrev over : List ℕ → ℕ → List ℕ → ℕ → List ℕ
over out offset xs behind = take offset out ++ xs ++ drop behind out

-- the frame is what the writes leave
built : (n : Nak) (o1 o2 o3 o4 o5 o6 o7 : List ℕ) → o1 ≡ i32_bytes (pos 28) ++ replicate 24 0 → o2 ≡ over o1 6 (little_bytes 2 2) 8
    → o3 ≡ over o2 8 (i32_bytes n.session_id) 12 → o4 ≡ over o3 12 (i32_bytes n.stream_id) 16 → o5 ≡ over o4 16 (i32_bytes n.term_id) 20
    → o6 ≡ over o5 20 (i32_bytes n.term_offset) 24 → o7 ≡ over o6 24 (i32_bytes n.length) 28 → o7 ≡ encoded_nak n
unfolding encoded_nak
built n o1 o2 o3 o4 o5 o6 o7 e1 e2 e3 e4 e5 e6 e7 = rw (e7, e6, e5, e4, e3, e2, e1) refl

pub returns-clause-bytes : goal.returns-clause-bytes
returns-clause-bytes c =
    let session_fits : FitsSigned w32 c.args.self.now.session_id = search rules in
    let stream_fits : FitsSigned w32 c.args.self.now.stream_id = search rules in
    let term_fits : FitsSigned w32 c.args.self.now.term_id = search rules in
    let offset_fits : FitsSigned w32 c.args.self.now.term_offset = search rules in
    let length_fits : FitsSigned w32 c.args.self.now.length = search rules in
    built
    c.args.self.now
    c.put_i32.new.out
    c.put_u16.new.out
    c.put_i32-2.new.out
    c.put_i32-3.new.out
    c.put_i32-4.new.out
    c.put_i32-5.new.out
    c.put_i32-6.new.out
    c.put_i32.ensures
    c.put_u16.ensures
    (simp to_z-of_z at c.put_i32-2.ensures)
    (simp to_z-of_z at c.put_i32-3.ensures)
    (simp to_z-of_z at c.put_i32-4.ensures)
    (simp to_z-of_z at c.put_i32-5.ensures)
    (simp to_z-of_z at c.put_i32-6.ensures)

pub returns-clause-read : goal.returns-clause-read
returns-clause-read c range rest =
    rw (returns-clause-bytes c)
    (IsNak-encoded_nak
    c.args.self.now
    rest
    (record { session_id = search rules; stream_id = search rules; term_id = search rules; term_offset = search rules; length = search rules })
    range)
