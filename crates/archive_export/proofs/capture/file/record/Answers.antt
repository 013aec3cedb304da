use Rattle.std.proofs.Common.{rules, ◌≡◌, ◌∙◌, ap, refl, ◌++◌, ◌+◌, ◌-◌, ℕ, List, length, replicate, append_assoc, length-append, arith}
use Rattle.std.proofs.lemmas.List.{length-replicate, take-replicate}
use Rattle.frame_core.specs.declared.frame.Frame.{Frame}
use Rattle.frame_core.specs.FrameEncoding.{encoded, header_of}
use Rattle.archive_export.specs.declared.capture.destination.Destination.{Destination}
use Rattle.archive_export.specs.CaptureFile.{packet_record_of, u32_bytes}
use Rattle.archive_export.specs.Packet.{datagram_of, ipv4_header, packet_of, udp_header, zeros_behind}
use Rattle.archive_export.proofs.capture.file.record.Goals as goal

length-udp_header : (d : Destination) (size : ℕ) → length (udp_header d size) ≡ 8
unfolding udp_header
length-udp_header d size = refl

length-packet_of : (d : Destination) (bytes : List ℕ) → length (ipv4_header d (28 + length bytes)) ≡ 20 → length (packet_of d bytes) ≡ 28 + length bytes
length-packet_of d bytes twenty =
    let ipv4 = ipv4_header d (28 + length bytes) in
    let udp = udp_header d (8 + length bytes) in
    omega (arith, length-append (ipv4 ++ udp) bytes, length-append ipv4 udp, twenty, length-udp_header d (8 + length bytes))

regrouped : (a b c d e z : List ℕ) → a ++ b ++ c ++ d ++ e ++ z ≡ a ++ ((b ++ c) ++ ((d ++ e) ++ z))
regrouped a b c d e z = simp append_assoc refl

-- the record is what is written, one part behind another
built : (d : Destination) (f : Frame) (total fill : ℕ) (o1 o2 o3 o4 o5 : List ℕ) → length (ipv4_header d total) ≡ 20 → fill ≡ zeros_behind f.kind (length (encoded f)) → total ≡ 28 + length (datagram_of f)
    → o1 ≡ u32_bytes 0 ++ u32_bytes 0 ++ u32_bytes total ++ u32_bytes total → o2 ≡ o1 ++ ipv4_header d total ++ udp_header d (total - 20) → o3 ≡ o2 ++ header_of f → o4 ≡ o3 ++ f.payload
    → o5 ≡ o4 ++ replicate fill 0 → o5 ≡ packet_record_of d f
built d f total fill o1 o2 o3 o4 o5 twenty fill_is total_is e1 e2 e3 e4 e5 =
    let size : total - 20 ≡ 8 + length (datagram_of f) = omega (arith, total_is) in
    let ipv4 : length (ipv4_header d (28 + length (datagram_of f))) ≡ 20 = rw total_is at twenty in
    let packet : length (packet_of d (datagram_of f)) ≡ 28 + length (datagram_of f) = length-packet_of d (datagram_of f) ipv4 in
    let all : o5 ≡ o1 ++ ipv4_header d total ++ udp_header d (total - 20) ++ header_of f ++ f.payload ++ replicate fill 0 = rw (e5, e4, e3, e2) refl in
    all ∙ regrouped o1 (ipv4_header d total) (udp_header d (total - 20)) (header_of f) f.payload (replicate fill 0) ∙ rw (e1, size, total_is, fill_is, packet) refl

pub returns : goal.returns
returns c =
    let f = c.args.frame.now in
    let fill = c.zeros_behind-zeros.result in
    let fill_is = c.zeros_behind-zeros.ensures.value in
    let behind : length (datagram_of f) ≡ length (encoded f) + fill = length-append (encoded f) (replicate (zeros_behind f.kind (length (encoded f))) 0) ∙ omega (arith, length-replicate {A = ℕ} (zeros_behind f.kind (length (encoded f))) 0, fill_is) in
    let total = 28 + c.encoded_length.result + fill in
    let total_is : total ≡ 28 + length (datagram_of f) = omega (arith, behind, c.encoded_length.ensures) in
    let lengths : c.append_lengths.new.bytes.items ≡ u32_bytes 0 ++ u32_bytes 0 ++ u32_bytes total ++ u32_bytes total = search rules in
    built c.args.destination.now f total fill c.append_lengths.new.bytes.items c.append_headers.new.bytes.items c.extend_from_slice.new.self.items c.extend_from_slice-2.new.self.items c.extend_from_slice-3.new.self.items c.in_ok-append_headers.ensures.size fill_is total_is lengths (search rules) (search rules) (search rules)
    (c.in_ok-extend_from_slice-3.ensures.items ∙ ap (λ (bytes : List ℕ). c.extend_from_slice-2.new.self.items ++ bytes) (take-replicate fill 32 0 (omega (arith, c.zeros_behind-zeros.ensures.few))))
