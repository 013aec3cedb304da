use Rattle.std.proofs.Common.{rules, ◌≡◌, ◌∙◌, ap, sym, refl, ◌+◌, ◌++◌, ℕ, List, [], ◌∷◌, length, arith}
use Rattle.std.specs.Prelude.{◌-◌, OnOk, Result, Ok, Err}
use Rattle.archive_export.specs.declared.capture.destination.Destination.{Destination}
use Rattle.archive_export.specs.Packet.{checksum_of, in_network_order, ipv4_header, ipv4_words, udp_header}
use Rattle.archive_export.proofs.capture.packet.append_headers.Goals as goal

header_is : (d : Destination) (total checksum : ℕ) (blank words : List ℕ) → blank ≡ ipv4_words d total 0 → checksum ≡ checksum_of blank
    → words ≡ ipv4_words d total checksum → in_network_order words ≡ ipv4_header d total
unfolding ipv4_header
header_is d total checksum blank words is sum filled = rw (filled, sum, is) refl

joined : (start mid end ipv4 udp : List ℕ) → mid ≡ start ++ ipv4 → end ≡ mid ++ udp → end ≡ start ++ ipv4 ++ udp
joined start mid end ipv4 udp first then = then ∙ ap (λ (bytes : List ℕ). bytes ++ udp) first

on_ok : {T E : Type 0} (r : Result T E) {P Q : Type 0} → (P → Q) → OnOk r P → OnOk r Q
on_ok (Ok v) f holds = f holds
on_ok (Err e) f holds = tt

pub returns-clause-written : goal.returns-clause-written
unfolding udp_header
returns-clause-written c =
    let d = c.args.destination.now in
    let header = header_is d c.args.total c.checksum_of-checksum.result c.ipv4_words.result c.ipv4_words-2.result c.ipv4_words.ensures c.checksum_of-checksum.ensures c.ipv4_words-2.ensures in
    on_ok c.append_words-2.result (λ wrote. joined _ _ _ (ipv4_header d c.args.total) (udp_header d (c.args.total - 20)) (c.in_ok-append_words.ensures ∙ ap (λ (bytes : List ℕ). c.args.bytes.now.items ++ bytes) header) wrote) c.append_words-2.ensures

length-in_network_order : (words : List ℕ) → length (in_network_order words) ≡ length words + length words
length-in_network_order [] = refl
length-in_network_order (w ∷ words) = omega (arith, length-in_network_order words)

pub returns-clause-size : goal.returns-clause-size
returns-clause-size c =
    let d = c.args.destination.now in
    let words = c.ipv4_words-2.result in
    let header = header_is d c.args.total c.checksum_of-checksum.result c.ipv4_words.result words c.ipv4_words.ensures c.checksum_of-checksum.ensures c.ipv4_words-2.ensures in
    let ten : length words ≡ 10 = search rules in
    let size : length (in_network_order words) ≡ 20 = omega (arith, length-in_network_order words, ten) in
    on_ok c.append_words-2.result (λ wrote. ap length (sym header) ∙ size) c.append_words-2.ensures
