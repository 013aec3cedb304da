-- Which texts the lines about sendings are.
use Rattle.std.proofs.Common.{◌≡◌, ◌≢◌, ℕ, ◌^◌, ◌<◌, ◌==◌, suc, ℤ, pos, negsuc, List, [], ◌∷◌, ◌++◌, length, codes, get_or, slice_index, Option, Result, Ok, FitsSigned, Bor, w32, w64, refl, sym, ◌∙◌, ap, subst, arith, rules, tests, ne_eqb}
use Rattle.std.specs.List.{All, position_or_len, after_first}
use Rattle.std.specs.Str.{IsAscii, IsUtf8}
use Rattle.std.specs.Str.Parse.{AllDigits, ParsesSigned}
use Rattle.std.specs.Fmt.{decimal, signed_decimal}
use Rattle.std.specs.Int.{IsInRange, to_be_bytes}
use Rattle.std.specs.Int.Signed.{mag}
use Rattle.std.proofs.lemmas.Fmt.{decimal_is_IsNumeral, parse-signed_decimal, IsAscii-decimal}
use Rattle.std.proofs.lemmas.Str.{IsAscii-append, IsUtf8-from_ascii}
use Rattle.std.proofs.lemmas.Str.Ascii.{IsAscii-cons, IsAscii-from_all, IsAscii-nil}
use Rattle.itoa.proofs.Decimal.{IsAscii-signed_decimal}
use Rattle.std.proofs.lemmas.Str.Parse.{digit_at}
use Rattle.std.proofs.lemmas.Str.Pattern.{IsSplitOnceResult, split_after}
use Rattle.std.proofs.lemmas.Nat.{from_be_bytes-to_be_bytes_4}
use Rattle.std.proofs.NetLemmas.Theorems.{parse-socket_v4_text}
use Rattle.std.specs.Net.Addr.{ipv4_bits}
use Rattle.std.specs.Net.Socket.{IsSocketAddrV4, v4_ip, v4_port}
use Rattle.std.specs.Net.Text.{socket_v4_text}
use Rattle.std.specs.Net.Grammar.{IsSocketV4Text, Parses}
use Rattle.std.specs.declared.net.socket_addr.SocketAddrV4.{SocketAddrV4}
use Rattle.std.specs.Option.{MatchOption}
use Rattle.std.proofs.lemmas.List.Elements.{All-head, All-tail, All-cons, All-get_or, All-from_get_or}
use Rattle.std.proofs.Math.Seq.{drop-append-add}
use Rattle.server_sender.specs.declared.endpoint.Endpoint.{Endpoint}
use Rattle.server_sender.specs.declared.line.SendFields.{SendFields}
use Rattle.server_sender.specs.declared.line.SendLine.{SendLine}
use Rattle.server_sender.specs.declared.line.SendLine.TheVariants.{Send, Stop}
use Rattle.server_sender.specs.Lines.{AreFields, IsEndpoint, IsLine, fields_text, sends_line_text}
use Rattle.server_sender.specs.Endpoints.{IsSocketOf}
use Rattle.server_sender.specs.Texts.{endpoint_text}

-- ---- words

-- no blank is in it
abbrev pub HasNoBlank : List ℕ → Type 0
HasNoBlank word = All (λ b. b ≢ 32) word

no_blank : (b : ℕ) → IsInRange 48 57 b → b ≢ 32
no_blank b range e = absurd (omega (arith, range.0, range.1))

HasNoBlank-digits : (ds : List ℕ) → AllDigits 10 ds → HasNoBlank ds
HasNoBlank-digits ds h = All-from_get_or (λ b. b ≢ 32) ds 0 (λ i lt. no_blank (get_or ds i 0) (digit_at ds i h lt))

HasNoBlank-number : (z : ℤ) → FitsSigned w64 z → HasNoBlank (signed_decimal z)
HasNoBlank-number (pos n) fit =
    let text = decimal_is_IsNumeral n (omega (arith, fit.sfits)) in HasNoBlank-digits (decimal n) text.0.1
HasNoBlank-number (negsuc n) fit =
    let text = decimal_is_IsNumeral (suc n) (omega (arith, fit.sfits)) in
    All-cons (λ b. b ≢ 32) 45 (decimal (suc n)) (λ e. absurd (omega (arith, e))) (HasNoBlank-digits (decimal (suc n)) text.0.1)

position_of_blank : (word rest : List ℕ) → HasNoBlank word → position_or_len (λ b. b == 32) (word ++ 32 ∷ rest) ≡ length word
position_of_blank [] rest h = refl
position_of_blank (b ∷ word) rest h =
    let other = ne_eqb b 32 (All-head (λ x. x ≢ 32) b word h) in
    let more = position_of_blank word rest (All-tail (λ x. x ≢ 32) b word h) in
    rw (other, more) (omega arith)

-- what stands behind a number and a blank
behind_number : (z : ℤ) (rest : List ℕ) → FitsSigned w64 z → after_first (λ b. b == 32) (signed_decimal z ++ 32 ∷ rest) ≡ rest
behind_number z rest fit = rw (position_of_blank (signed_decimal z) rest (HasNoBlank-number z fit)) (drop-append-add (signed_decimal z) (32 ∷ rest) 1)

pub same_behind : (y z : ℤ) (xs ys : List ℕ) → FitsSigned w64 y → FitsSigned w64 z → signed_decimal y ++ 32 ∷ xs ≡ signed_decimal z ++ 32 ∷ ys → xs ≡ ys
same_behind y z xs ys fit fits e = sym (behind_number y xs fit) ∙ ap (after_first (λ b. b == 32)) e ∙ behind_number z ys fits

-- a text that begins with a number and a blank is cut behind that
pub cut_at_blank : (text : List ℕ) (r : Option (Bor (List ℕ) × Bor (List ℕ))) → IsSplitOnceResult 32 text r → (z : ℤ) (rest : List ℕ) → FitsSigned w64 z
    → text ≡ signed_decimal z ++ 32 ∷ rest → MatchOption r ⊥ (λ x. (x.0.now ≡ signed_decimal z) × (x.1.now ≡ rest))
cut_at_blank text r h z rest fit e = split_after 32 text (signed_decimal z) rest r h (omega arith) e (λ i lt. All-get_or (λ b. b ≢ 32) (signed_decimal z) i 0 lt (HasNoBlank-number z fit))

-- ---- numbers

mag_below : (z : ℤ) → FitsSigned w64 z → mag z < 2 ^ 63
mag_below (pos n) fit = omega (arith, fit.sfits)
mag_below (negsuc n) fit = omega (arith, fit.sfits)

-- a number's text is parsed as that number
pub parses_as : {E : Type 0} (r : Result ℤ E) (word : List ℕ) (z : ℤ) → FitsSigned w64 z → word ≡ signed_decimal z → ParsesSigned w64 10 word r → r ≡ Ok z
parses_as r word z fit e h = parse-signed_decimal w64 z word r fit (mag_below z fit) e h

-- ---- endpoints

-- the socket address of an endpoint
abbrev pub socket_of : Endpoint → SocketAddrV4
socket_of e = record { ip = record { octets = to_be_bytes w32 e.address }; port = e.port }

is_text_of : (e : Endpoint) → socket_v4_text (socket_of e) ≡ endpoint_text e
unfolding endpoint_text
is_text_of e = refl

is_address : (e : Endpoint) → IsEndpoint e → IsSocketAddrV4 (socket_of e)
is_address e fit = search rules

pub endpoint_parses : {E : Type 0} (r : Result SocketAddrV4 E) (word : List ℕ) (e : Endpoint) → IsEndpoint e → word ≡ endpoint_text e → Parses IsSocketV4Text word r → r ≡ Ok (socket_of e)
endpoint_parses r word e fit is h = parse-socket_v4_text (socket_of e) r (is_address e fit) (subst (λ t. Parses IsSocketV4Text t r) (is ∙ sym (is_text_of e)) h)

pub same_endpoint : (a : SocketAddrV4) (e f : Endpoint) → IsEndpoint e → a ≡ socket_of e → IsSocketOf a f → f ≡ e
unfolding ipv4_bits
same_endpoint a e f fit is of =
    let address : f.address ≡ e.address = of.address ∙ ap (λ s. ipv4_bits (v4_ip s)) is ∙ from_be_bytes-to_be_bytes_4 e.address fit.address in
    let port : f.port ≡ e.port = of.port ∙ ap v4_port is in
    λ i. record { address = address i; port = port i }

-- ---- fields

-- what stands behind each number of fields
pub behind_recording : (text rest : List ℕ) (y : ℤ) (f : SendFields) → FitsSigned w64 y → AreFields f → text ≡ signed_decimal y ++ 32 ∷ rest → text ≡ fields_text f
    → rest ≡ signed_decimal f.position ++ 32 ∷ (signed_decimal f.length ++ 32 ∷ endpoint_text f.endpoint)
behind_recording text rest y f fit fits is e = same_behind y f.recording rest _ fit fits.recording (sym is ∙ e)

pub behind_position : (rest more : List ℕ) (y : ℤ) (f : SendFields) → FitsSigned w64 y → AreFields f → rest ≡ signed_decimal y ++ 32 ∷ more
    → rest ≡ signed_decimal f.position ++ 32 ∷ (signed_decimal f.length ++ 32 ∷ endpoint_text f.endpoint) → more ≡ signed_decimal f.length ++ 32 ∷ endpoint_text f.endpoint
behind_position rest more y f fit fits is e = same_behind y f.position more _ fit fits.position (sym is ∙ e)

pub behind_length : (more last : List ℕ) (y : ℤ) (f : SendFields) → FitsSigned w64 y → AreFields f → more ≡ signed_decimal y ++ 32 ∷ last
    → more ≡ signed_decimal f.length ++ 32 ∷ endpoint_text f.endpoint → last ≡ endpoint_text f.endpoint
behind_length more last y f fit fits is e = same_behind y f.length last _ fit fits.length (sym is ∙ e)

-- ---- lines

-- a text that begins with neither word is no line
pub begins_no_line : (text : List ℕ) → ((rest : List ℕ) → text ≢ codes "send " ++ rest) → ((rest : List ℕ) → text ≢ codes "stop-sending " ++ rest)
    → (x : SendLine) → IsLine x → ¬ (text ≡ sends_line_text x)
begins_no_line text send stop (Send f) fit e = send (fields_text f) e
begins_no_line text send stop (Stop n) fit e = stop (signed_decimal n) e

-- ---- bytes

IsAscii-blank : (rest : List ℕ) → IsAscii rest → IsAscii (32 ∷ rest)
IsAscii-blank rest h = IsAscii-cons 32 rest (omega arith) h

IsAscii-number : (z : ℤ) (rest : List ℕ) → FitsSigned w64 z → IsAscii rest → IsAscii (signed_decimal z ++ 32 ∷ rest)
IsAscii-number z rest fit h = IsAscii-append (signed_decimal z) (32 ∷ rest) (IsAscii-signed_decimal z fit) (IsAscii-blank rest h)

-- a decimal behind a mark
IsAscii-more : (text : List ℕ) (mark n : ℕ) → mark < 128 → n < 2 ^ 64 → IsAscii text → IsAscii (text ++ mark ∷ [] ++ decimal n)
IsAscii-more text mark n low small h = IsAscii-append (text ++ mark ∷ []) (decimal n) (IsAscii-append text (mark ∷ []) h (IsAscii-cons mark [] low IsAscii-nil)) (IsAscii-decimal n small)

IsAscii-endpoint : (e : Endpoint) → IsEndpoint e → IsAscii (endpoint_text e)
unfolding endpoint_text
IsAscii-endpoint e fit =
    let bytes = to_be_bytes w32 e.address in
    let at : (k : ℕ) → slice_index bytes k < 256 = (is_address e fit).0.1 in
    let first = IsAscii-decimal (slice_index bytes 0) (omega (arith, at 0)) in
    let second = IsAscii-more _ 46 (slice_index bytes 1) (omega arith) (omega (arith, at 1)) first in
    let third = IsAscii-more _ 46 (slice_index bytes 2) (omega arith) (omega (arith, at 2)) second in
    let fourth = IsAscii-more _ 46 (slice_index bytes 3) (omega arith) (omega (arith, at 3)) third in
    IsAscii-more _ 58 e.port (omega arith) (omega (arith, fit.port)) fourth

IsAscii-fields : (f : SendFields) → AreFields f → IsAscii (fields_text f)
IsAscii-fields f fit =
    IsAscii-number f.recording _ fit.recording (IsAscii-number f.position _ fit.position (IsAscii-number f.length _ fit.length (IsAscii-endpoint f.endpoint fit.endpoint)))

IsAscii-line : (x : SendLine) → IsLine x → IsAscii (sends_line_text x)
IsAscii-line (Send f) fit = IsAscii-append (codes "send ") (fields_text f) (IsAscii-from_all (codes "send ") (search (rules, tests))) (IsAscii-fields f fit)
IsAscii-line (Stop n) fit = IsAscii-append (codes "stop-sending ") (signed_decimal n) (IsAscii-from_all (codes "stop-sending ") (search (rules, tests))) (IsAscii-signed_decimal n fit)

-- what is not UTF-8 is no line
pub is_no_line : (text : List ℕ) → ¬ (IsUtf8 text) → (x : SendLine) → IsLine x → ¬ (text ≡ sends_line_text x)
is_no_line text bad x fit e = bad (subst IsUtf8 (sym e) (IsUtf8-from_ascii (sends_line_text x) (IsAscii-line x fit)))
