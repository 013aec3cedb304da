-- What is read and passed of a file's known bytes, and what stands first in them.
use Rattle.std.proofs.Common.{◌≡◌, ◌≤◌, ◌+◌, ◌-◌, ◌∙◌, ℕ, List, [], ◌∷◌, ◌++◌, Option, Some, None, IfSome, arith, sym, ap, subst, refl, inl, inr, take, drop, length, append-nil, length-append, length-take, take-take, drop-drop, drop_at, take_all, drop_of_length-le, length-take-le, length-drop, take-add, le_refl}
use Rattle.std.proofs.lemmas.List.{take-append-le}
use Rattle.std.specs.Prelude.{min, unsigned_abs}
use Rattle.std.proofs.lemmas.Int.{ints}
use Rattle.std.proofs.lemmas.Slice.{take-put_mid_below}
use borrow.Rule.Slice.PartMut.{mid_len, post_of, put_mid, same_len_mid}
use Rattle.std.specs.Io.{StartsWith}
use Rattle.std.specs.Io.BufRead.{DropsConsumable}
use Rattle.std.proofs.BufReadLemmas.{Consumes_shown}
use Rattle.std.specs.Io.KnownBytes.{Consumes, IsAtEnd, Keeps}
use Rattle.std.proofs.KnownBytes.{Consumes-trans}
use Rattle.frame_core.specs.declared.frame.FrameKind.{FrameKind}
use Rattle.frame_core.specs.declared.frame.FrameKind.TheVariants.{Pad, Message, Heartbeat}
use Rattle.frame_core.specs.declared.frame.Frame.{Frame}
use Rattle.frame_core.specs.FrameEncoding.{aligned_length}
use Rattle.frame_core.specs.Header.{HasHeaderLength, StartsWithHeader}
use Rattle.frame_core.proofs.HeaderLemmas.{one_header}
use Rattle.archive_commands.specs.FrameLines.{EndsFrames, HasNoFrame, HasStored}
use Rattle.archive_commands.specs.Stored.{LosesFirst, LosesHeader, Passes, PassesFrame}

-- ---- how many bytes were passed

pub Passes-none : (a b : Option (List ℕ)) → Keeps a b → Passes a b 0
Passes-none a b kept = record { bytes = []; consumed = by a b kept; count = refl }
  where
    by : (a b : Option (List ℕ)) → Keeps a b → Consumes a b []
    by None b kept = tt
    by (Some xs) None kept = absurd kept
    by (Some xs) (Some ys) kept = sym kept

pub Passes-more : (a b c : Option (List ℕ)) (m n : ℕ) → Passes a b m → Passes b c n → Passes a c (m + n)
Passes-more a b c m n first then = record {
  bytes = first.bytes ++ then.bytes;
  consumed = Consumes-trans a b c first.bytes then.bytes first.consumed then.consumed;
  count = length-append first.bytes then.bytes ∙ ap (λ k. k + length then.bytes) first.count ∙ ap (λ k. m + k) then.count;
}

-- nothing was shown, and nothing is there
pub at_end : (a b : Option (List ℕ)) (shown : List ℕ) → IfSome a (λ xs. length shown ≡ 0 → xs ≡ []) → Keeps a b → length shown ≡ 0 → IsAtEnd a × Keeps a b
at_end None b shown none kept is = (tt, kept)
at_end (Some xs) b shown none kept is = (none is, kept)

-- what was shown first is passed
pub Passes-shown : (a b c : Option (List ℕ)) (limit : Option ℕ) (shown : List ℕ) (n : ℕ) → n ≤ length shown → IfSome a (λ xs. StartsWith xs shown) → IfSome a (λ xs. length shown ≡ 0 → xs ≡ [])
    → Keeps a b → IfSome a (λ _. IfSome limit (λ k. length shown ≤ k)) → DropsConsumable b c limit n → Passes a c n
Passes-shown a b c limit shown n within front all kept fits drops = record {
  bytes = take n shown;
  consumed = (Consumes_shown a b c limit shown n within front all kept fits drops).0;
  count = length-take-le n shown within;
}

pub filled_length : (at : ℕ) (out part : List ℕ) → at ≤ 32 → length out ≡ 32 → length part ≡ 32 - at → length (put_mid at (32 - at) out part) ≡ 32
filled_length at out part within whole room = same_len_mid at (32 - at) out part (room ∙ sym (mid_len at 32 out (omega (arith, whole)))) ∙ whole

-- all was passed that was to be passed
pub lost_all : (a b : Option (List ℕ)) (most n : ℕ) → n ≤ most → most ≤ n → Passes a b n → LosesFirst a b most n
lost_all None b most n within all passes = tt
lost_all (Some xs) None most n within all passes = absurd passes.consumed
lost_all (Some xs) (Some ys) most n within all passes =
    let sum : length xs ≡ n + length ys = ap length passes.consumed ∙ length-append passes.bytes ys ∙ ap (λ k. k + length ys) passes.count in
    let count : length passes.bytes ≡ most = (let is = passes.count in omega (arith, is, within, all)) in
    (omega (arith, sum, within, all), sym (ap (drop most) passes.consumed ∙ drop_at passes.bytes ys most count))

-- fewer were there
pub lost_fewer : (a b c : Option (List ℕ)) (most n : ℕ) → n ≤ most → Passes a b n → IsAtEnd b → Keeps b c → LosesFirst a c most n
lost_fewer None b c most n within passes end kept = tt
lost_fewer (Some xs) None c most n within passes end kept = absurd passes.consumed
lost_fewer (Some xs) (Some ys) None most n within passes end kept = absurd kept
lost_fewer (Some xs) (Some ys) (Some zs) most n within passes end kept =
    let all : xs ≡ passes.bytes = passes.consumed ∙ ap (λ l. passes.bytes ++ l) end ∙ append-nil passes.bytes in
    let count : length xs ≡ n = ap length all ∙ passes.count in
    (omega (arith, count, within), kept ∙ end ∙ sym (drop_of_length-le xs {i = most} (omega (arith, count, within))))

-- the same of a header, which was read
pub header_all : (a b : Option (List ℕ)) (n : ℕ) (out : List ℕ) → n ≤ 32 → 32 ≤ n → length out ≡ 32 → Consumes a b (take n out) → LosesHeader a b (take n out)
header_all None b n out within all whole consumed = tt
header_all (Some xs) None n out within all whole consumed = absurd consumed
header_all (Some xs) (Some ys) n out within all whole consumed =
    let count : length (take n out) ≡ 32 = length-take-le n out (omega (arith, within, whole)) ∙ omega (arith, within, all) in (
      sym (ap (take 32) consumed ∙ take-append-le 32 (take n out) ys (omega (arith, count)) ∙ take_all 32 (take n out) (omega (arith, count))),
      sym (ap (drop 32) consumed ∙ drop_at (take n out) ys 32 count),
    )

pub header_cut : (a b c : Option (List ℕ)) (n : ℕ) (out : List ℕ) → n ≤ 32 → length out ≡ 32 → Consumes a b (take n out) → IsAtEnd b → Keeps b c → LosesHeader a c (take n out)
header_cut None b c n out within whole consumed end kept = tt
header_cut (Some xs) None c n out within whole consumed end kept = absurd consumed
header_cut (Some xs) (Some ys) None n out within whole consumed end kept = absurd kept
header_cut (Some xs) (Some ys) (Some zs) n out within whole consumed end kept =
    let all : xs ≡ take n out = consumed ∙ ap (λ l. take n out ++ l) end ∙ append-nil (take n out) in
    let few : length xs ≤ 32 = (let count : length xs ≡ n = ap length all ∙ length-take-le n out (omega (arith, within, whole)) in omega (arith, count, within)) in
    (sym (take_all 32 xs few ∙ all), kept ∙ end ∙ sym (drop_of_length-le xs {i = 32} few))

-- what was read behind the first bytes of an array
pub filled_more : (a b c : Option (List ℕ)) (at n : ℕ) (out part : List ℕ) → at ≤ 32 → length out ≡ 32 → n ≤ length part → Consumes a b (take at out) → Consumes b c (take n part)
    → Consumes a c (take (at + n) (put_mid at (32 - at) out part))
filled_more a b c at n out part within whole room first then =
    let all = put_mid at (32 - at) out part in
    let before : take at all ≡ take at out = take-put_mid_below _ _ _ _ _ (le_refl _) (omega (arith, within, whole)) in
    let behind : take n (drop at all) ≡ take n part =
    ap (take n) (drop_at (take at out) (part ++ post_of at (32 - at) out) at (length-take-le at out (omega (arith, within, whole)))) ∙ take-append-le n part (post_of at (32 - at) out) room in
    subst (Consumes a c) (ap (λ l. l ++ take n part) (sym before) ∙ ap (λ l. take at all ++ l) (sym behind) ∙ sym (take-add at n all)) (Consumes-trans a b c _ _ first then)

-- ---- what the first 32 bytes report

starts_as : (xs ys : List ℕ) (header : Frame) → take 32 xs ≡ take 32 ys → StartsWithHeader xs header → StartsWithHeader ys header
starts_as xs ys header same starts = record {
  whole =
      let room = starts.whole in
      let lengths : min 32 (length xs) ≡ min 32 (length ys) = sym (length-take 32 xs) ∙ ap length same ∙ length-take 32 ys in
      omega (arith, room, lengths);
  stands = sym same ∙ starts.stands;
  fits = starts.fits;
  length = starts.length;
  offset = starts.offset;
  no_payload = starts.no_payload;
}

none_left : (xs ys : List ℕ) → take 32 xs ≡ take 32 ys → xs ≡ [] → ys ≡ []
none_left xs [] same none = refl
none_left xs (y ∷ ys) same none = absurd (omega (arith, ap length (ap (take 32) (sym none) ∙ same)))

ends_as : (xs ys : List ℕ) → take 32 xs ≡ take 32 ys → EndsFrames xs → EndsFrames ys
ends_as xs ys same (inl none) = inl (none_left xs ys same none)
ends_as xs ys same (inr zeros) =
    inr (sym (take-take 4 32 ys (omega arith)) ∙ ap (take 4) (sym same) ∙ take-take 4 32 xs (omega arith) ∙ zeros)

-- a header has as many first bytes as the file
same_first : (xs header : List ℕ) → header ≡ take 32 xs → take 32 header ≡ take 32 xs
same_first xs header is = ap (take 32) is ∙ take-take 32 32 xs (le_refl _)

pub ends_there : (a b : Option (List ℕ)) (header : List ℕ) → LosesHeader a b header → EndsFrames header → IfSome a EndsFrames
ends_there None b header loses ends = tt
ends_there (Some xs) None header loses ends = absurd loses
ends_there (Some xs) (Some ys) header loses ends = ends_as header xs (same_first xs header loses.0) ends

pub no_header : (a b : Option (List ℕ)) (header : List ℕ) → LosesHeader a b header → (EndsFrames header → ⊥) → ((f : Frame) → StartsWithHeader header f → ⊥) → IfSome a HasNoFrame
no_header None b header loses more none = tt
no_header (Some xs) None header loses more none = absurd loses
no_header (Some xs) (Some ys) header loses more none =
    let same = sym (same_first xs header loses.0) in
    record {
      more = λ ends. more (ends_as xs header same ends);
      no_frame = λ f stands. none f (starts_as xs header f same stands.begins);
    }

-- ---- what stands behind a header

-- a frame's aligned length is no less than its length
covers : (f : Frame) → unsigned_abs f.length ≤ aligned_length f
covers f = omega arith

module _ (f : Frame) where
  -- among more bytes it is stored too
  stored_more : (kind : FrameKind) (count more : ℕ) → count ≤ more → HasStored kind (unsigned_abs f.length) count → HasStored kind (unsigned_abs f.length) more
  stored_more Pad count more within stored = tt
  stored_more Message count more within stored = omega (arith, within, stored)
  stored_more Heartbeat count more within stored = absurd stored

  -- and among those that lie in its range
  stored_less : (kind : FrameKind) (count : ℕ) → HasStored kind (unsigned_abs f.length) (32 + count) → HasStored kind (unsigned_abs f.length) (32 + min (aligned_length f - 32) count)
  stored_less Pad count stored = tt
  stored_less Message count stored = let size = covers f in omega (arith, size, stored)
  stored_less Heartbeat count stored = absurd stored

  long : (kind : FrameKind) (count : ℕ) → HasHeaderLength kind f.length → HasStored kind (unsigned_abs f.length) count → 32 ≤ aligned_length f
  long Pad count size stored = let rounded = covers f in omega (arith, ints, size, rounded)
  long Message count size stored = let rounded = covers f in omega (arith, ints, size, rounded)
  long Heartbeat count size stored = absurd stored

-- the bytes of a file, a header and what is behind it
behind_header : (xs ys header : List ℕ) (f : Frame) → header ≡ take 32 xs → ys ≡ drop 32 xs → StartsWithHeader header f → length xs ≡ 32 + length ys
behind_header xs ys header f first rest starts =
    let room : 32 ≤ min 32 (length xs) = (let count : length header ≡ min 32 (length xs) = ap length first ∙ length-take 32 xs in let whole = starts.whole in omega (arith, count, whole)) in
    let behind : length ys ≡ length xs - 32 = ap length rest ∙ length-drop 32 xs in
    omega (arith, room, behind)

-- the frame stands first, and what is there of its aligned length was passed
pub frame_passed : (a b c : Option (List ℕ)) (header : List ℕ) (f : Frame) (n : ℕ) → LosesHeader a b header → StartsWithHeader header f → LosesFirst b c (aligned_length f - 32) n
    → HasStored f.kind (unsigned_abs f.length) (32 + n) → PassesFrame a c f
frame_passed None b c header f n loses starts passes stored = tt
frame_passed (Some xs) None c header f n loses starts passes stored = absurd loses
frame_passed (Some xs) (Some ys) None header f n loses starts passes stored = absurd passes
frame_passed (Some xs) (Some ys) (Some zs) header f n loses starts passes stored =
    let count = behind_header xs ys header f loses.0 loses.1 starts in
    let some = passes.0 in
    let size = long f f.kind (32 + n) starts.length stored in
    let sum : 32 + (aligned_length f - 32) ≡ aligned_length f = omega (arith, size) in (
      record { begins = starts_as header xs f (same_first xs header loses.0) starts; whole = stored_more f f.kind (32 + n) (length xs) (omega (arith, count, some)) stored },
      passes.1 ∙ ap (drop (aligned_length f - 32)) loses.1 ∙ drop-drop (aligned_length f - 32) 32 xs ∙ ap (λ k. drop k xs) sum,
    )

-- no frame stands first: the one with this header is cut off, and there is no other
pub cut_off : (a b c : Option (List ℕ)) (header : List ℕ) (f : Frame) (n : ℕ) → LosesHeader a b header → (EndsFrames header → ⊥) → StartsWithHeader header f → LosesFirst b c (aligned_length f - 32) n
    → (HasStored f.kind (unsigned_abs f.length) (32 + n) → ⊥) → IfSome a HasNoFrame
cut_off None b c header f n loses more starts passes none = tt
cut_off (Some xs) None c header f n loses more starts passes none = absurd loses
cut_off (Some xs) (Some ys) None header f n loses more starts passes none = absurd passes
cut_off (Some xs) (Some ys) (Some zs) header f n loses more starts passes none =
    let first = same_first xs header loses.0 in
    let count = behind_header xs ys header f loses.0 loses.1 starts in
    record {
      more = λ ends. more (ends_as xs header (sym first) ends);
      no_frame = λ g stands.
          let same : g ≡ f = one_header xs g f stands.begins (starts_as header xs f first starts) in
          let whole : HasStored f.kind (unsigned_abs f.length) (length xs) = subst (λ (h : Frame). HasStored h.kind (unsigned_abs h.length) (length xs)) same stands.whole in
          let near : HasStored f.kind (unsigned_abs f.length) (32 + length ys) = subst (HasStored f.kind (unsigned_abs f.length)) count whole in
          none (subst (λ k. HasStored f.kind (unsigned_abs f.length) (32 + k)) (sym passes.0) (stored_less f f.kind (length ys) near));
    }
