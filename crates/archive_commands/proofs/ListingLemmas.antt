-- The bytes of a file alone determine its listing.
use Rattle.std.proofs.Common.{◌≡◌, ◌⊎◌, ◌∙◌, ℕ, List, [], ◌∷◌, ◌++◌, arith, sym, ap, subst, refl, inl, inr, length, take, drop, replicate}
use Rattle.std.proofs.lemmas.Int.{ints}
use Rattle.std.specs.Prelude.{flat_map, pos, unsigned_abs}
use Rattle.frame_core.specs.declared.frame.FrameKind.{FrameKind}
use Rattle.frame_core.specs.declared.frame.FrameKind.TheVariants.{Pad, Message, Heartbeat}
use Rattle.frame_core.specs.declared.frame.Frame.{Frame}
use Rattle.frame_core.specs.declared.refusal.Refusal.TheVariants.{BadFrame}
use Rattle.frame_core.specs.Block.{covered}
use Rattle.frame_core.specs.FrameEncoding.{aligned_length, i32_at}
use Rattle.frame_core.specs.Header.{HasHeaderLength}
use Rattle.frame_core.proofs.HeaderLemmas.{header_fields, one_header}
use Rattle.control_lines.specs.RefusalText.{refusal_text}
use Rattle.archive_commands.specs.declared.frames.Listing.{Listing}
use Rattle.archive_commands.specs.declared.frames.Listing.TheVariants.{Whole, Damaged}
use Rattle.archive_commands.specs.FrameLines.{EndsFrames, HasFrames, HasNoFrame, HasStored, IsListing, StandsFirst, end_text, frame_text}

-- four zero bytes are the length 0
no_length : (bytes : List ℕ) → take 4 bytes ≡ replicate 4 0 → i32_at bytes 0 ≡ pos 0
unfolding i32_at
no_length [] zeros = cc
no_length (a ∷ []) zeros = cc
no_length (a ∷ b ∷ []) zeros = cc
no_length (a ∷ b ∷ c ∷ []) zeros = cc
no_length (a ∷ b ∷ c ∷ d ∷ bytes) zeros = cc

-- a frame of no length is not stored
not_stored : (kind : FrameKind) (count : ℕ) → HasHeaderLength kind (pos 0) → HasStored kind 0 count → ⊥
not_stored Pad count long stored = omega (arith, ints, long)
not_stored Message count long stored = omega (arith, ints, long)
not_stored Heartbeat count long stored = stored

-- the frames do not end where one stands
not_both : (bytes : List ℕ) (header : Frame) → EndsFrames bytes → StandsFirst bytes header → ⊥
not_both bytes header (inl none) stands = let room = stands.begins.whole in omega (arith, room, ap length none)
not_both bytes header (inr zeros) stands =
    let none : header.length ≡ pos 0 = sym (header_fields bytes header stands.begins).length_at ∙ no_length bytes zeros in
    not_stored header.kind (length bytes) (subst (HasHeaderLength header.kind) none stands.begins.length)
    (subst (λ z. HasStored header.kind (unsigned_abs z) (length bytes)) none stands.whole)

-- no further frame stands there
abbrev Stops : List ℕ → Type 0
Stops bytes = EndsFrames bytes ⊎ HasNoFrame bytes

not_stopped : (bytes : List ℕ) (header : Frame) → Stops bytes → StandsFirst bytes header → ⊥
not_stopped bytes header (inl ends) stands = not_both bytes header ends stands
not_stopped bytes header (inr bad) stands = bad.no_frame header stands

-- the frames up to the first offset at which none stands, and what is behind them
one_list : (bytes : List ℕ) (hs gs : List Frame) (rest other : List ℕ) → HasFrames bytes hs rest → Stops rest → HasFrames bytes gs other → Stops other → (hs ≡ gs) × (rest ≡ other)
one_list bytes [] [] rest other here stop there also = (refl, here ∙ sym there)
one_list bytes [] (g ∷ gs) rest other here stop there also = absurd (not_stopped bytes g (subst Stops here stop) there.0)
one_list bytes (h ∷ hs) [] rest other here stop there also = absurd (not_stopped bytes h (subst Stops there also) here.0)
one_list bytes (h ∷ hs) (g ∷ gs) rest other here stop there also =
    let same : g ≡ h = one_header bytes g h there.0.begins here.0.begins in
    let next : HasFrames (drop (aligned_length h) bytes) gs other = subst (λ (f : Frame). HasFrames (drop (aligned_length f) bytes) gs other) same there.1 in
    let tail = one_list (drop (aligned_length h) bytes) hs gs rest other here.1 stop next also in
    (ap (λ fs. h ∷ fs) tail.0 ∙ ap (λ (f : Frame). f ∷ gs) (sym same), tail.1)

-- a file has one listing
pub one_listing : (bytes : List ℕ) (listing other : Listing) (text also : List ℕ) → IsListing listing bytes text → IsListing other bytes also → (listing ≡ other) × (text ≡ also)
one_listing bytes Whole Whole text also here there =
    let same = one_list bytes here.0 there.0 here.1 there.1 here.2 (inl here.3) there.2 (inl there.3) in
    (refl, here.4 ∙ ap (λ hs. flat_map frame_text hs ++ end_text (length hs)) same.0 ∙ sym there.4)
one_listing bytes Damaged Damaged text also here there =
    let same = one_list bytes here.0 there.0 here.1 there.1 here.2 (inr here.3) there.2 (inr there.3) in
    (refl, here.4 ∙ ap (λ hs. flat_map frame_text hs ++ refusal_text (BadFrame (covered hs))) same.0 ∙ sym there.4)
one_listing bytes Whole Damaged text also here there =
    let same = one_list bytes here.0 there.0 here.1 there.1 here.2 (inl here.3) there.2 (inr there.3) in
    absurd (there.3.more (subst EndsFrames same.1 here.3))
one_listing bytes Damaged Whole text also here there =
    let same = one_list bytes here.0 there.0 here.1 there.1 here.2 (inr here.3) there.2 (inl there.3) in
    absurd (here.3.more (subst EndsFrames (sym same.1) there.3))
