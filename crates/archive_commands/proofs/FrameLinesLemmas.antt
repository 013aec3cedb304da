-- The lines of the frames that stand one behind the other in a file.
use Rattle.std.proofs.Common.{◌≡◌, ◌∙◌, ◌+◌, ℕ, List, [], ◌∷◌, ◌++◌, Option, Some, None, IfSome, arith, sym, ap, subst, refl, length, drop, append-nil, length-append}
use Rattle.std.specs.Prelude.{flat_map}
use Rattle.std.specs.Io.KnownBytes.{Appends, Keeps}
use Rattle.std.proofs.KnownBytes.{Appends-nil, Appends-trans, Appends-kept, Keeps-trans}
use Rattle.std.proofs.lemmas.List.Concat.{flat_map-append}
use Rattle.frame_core.specs.declared.frame.Frame.{Frame}
use Rattle.frame_core.specs.Block.{covered}
use Rattle.frame_core.specs.FrameEncoding.{aligned_length}
use Rattle.frame_core.specs.declared.refusal.Refusal.TheVariants.{BadFrame}
use Rattle.control_lines.specs.RefusalText.{refusal_text}
use Rattle.tool_core.specs.declared.fault.EarlyEnd.{EarlyEnd}
use Rattle.tool_core.specs.declared.fault.EarlyEnd.TheVariants as ends
use Rattle.archive_commands.specs.declared.frames.Listing.{Listing}
use Rattle.archive_commands.specs.declared.frames.Listing.TheVariants.{Whole, Damaged}
use Rattle.archive_commands.specs.declared.frames.Listed.{Listed}
use Rattle.archive_commands.specs.FrameLines.{EndsFrames, HasFrames, HasNoFrame, IsListing, IsListingOfFirst, Lists, ListsSome, StandsFirst, end_text, frame_text}
use Rattle.archive_commands.specs.Stored.{FailsToWriteLine, ListsNext, PassesFrame}

-- these frames stand first in the file, where its bytes are known, and this is left of it
abbrev pub Stand : Option (List ℕ) → Option (List ℕ) → List Frame → Type 0
Stand None now headers = Unit {0}
Stand (Some xs) None headers = ⊥
Stand (Some xs) (Some ys) headers = HasFrames xs headers ys

-- how far a listing has come
pub record HasListed (file now contents written : Option (List ℕ)) (progress : Listed) : Type 0 where
  pub headers : List Frame
  pub stand : Stand file now headers
  pub appended : Appends contents written (flat_map frame_text headers)
  pub count : progress.count ≡ length headers
  pub offset : progress.offset ≡ covered headers

stand-nil : (a : Option (List ℕ)) → Stand a a []
stand-nil None = tt
stand-nil (Some xs) = refl

pub none_listed : (file contents : Option (List ℕ)) (progress : Listed) → progress.count ≡ 0 → progress.offset ≡ 0 → HasListed file file contents contents progress
none_listed file contents progress count offset = record {
  headers = [];
  stand = stand-nil file;
  appended = Appends-nil contents;
  count = count;
  offset = offset;
}

-- one frame more
frames-more : (xs ys : List ℕ) (headers : List Frame) (header : Frame) → HasFrames xs headers ys → StandsFirst ys header → HasFrames xs (headers ++ header ∷ []) (drop (aligned_length header) ys)
frames-more xs ys [] header is stands = (subst (λ bytes. StandsFirst bytes header) is stands, ap (drop (aligned_length header)) is)
frames-more xs ys (first ∷ headers) header is stands = (is.0, frames-more (drop (aligned_length first) xs) ys headers header is.1 stands)

stand-more : (a b c : Option (List ℕ)) (headers : List Frame) (header : Frame) → Stand a b headers → PassesFrame b c header → Stand a c (headers ++ header ∷ [])
stand-more None b c headers header stand passes = tt
stand-more (Some xs) None c headers header stand passes = absurd stand
stand-more (Some xs) (Some ys) None headers header stand passes = absurd passes
stand-more (Some xs) (Some ys) (Some zs) headers header stand passes =
    subst (HasFrames xs (headers ++ header ∷ [])) (sym passes.1) (frames-more xs ys headers header stand passes.0)

covered-more : (headers : List Frame) (header : Frame) → covered (headers ++ header ∷ []) ≡ covered headers + aligned_length header
covered-more [] header = omega arith
covered-more (first ∷ headers) header = let rest = covered-more headers header in omega (arith, rest)

pub one_listed : (file now later contents written then : Option (List ℕ)) (old new : Listed) → HasListed file now contents written old → ListsNext None now later written then old new → HasListed file later contents then new
one_listed file now later contents written then old new so_far next =
    let header = next.0 in
    let counts = next.2 in
    record {
      headers = so_far.headers ++ header ∷ [];
      stand = stand-more file now later so_far.headers header so_far.stand next.1;
      appended =
          subst (Appends contents then) (ap (λ l. flat_map frame_text so_far.headers ++ l) (sym (append-nil (frame_text header))) ∙ sym (flat_map-append frame_text so_far.headers (header ∷ [])))
          (Appends-trans contents written then _ _ so_far.appended next.3);
      count =
          let sum = length-append so_far.headers (header ∷ []) in
          let before = so_far.count in
          let more = counts.count in
          omega (arith, sum, before, more);
      offset =
          let sum = covered-more so_far.headers header in
          let before = so_far.offset in
          let more = counts.offset in
          omega (arith, sum, before, more);
    }

-- the last line
pub all_listed : (file now later contents written then : Option (List ℕ)) (old new : Listed) (listing : Listing) → HasListed file now contents written old → ListsNext (Some listing) now later written then old new
    → Lists file contents then (IsListing listing)
all_listed file now later contents written then old new Whole so_far next = record {
  text = flat_map frame_text so_far.headers ++ end_text (length so_far.headers);
  appended = Appends-trans contents written then _ _ so_far.appended (subst (λ n. Appends written then (end_text n)) so_far.count next.1);
  right = by file now so_far.stand next.0;
} where
  by : (a b : Option (List ℕ)) → Stand a b so_far.headers → IfSome b EndsFrames → IfSome a (λ bytes. IsListing Whole bytes (flat_map frame_text so_far.headers ++ end_text (length so_far.headers)))
  by None b stand ends = tt
  by (Some xs) None stand ends = absurd stand
  by (Some xs) (Some ys) stand ends = (so_far.headers, ys, stand, ends, refl)
all_listed file now later contents written then old new Damaged so_far next = record {
  text = flat_map frame_text so_far.headers ++ refusal_text (BadFrame (covered so_far.headers));
  appended = Appends-trans contents written then _ _ so_far.appended (subst (λ n. Appends written then (refusal_text (BadFrame n))) so_far.offset next.1);
  right = by file now so_far.stand next.0;
} where
  by : (a b : Option (List ℕ)) → Stand a b so_far.headers → IfSome b HasNoFrame → IfSome a (λ bytes. IsListing Damaged bytes (flat_map frame_text so_far.headers ++ refusal_text (BadFrame (covered so_far.headers))))
  by None b stand bad = tt
  by (Some xs) None stand bad = absurd stand
  by (Some xs) (Some ys) stand bad = (so_far.headers, ys, stand, bad, refl)

-- what was listed before an early end
first_listed : (file now contents written then : Option (List ℕ)) (progress : Listed) → HasListed file now contents written progress → Keeps written then → Lists file contents then IsListingOfFirst
first_listed file now contents written then progress so_far kept = record {
  text = flat_map frame_text so_far.headers;
  appended = Appends-kept contents written then _ so_far.appended kept;
  right = by file now so_far.stand;
} where
  by : (a b : Option (List ℕ)) → Stand a b so_far.headers → IfSome a (λ bytes. IsListingOfFirst bytes (flat_map frame_text so_far.headers))
  by None b stand = tt
  by (Some xs) None stand = absurd stand
  by (Some xs) (Some ys) stand = (so_far.headers, ys, stand, refl)

pub some_listed : (file now contents written then : Option (List ℕ)) (progress : Listed) (end : EarlyEnd) → HasListed file now contents written progress → FailsToWriteLine end written then → ListsSome end file contents then
some_listed file now contents written then progress ends.Read so_far kept = first_listed file now contents written then progress so_far kept
some_listed file now contents written then progress ends.Memory so_far fails = absurd fails
some_listed file now contents written then progress ends.Write so_far fails = tt

-- what was handed on stays
pub listed_kept : (file contents written then : Option (List ℕ)) (IsRight : List ℕ → List ℕ → Type 0) → Lists file contents written IsRight → Keeps written then → Lists file contents then IsRight
listed_kept file contents written then IsRight lists kept = record { text = lists.text; appended = Appends-kept contents written then lists.text lists.appended kept; right = lists.right }

pub some_kept : (file contents written then : Option (List ℕ)) (end : EarlyEnd) → ListsSome end file contents written → Keeps written then → ListsSome end file contents then
some_kept file contents written then ends.Read lists kept = listed_kept file contents written then IsListingOfFirst lists kept
some_kept file contents written then ends.Memory lists kept = Keeps-trans contents written then lists kept
some_kept file contents written then ends.Write lists kept = tt
