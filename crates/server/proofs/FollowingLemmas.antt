-- What a follower was sent, one part after another.
use Rattle.std.proofs.Common.{◌≡◌, ◌∙◌, ◌++◌, ℕ, ℤ, Bool, List, [], ◌∷◌, Option, Some, None, inl, inr, rules, sym, refl, ap, subst}
use Rattle.std.proofs.lemmas.List.{append-nil, append_assoc}
use Rattle.std.specs.Prelude.{IsTrue, unsigned_abs}
use Rattle.std.specs.Io.KnownBytes.{Appends}
use Rattle.disk_core.specs.DiskImage.{DiskImage, Files, reads}
use Rattle.disk_core.specs.Life.{IsQuiet, Life}
use Rattle.archive_model.specs.declared.descriptor.Descriptor.{Descriptor}
use Rattle.archive_model.specs.declared.registration.Registration.{Registration}
use Rattle.archive_model.specs.declared.reply.PolledFrame.{PolledFrame}
use Rattle.control_core.specs.declared.callers.OpenReplay.{OpenReplay}
use Rattle.control_core.specs.Exact.{frames_end}
use Rattle.recording_reads.specs.Settled.{CursorView, seen_to}
use Rattle.recording_reads.specs.Reading.{GivesShown}
use Rattle.settled_replays.specs.declared.signs.Sign.{Sign}
use Rattle.settled_replays.specs.declared.signs.Sign.TheVariants as signs
use Rattle.settled_replays.specs.Sending.{IsSignBytes, SendsShown, sent_frames}
use Rattle.server.specs.declared.followed_stream.FollowedStream.{FollowedStream}
use Rattle.server.specs.declared.pushing.FollowEnd.{FollowEnd}
use Rattle.server.specs.declared.pushing.FollowEnd.TheVariants as ends
use Rattle.server.specs.Following.{ArePartsOf, EndsWithSign, IsSent, IsSentOn, IsSentUntil, IsTold, Part, bytes_of_parts, frames, sign, sign_of}

quiet_then : (a b c : Life) → IsQuiet a b → IsQuiet b c → IsQuiet a c
quiet_then a b c one two = search rules

bytes_then : (xs ys : List Part) → bytes_of_parts (xs ++ ys) ≡ bytes_of_parts xs ++ bytes_of_parts ys
bytes_then [] ys = refl
bytes_then (frames seen fs ∷ xs) ys = ap (λ (b : List ℕ). sent_frames fs ++ b) (bytes_then xs ys) ∙ sym (append_assoc (sent_frames fs) (bytes_of_parts xs) (bytes_of_parts ys))
bytes_then (sign told bytes ∷ xs) ys = ap (λ (b : List ℕ). bytes ++ b) (bytes_then xs ys) ∙ sym (append_assoc bytes (bytes_of_parts xs) (bytes_of_parts ys))

appends_then : (a b c : Option (List ℕ)) (xs ys : List ℕ) → Appends a b xs → Appends b c ys → Appends a c (xs ++ ys)
appends_then None b c xs ys one two = tt
appends_then (Some a) None c xs ys one two = absurd one
appends_then (Some a) (Some b) None xs ys one two = absurd two
appends_then (Some a) (Some b) (Some c) xs ys one two = two ∙ ap (λ (z : List ℕ). z ++ ys) one ∙ append_assoc a xs ys

module _ (image : DiskImage) (d : Descriptor) (replay : OpenReplay) (stream : FollowedStream) where
  parts_then : (was is : Bool) → (IsTrue is → IsTrue was) → (xs ys : List Part) (p q r : ℤ) → ArePartsOf was image d replay stream p xs q → ArePartsOf is image d replay stream q ys r → ArePartsOf is image d replay stream p (xs ++ ys) r
  parts_then was is less [] ys p q r one two = subst (λ (z : ℤ). ArePartsOf is image d replay stream z ys r) one two
  parts_then was is less (frames seen fs ∷ xs) ys p q r (most, shown, rest) two = (most, (λ obeys. shown (less obeys)), parts_then was is less xs ys (frames_end p fs) q r rest two)
  parts_then was is less (sign told bytes ∷ xs) ys p q r (told_so, rest) two = (told_so, parts_then was is less xs ys p q r rest two)

-- parts of a replay that has moved on are parts of it
moved_parts : (obeys : Bool) (image : DiskImage) (d : Descriptor) (replay : OpenReplay) (next : ℤ) (stream : FollowedStream) (xs : List Part) (p q : ℤ) → ArePartsOf obeys image d (record replay { next = next }) stream p xs q → ArePartsOf obeys image d replay stream p xs q
moved_parts obeys image d replay next stream [] p q is = is
moved_parts obeys image d replay next stream (frames seen fs ∷ xs) p q (most, shown, rest) = (most, shown, moved_parts obeys image d replay next stream xs (frames_end p fs) q rest)
moved_parts obeys image d replay next stream (sign told bytes ∷ xs) p q (told_so, rest) = (told_so, moved_parts obeys image d replay next stream xs p q rest)

pub sent_then : (stream : FollowedStream) (a b c : Life) (x y z : CursorView) (k l m : Option (List ℕ)) (xs ys : List Part) → IsSent stream a b x y k l xs → IsSent stream b c y z l m ys → IsSent stream a c x z k m (xs ++ ys)
sent_then stream a b c x y z k l m xs ys one two =
    let second : ArePartsOf c.obeys (reads a.now) x.known.descriptor x.replay stream y.replay.next ys z.replay.next =
    moved_parts c.obeys (reads a.now) x.known.descriptor x.replay y.replay.next stream ys y.replay.next z.replay.next
    (subst (λ (w : Files × (Descriptor × OpenReplay)). ArePartsOf c.obeys (reads w.0) w.1.0 w.1.1 stream y.replay.next ys z.replay.next) (λ i. ((one.quiet).now i, (one.descriptor i, one.replay i))) two.are) in
    record {
      appended = subst (Appends k m) (sym (bytes_then xs ys)) (appends_then k l m (bytes_of_parts xs) (bytes_of_parts ys) one.appended two.appended);
      are = parts_then (reads a.now) x.known.descriptor x.replay stream b.obeys c.obeys (two.quiet).obeyed xs ys x.replay.next y.replay.next z.replay.next one.are second;
      replay = two.replay ∙ ap (λ (r : OpenReplay). record r { next = z.replay.next }) one.replay;
      descriptor = two.descriptor ∙ one.descriptor;
      quiet = quiet_then a b c one.quiet two.quiet;
    }

pub sent_on_then : (stream : FollowedStream) (a b c : Life) (x y z : CursorView) (k l m : Option (List ℕ)) → IsSentOn stream a b x y k l → IsSentOn stream b c y z l m → IsSentOn stream a c x z k m
sent_on_then stream a b c x y z k l m (xs, one) (ys, two) = (xs ++ ys, sent_then stream a b c x y z k l m xs ys one two)

-- nothing more was sent, and the reader stands where it stood
appends_nothing : (a : Option (List ℕ)) → Appends a a []
appends_nothing None = tt
appends_nothing (Some a) = sym (append-nil a)

quiet_same : (a : Life) → IsQuiet a a
quiet_same a = search rules

-- what a sign adds
pub told_on : (stream : FollowedStream) (life : Life) (cursor : CursorView) (told : Sign) (k l : Option (List ℕ)) → IsTold stream told cursor.replay.next k l
    → (parts : List Part) × IsSent stream life life cursor cursor k l parts × EndsWithSign stream told parts cursor.replay.next
told_on stream life cursor told k l (inl (bytes, is, appends)) = (
  sign told bytes ∷ [],
  record {
    appended = subst (Appends k l) (sym (append-nil bytes)) appends;
    are = (is, refl);
    replay = refl;
    descriptor = refl;
    quiet = quiet_same life;
  },
  inl ([], bytes, refl),
)
told_on stream life cursor told k l (inr (past, same)) = (
  [],
  record {
    appended = subst (λ (m : Option (List ℕ)). Appends k m []) (sym same) (appends_nothing k);
    are = refl;
    replay = refl;
    descriptor = refl;
    quiet = quiet_same life;
  },
  inr past,
)

-- what a turn adds
pub turn_on : (stream : FollowedStream) (a b : Life) (x y : CursorView) (k l : Option (List ℕ)) (sent : List ℕ) (seen most : ℤ) → SendsShown sent b.obeys (reads a.now) (seen_to seen x.known) x.replay most y.replay.next → y.replay ≡ record x.replay { next = y.replay.next } → y.known.descriptor ≡ x.known.descriptor → IsQuiet a b → Appends k l sent → IsSentOn stream a b x y k l
turn_on stream a b x y k l sent seen most sends replay descriptor quiet appends = (
  frames seen sends.frames ∷ [],
  record {
    appended = subst (Appends k l) (sends.sent ∙ sym (append-nil (sent_frames sends.frames))) appends;
    are = (most, subst (λ (end : ℤ). IsTrue b.obeys → GivesShown (reads a.now) (seen_to seen x.known) x.replay most sends.frames (unsigned_abs end)) sends.next sends.shown, sends.next);
    replay = replay;
    descriptor = descriptor;
    quiet = quiet;
  },
)

-- what a refused turn adds: nothing
pub nothing_on : (stream : FollowedStream) (a b : Life) (x y : CursorView) (k : Option (List ℕ)) → y.replay ≡ x.replay → y.known.descriptor ≡ x.known.descriptor → IsQuiet a b → IsSentOn stream a b x y k k
nothing_on stream a b x y k replay descriptor quiet = (
  [],
  record {
    appended = appends_nothing k;
    are = ap (λ (r : OpenReplay). r.next) replay;
    replay = replay ∙ ap (λ (n : ℤ). record x.replay { next = n }) (sym (ap (λ (r : OpenReplay). r.next) replay));
    descriptor = descriptor;
    quiet = quiet;
  },
)

-- the end comes behind all that
pub until_then : (end : FollowEnd) (stream : FollowedStream) (a b c : Life) (x y z : CursorView) (k l m : Option (List ℕ)) → IsSentOn stream a b x y k l → IsSentUntil end stream b c y z l m → IsSentUntil end stream a c x z k m
until_then ends.Done stream a b c x y z k l m (xs, one) (ys, two, inl (front, bytes, is)) = (xs ++ ys, sent_then stream a b c x y z k l m xs ys one two, inl (xs ++ front, bytes, ap (λ (w : List Part). xs ++ w) is ∙ sym (append_assoc xs front (sign signs.Ended bytes ∷ []))))
until_then ends.Done stream a b c x y z k l m (xs, one) (ys, two, inr past) = (xs ++ ys, sent_then stream a b c x y z k l m xs ys one two, inr past)
until_then (ends.Failed refusal) stream a b c x y z k l m (xs, one) (ys, two, inl (front, bytes, is)) = (xs ++ ys, sent_then stream a b c x y z k l m xs ys one two, inl (xs ++ front, bytes, ap (λ (w : List Part). xs ++ w) is ∙ sym (append_assoc xs front (sign signs.Failed bytes ∷ []))))
until_then (ends.Failed refusal) stream a b c x y z k l m (xs, one) (ys, two, inr past) = (xs ++ ys, sent_then stream a b c x y z k l m xs ys one two, inr past)
until_then ends.Stopped stream a b c x y z k l m (xs, one) (ys, two, so) = (xs ++ ys, sent_then stream a b c x y z k l m xs ys one two, tt)
until_then ends.Gone stream a b c x y z k l m one two = tt

-- what the end adds
told_end : (end : FollowEnd) (stream : FollowedStream) (life : Life) (cursor : CursorView) (k l : Option (List ℕ)) → IsTold stream (sign_of end) cursor.replay.next k l → IsSentUntil end stream life life cursor cursor k l
told_end ends.Done stream life cursor k l told = told_on stream life cursor signs.Ended k l told
told_end (ends.Failed refusal) stream life cursor k l told = told_on stream life cursor signs.Failed k l told
told_end ends.Stopped stream life cursor k l told = let t = told_on stream life cursor signs.Failed k l told in (t.0, t.1, tt)
told_end ends.Gone stream life cursor k l told = tt

pub ended_by : (end : FollowEnd) (stream : FollowedStream) (life : Life) (cursor : CursorView) (told : Sign) (k l : Option (List ℕ)) → told ≡ sign_of end → IsTold stream told cursor.replay.next k l → IsSentUntil end stream life life cursor cursor k l
ended_by end stream life cursor told k l is told_so = told_end end stream life cursor k l (subst (λ (s : Sign). IsTold stream s cursor.replay.next k l) is told_so)
