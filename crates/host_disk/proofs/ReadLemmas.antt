-- Reads that are made of several.
use Rattle.std.proofs.Common.{◌≡◌, ℕ, ◌+◌, ◌-◌, ◌<◌, ◌≤◌, min, Bool, true, false, ◌&&◌, nat_le, List, ◌++◌, length, take, drop, [], ◌∷◌, bytes_eq, IsTrue, refl, sym, ap, ap₂, ◌∙◌, subst, arith, append_assoc, append-nil, drop_of_length-le, length-take, length-drop}
use Rattle.std.proofs.lemmas.Slice.Eq.{bytes_eq-Decides}
use Rattle.std.proofs.lemmas.List.{drop-drop, drop-take, take-append-drop, take-take, take_at, drop_at, take_all}
use Rattle.std.proofs.lemmas.Bool.Decides.{leb_tells}
use borrow.Rule.Slice.PartMut.{put_mid}
use Rattle.disk_core.specs.declared.file_id.FileId.{FileId}
use Rattle.disk_core.specs.DiskImage.{Files, bytes_of}
use Rattle.disk_core.specs.Calls.{IsRead}
use Rattle.host_disk.specs.Events.{Event, asked, gave}
use Rattle.host_disk.specs.Replay.{agrees, replay}

-- so many bytes were read from an offset, and stand in the buffer
pub record IsReadSoFar (bytes : List ℕ) (at : ℕ) (old new : List ℕ) (count : ℕ) : Type 0 where
  pub within : count ≤ length bytes - at
  pub buffer : new ≡ take count (drop at bytes) ++ drop count old

-- a read has come so far, by calls that have changed nothing
pub record IsReading (file : FileId) (at : ℕ) (old new : List ℕ) (before now : List Event) (count : ℕ) : Type 0 where
  pub fits : count ≤ length old
  pub obeyed : IsTrue (replay now).obeys → IsTrue (replay before).obeys
  pub past : (replay now).past ≡ (replay before).past
  pub files : (replay now).now ≡ (replay before).now
  pub read : IsTrue (replay now).obeys → IsReadSoFar (bytes_of ((replay before).now file).reads) at old new count

three_parts : (a b c : Bool) → (a && (b && c)) ≡ true → (a ≡ true) × (b ≡ true) × (c ≡ true)
three_parts true true true is = (refl, refl, refl)
three_parts true true false is = absurd (cc)
three_parts true false c is = absurd (cc)
three_parts false b c is = absurd (cc)

first_of : (a b : Bool) → (a && b) ≡ true → a ≡ true
first_of true b both = refl
first_of false b both = both

second_of : (a b : Bool) → (a && b) ≡ true → b ≡ true
second_of true b both = both
second_of false b both = absurd (cc)

nat_le_says : (m n : ℕ) → nat_le m n ≡ true → m ≤ n
nat_le_says m n says = grind (arith, leb_tells m n, says)

-- what an answer says that agrees
pub agrees_says : (bytes : List ℕ) (at n : ℕ) (old new : List ℕ) → agrees bytes at n old new ≡ true
    → (new ≡ take n (drop at bytes) ++ drop n old) × (n ≤ length bytes - at) × (min 1 (min (length old) (length bytes - at)) ≤ n)
agrees_says bytes at n old new agree =
    let parts = three_parts (bytes_eq new (take n (drop at bytes) ++ drop n old)) (nat_le n (length bytes - at)) (nat_le (min 1 (min (length old) (length bytes - at))) n) agree in
    ((bytes_eq-Decides new (take n (drop at bytes) ++ drop n old)).0 parts.0, nat_le_says n (length bytes - at) parts.1, nat_le_says (min 1 (min (length old) (length bytes - at))) n parts.2)

-- two takes, one behind the other
take_both : (m n : ℕ) (xs : List ℕ) → take m xs ++ take n (drop m xs) ≡ take (m + n) xs
take_both m n xs = ap₂ (λ (a b : List ℕ). a ++ b) (sym (take-take m (m + n) xs (omega arith))) (sym (drop-take m n xs)) ∙ take-append-drop m (take (m + n) xs)

-- what was read so far, what the last call read, and the rest of the buffer
read_more : (bytes old now part : List ℕ) (at done n : ℕ) → done ≤ length old → length now ≡ length old → IsReadSoFar bytes at old now done
    → agrees bytes (at + done) n (take (length now - done) (drop done now)) part ≡ true → IsReadSoFar bytes at old (put_mid done (length now - done) now part) (done + n)
read_more bytes old now part at done n fits long so_far agree =
    let says = agrees_says bytes (at + done) n (take (length now - done) (drop done now)) part agree in
    let front : List ℕ = take done (drop at bytes) in
    let front_long : length front ≡ done = omega (arith, length-take done (drop at bytes), length-drop at bytes, so_far.within) in
    let before : take done now ≡ front = ap (take done) so_far.buffer ∙ take_at front (drop done old) done front_long in
    let behind : drop done now ≡ drop done old = ap (drop done) so_far.buffer ∙ drop_at front (drop done old) done front_long in
    let whole : take (length now - done) (drop done now) ≡ drop done old = take_all (length now - done) (drop done now) (omega (arith, length-drop done now)) ∙ behind in
    let rest : drop n (take (length now - done) (drop done now)) ≡ drop (done + n) old = ap (drop n) whole ∙ drop-drop n done old in
    let none : drop (length now - done) (drop done now) ≡ [] = drop_of_length-le (drop done now) (omega (arith, length-drop done now)) in
    let from : drop (at + done) bytes ≡ drop done (drop at bytes) = sym (drop-drop done at bytes) in
    let new_part : part ≡ take n (drop done (drop at bytes)) ++ drop (done + n) old = says.0 ∙ ap₂ (λ (a b : List ℕ). take n a ++ b) from rest in
    record {
      within = omega (arith, says.1, so_far.within);
      buffer = ap₂ (λ (a b : List ℕ). a ++ (part ++ b)) before none
          ∙ ap (λ (b : List ℕ). front ++ b) (append-nil part ∙ new_part)
          ∙ sym (append_assoc front (take n (drop done (drop at bytes))) (drop (done + n) old))
          ∙ ap (λ (a : List ℕ). a ++ drop (done + n) old) (take_both done n (drop at bytes));
    }

-- a read goes on by one call
pub goes_on_reading : (file : FileId) (at : ℕ) (old now part : List ℕ) (before events : List Event) (done n : ℕ) → length now ≡ length old
    → n ≤ length (take (length now - done) (drop done now)) → IsReading file at old now before events done
    → IsReading file at old (put_mid done (length now - done) now part) before (gave file (at + done) n part ∷ asked (take (length now - done) (drop done now)) ∷ events) (done + n)
goes_on_reading file at old now part before events done n long within reading = record {
  fits = omega (arith, within, reading.fits, length-take (length now - done) (drop done now), length-drop done now);
  obeyed = λ obeys. reading.obeyed (first_of (replay events).obeys _ obeys);
  past = reading.past;
  files = reading.files;
  read = λ obeys. read_more (bytes_of ((replay before).now file).reads) old now part at done n reading.fits long (reading.read (first_of (replay events).obeys _ obeys))
      (subst (λ (files : Files). agrees (bytes_of (files file).reads) (at + done) n (take (length now - done) (drop done now)) part ≡ true) reading.files (second_of (replay events).obeys _ obeys));
}

-- a read ends where a call gives nothing
pub ends_reading : (file : FileId) (at : ℕ) (old now part : List ℕ) (before events : List Event) (done : ℕ) → length now ≡ length old → done < length old
    → IsReading file at old now before events done → IsTrue (replay (gave file (at + done) 0 part ∷ asked (take (length now - done) (drop done now)) ∷ events)).obeys
    → IsRead (bytes_of ((replay before).now file).reads) at old (put_mid done (length now - done) now part) done
ends_reading file at old now part before events done long inside reading obeys =
    let bytes : List ℕ = bytes_of ((replay before).now file).reads in
    let agree : agrees bytes (at + done) 0 (take (length now - done) (drop done now)) part ≡ true =
    subst (λ (files : Files). agrees (bytes_of (files file).reads) (at + done) 0 (take (length now - done) (drop done now)) part ≡ true) reading.files (second_of (replay events).obeys _ obeys) in
    let says = agrees_says bytes (at + done) 0 (take (length now - done) (drop done now)) part agree in
    let all = read_more bytes old now part at done 0 reading.fits long (reading.read (first_of (replay events).obeys _ obeys)) agree in
    let same : done + 0 ≡ done = omega arith in
    record {
      count_is = omega (arith, says.2, all.within, length-take (length now - done) (drop done now), length-drop done now);
      buffer = all.buffer ∙ ap (λ (n : ℕ). take n (drop at bytes) ++ drop n old) same;
    }
