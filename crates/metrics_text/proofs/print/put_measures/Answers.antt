use Rattle.std.proofs.Common.{◌≡◌, ◌++◌, ℕ, List, flat_map}
use Rattle.std.proofs.lemmas.Result.{on_ok_weaker}
use Rattle.std.specs.Prelude.{OnOk, string_bytes}
use Rattle.metrics_text.specs.MetricsText.{client_families, family_text, history_families, hole_families, place_text, poll_families, position_text, publication_holes_family, received_families, received_image_text, recorder_families, replay_family, resume_families, sends_text, sent_families, state_families}
use Rattle.metrics_text.proofs.MetricsLemmas.{put_first}
use Rattle.metrics_text.proofs.print.put_measures.Goals as goal

pub returns : goal.returns
returns c =
    let m = c.args.measures.now in
    let who : List ℕ = c.args.who.now in
    let end : List ℕ = string_bytes c.put_sends.new.out in
    let from_sends : List ℕ = sends_text who m.sending m.sends.items in
    let from_publications : List ℕ = family_text (publication_holes_family who m.images.items) ++ from_sends in
    let from_images : List ℕ = received_image_text who m.images.items ++ from_publications in
    let from_positions : List ℕ = position_text who m.recordings.items m.images.items ++ from_images in
    let from_replays : List ℕ = family_text (replay_family who m.replays.items) ++ from_positions in
    let from_polls : List ℕ = flat_map family_text (poll_families who m.clients) ++ from_replays in
    let from_clients : List ℕ = flat_map family_text (client_families who m.clients) ++ from_polls in
    let from_places : List ℕ = place_text who m.places ++ from_clients in
    let from_resumes : List ℕ = flat_map family_text (resume_families who m.resumes) ++ from_places in
    let from_holes : List ℕ = flat_map family_text (hole_families who m.resumes) ++ from_resumes in
    let from_sent : List ℕ = flat_map family_text (sent_families who m.datagrams) ++ from_holes in
    let from_received : List ℕ = flat_map family_text (received_families who m.datagrams) ++ from_sent in
    let from_recorder : List ℕ = flat_map family_text (recorder_families who m.recorder) ++ from_received in
    let from_history : List ℕ = flat_map family_text (history_families who m.archive) ++ from_recorder in
    let last : OnOk c.put_sends.result (end ≡ string_bytes c.put_publication_holes.new.out ++ from_sends) = rw c.as_slice-6.ensures.value at c.put_sends.ensures in
    on_ok_weaker c.put_sends.result (λ written.
    put_first (string_bytes c.args.out.now) (flat_map family_text (state_families who m.archive)) (string_bytes c.put_state.new.out) from_history end c.in_ok-put_state.ensures
    (put_first (string_bytes c.put_state.new.out) (flat_map family_text (history_families who m.archive)) (string_bytes c.put_history.new.out) from_recorder end c.in_ok-put_history.ensures
    (put_first (string_bytes c.put_history.new.out) (flat_map family_text (recorder_families who m.recorder)) (string_bytes c.put_recorder.new.out) from_received end c.in_ok-put_recorder.ensures
    (put_first (string_bytes c.put_recorder.new.out) (flat_map family_text (received_families who m.datagrams)) (string_bytes c.put_received.new.out) from_sent end c.in_ok-put_received.ensures
    (put_first (string_bytes c.put_received.new.out) (flat_map family_text (sent_families who m.datagrams)) (string_bytes c.put_sent.new.out) from_holes end c.in_ok-put_sent.ensures
    (put_first (string_bytes c.put_sent.new.out) (flat_map family_text (hole_families who m.resumes)) (string_bytes c.put_holes.new.out) from_resumes end c.in_ok-put_holes.ensures
    (put_first (string_bytes c.put_holes.new.out) (flat_map family_text (resume_families who m.resumes)) (string_bytes c.put_resumes.new.out) from_places end c.in_ok-put_resumes.ensures
    (put_first (string_bytes c.put_resumes.new.out) (place_text who m.places) (string_bytes c.put_places.new.out) from_clients end c.in_ok-put_places.ensures
    (put_first (string_bytes c.put_places.new.out) (flat_map family_text (client_families who m.clients)) (string_bytes c.put_clients.new.out) from_polls end c.in_ok-put_clients.ensures
    (put_first (string_bytes c.put_clients.new.out) (flat_map family_text (poll_families who m.clients)) (string_bytes c.put_polls.new.out) from_replays end c.in_ok-put_polls.ensures
    (put_first (string_bytes c.put_polls.new.out) (family_text (replay_family who m.replays.items)) (string_bytes c.put_replays.new.out) from_positions end (rw c.as_slice.ensures.value at c.in_ok-put_replays.ensures)
    (put_first (string_bytes c.put_replays.new.out) (position_text who m.recordings.items m.images.items) (string_bytes c.put_positions.new.out) from_images end (rw c.as_slice-3.ensures.value at (rw c.as_slice-2.ensures.value at c.in_ok-put_positions.ensures))
    (put_first (string_bytes c.put_positions.new.out) (received_image_text who m.images.items) (string_bytes c.put_received_images.new.out) from_publications end (rw c.as_slice-4.ensures.value at c.in_ok-put_received_images.ensures)
    (put_first (string_bytes c.put_received_images.new.out) (family_text (publication_holes_family who m.images.items)) (string_bytes c.put_publication_holes.new.out) from_sends end (rw c.as_slice-5.ensures.value at c.in_ok-put_publication_holes.ensures) written))))))))))))))
    last
