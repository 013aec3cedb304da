-- The numbers, and then who takes the frames.
use Rattle.std.proofs.Common.{◌≡◌, ◌++◌, ◌∙◌, ℕ, List, ap, append_assoc}
use Rattle.std.proofs.lemmas.Result.{on_ok_weaker}
use Rattle.std.specs.Prelude.{string_bytes}
use Rattle.server_state.specs.ReplaysOpen.{open_numbers, open_reader, reader_text}
use Rattle.server_state.proofs.replay_lines.put_line.Goals as goal

-- two texts were put one after another
put_both : (old first mid second end : List ℕ) → mid ≡ old ++ first → end ≡ mid ++ second → end ≡ old ++ (first ++ second)
put_both old first mid second end one two = two ∙ (ap (λ (front : List ℕ). front ++ second) one ∙ append_assoc old first second)

pub returns : goal.returns
returns c =
    let r = c.args.replay.now in
    let reader : List ℕ = open_reader (reader_text r.reader) c.args.address.now in
    on_ok_weaker c.put_reader.result
    (put_both (string_bytes c.args.out.now) (open_numbers r) (string_bytes c.put_numbers.new.out) reader (string_bytes c.put_reader.new.out)
    c.in_ok-put_numbers.ensures)
    (rw c.text.ensures at c.put_reader.ensures)
