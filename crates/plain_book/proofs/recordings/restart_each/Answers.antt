use Rattle.std.proofs.Common.{◌≡◌, append-nil, List, length, take, sym, ap, ◌∙◌, arith}
use Rattle.archive_model.specs.State.{Recording}
use Rattle.archive_model.specs.Commands.{restarted}
use Rattle.plain_book.proofs.BookLemmas.{read_at}
use Rattle.archive_model.proofs.ListLemmas.{rest_past, take_whole}
use Rattle.archive_model.proofs.RegisterLemmas.{all_made, first_made, made_more}
use Rattle.plain_book.proofs.recordings.restart_each.Goals as goal

pub loop-recording-preserved : goal.loop-recording-preserved
loop-recording-preserved c =
    let items = c.loop-recording.recording-items in
    let within = rw (← c.loop-recording.auto.recording-items) at c.loop-recording-test.true in
    let gets = read_at items c.loop-recording.recording-index c.recording-item.result within c.recording-item.is in
    made_more restarted c.loop-recording.recording-index c.args.recordings.now.items items c.recording-item.result c.restart.new.self c.loop-recording.invariant gets
    (c.restart.ensures ∙ ap restarted (sym c.recording-item.is))

pub returns : goal.returns
returns c =
    let items : List Recording = c.loop-recording.recording-items in
    let all : List Recording = c.args.recordings.now.items in
    let same : length items ≡ length all = c.loop-recording.auto.recording-items ∙ ap length c.deref_mut-recording-items.ensures.value in
    let past = c.loop-recording-test.false in
    let done : items ≡ first_made restarted c.loop-recording.recording-index all = c.loop-recording.invariant in
    let whole = all_made restarted c.loop-recording.recording-index all (rw c.deref_mut-recording-items.ensures.value at past) in
    rw (rest_past all (length items) (omega (arith, same))) (ap (take c.args.recordings.now.len) (append-nil items) ∙ take_whole items c.args.recordings.now.len (omega (arith, c.loop-recording.auto.recording-items, c.deref_mut-recording-items.ensures.len)) ∙ done ∙ whole)
