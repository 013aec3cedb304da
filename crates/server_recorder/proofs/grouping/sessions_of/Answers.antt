-- One seat more.
use Rattle.std.proofs.Common.{to_z, of_z, w64, ℤ, ◌≡◌, ◌<◌, ◌∙◌, ◌++◌, [], ◌∷◌, length, rules, sym, ap}
use Rattle.std.specs.Prelude.{if◌then◌else◌, is_ok}
use Rattle.std.specs.Global.{Vec}
use Rattle.server_recorder.specs.Grouping.{written_session, session_written}
use Rattle.server_recorder.proofs.GroupingLemmas.{given_more, pushed, withheld_more}
use Rattle.server_recorder.proofs.grouping.sessions_of.Goals.{in-Some+in_ok-ok, in_default}
use Rattle.server_recorder.proofs.grouping.sessions_of.Goals as goal

pub loop-seat-preserved : goal.loop-seat-preserved
loop-seat-preserved c =
    let l = c.loop-seat in
    let h = session_written c.args.settling.now in
    let seats = c.args.seats.now in
    let inside : l.seat-index < length seats = search rules in
    elim c.match-written.branch [
      | in-Some+in_ok-ok w ↦
          let session = w.in-Some.written.session in
          let fits : to_z w64 (of_z w64 session) ≡ session = search rules in
          let behind = w.push.ensures.items ∙ ap (λ (n : ℤ). if is_ok w.push.result then l.sessions.items ++ n ∷ [] else l.sessions.items) fits in
          let items : c.match-written.sessions.items ≡ l.sessions.items ++ session ∷ [] =
          ap (λ (v : Vec ℤ). v.items) w.sessions-is ∙ pushed w.push.result w.ok-in-Some.result w.in_ok-ok.field-0 l.sessions.items w.push.new.self.items session behind w.ok-in-Some.ensures.value w.in_ok-ok.was in
          items ∙ given_more h seats l.seat-index 0 l.sessions.items session inside (ap written_session (sym c.written.ensures ∙ w.in-Some.is)) l.invariant
      | in_default w ↦
          let items : c.match-written.sessions.items ≡ l.sessions.items = ap (λ (v : Vec ℤ). v.items) w.sessions-is in
          items ∙ withheld_more h seats l.seat-index 0 l.sessions.items inside (ap written_session (sym c.written.ensures ∙ w.in_default.is)) l.invariant
    ]
