-- What becomes of a disk that is served.
use Rattle.std.proofs.Common.{◌≡◌, inl, inr, refl, Bool, true, false, List, Option, None, Result, Ok, Err, subst, sym}
use Rattle.std.specs.Prelude.{IfErr, IfOk, IsOk, MatchResult}
use Rattle.disk_core.specs.declared.disk.Disk as Disk
use Rattle.disk_core.specs.Life.{Life}
use Rattle.engine_core.specs.Engine.{EngineState}
use Rattle.tool_core.specs.declared.fault.EarlyEnd.{EarlyEnd}
use Rattle.tool_core.specs.declared.observer.Beginning.{Beginning}
use Rattle.tool_core.specs.declared.fault.ScriptFault.{ScriptFault}
use Rattle.tool_core.specs.Archives.{BeginsAs, Closed, Open, SeenArchive, disk_of, early_end_of}
use Rattle.control_core.specs.Desk.{DeskState}
use Rattle.engine_core.specs.declared.engine.Engine.{Engine}
use Rattle.call_history.specs.declared.stored.Stored.{Stored}
use Rattle.call_history.specs.Values.{PassView}
use Rattle.archive_lock.specs.declared.history.Call.{Call}
use Rattle.archive_lock.specs.declared.history.Made.{Made}
use Rattle.archive_lock.specs.Closing.{ClosesWith}
use Rattle.archive_lock.specs.Held.{engine_seen, view_of}
use Rattle.archive_lock.specs.History.{Member}
use Rattle.server.specs.Serving.{EndsFrom, EndsHistory, EndsUpTo, IsServed, IsServedAs, IsServedUpTo, stuck_by}
use Rattle.server.specs.declared.served.Served.{Served}
use Rattle.server.specs.declared.served.Stuck.{Stuck}

-- what closing gave
pub ends_history : {D : Type 0} {dg : Disk.Ghosts D} (life : D → Life) (opening : EngineState) (keeps strict : Bool) (passes : List (PassView Made)) (engine : Engine D dg) (begun : DeskState) (history : Stored Call) (new : Life) (stop : Option Stuck)
    → ((calls : List Member) × ClosesWith opening keeps passes calls (engine_seen life (view_of engine calls)) begun history) → new ≡ life engine.archive.storage.disk → stop ≡ stuck_by strict engine.archive.desk.state → EndsHistory opening strict new stop
ends_history life opening keeps strict passes engine begun history new stop (calls, closes) is stops =
    record { calls = calls; now = engine_seen life (view_of engine calls); legal = closes.legal; leads = closes.leads; settled = closes.settled; together = closes.together; left = is; stops = stops }

-- a history of a strict server is one of a server that is not
lenient : (opening : EngineState) (strict : Bool) (new : Life) (stop : Option Stuck) → EndsHistory opening strict new stop → EndsHistory opening false new None
lenient opening strict new stop ends =
    record { calls = ends.calls; now = ends.now; legal = ends.legal; leads = ends.leads; settled = ends.settled; together = ends.together; left = ends.left; stops = refl }

lenient_from : (strict : Bool) (beginning : Beginning) (first : SeenArchive) (new : Life) (stop : Option Stuck) → EndsFrom strict beginning first new stop → EndsFrom false beginning first new None
lenient_from strict beginning (Open engine) new stop ends = lenient engine strict new stop ends
lenient_from strict beginning (Closed life) new stop ends = (ends.0, refl)

pub served_leniently : (strict : Bool) (old new : Life) (stop : Option Stuck) → IsServedAs strict old new stop → IsServed old new
served_leniently strict old new stop served =
    record { first = served.first; beginning = served.beginning; begins = served.begins; ends = lenient_from strict served.beginning served.first new stop served.ends }

served_ok : (strict : Bool) (old : Life) (first : SeenArchive) (beginning : Beginning) (new : Life) (stop : Option Stuck) (end : Result (Unit {0}) EarlyEnd) → BeginsAs old beginning first → EndsUpTo strict beginning first new stop end → IsOk end → IsServedAs strict old new stop
served_ok strict old (Open engine) beginning new stop end begins (inl ends) is = record { first = Open engine; beginning = beginning; begins = begins; ends = ends }
served_ok strict old (Open engine) beginning new stop end begins (inr (memory, same)) is = let bad : false ≡ true = subst IsOk memory is in cc
served_ok strict old (Closed life) beginning new stop end begins ends is = record { first = Closed life; beginning = beginning; begins = begins; ends = ends }

served_err : (strict : Bool) (old : Life) (first : SeenArchive) (beginning : Beginning) (new : Life) (stop : Option Stuck) (end : Result (Unit {0}) EarlyEnd) (early : EarlyEnd) → BeginsAs old beginning first → EndsUpTo strict beginning first new stop end → end ≡ Err early → IsServedUpTo old new early
served_err strict old (Open engine) beginning new stop end early begins (inl ends) is = inl (served_leniently strict old new stop (record { first = Open engine; beginning = beginning; begins = begins; ends = ends }))
served_err strict old (Open engine) beginning new stop end early begins (inr (memory, same)) is = inr (cc, inr (inr (Open engine, beginning, begins, same)))
served_err strict old (Closed life) beginning new stop end early begins ends is = inl (served_leniently strict old new stop (record { first = Closed life; beginning = beginning; begins = begins; ends = ends }))

module _ {D : Type 0} (life : D → Life) (strict : Bool) (old : Life) (first : SeenArchive) (beginning : Beginning) (served : Served D) (end : Result (Unit {0}) EarlyEnd) (result : Result (Served D) (ScriptFault D))
    (begins : BeginsAs old beginning first) (ends : EndsUpTo strict beginning first (life served.disk) served.stop end)
    (handed : MatchResult result (λ back. (back ≡ served) × IsOk end) (λ fault. (disk_of fault ≡ served.disk) × (end ≡ Err (early_end_of fault)))) where
  pub stopped_back : IfOk result (λ back. IsServedAs strict old (life back.disk) back.stop)
  stopped_back = by result handed
    where
      by : (r : Result (Served D) (ScriptFault D)) → MatchResult r (λ back. (back ≡ served) × IsOk end) (λ fault. (disk_of fault ≡ served.disk) × (end ≡ Err (early_end_of fault)))
          → IfOk r (λ back. IsServedAs strict old (life back.disk) back.stop)
      by (Ok back) h = subst (λ (s : Served D). IsServedAs strict old (life s.disk) s.stop) (sym h.0) (served_ok strict old first beginning (life served.disk) served.stop end begins ends h.1)
      by (Err fault) h = tt

  pub served_back : IfOk result (λ back. IsServed old (life back.disk))
  served_back = by result stopped_back
    where
      by : (r : Result (Served D) (ScriptFault D)) → IfOk r (λ back. IsServedAs strict old (life back.disk) back.stop) → IfOk r (λ back. IsServed old (life back.disk))
      by (Ok back) h = served_leniently strict old (life back.disk) back.stop h
      by (Err fault) h = tt

  pub served_early : IfErr result (λ fault. IsServedUpTo old (life (disk_of fault)) (early_end_of fault))
  served_early = by result handed
    where
      by : (r : Result (Served D) (ScriptFault D)) → MatchResult r (λ back. (back ≡ served) × IsOk end) (λ fault. (disk_of fault ≡ served.disk) × (end ≡ Err (early_end_of fault)))
          → IfErr r (λ fault. IsServedUpTo old (life (disk_of fault)) (early_end_of fault))
      by (Ok back) h = tt
      by (Err fault) h = subst (λ d. IsServedUpTo old (life d) (early_end_of fault)) (sym h.0) (served_err strict old first beginning (life served.disk) served.stop end (early_end_of fault) begins ends h.1)
