-- What goes to an endpoint, and when: docs/PROTOCOL.md, "Publications of recordings".
use Rattle.std.specs.Prelude.{◌≡◌, ◌⊎◌, ◌≤◌, ◌+◌, ◌-◌, ◌&&◌, ◌^◌, ℕ, zero, suc, min, not, nat_lt, Bool, true, false, List, Option, None, Some, is_some, slice_get, Result, Ok, Err}
use Rattle.std.specs.declared.alloc.AllocError.{AllocError}
use Rattle.frame_core.specs.declared.frame.Frame.{Frame}
use Rattle.frame_core.specs.declared.setup.Setup.{Setup}
use Rattle.frame_core.specs.FrameEncoding.{header_of}
use Rattle.frame_core.specs.Setup.{encoded_setup}
use Rattle.flow_control.specs.Feedback.{has_passed, has_term}
use Rattle.publication_core.specs.declared.datagram.Datagram.{Datagram}
use Rattle.publication_core.specs.declared.due.Due.{Due}
use Rattle.publication_core.specs.declared.due.Due.TheVariants as dues
use Rattle.publication_core.specs.Flows.{after_heartbeat, after_setup}
use Rattle.publication_core.specs.Sending.{Sending, Sends, after_again, asked_first, due}
use Rattle.publication_core.specs.Signs.{IsHeartbeatOf, IsSetupOf, heartbeat_flags}
use Rattle.server_sender.specs.declared.endpoint.Endpoint.{Endpoint}
use Rattle.server_sender.specs.declared.publishing.SendOver.{SendOver}
use Rattle.server_sender.specs.declared.publishing.SendOver.TheVariants as overs
use Rattle.server_sender.specs.declared.stepping.Stepped.{Stepped}
use Rattle.server_sender.specs.declared.stepping.Stepped.TheVariants.{Sent, Idle, Over}
use Rattle.server_sender.specs.Publishing.{Concludes, PublishingView}

-- ---- when

-- the last setup frame was sent less than a second ago
abbrev pub is_recent : ℕ → Option ℕ → Bool
is_recent now None = false
is_recent now (Some at) = nat_lt (now - at) 1000

-- Setup frames are held back: no receiver has ever answered or asks for one, a minute has passed since the sending began, and the
-- last one was sent less than a second ago.
abbrev pub is_held_back : ℕ → PublishingView → Bool
is_held_back now p =
    let flow = p.sending.flow in
    not (is_some flow.heard_at) && not flow.is_setup_asked && has_passed 60000 p.begun_at now && is_recent now flow.setup_at

-- what is due, if setup frames are held back, or not
abbrev pub paced : Bool → Due → Due
paced true dues.Setup = dues.Nothing
paced held d = d

-- what is due of a sending
abbrev pub due_now : ℕ → PublishingView → Due
due_now now p = paced (is_held_back now p) (due now p.sending)

-- whether something went out, if so many datagrams did
abbrev pub stepped_after : ℕ → Stepped
stepped_after zero = Idle
stepped_after (suc n) = Sent

-- one repeat more
abbrev pub repeats_more : ℕ → ℕ
repeats_more n = min (n + 1) (2 ^ 64 - 1)

-- Whether something went out, if so many datagrams did. Nothing more is due then, unless that is as many as may go out.
abbrev pub HasSent : ℕ → ℕ → ℕ → Stepped → PublishingView → Type 0
HasSent most now n stepped p = (stepped ≡ stepped_after n) × ((n ≡ most) ⊎ (due_now now p ≡ dues.Nothing))

-- ---- what

module _ {E : Type 0} (puts : E → Endpoint → List ℕ → E → Type 0) (to : Endpoint) where
  -- the setup frame goes out, if the sender position has a term
  abbrev pub PutsSetup : Sending → E → E → Type 0
  PutsSetup s old new =
      ((has_term s.geometry s.flow.position ≡ false) × (new ≡ old))
      ⊎ ((setup : Setup) × IsSetupOf s.geometry s.publication s.flow.position setup × puts old to (encoded_setup setup) new)

  -- the heartbeat goes out, if it has one
  abbrev pub PutsHeartbeat : Sending → E → E → Type 0
  PutsHeartbeat s old new =
      ((has_term s.geometry s.flow.position ≡ false) × (new ≡ old))
      ⊎ ((f : Frame) × IsHeartbeatOf s.geometry s.publication (heartbeat_flags s.flow.ends_left) s.flow.position f × puts old to (header_of f) new)

  -- a datagram goes out, if there is one
  abbrev pub PutsFound : Option Datagram → E → E → Type 0
  PutsFound None old new = new ≡ old
  PutsFound (Some d) old new = puts old to d.bytes new

  -- that at an index goes out
  abbrev pub PutsAt : List Datagram → Option ℕ → E → E → Type 0
  PutsAt ds None old new = new ≡ old
  PutsAt ds (Some i) old new = PutsFound (slice_get ds i) old new

  -- a sending is over, and nothing goes out
  abbrev pub IsOver : SendOver → PublishingView → E → Stepped → PublishingView → E → Type 0
  IsOver over p e stepped q f = (stepped ≡ Over over) × (q ≡ p) × (f ≡ e)

  -- a datagram goes for the first time
  abbrev pub StepsFirst : ℕ → PublishingView → E → PublishingView → E → Type 0
  StepsFirst now p e q f = (found : Option ℕ) × Sends now p.sending found q.sending × (q ≡ record p { sending = q.sending }) × PutsAt q.sending.sent found e f

  -- what is due goes out, and the sending is this then
  abbrev pub StepsBy : ℕ → Due → PublishingView → E → Stepped → PublishingView → E → Type 0
  StepsBy now dues.Gone p e stepped q f = IsOver overs.Gone p e stepped q f
  StepsBy now dues.Refused p e stepped q f = IsOver overs.TooLong p e stepped q f
  StepsBy now dues.Done p e stepped q f = IsOver overs.Done p e stepped q f
  StepsBy now dues.Nothing p e stepped q f = (stepped ≡ Idle) × (q ≡ p) × (f ≡ e)
  StepsBy now dues.Setup p e stepped q f =
      (stepped ≡ Sent) × PutsSetup p.sending e f × (q ≡ record p { sending = record p.sending { flow = after_setup now p.sending.flow } })
  StepsBy now dues.Heartbeat p e stepped q f =
      (stepped ≡ Sent) × PutsHeartbeat p.sending e f × (q ≡ record p { sending = record p.sending { flow = after_heartbeat now p.sending.flow } })
  StepsBy now dues.Again p e stepped q f =
      (stepped ≡ Sent) × (q ≡ record p { sending = after_again now p.sending; repeats = repeats_more p.repeats })
      × PutsAt q.sending.sent (asked_first p.sending) e f
  StepsBy now dues.First p e stepped q f = (stepped ≡ Sent) × StepsFirst now p e q f

  abbrev pub StepsOnce : ℕ → PublishingView → E → Stepped → PublishingView → E → Type 0
  StepsOnce now p e stepped q f = StepsBy now (due_now now p) p e stepped q f

  -- ---- one after another

  -- so many datagrams go out, one after another
  abbrev pub StepsSent : ℕ → ℕ → PublishingView → E → PublishingView → E → Type 0
  StepsSent now zero p e q f = (q ≡ p) × (f ≡ e)
  StepsSent now (suc n) p e q f = (m : PublishingView) × (end : E) × StepsSent now n p e m end × StepsOnce now m end Sent q f

  -- there is no memory for what is due, which goes for the first time, and nothing goes out
  abbrev pub FailsToStep : ℕ → PublishingView → E → PublishingView → E → Type 0
  FailsToStep now p e q f = (due_now now p ≡ dues.First) × (q ≡ p) × (f ≡ e)

  -- how it ends behind n datagrams: the last step says that the sending is over; or nothing more is due, or no more may go out; or there
  -- was no memory
  abbrev pub EndsRun : ℕ → ℕ → ℕ → Result Stepped AllocError → PublishingView → E → PublishingView → E → Type 0
  EndsRun most now n (Ok (Over over)) p e q f = StepsOnce now p e (Over over) q f
  EndsRun most now n (Ok stepped) p e q f = HasSent most now n stepped p × (q ≡ p) × (f ≡ e)
  EndsRun most now n (Err error) p e q f = FailsToStep now p e q f

  -- datagrams go out, each as is due, so many at most, and then the sending may be over
  abbrev pub SendsRun : ℕ → ℕ → PublishingView → E → Result Stepped AllocError → PublishingView → E → Type 0
  SendsRun most now p e outcome q f =
      (n : ℕ) × (m : PublishingView) × (end : E) × (n ≤ most) × StepsSent now n p e m end × EndsRun most now n outcome m end q f

  -- unless all is consumed, and no more comes
  abbrev pub SendsUnless : ℕ → ℕ → Option SendOver → PublishingView → E → Result Stepped AllocError → PublishingView → E → Type 0
  SendsUnless most now None p e outcome q f = SendsRun most now p e outcome q f
  SendsUnless most now (Some over) p e outcome q f = (outcome ≡ Ok (Over over)) × (q ≡ p) × (f ≡ e)

  abbrev pub SendsSome : ℕ → ℕ → PublishingView → E → Result Stepped AllocError → PublishingView → E → Type 0
  SendsSome most now p e outcome q f =
      (over : Option SendOver) × (m : PublishingView) × Concludes p over m × SendsUnless most now over m e outcome q f
