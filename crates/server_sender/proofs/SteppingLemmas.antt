-- Steps of a sending, one after another.
use Rattle.std.proofs.Common.{◌≡◌, ◌≤◌, inl, inr, ◌+◌, ℕ, suc, zero, List, subst, refl, arith}
use Rattle.std.specs.Prelude.{Err, Ok}
use Rattle.std.specs.declared.alloc.AllocError.{AllocError}
use Rattle.server_sender.specs.declared.endpoint.Endpoint.{Endpoint}
use Rattle.server_sender.specs.declared.publishing.SendOver.{SendOver}
use Rattle.server_sender.specs.declared.stepping.Stepped.TheVariants.{Idle, Over, Sent}
use Rattle.server_sender.specs.Publishing.{PublishingView}
use Rattle.server_sender.specs.Stepping.{FailsToStep, SendsRun, StepsBy, StepsOnce, StepsSent, due_now, stepped_after}
use Rattle.publication_core.specs.declared.due.Due.{Due}
use Rattle.publication_core.specs.declared.due.Due.TheVariants as dues

module _ {E : Type 0} (puts : E → Endpoint → List ℕ → E → Type 0) (to : Endpoint) (now : ℕ) where
  -- one datagram more went out
  pub one_more : (n : ℕ) (p m q : PublishingView) (e mid f : E) → StepsSent puts to now n p e m mid → StepsOnce puts to now m mid Sent q f
      → StepsSent puts to now (n + 1) p e q f
  one_more n p m q e mid f before step =
      let more : suc n ≡ n + 1 = omega arith in
      subst (λ (k : ℕ). StepsSent puts to now k p e q f) more (m, mid, before, step)

  -- if nothing went out and it is not over, nothing is due, and nothing has changed
  idle_by : (d : Due) (p q : PublishingView) (e f : E) → StepsBy puts to now d p e Idle q f → (d ≡ dues.Nothing) × (q ≡ p) × (f ≡ e)
  idle_by dues.Nothing p q e f by = (refl, by.1, by.2)
  idle_by dues.Gone p q e f by = absurd (cc)
  idle_by dues.Refused p q e f by = absurd (cc)
  idle_by dues.Done p q e f by = absurd (cc)
  idle_by dues.Setup p q e f by = absurd (cc)
  idle_by dues.Heartbeat p q e f by = absurd (cc)
  idle_by dues.Again p q e f by = absurd (cc)
  idle_by dues.First p q e f by = absurd (cc)

  -- as many went out as may
  pub sent_all : (n : ℕ) (p m : PublishingView) (e mid : E) → StepsSent puts to now n p e m mid → SendsRun puts to n now p e (Ok (stepped_after n)) m mid
  sent_all zero p m e mid before = (zero, m, mid, omega arith, before, ((refl, inl refl), refl, refl))
  sent_all (suc n) p m e mid before = (suc n, m, mid, omega arith, before, ((refl, inl refl), refl, refl))

  -- nothing more is due
  none_due : (most n : ℕ) (p m q : PublishingView) (e mid f : E) → n ≤ most → StepsSent puts to now n p e m mid
      → (due_now now m ≡ dues.Nothing) → (q ≡ m) → (f ≡ mid) → SendsRun puts to most now p e (Ok (stepped_after n)) q f
  none_due most zero p m q e mid f at_most before none same end = (zero, m, mid, at_most, before, ((refl, inr none), same, end))
  none_due most (suc n) p m q e mid f at_most before none same end = (suc n, m, mid, at_most, before, ((refl, inr none), same, end))

  pub sent_so_many : (most n : ℕ) (p m q : PublishingView) (e mid f : E) → n ≤ most → StepsSent puts to now n p e m mid
      → StepsOnce puts to now m mid Idle q f → SendsRun puts to most now p e (Ok (stepped_after n)) q f
  sent_so_many most n p m q e mid f at_most before step =
      let idle = idle_by (due_now now m) m q mid f step in
      none_due most n p m q e mid f at_most before idle.0 idle.1 idle.2

  -- there was no memory for one more
  pub sent_without_memory : (most n : ℕ) (p m q : PublishingView) (e mid f : E) (error : AllocError) → n ≤ most → StepsSent puts to now n p e m mid
      → FailsToStep puts to now m mid q f → SendsRun puts to most now p e (Err error) q f
  sent_without_memory most n p m q e mid f error at_most before fails = (n, m, mid, at_most, before, fails)

  -- the sending was over then
  pub sent_and_over : (most n : ℕ) (p m q : PublishingView) (e mid f : E) (over : SendOver) → n ≤ most → StepsSent puts to now n p e m mid
      → StepsOnce puts to now m mid (Over over) q f → SendsRun puts to most now p e (Ok (Over over)) q f
  sent_and_over most n p m q e mid f over at_most before step = (n, m, mid, at_most, before, step)
