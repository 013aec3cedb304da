-- Lines are asked on one connection after another.
use Rattle.std.proofs.Common.{◌≡◌, ◌∙◌, ℕ, List, [], ◌∷◌, ◌++◌, Option, Some, None, inl, refl, subst, sym, ap, append-nil}
use Rattle.std.specs.List.{concat}
use Rattle.std.specs.Io.KnownBytes.{Appends}
use Rattle.std.proofs.KnownBytes.{Appends-nil, Appends-trans}
use Rattle.std.proofs.lemmas.List.Elements.{All-nil, All-push}
use Rattle.std.proofs.lemmas.List.Folds.{concat-append}
use Rattle.control_client.specs.declared.answer.Verdict.{Verdict}
use Rattle.control_client.specs.declared.fault.AskFault.{AskFault}
use Rattle.control_client.specs.declared.fault.AskFault.TheVariants.{Connection, Output, Memory}
use Rattle.control_client.specs.Asking.{AsksUpTo, EndsOnce, FailsOnce, GoOn, HasAsked, HasAskedSome, IsReply, IsReplyBegun, verdict_by}
use Rattle.control_client.specs.Lines.{text_of}

module _ (answers : List ℕ → Option (List ℕ) → Type 0) (asked : List (List ℕ)) (until : Option (List ℕ)) where
  -- connections by which asking goes on, and all that came on them was printed
  pub record HasGoneOn (contents written : Option (List ℕ)) : Type 0 where
    pub earlier : List (List ℕ)
    pub each : GoOn answers asked until earlier
    pub printed : Appends contents written (concat earlier)

  pub gone_nil : (contents : Option (List ℕ)) → HasGoneOn contents contents
  gone_nil contents = record { earlier = []; each = All-nil (λ came. IsReply answers (text_of asked) came × (verdict_by answers asked until came ≡ None)); printed = Appends-nil contents }

  concat-push : (earlier : List (List ℕ)) (came : List ℕ) → concat (earlier ++ came ∷ []) ≡ concat earlier ++ came
  concat-push earlier came = concat-append earlier (came ∷ []) ∙ ap (λ bytes. concat earlier ++ bytes) (append-nil came)

  -- one more
  pub gone_more : (text : List ℕ) (contents mid written : Option (List ℕ)) → text ≡ text_of asked → HasGoneOn contents mid → EndsOnce answers text asked until mid written None → HasGoneOn contents written
  gone_more text contents mid written is h once = record {
    earlier = h.earlier ++ once.came ∷ [];
    each = All-push (λ came. IsReply answers (text_of asked) came × (verdict_by answers asked until came ≡ None)) h.earlier once.came h.each
        (subst (λ t. IsReply answers t once.came) is once.reply, sym once.ends);
    printed = subst (Appends contents written) (sym (concat-push h.earlier once.came)) (Appends-trans contents mid written (concat h.earlier) once.came h.printed once.printed);
  }

  -- the last one
  pub asked_all : (text : List ℕ) (contents mid written : Option (List ℕ)) (verdict : Verdict) → text ≡ text_of asked → HasGoneOn contents mid
      → EndsOnce answers text asked until mid written (Some verdict) → HasAsked answers asked until contents written verdict
  asked_all text contents mid written verdict is h once = record {
    earlier = h.earlier;
    came = once.came;
    each = h.each;
    last = subst (λ t. IsReply answers t once.came) is once.reply;
    printed = Appends-trans contents mid written (concat h.earlier) once.came h.printed once.printed;
    ends = sym once.ends;
  }

  -- one that failed
  asked_some : (text : List ℕ) (contents mid written : Option (List ℕ)) → text ≡ text_of asked → HasGoneOn contents mid
      → (came : List ℕ) → IsReplyBegun answers text came → Appends mid written came → HasAskedSome answers asked until contents written
  asked_some text contents mid written is h came begun printed = record {
    earlier = h.earlier;
    came = came;
    each = h.each;
    last = subst (λ t. IsReplyBegun answers t came) is begun;
    printed = Appends-trans contents mid written (concat h.earlier) came h.printed printed;
  }

  pub asked_up_to : (text : List ℕ) (contents mid written : Option (List ℕ)) (fault : AskFault) → text ≡ text_of asked → HasGoneOn contents mid
      → FailsOnce answers text mid written fault → AsksUpTo answers asked until contents written fault
  asked_up_to text contents mid written Output is h fails = tt
  asked_up_to text contents mid written (Connection fault) is h fails = asked_some text contents mid written is h fails.0 fails.1 fails.2
  asked_up_to text contents mid written Memory is h fails = asked_some text contents mid written is h fails.0 fails.1 fails.2

  -- nothing was asked
  pub asked_none : (contents : Option (List ℕ)) (fault : AskFault) → AsksUpTo answers asked until contents contents fault
  asked_none contents Output = tt
  asked_none contents (Connection fault) = record { earlier = []; came = []; each = All-nil (λ came. IsReply answers (text_of asked) came × (verdict_by answers asked until came ≡ None)); last = inl refl; printed = Appends-nil contents }
  asked_none contents Memory = record { earlier = []; came = []; each = All-nil (λ came. IsReply answers (text_of asked) came × (verdict_by answers asked until came ≡ None)); last = inl refl; printed = Appends-nil contents }
