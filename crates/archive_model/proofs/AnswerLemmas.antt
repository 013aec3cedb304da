-- An answer is the reply to an accepted command, or a refusal of one that is not.
use Rattle.std.proofs.Common.{◌≡◌, ◌≢◌, Bool, true, false, cond, ◌&&◌, List, [], ◌∷◌, Result, Ok, Err, refl, sym, ap, ◌∙◌, true≢false}
use Rattle.frame_core.specs.declared.refusal.Refusal.{Refusal}
use Rattle.frame_core.specs.declared.refusal.Refusal.TheVariants.{NoMemory}
use Rattle.frame_core.specs.Outcome.{Refuses}
use Rattle.archive_model.specs.declared.command.Command.{Command}
use Rattle.archive_model.specs.declared.command.Command.TheVariants.{Start, Append, Stop, Extend, Truncate, PurgeSegments, PurgeRecording, Restart}
use Rattle.archive_model.specs.declared.reply.Reply.{Reply}
use Rattle.archive_model.specs.State.{State}
use Rattle.archive_model.specs.Commands.{reply_to}
use Rattle.archive_model.specs.Acceptance.{BookState}
use Rattle.archive_model.specs.Accepting.{Accepts, Answers, Says, tests_of}
use Rattle.archive_model.specs.Checks.{Tests, checked, checks, passes}

refuses : {Y : Type 0} (refusal : Refusal) (decided : Result Y Refusal) → Err refusal ≡ decided → Refuses refusal decided
refuses NoMemory decided is = tt
refuses refusal decided is = sym is

-- what is decided is answered
pub shown : (b : BookState) (c : Command) (said : Bool) (result : Result Reply Refusal) → Says b.state c said → result ≡ checked (tests_of b said c) checks (Ok (reply_to b.state c)) → Answers b c result
shown b c said (Ok reply) says is = (said, says, sym is)
shown b c said (Err refusal) says is = (said, says, refuses refusal _ is)

-- where each test holds, the answer is given; where it is given, each holds
pub all_hold : {X : Type 0} (tests : Tests) (rs : List Refusal) (answer : Result X Refusal) (x : X) → checked tests rs answer ≡ Ok x → (passes tests rs ≡ true) × (answer ≡ Ok x)
all_hold tests [] answer x is = (refl, is)
all_hold {X = X} tests (r ∷ rs) answer x is = by (tests r) is (all_hold tests rs answer x)
  where
    by : (b : Bool) → cond b (checked tests rs answer) (Err r) ≡ Ok x → (checked tests rs answer ≡ Ok x → (passes tests rs ≡ true) × (answer ≡ Ok x)) → (b && passes tests rs ≡ true) × (answer ≡ Ok x)
    by true is rest = rest is
    by false is rest = absurd cc

pub passed : {X : Type 0} (tests : Tests) (rs : List Refusal) (answer : Result X Refusal) → passes tests rs ≡ true → checked tests rs answer ≡ answer
passed tests [] answer all = refl
passed tests (r ∷ rs) answer all = by (tests r) all (passed tests rs answer)
  where
    by : (b : Bool) → b && passes tests rs ≡ true → (passes tests rs ≡ true → checked tests rs answer ≡ answer) → cond b (checked tests rs answer) (Err r) ≡ answer
    by true all rest = rest all
    by false all rest = absurd (true≢false (sym all))

pub answer_accepts : (b : BookState) (c : Command) (reply : Reply) → Answers b c (Ok reply) → Accepts b c × (reply ≡ reply_to b.state c)
answer_accepts b c reply (said, says, gives) =
    let held = all_hold (tests_of b said c) checks (Ok (reply_to b.state c)) reply gives in
    let same : Ok (reply_to b.state c) ≡ Ok reply = held.1 in ((said, says, held.0), cc)

pub accepts_answer : (b : BookState) (c : Command) (reply : Reply) → Accepts b c × (reply ≡ reply_to b.state c) → Answers b c (Ok reply)
accepts_answer b c reply ((said, says, pass), is) = (said, says, passed (tests_of b said c) checks (Ok (reply_to b.state c)) pass ∙ ap Ok (sym is))

-- the frames say one thing
says_one : (s : State) (c : Command) (x y : Bool) → Says s c x → Says s c y → x ≡ y
says_one s (Append id blocks) true true follow follows = refl
says_one s (Append id blocks) true false follow not = absurd (not follow)
says_one s (Append id blocks) false true not follow = absurd (not follow)
says_one s (Append id blocks) false false not nor = refl
says_one s (Start f) x y says tells = says ∙ sym tells
says_one s (Stop id timestamp) x y says tells = says ∙ sym tells
says_one s (Extend f) x y says tells = says ∙ sym tells
says_one s (Truncate id position) x y says tells = says ∙ sym tells
says_one s (PurgeSegments id position) x y says tells = says ∙ sym tells
says_one s (PurgeRecording id) x y says tells = says ∙ sym tells
says_one s Restart x y says tells = says ∙ sym tells

refused : {Y : Type 0} (refusal : Refusal) (decided : Result Y Refusal) → refusal ≢ NoMemory → Refuses refusal decided → decided ≡ Err refusal
refused NoMemory decided other is = absurd (other refl)
refused refusal decided other is = is

pub refusal_denies : (b : BookState) (c : Command) (refusal : Refusal) → refusal ≢ NoMemory → Answers b c (Err refusal) → Accepts b c → ⊥
refusal_denies b c refusal other (said, says, is) (told, tells, pass) =
    let same : said ≡ told = says_one b.state c said told says tells in
    let ok : checked (tests_of b told c) checks (Ok (reply_to b.state c)) ≡ Ok (reply_to b.state c) = passed (tests_of b told c) checks _ pass in
    let err : checked (tests_of b told c) checks (Ok (reply_to b.state c)) ≡ Err refusal = rw (← same) (refused refusal _ other is) in
    let clash : Ok (reply_to b.state c) ≡ Err refusal = sym ok ∙ err in cc
