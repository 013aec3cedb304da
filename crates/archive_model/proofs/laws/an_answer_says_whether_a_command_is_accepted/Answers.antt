use Rattle.archive_model.proofs.AnswerLemmas.{accepts_answer, answer_accepts, refusal_denies}
use Rattle.archive_model.proofs.laws.an_answer_says_whether_a_command_is_accepted.Goals as goal

pub returns : goal.returns
returns c = record { ok = λ b k reply. (answer_accepts b k reply, accepts_answer b k reply); refused = λ b k refusal other answer accepts. refusal_denies b k refusal other answer accepts }
