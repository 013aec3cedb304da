mod AnswerLemmas
mod OpeningLemmas
mod SendingLemmas
mod TurnLemmas
