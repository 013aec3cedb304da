mod NumbersLemmas
mod LinesLemmas
mod HexCaseLemmas
mod DigitLemmas
mod PairLemmas
mod PolledLemmas
mod WordLemmas
mod LineTextLemmas
