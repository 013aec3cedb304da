mod KnownLemmas
mod LookLemmas
mod HiddenLemmas
