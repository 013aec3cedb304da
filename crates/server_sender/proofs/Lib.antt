mod EachLemmas
mod LineLemmas
mod SteppingLemmas
