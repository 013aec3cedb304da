pub mod HeldLemmas
pub mod StreamLemmas
pub mod EndLemmas
pub mod JoinLemmas
pub mod BoundLemmas
