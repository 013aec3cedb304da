pub mod FollowedLemmas
