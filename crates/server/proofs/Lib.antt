mod ClientLemmas
mod ConsumerLemmas
mod ServingLemmas
mod FollowingLemmas
