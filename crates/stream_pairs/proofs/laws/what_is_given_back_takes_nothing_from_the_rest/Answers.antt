use Rattle.stream_pairs.proofs.GivingLemmas.{leaves_the_rest, releases_no_other}
use Rattle.stream_pairs.proofs.laws.what_is_given_back_takes_nothing_from_the_rest.Goals as goal

pub returns-clause-places : goal.returns-clause-places
returns-clause-places c = leaves_the_rest

pub returns-clause-seats : goal.returns-clause-seats
returns-clause-seats c = releases_no_other
