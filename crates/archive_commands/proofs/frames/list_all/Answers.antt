use Rattle.std.proofs.Common.{rules}
use Rattle.archive_commands.proofs.FrameLinesLemmas.{all_listed, one_listed}
use Rattle.archive_commands.proofs.frames.list_all.Goals as goal

pub returns-in-Some-clause-listed : goal.returns-in-Some-clause-listed
returns-in-Some-clause-listed g c = all_listed _ _ (g.R.Read.remaining c.list_next.new.reader) _ _ _ _ c.list_next.new.progress c.in-Some.listing c.loop-listing.invariant.listed (rw c.in-Some.is at c.in_ok-listing.ensures.listed)

pub loop-listing-preserved : goal.loop-listing-preserved
loop-listing-preserved g c = record {
  fewer = search rules;
  listed = one_listed _ _ _ _ _ _ _ _ c.loop-listing.invariant.listed (search rules);
}
