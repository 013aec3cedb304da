use Rattle.host_disk.specs.Replay.{replay}
use Rattle.host_disk.proofs.OtherOpeningLemmas.{long_left, same_read, some_read}
use Rattle.host_disk.proofs.laws.what_every_crash_leaves_is_read.Goals as goal

pub returns-clause-same : goal.returns-clause-same
returns-clause-same c old new earlier file from at count bytes after only sees =
    same_read old new file from bytes only at count (replay earlier).asked after sees.0

pub returns-clause-some : goal.returns-clause-some
returns-clause-some c old new earlier file from at count bytes after only sees =
    some_read old new file from bytes only at count (replay earlier).asked after sees.0

pub returns-clause-long : goal.returns-clause-long
returns-clause-long c old new earlier file from count bytes only sees = long_left old new file from bytes only count sees.0
