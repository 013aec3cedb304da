-- Archives that can record nothing any more: docs/SERVING.md, "A server that ends by itself".
use Rattle.std.specs.Prelude.{◌||◌, Bool, nat_le}
use Rattle.archive_lock.specs.declared.standing.Standing.{Standing}

-- a write has failed, or the history has as many entries as it may have
abbrev pub is_stuck : Standing → Bool
is_stuck s = s.is_broken || nat_le s.limit s.counted
