use Rattle.std.proofs.Common.{◌≡◌, drop, take}
use Rattle.std.specs.Prelude.{map}
use Rattle.std.specs.List.{filter}
use Rattle.frame_core.specs.Block.{AreEncodable}
use Rattle.frame_core.specs.FrameEncoding.{encoded}
use Rattle.image_core.specs.Repair.{asks_for}
use Rattle.image_core.proofs.repairs.repair.Given as goal

-- those before the index that are asked for have their datagrams
abbrev pub invariant-loop-frame : goal.invariant-loop-frame
invariant-loop-frame l = record {
  sent : l.datagrams ≡ map encoded (filter (asks_for l.nak) (take l.frame-index l.frames));
  encodable : AreEncodable (drop l.frame-index l.frames);
}
