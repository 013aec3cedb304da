-- What a view shows.
use Rattle.catalogue_log.specs.LogState.{LogState}
use Rattle.control_core.specs.Desk.{DeskState}
use Rattle.archive_view.specs.declared.read_only.ReadOnly.{ReadOnly}
use Rattle.archive_view.specs.declared.view.ArchiveView.{ArchiveView}

module _ {D : Type 0} where
  -- its disk, which is only read
  abbrev pub read_of : ArchiveView D → ReadOnly D
  read_of view = view.disk

  -- its recordings and its history; nobody calls
  abbrev pub desk_of : ArchiveView D → DeskState
  desk_of view = view.desk.state

  -- where the entries of its catalogue ended
  abbrev pub log_of : ArchiveView D → LogState
  log_of view = view.log
