use Rattle.publication_core.proofs.BoundedLemmas.{bounded_copies, bounded_room, bounded_stands}
use Rattle.publication_core.proofs.laws.what_a_sender_sends_has_room_in_a_bounded_image.Goals as goal

pub returns-clause-room : goal.returns-clause-room
returns-clause-room c = bounded_room

pub returns-clause-same : goal.returns-clause-same
returns-clause-same c = bounded_stands

pub returns-clause-copy : goal.returns-clause-copy
returns-clause-copy c = bounded_copies
