use Rattle.flow_control.proofs.RoomLemmas.{kept, room, whole}
use Rattle.flow_control.proofs.laws.what_a_window_admits_has_room.Goals as goal

pub returns-clause-room : goal.returns-clause-room
returns-clause-room c r most bytes le = room r most bytes le

pub returns-clause-whole : goal.returns-clause-whole
returns-clause-whole c r later most bytes f p le on encodable at within = whole r later most bytes f p le on encodable at within

pub returns-clause-kept : goal.returns-clause-kept
returns-clause-kept c r later most bytes fs le admitted on = kept r later most bytes fs le admitted on
