use Rattle.std.proofs.Common.{rules, FitsSigned, w32}
use Rattle.std.proofs.lemmas.Int.{to_z-of_z}
use Rattle.flow_control.specs.Windows.{receiver_window}
use Rattle.flow_control.proofs.AlignmentLemmas.{stands}
use Rattle.flow_control.proofs.RoomLemmas.{room_of, window_low}
use Rattle.flow_control.proofs.feedback.Feedback.status.Goals as goal

pub returns-clause-room : goal.returns-clause-room
returns-clause-room c =
    let fits : FitsSigned w32 c.args.most = search rules in
    let is = simp to_z-of_z at c.status_of.ensures.window in
    room_of c.args.image.now c.args.most c.status_of.result.receiver_window is

pub returns-clause-stands : goal.returns-clause-stands
returns-clause-stands c aligned least =
    let fits : FitsSigned w32 c.args.most = search rules in
    let is = simp to_z-of_z at c.status_of.ensures in
    stands c.args.image.now c.args.bound (receiver_window c.args.image.now.geometry c.args.most) _ c.status_of.result is (window_low c.args.image.now.geometry c.args.most least) aligned
