use Rattle.std.proofs.Common.{rules, FitsSigned}
use Rattle.std.specs.Int.{w64}
use Rattle.server_sender.proofs.LineLemmas.{behind_recording, behind_position, behind_length}
use Rattle.server_sender.proofs.line.fields_of.Goals as goal

pub returns-in_default-number_before : goal.returns-in_default-number_before
returns-in_default-number_before c = λ f fit e.
    let fits : FitsSigned w64 c.in-Some.recording = search rules in
    let rest = behind_recording c.args.text.now c.in-Some.rest.now c.in-Some.recording f fits fit c.in-Some.ensures.some e in
    c.in_default-number_before.ensures.none f.position _ fit.position rest

pub returns-in_default-number_before-2 : goal.returns-in_default-number_before-2
returns-in_default-number_before-2 c = λ f fit e.
    let fits : FitsSigned w64 c.in-Some.recording = search rules in
    let fits_position : FitsSigned w64 c.in-Some-number_before.position = search rules in
    let rest = behind_recording c.args.text.now c.in-Some.rest.now c.in-Some.recording f fits fit c.in-Some.ensures.some e in
    let more = behind_position c.in-Some.rest.now c.in-Some-number_before.rest.now c.in-Some-number_before.position f fits_position fit c.in-Some-number_before.ensures.some rest in
    c.in_default-number_before-2.ensures.none f.length _ fit.length more

pub returns-in-None : goal.returns-in-None
returns-in-None c = λ f fit e.
    let fits : FitsSigned w64 c.in-Some.recording = search rules in
    let fits_position : FitsSigned w64 c.in-Some-number_before.position = search rules in
    let fits_length : FitsSigned w64 c.in-Some-number_before-2.length = search rules in
    let rest = behind_recording c.args.text.now c.in-Some.rest.now c.in-Some.recording f fits fit c.in-Some.ensures.some e in
    let more = behind_position c.in-Some.rest.now c.in-Some-number_before.rest.now c.in-Some-number_before.position f fits_position fit c.in-Some-number_before.ensures.some rest in
    let last = behind_length c.in-Some-number_before.rest.now c.in-Some-number_before-2.rest.now c.in-Some-number_before-2.length f fits_length fit c.in-Some-number_before-2.ensures.some more in
    let none = rw c.in-None.is at c.in_ok-endpoint.ensures in
    none f.endpoint fit.endpoint last
