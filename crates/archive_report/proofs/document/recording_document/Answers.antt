use Rattle.std.proofs.Common.{◌≡◌, ◌∙◌, ◌++◌, ap, codes, string_bytes}
use Rattle.serde_json.specs.View.{view}
use Rattle.serde_json.specs.Written.{compact_text, has_float}
use Rattle.archive_report.specs.DocumentData.{recording_data, recording_text}
use Rattle.archive_report.proofs.DocumentLemmas.{recording}
use Rattle.archive_report.proofs.document.recording_document.Goals as goal

pub returns : goal.returns
unfolding recording_text
returns c =
    let files = c.args.summary.now.files.items in
    let known = c.args.known.now in
    let is : view c.in_ok-recording.recording ≡ recording_data files known = c.in_ok-recording.ensures in
    let text : string_bytes c.in_ok-text.text ≡ compact_text (view c.in_ok-recording.recording) = c.in_ok-text.ensures.text (ap has_float is ∙ recording files known) in
    c.in_ok-push_str.ensures.bytes ∙ ap (λ t. t ++ codes "\n") (text ∙ ap compact_text is)
