use Rattle.std.proofs.Common.{◌≡◌, ◌∙◌, ◌++◌, ap, codes, string_bytes}
use Rattle.serde_json.specs.View.{view}
use Rattle.serde_json.specs.Written.{compact_text, has_float}
use Rattle.archive_report.specs.DocumentData.{document_data, document_text}
use Rattle.archive_report.proofs.DocumentLemmas.{no_float}
use Rattle.archive_report.proofs.document.document_of.Goals as goal

pub returns : goal.returns
unfolding document_text document_data
returns c =
    let desk = c.args.desk.now.state in
    let summary = c.args.summary.now in
    let all : view c.in_ok-document.document ≡ document_data desk summary.files.items summary.stale.items summary.unknown.items =
    c.in_ok-document.ensures ∙ rw (c.of_all.ensures, c.in_ok-recordings.ensures, c.recordings.ensures.all, c.in_ok-stale.ensures, c.as_slice.ensures.value, c.in_ok-unknown.ensures, c.as_slice-2.ensures.value) in
    let text : string_bytes c.in_ok-text.text ≡ compact_text (view c.in_ok-document.document) = c.in_ok-text.ensures.text (ap has_float all ∙ no_float desk summary.files.items summary.stale.items summary.unknown.items) in
    c.in_ok-push_str.ensures.bytes ∙ ap (λ t. t ++ codes "\n") (text ∙ ap compact_text all)
