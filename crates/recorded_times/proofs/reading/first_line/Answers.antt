-- The first line, or none.
use Rattle.std.proofs.Common.{◌≡◌, ◌<◌, ap, length, refl, subst, sym, take, ◌∙◌}
use Rattle.std.specs.Prelude.{slice_index}
use Rattle.std.proofs.lemmas.List.{take_rest}
use Rattle.recorded_times.specs.Times.{HasNoEnd, times_line_of}
use Rattle.recorded_times.proofs.SearchLemmas.{first_found, more_within, none_found, skipped_more}
use Rattle.recorded_times.proofs.reading.first_line.Goals as goal

pub returns-in-Some-line_of : goal.returns-in-Some-line_of
returns-in-Some-line_of c =
    let rest = take_rest c.args.bytes.now c.texts.start in
    let size = c.in-Some.size in
    let end = subst (λ bytes. (size < length bytes) × (slice_index bytes size ≡ 10) × HasNoEnd (take size bytes)) rest c.in-Some.ensures.found in
    let line = sym (ap (λ bytes. times_line_of (take size bytes)) rest) ∙ sym c.line_of.ensures ∙ c.in-Some-line_of.is in
    first_found c.args.bytes.now c.texts.start size c.texts.invariant.1 end.0 end.1 end.2 c.in-Some-line_of.line _ line refl

pub texts-preserved : goal.texts-preserved
texts-preserved c =
    let rest = take_rest c.args.bytes.now c.texts.start in
    let size = c.in-Some.size in
    let end = subst (λ bytes. (size < length bytes) × (slice_index bytes size ≡ 10) × HasNoEnd (take size bytes)) rest c.in-Some.ensures.found in
    let line = sym (ap (λ bytes. times_line_of (take size bytes)) rest) ∙ sym c.line_of.ensures ∙ c.in_default-line_of.is in (
      more_within c.args.bytes.now c.texts.start size c.texts.invariant.0 end.0,
      skipped_more c.args.bytes.now c.texts.start size c.texts.invariant.1 end.0 end.1 end.2 line,
    )

pub returns : goal.returns
returns c = none_found c.args.bytes.now c.texts.start c.texts.invariant.1 (subst HasNoEnd (take_rest c.args.bytes.now c.texts.start) c.in_default.ensures.none)
