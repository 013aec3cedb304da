-- The names of files of times: docs/SERVING.md, "When a frame was recorded".
use Rattle.std.specs.Prelude.{◌&&◌, ◌++◌, ℕ, Bool, List, ◌∷◌, codes, drop, length, nat_eq}
use Rattle.std.specs.List.{starts_with, ends_with}
use Rattle.std.specs.Fmt.{decimal, signed_decimal}
use Rattle.recorded_times.specs.declared.names.TimesName.{TimesName}

-- the recording's id and its start timestamp, with a hyphen between them
abbrev pub name_text : TimesName → List ℕ
name_text name = decimal name.recording ++ (45 ∷ (signed_decimal name.start_timestamp ++ codes ".times"))

-- a name that begins with a recording's id, goes on with a hyphen, and ends as such names do
abbrev pub is_name_of : List ℕ → ℕ → Bool
is_name_of name recording =
    starts_with nat_eq name (decimal recording) && (starts_with nat_eq (drop (length (decimal recording)) name) (codes "-") && ends_with nat_eq name (codes ".times"))
