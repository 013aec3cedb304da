mod ExportLemmas
mod EndLemmas
