mod FolderLemmas
mod RunLemmas
mod ViewLemmas
mod LookingLemmas
mod ExportLemmas
mod ServingLemmas
mod HiddenLemmas
mod AskingLemmas
