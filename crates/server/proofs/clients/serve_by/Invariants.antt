use Rattle.server.proofs.clients.serve_by.Given as goal

-- the place that the pass's number names
abbrev pub ghosts-serve_at : goal.ghosts-serve_at
ghosts-serve_at g a = record { number = a.pass.number }
