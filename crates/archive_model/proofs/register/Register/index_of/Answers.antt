use Rattle.std.specs.Map.{keys_of, values_of}
use Rattle.archive_model.specs.Register.{id_of}
use Rattle.archive_model.proofs.RegisterLemmas.{index_of_number}
use Rattle.archive_model.proofs.register.Register.index_of.Goals as goal

pub returns : goal.returns
returns c =
    let es = c.self.inside.map.entries in
    rw (← c.self.view_is, c.get_index_of.ensures.index) (index_of_number id_of c.args.id.now (keys_of es) (values_of es) c.self.invariant.keyed)
