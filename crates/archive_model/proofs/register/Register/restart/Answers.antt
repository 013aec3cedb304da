use Rattle.std.proofs.Common.{List, ap, ◌∙◌, arith}
use Rattle.std.specs.Map.{values_of}
use Rattle.indexmap.specs.Layout.{length-set_value_at}
use Rattle.archive_model.specs.declared.registration.Registration.{Registration}
use Rattle.archive_model.specs.Register.{restarted}
use Rattle.archive_model.proofs.RegisterLemmas.{all_made, keeps_restarted, restarted_more, values_length}
use Rattle.archive_model.proofs.register.Register.restart.Goals as goal

pub index_mut-recording-requires : goal.index_mut-recording-requires
index_mut-recording-requires c = let same = c.loop-index.invariant.size in omega arith

pub loop-index-preserved : goal.loop-index-preserved
loop-index-preserved c = record {
  keeps = keeps_restarted _ _ c.loop-index.index _ _ c.loop-index.invariant.keeps c.index_mut-recording.ensures.value c.restart.ensures;
  size = length-set_value_at c.loop-index.self-inside.map.entries c.loop-index.index c.restart.new.self ∙ c.loop-index.invariant.size;
  next = c.loop-index.invariant.next;
  done = restarted_more _ _ c.loop-index.index _ _ c.loop-index.invariant.done c.index_mut-recording.ensures.value c.restart.ensures;
}

pub returns : goal.returns
returns c =
    let all = values_length c.self.inside.map.entries in
    let done = c.loop-index.invariant.done ∙ all_made restarted c.loop-index.index (values_of c.self.inside.map.entries) (omega arith) in
    rw (← c.self.view_is, c.loop-index.invariant.next) (ap (λ (rs : List Registration). record { recordings = rs; next = c.self.inside.next }) done)
