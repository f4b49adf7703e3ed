use Rattle.std.proofs.Common.{refl}
use Rattle.fx_store.proofs.Sounds as law
use Rattle.fx_store.proofs.laws.the_free_stamp_stays.Goals as goal

pub returns : goal.returns
returns c = record {
  made = law.free_of_new;
  attached = λ s m. refl;
  stored = λ s m piece. refl;
  committed = law.free_after_committing;
  discarded = law.free_after_discarding;
  deleted = λ s stamp. refl;
  closed = law.free_after_closing;
  promoted = law.free_after_promoting;
}
