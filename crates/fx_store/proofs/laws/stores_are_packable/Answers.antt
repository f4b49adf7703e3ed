use Rattle.fx_store.proofs.Packables as law
use Rattle.fx_store.proofs.laws.stores_are_packable.Goals as goal

pub returns : goal.returns
returns c = record {
  made = law.packable_new;
  attached = law.packable_attaching;
  stored = law.packable_storing;
  committed = law.packable_committing;
  closed = law.packable_closing;
  promoted = law.packable_promoting;
  discarded = law.packable_discarding;
  deleted = law.packable_deleting;
}
