use Rattle.fx_store.proofs.Sounds as law
use Rattle.fx_store.proofs.laws.stores_are_sound.Goals as goal

pub returns : goal.returns
returns c = record {
  made = law.sound_new;
  attached = law.sound_attaching;
  stored = law.sound_storing;
  committed = law.sound_committing;
  closed = law.sound_closing;
  promoted = law.sound_promoting;
  discarded = law.sound_discarding;
  deleted = law.sound_deleting;
}
