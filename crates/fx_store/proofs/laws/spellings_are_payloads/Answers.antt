use Rattle.fx_store.proofs.Spellings as law
use Rattle.fx_store.proofs.laws.spellings_are_payloads.Goals as goal

pub returns : goal.returns
returns c = record { payload = law.spelled_payload; bytes = law.spelled_bytes }
