use Rattle.std.proofs.Common.{refl}
use Rattle.fx_script.specs.Reading.{reading}
use Rattle.fx_script.proofs.Spelled.{is_read, job_found}
use Rattle.fx_script.proofs.laws.reading_is_spelling.Goals as goal

pub returns-clause-read : goal.returns-clause-read
returns-clause-read c = is_read

pub returns-clause-spelled : goal.returns-clause-spelled
returns-clause-spelled c = λ text job e. job_found text (reading text) job refl e
