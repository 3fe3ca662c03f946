use Rattle.resume_core.proofs.Lawful.{resumes_law}
use Rattle.resume_core.proofs.laws.resumes_without_cause.Goals as goal

pub returns : goal.returns
returns c = resumes_law
