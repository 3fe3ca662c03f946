use Rattle.selector_eval.proofs.LikeLaw.{like_test}
use Rattle.selector_eval.proofs.laws.like.Goals as goal

pub returns : goal.returns
returns c = like_test
