use Rattle.ring_news.proofs.Once.{told_once}
use Rattle.ring_news.proofs.laws.failures_are_told_once.Goals as goal

pub returns : goal.returns
returns c = record { once = told_once }
