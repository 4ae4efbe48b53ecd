use Rattle.clap.specs.Words.{app_of}
use Rattle.ring_service.specs.Words.{ringd_app}
use Rattle.ring_service.proofs.Commands.{matches_same}
use Rattle.ring_service.proofs.words.read_words.Goals as goal

pub returns-in-Ok-clause-told : goal.returns-in-Ok-clause-told
returns-in-Ok-clause-told c = record {
  matches = c.in_ok-matches.matches;
  matched = matches_same (app_of c.in_ok-command.command) ringd_app _ c.in_ok-matches.matches c.in_ok-command.ensures c.in_ok-matches.ensures.ok.2;
  said = rw c.in-Ok.is at c.words_of.ensures.said;
}
