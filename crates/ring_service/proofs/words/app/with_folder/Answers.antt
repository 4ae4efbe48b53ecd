use Rattle.std.proofs.Common.{refl}
use Rattle.ring_service.specs.Words.{with_works}
use Rattle.ring_service.proofs.Commands.{adds, adds_last}
use Rattle.ring_service.proofs.words.app.with_folder.Goals as goal

pub returns : goal.returns
returns c = adds_last c.in_ok-command-2.command _ with_works c.with_works.result c.with_works.ensures (adds _ _ _ _ _ c.in_ok-command-2.ensures c.in_ok-command.ensures refl)
