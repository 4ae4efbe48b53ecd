-- The command of ringd's words.
use Rattle.std.proofs.Common.{ℕ, ◌≡◌, ◌∙◌, ap, subst, List, Result, Ok, Err, IfOk}
use Rattle.std.specs.declared.alloc.AllocError.{AllocError}
use Rattle.clap.specs.Words.{App, HasMatchesOf, Rule, app_of, with_rule}
use Rattle.clap.specs.declared.builder.command.Command.{Command}
use Rattle.clap.specs.declared.parser.matches.ArgMatches.{ArgMatches}

-- one more argument
pub adds : (app old named : App) (rule other : Rule) → app ≡ with_rule old rule → old ≡ named → rule ≡ other → app ≡ with_rule named other
adds app old named rule other more same known = more ∙ (ap (λ one. with_rule one rule) same ∙ ap (with_rule named) known)

-- the last one
pub adds_last : (old : Command) (named : App) (more : App → App) (r : Result Command AllocError)
    → IfOk r (λ command. app_of command ≡ more (app_of old)) → app_of old ≡ named → IfOk r (λ command. app_of command ≡ more named)
adds_last old named more (Ok last) told same = told ∙ ap more same
adds_last old named more (Err why) told same = told

-- what is matched by a command is matched by the one that it is
pub matches_same : (app named : App) (words : List (List ℕ)) (m : ArgMatches) → app ≡ named → HasMatchesOf app words m → HasMatchesOf named words m
matches_same app named words m same matched = subst (λ (a : App). HasMatchesOf a words m) same matched
