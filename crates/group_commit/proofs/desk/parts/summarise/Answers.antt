use Rattle.std.proofs.Common.{rules, ◌≡◌, ◌<◌, ◌^◌, true, is_ok, sym, subst, arith}
use Rattle.std.specs.FinMap as map
use Rattle.ring_records.specs.declared.summary.Summary.{Summary}
use Rattle.group_commit.proofs.Opening.{on_ok}
use Rattle.group_commit.proofs.Settling.{still_loaded}
use Rattle.group_commit.proofs.Since.{few_keys}
use Rattle.group_commit.proofs.desk.parts.summarise.Goals as goal

pub new-requires-clause-few_keys : goal.new-requires-clause-few_keys
new-requires-clause-few_keys c =
    let few = few_keys c.args.core.now.known in
    let short = c.requires.short in
    subst (λ (s : Summary). map.len s.keys < 2 ^ 32) (sym c.in-Ok.ensures.value) (omega (arith, few, short))

pub returns-in-Ok-new-clause-loaded : goal.returns-in-Ok-new-clause-loaded
returns-in-Ok-new-clause-loaded c =
    let loaded : is_ok c.load.result ≡ true = search rules in
    on_ok c.load.result loaded c.load.ensures.loaded

pub returns-in_default-clause-err : goal.returns-in_default-clause-err
returns-in_default-clause-err c =
    let loaded : is_ok c.load.result ≡ true = search rules in
    still_loaded _ _ _ (on_ok c.load.result loaded c.load.ensures.loaded)

pub returns-in-Err-clause-err : goal.returns-in-Err-clause-err
returns-in-Err-clause-err c =
    let loaded : is_ok c.load.result ≡ true = search rules in
    still_loaded _ _ _ (on_ok c.load.result loaded c.load.ensures.loaded)
