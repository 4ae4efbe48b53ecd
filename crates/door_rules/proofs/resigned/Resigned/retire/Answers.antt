use Rattle.std.proofs.Common.{rules, Bool, not, filter, ap, ◌∙◌}
use Rattle.std.proofs.lemmas.Fn.{filter_same}
use Rattle.ring_records.specs.declared.key.Key.{Key}
use Rattle.ring_records.specs.Known.{drops}
use Rattle.door_rules.proofs.resigned.Resigned.retire.Goals as goal

pub returns : goal.returns
returns c =
    let test : Key → Bool = λ other. not (drops c.args.group.now c.args.floor other) in
    filter_same _ test _ (λ x b f' k. search rules) _ _ c.retain.ensures.filtered ∙ ap (filter test) c.self.view_is
