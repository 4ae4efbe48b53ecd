use Rattle.std.proofs.Common.{rules, Bool, not, filter, ap, ◌∙◌}
use Rattle.std.proofs.lemmas.Fn.{filter_same}
use Rattle.ring_records.specs.Known.{drops}
use Rattle.door_rules.specs.Told.{Told}
use Rattle.door_rules.proofs.stood.Stood.retire.Goals as goal

pub returns : goal.returns
returns c =
    let test : Told → Bool = λ told. not (drops c.args.group.now c.args.floor told.key) in
    filter_same _ test _ (λ x b f' k. search rules) _ _ c.retain.ensures.filtered ∙ ap (filter test) c.self.view_is
