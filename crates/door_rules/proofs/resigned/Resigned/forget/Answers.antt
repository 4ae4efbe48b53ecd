use Rattle.std.proofs.Common.{rules, Bool, not, filter, ap, ◌∙◌}
use Rattle.std.proofs.lemmas.Fn.{filter_same}
use Rattle.ring_records.specs.declared.key.Key.{Key}
use Rattle.ring_records.specs.Order.{is_key}
use Rattle.door_rules.proofs.resigned.Resigned.forget.Goals as goal

pub returns : goal.returns
returns c =
    let test : Key → Bool = λ other. not (is_key other c.args.key.now) in
    filter_same _ test _ (λ x b f' k. search rules) _ _ c.retain.ensures.filtered ∙ ap (filter test) c.self.view_is
