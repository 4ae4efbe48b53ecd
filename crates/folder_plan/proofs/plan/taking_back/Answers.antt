use Rattle.std.proofs.Common.{◌≡◌, List, [], ◌∷◌, ◌++◌, sym, ◌∙◌, ap, subst}
use Rattle.folder_plan.specs.declared.step.FolderStep.{FolderStep}
use Rattle.folder_plan.specs.declared.step.FolderStep.TheVariants.{Sync}
use Rattle.folder_plan.specs.Order.{Follows, IsTakenBack}
use Rattle.folder_plan.specs.Undo.{unmarking, unnaming}
use Rattle.folder_plan.proofs.Undoing.{taken-follows, taken-whole}
use Rattle.folder_plan.proofs.plan.taking_back.Goals as goal

together : (mark files both plan one two : List FolderStep) → mark ≡ one → files ≡ two → both ≡ mark ++ files → plan ≡ both ++ Sync ∷ [] → plan ≡ (one ++ two) ++ Sync ∷ []
together mark files both plan one two m f b p =
    p ∙ ap (λ l. l ++ Sync ∷ []) (b ∙ (ap (λ l. l ++ files) m ∙ ap (λ l. one ++ l) f))

pub returns-clause-order : goal.returns-clause-order
returns-clause-order c =
    let begun = c.args.begun.now in
    let is = together c.in_ok-plan.plan.items c.in_ok-unnaming.field-0.items c.append.new.self.items c.push.new.self.items (unmarking begun) (unnaming begun) c.in_ok-plan.ensures c.in_ok-unnaming.ensures c.in_ok-append.ensures.items c.in_ok-push.ensures.items in
    subst (Follows begun) (sym is) (taken-follows begun)

pub returns-clause-whole : goal.returns-clause-whole
returns-clause-whole c =
    let begun = c.args.begun.now in
    let is = together c.in_ok-plan.plan.items c.in_ok-unnaming.field-0.items c.append.new.self.items c.push.new.self.items (unmarking begun) (unnaming begun) c.in_ok-plan.ensures c.in_ok-unnaming.ensures c.in_ok-append.ensures.items c.in_ok-push.ensures.items in
    subst (IsTakenBack begun) (sym is) (taken-whole begun)
