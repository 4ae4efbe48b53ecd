use Rattle.std.proofs.Common.{rules, ◌≡◌, ◌+◌, ◌-◌, ◌++◌, ℕ, List, length, take, drop, sym, ◌∙◌, ap, subst, arith}
use Rattle.std.proofs.lemmas.List.{drop-drop}
use Rattle.disk_model.proofs.Images.{part_within}
use Rattle.gated_journal.specs.Listed.{IsListed}
use Rattle.gated_journal.proofs.AreaParts.{take_plus, take_twice}
use Rattle.gated_journal.proofs.FramesAlone.{drop_taken}
use Rattle.gated_journal.proofs.listed.list_next.Goals as goal

-- what was kept with what was read is the image's
joined : (g : _) (c : goal.In-Ok g)
    → c.args.rest.now.items ++ c.read_part.new.buf ≡ take (length c.args.rest.now.items + length c.args.piece.now) (drop c.args.at (g.D.Device.disk c.args.device.now).image)
joined g c =
    let image = (g.D.Device.disk c.args.device.now).image in
    let at = c.args.at in
    let kept = c.args.rest.now.items in
    let k = length kept in
    let piece = c.read_part.new.buf in
    let long : length piece ≡ length c.args.piece.now = search rules in
    let end : at + c.len.result ≡ at + k = omega (arith, c.len.ensures) in
    let read : piece ≡ take (length c.args.piece.now) (drop (at + k) image) =
    part_within (at + c.len.result) piece image c.in_default.ensures.part (omega (arith, long, end, c.requires.there)) ∙ (λ i. take (long i) (drop (end i) image)) in
    (λ i. c.requires.rest i ++ (read ∙ ap (λ (l : List ℕ). take (length c.args.piece.now) l) (sym (drop-drop k at image))) i) ∙ take_plus k (length c.args.piece.now) (k + length c.args.piece.now) (drop at image) (omega arith)

pub returns-in-Ok-clause-lists : goal.returns-in-Ok-clause-lists
returns-in-Ok-clause-lists g c = λ taken l.
    let image = (g.D.Device.disk c.args.device.now).image in
    let all = length c.args.rest.now.items + length c.args.piece.now in
    let n = c.in-Ok.next.1 in
    let long : length c.read_part.new.buf ≡ length c.args.piece.now = search rules in
    let same : take n (c.args.rest.now.items ++ c.read_part.new.buf) ≡ take n (drop c.args.at image) =
    ap (λ (b : List ℕ). take n b) (joined g c) ∙ take_twice n all (drop c.args.at image) (omega (arith, c.in-Ok.ensures.size, long)) in
    subst (λ (b : List ℕ). IsListed 1 c.in-Ok.next.0 (taken ++ b) c.list_piece.new.inputs.items c.list_piece.new.rest.items) same (c.in-Ok.ensures.lists taken l)

pub returns-in-Ok-clause-rest : goal.returns-in-Ok-clause-rest
returns-in-Ok-clause-rest g c =
    let image = (g.D.Device.disk c.args.device.now).image in
    let all = length c.args.rest.now.items + length c.args.piece.now in
    let n = c.in-Ok.next.1 in
    c.in-Ok.ensures.rest ∙ ap (λ (b : List ℕ). drop n b) (joined g c) ∙ drop_taken n all (drop c.args.at image) ∙ ap (λ (b : List ℕ). take (all - n) b) (drop-drop n c.args.at image)
