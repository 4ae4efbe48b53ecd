use Rattle.std.proofs.Common.{◌≡◌, ◌++◌, ◌∙◌, List, ℕ, length, take, drop, refl, sym, ap, subst, arith}
use Rattle.gated_journal.specs.Found.{Holds, IsWaiting, IsOpen}
use Rattle.gated_journal.proofs.Reader.{open_found, reader_alike, reader_more}
use Rattle.gated_journal.proofs.parts.read_open.Goals as goal

pub returns-clause-reads : goal.returns-clause-reads
returns-clause-reads c = λ bytes r.
    let layout = c.args.layout in
    let found = c.make_room.new.found in
    let now = c.take_all-taken.new.found in
    let rest = c.args.rest.now.items in
    let all : List ℕ = rest ++ c.args.piece.now in
    let size = c.take_all-taken.result in
    let going : IsOpen found.stage = subst IsOpen (sym c.make_room.ensures.alike.stage) c.requires.is_open in
    let before = reader_alike layout c.args.found.now found rest rest bytes c.make_room.ensures.alike refl r in
    let same : c.deref.result.now ≡ all = c.deref.ensures.value ∙ c.in_ok-extend_from_slice.ensures.items in
    let held = subst (λ (l : List ℕ). Holds layout found before.taken l) (sym same)
    (open_found layout found.snapshot.n found.stage found.snapshot.taken found.inputs.items before.taken before.behind all going before.holds) in
    let holds : Holds layout now (before.taken ++ take size all) (drop size all) =
    subst (λ (l : List ℕ). Holds layout now (before.taken ++ take size l) (drop size l)) same (c.take_all-taken.ensures.holds before.taken before.at held) in
    let waits : IsWaiting now.stage (drop size all) = subst (λ (l : List ℕ). IsWaiting now.stage (drop size l)) same (c.take_all-taken.ensures.waits before.taken before.at held) in
    let kept : IsOpen now.stage → c.keep_behind.new.bytes.items ≡ drop size all = λ still. c.keep_behind.ensures.kept still ∙ ap (λ (l : List ℕ). drop size l) c.in_ok-extend_from_slice.ensures.items in
    reader_more layout size found now rest bytes c.args.piece.now c.keep_behind.new.bytes.items going before c.take_all-taken.ensures.layout (omega (arith, c.take_all-taken.ensures.size, ap length same)) c.take_all-taken.ensures.at holds waits kept c.keep_behind.ensures.none
