use Rattle.std.proofs.Common.{◌≡◌, ◌<◌, true, not, sym, ap, ◌∙◌, subst, arith}
use Rattle.std.specs.FinMap as map
use Rattle.ring_records.specs.Known.{drops}
use Rattle.groups_terms.specs.Dropped.{BallotMap, kept_in, HaveTerms, stood_among}
use Rattle.groups_terms.proofs.Dropping.{dropped_key, fewer, none_stood, one_less, terms_fewer, without_none, without_one}
use Rattle.groups_terms.proofs.dropped.drop_under.Goals as goal

pub loop-key-smaller : goal.loop-key-smaller
loop-key-smaller c = subst (λ (m : BallotMap). map.len m < map.len (kept_in c.loop-key.ballots)) (sym c.remove.ensures.ballots) (fewer (kept_in c.loop-key.ballots) c.in-Some.key c.in-Some.ensures.2)

pub loop-key-preserved : goal.loop-key-preserved
loop-key-preserved c =
    let group = c.args.group.now in
    let floor = c.args.floor in
    let key = c.in-Some.key in
    let m = kept_in c.loop-key.ballots in
    let is = c.remove.ensures.ballots in
    let here : drops group floor key ≡ true = dropped_key key group floor c.in-Some.ensures.0 c.in-Some.ensures.1 in
    record {
      terms = subst HaveTerms (sym is) (terms_fewer m key c.loop-key.invariant.terms);
      left = ap (λ (n : BallotMap). map.retain_keys n (λ k. not (drops group floor k))) is ∙ (without_one m key (λ k. not (drops group floor k)) (ap not here) ∙ c.loop-key.invariant.left);
      stood =
          let less = one_less m key (drops group floor) here in
          let now = ap (λ (n : BallotMap). stood_among n (drops group floor)) is in
          let count = c.remove.ensures.stands in
          let before = c.loop-key.invariant.stood in
          omega (arith, less, now, count, before);
    }

pub returns-clause-ballots : goal.returns-clause-ballots
returns-clause-ballots c = without_none (kept_in c.loop-key.ballots) c.args.group.now c.args.floor c.in_default.ensures ∙ c.loop-key.invariant.left

pub returns-clause-stands : goal.returns-clause-stands
returns-clause-stands c =
    let none = none_stood (kept_in c.loop-key.ballots) c.args.group.now c.args.floor c.in_default.ensures in
    let before = c.loop-key.invariant.stood in
    omega (arith, none, before)
