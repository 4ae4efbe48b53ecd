use Rattle.std.proofs.Common.{rules, ℕ, sym, subst}
use Rattle.ring_records.specs.Member.{member}
use Rattle.gated_journal.specs.Place.{reading_behind, IsInUse}
use Rattle.gated_journal.proofs.AreaRest.{all_read, goes_on, read_here}
use Rattle.gated_journal.proofs.Results.{of_ok}
use Rattle.gated_journal.proofs.journal.Journal.write.Goals as goal

pub put-flown-requires : goal.put-flown-requires
put-flown-requires g c = let j = c.args.self.now in (member j.node j.n j.place.capacity, c.requires.taken)

pub invariant_of-self : goal.invariant_of-self
invariant_of-self g c =
    let j = c.args.self.now in
    let header = member j.node j.n j.place.capacity in
    record {
      settled = λ ready. subst (λ (k : ℕ). IsInUse (member j.node j.n k) (g.D.Device.disk c.put-flown.new.device) c.put-flown.result.1) (sym c.put-flown.ensures.capacity) (goes_on header (g.D.Device.disk j.device) (g.D.Device.disk c.put-flown.new.device) j.place c.put-flown.result.1 (reading_behind j.place c.args.work) (j.settled c.requires.ready) (of_ok _ _ _ c.in-Ok.is c.put-flown.ensures.synced)
          (λ r s. of_ok _ _ _ c.in-Ok.is c.put-flown.ensures.done header r c.requires.taken s));
    }

pub returns-in-Ok : goal.returns-in-Ok
returns-in-Ok g c =
    let j = c.args.self.now in
    let header = member j.node j.n j.place.capacity in
    let p = c.put-flown.result.1 in
    record {
      any_moment = λ r all. c.put-flown.ensures.any_moment header r c.requires.taken (read_here header (g.D.Device.disk j.device) j.place r (j.settled c.requires.ready) (g.met.D.Device.may_stay j.device) all);
      durable = λ r all.
          let s = of_ok _ _ _ c.in-Ok.is c.put-flown.ensures.done header r c.requires.taken (read_here header (g.D.Device.disk j.device) j.place r (j.settled c.requires.ready) (g.met.D.Device.may_stay j.device) all) in
          all_read header (g.D.Device.disk c.put-flown.new.device) (reading_behind j.place c.args.work r) p.area.start p.area.other p.area.offset p.gate_at s.rest.synced s.here.at;
      spoils = search rules;
      cause = search rules;
      works = search rules;
      reach = search rules;
      receipt = search rules;
      spoiled = tt;
      header = search rules;
      len = search rules;
      room = search rules;
      layout = search rules;
      epoch = search rules;
      kept = tt;
    }

pub returns-in-Err : goal.returns-in-Err
returns-in-Err g c =
    let j = c.args.self.now in
    let header = member j.node j.n j.place.capacity in
    record {
      any_moment = λ r all. c.put-flown.ensures.any_moment header r c.requires.taken (read_here header (g.D.Device.disk j.device) j.place r (j.settled c.requires.ready) (g.met.D.Device.may_stay j.device) all);
      durable = tt;
      spoils = search rules;
      cause = search rules;
      works = search rules;
      reach = search rules;
      receipt = tt;
      spoiled = search rules;
      header = search rules;
      len = tt;
      room = tt;
      layout = tt;
      epoch = tt;
      kept = search rules;
    }
