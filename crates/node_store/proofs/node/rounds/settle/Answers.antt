use Rattle.disk_model.proofs.Moments.{weaken, now}
use Rattle.gated_journal.specs.Journal.{device_of}
use Rattle.node_store.specs.State.{durable_held}
use Rattle.node_store.proofs.Flight.{moment, landed_all, lands, breaks}
use Rattle.node_store.proofs.node.rounds.settle.Goals as goal

pub returns-in-Ok-clause-stands : goal.returns-in-Ok-clause-stands
returns-in-Ok-clause-stands g c =
    let desk = c.args.desk.now in
    let flies = c.requires in
    let written = c.in-Ok.ensures in
    rw c.land.ensures.next
    (lands desk c.args.journal.now c.write.new.self c.args.work flies written.header (written.durable (durable_held desk) flies.all) written.spoils written.len written.room written.layout written.epoch)

pub returns-in-Ok-clause-durable : goal.returns-in-Ok-clause-durable
returns-in-Ok-clause-durable g c =
    let desk = c.args.desk.now in
    landed_all desk c.args.journal.now c.write.new.self c.args.work c.requires (c.in-Ok.ensures.durable (durable_held desk) c.requires.all)

pub returns-in-Ok-clause-any_moment : goal.returns-in-Ok-clause-any_moment
returns-in-Ok-clause-any_moment g c =
    let desk = c.args.desk.now in
    weaken g.D.Device.clock g.D.Device.left_since _ _ _ _ (moment desk c.args.journal.now c.write.new.self c.args.work c.requires) (c.in-Ok.ensures.any_moment (durable_held desk) c.requires.all)

pub returns-in-Err-clause-stands : goal.returns-in-Err-clause-stands
returns-in-Err-clause-stands g c =
    let desk = c.args.desk.now in
    let old = device_of c.args.journal.now in
    let new = device_of c.write.new.self in
    let moments = c.in-Err.ensures.any_moment (durable_held desk) c.requires.all in
    rw c.fail.ensures.next
    (breaks desk c.args.journal.now c.write.new.self c.args.work c.requires c.in-Err.ensures.header
    (now g.D.Device.clock g.D.Device.left_since old new (g.D.Device.disk new) _ moments (g.met.D.Device.counts_now new)))

pub returns-in-Err-clause-any_moment : goal.returns-in-Err-clause-any_moment
returns-in-Err-clause-any_moment g c =
    let desk = c.args.desk.now in
    weaken g.D.Device.clock g.D.Device.left_since _ _ _ _ (moment desk c.args.journal.now c.write.new.self c.args.work c.requires) (c.in-Err.ensures.any_moment (durable_held desk) c.requires.all)
